-- No reader sees a chunk's padding, nor what follows it; so packets that differ only there are read alike. Assumes nothing.
use Rattle.std.specs.Prelude.{ℕ, ◌+◌, ◌-◌, ◌*◌, ◌/◌, ◌%◌, ◌<◌, ◌≤◌, ◌≡◌, refl, true, false, List, [], ◌∷◌, ◌++◌, eqb, length, take, drop, get_or}
use Rattle.std.proofs.Common.{sym, ap, ◌∙◌, arith, length-append, take-append-drop, length-take-le, take_at}
use Rattle.std.proofs.Math.ListN.{get_or-append}
use Rattle.scans.specs.Each.{All, all_map}
use Rattle.octets.specs.Bytes.{u8, u16, up4}
use Rattle.octets.specs.BytesLaws.{u16-append}
use Rattle.octets.specs.Walk.{size, walk}
use Rattle.octets.specs.WalkLaws.{size_is, size-least, walk-all, walk_end, walk-on}
use Rattle.chunks.specs.Frame.{chunk_end, part_from, bytes_in}
use Rattle.chunks.specs.BackLaws.{ended_is, from_is}
use Rattle.chunks.specs.Kind.{kind_of}
use Rattle.chunks.specs.FollowingLaws.{data-append, point-append, sack-append, block-append, repeat-append, blocks-append}
use Rattle.parameters.specs.ParameterPaddingLaws.{InitAlike}
use Rattle.parameters.specs.ParametersFollowingLaws.{part-append, following-alike, stale-alike}
use Rattle.packets.specs.Shape.{least, alone, ill, shape_number}
use Rattle.packets.specs.ShapeLaws.{Accepted, not-ill-accepted, not-ill, shape-sound, shape-together, shape-passes, least-four, leasts, counts-fill, accepted-append, accepted-front, alone-append}
use Rattle.packets.specs.BodyLaws.{is_initial}
use Rattle.packets.specs.PacketPaddingLaws.{initial-long}
use Rattle.round_trips.specs.RoundTrips.{own, ReadAlike, PaddingIgnored, ButPadding, PacketAlike, PacketPadding}

alike_both : {c s t : List ℕ} → InitAlike c s → InitAlike c t → InitAlike s t
alike_both x y = record {
  fields = y.fields ∙ sym x.fields;
  each = y.each ∙ sym x.each;
  there = λ k. y.there k ∙ sym (x.there k);
  value = λ k i h. y.value k i h ∙ sym (x.value k i h);
  bytes = λ k i h. y.bytes k i h ∙ sym (x.bytes k i h);
  ack = λ v b. y.ack v b ∙ sym (x.ack v b);
  error = y.error ∙ sym x.error;
}

-- ---- a chunk c that ends where it says, whatever follows it

module _ (c : List ℕ) (a : Accepted c) (e : u16 c 2 ≡ length c) where
  four : 4 ≤ length c
  four = omega (arith, least-four (u8 c 0), a.enough, e)

  -- no shorter than the least of its type
  long : (k m : ℕ) → u8 c 0 ≡ k → least k ≡ m → m ≤ length c
  long k m p q = omega (arith, a.enough, ap least p, q, e)

  module _ (r : List ℕ) where
    said : u16 (c ++ r) 2 ≡ length c
    said = u16-append c r 2 four ∙ e

    within : length c ≤ length (c ++ r)
    within = omega (arith, length-append c r)

    kind-same : u8 (c ++ r) 0 ≡ u8 c 0
    kind-same = get_or-append c r 0 0 (omega (arith, four))

    flags-same : u8 (c ++ r) 1 ≡ u8 c 1
    flags-same = get_or-append c r 0 1 (omega (arith, four))

    ended_same : chunk_end (c ++ r) ≡ length c
    ended_same = ended_is (c ++ r) (length c) said within

    bytes_same : take (chunk_end (c ++ r)) (c ++ r) ≡ c
    bytes_same = ap (λ (n : ℕ). take n (c ++ r)) ended_same ∙ take_at c r (length c) refl

    part_same : (k : ℕ) → k ≤ length c → part_from k (c ++ r) ≡ record { at = k; len = length c - k }
    part_same k h = from_is (c ++ r) (length c) said within k h

    part_bytes : (k : ℕ) → k ≤ length c → bytes_in (c ++ r) (part_from k (c ++ r)) ≡ bytes_in c (record { at = k; len = length c - k })
    part_bytes k h = ap (bytes_in (c ++ r)) (part_same k h) ∙ part-append c r (record { at = k; len = length c - k }) (omega arith)

  both : (r q : List ℕ) → ReadAlike (c ++ r) (c ++ q)
  both r q = record {
    kind = ap kind_of (kind-same q ∙ sym (kind-same r));
    flags = λ w. ap (λ (f : ℕ). eqb (f / w % 2) 1) (flags-same q ∙ sym (flags-same r));
    ends = ended_same q ∙ sym (ended_same r);
    bytes = bytes_same q ∙ sym (bytes_same r);
    part = λ k h.
        let l : k ≤ length c = omega (arith, h, said r) in
        (part_same q k l ∙ sym (part_same r k l), part_bytes q k l ∙ sym (part_bytes r k l));
    stale = stale-alike (c ++ r) (c ++ q) (part_bytes q 4 four ∙ sym (part_bytes r 4 four));
    of-data = λ k.
        let l : 16 ≤ length c = long 0 16 (sym (kind-same r) ∙ k) (ap (λ (x : List ℕ). get_or x 0 0) leasts) in
        data-append c q l ∙ sym (data-append c r l);
    of-init = λ k.
        let l : 20 ≤ length c = omega (arith, initial-long c a (ap is_initial (sym (kind-same r)) ∙ k), e) in
        alike_both (following-alike c r l e) (following-alike c q l e);
    of-sack = λ k.
        let n : u16 c 2 ≡ 16 + 4 * (u16 c 12 + u16 c 14) = counts-fill c a (sym (kind-same r) ∙ k) in
        (sack-append c q (omega (arith, e)) ∙ sym (sack-append c r (omega (arith, e))), blocks-append c q (omega (arith, e)) ∙ sym (blocks-append c r (omega (arith, e))));
    of-lists = λ k i.
        let n : u16 c 2 ≡ 16 + 4 * (u16 c 12 + u16 c 14) = counts-fill c a (sym (kind-same r) ∙ k) in
        let x : u16 (c ++ r) 12 ≡ u16 c 12 = u16-append c r 12 (omega (arith, e)) in
        let y : u16 (c ++ r) 14 ≡ u16 c 14 = u16-append c r 14 (omega (arith, e)) in (
          λ h. block-append c q i (omega (arith, e)) ∙ sym (block-append c r i (omega (arith, e))),
          λ h. repeat-append c q i (omega (arith, e)) ∙ sym (repeat-append c r i (omega (arith, e))),
        );
    of-shutdown = λ k.
        let l : 8 ≤ length c = long 7 8 (sym (kind-same r) ∙ k) (ap (λ (x : List ℕ). get_or x 4 0) leasts) in
        point-append c q l ∙ sym (point-append c r l);
  }

-- ---- two chunks with the same bytes of their own

record Parted (s t : List ℕ) : Type 0 where
  c : List ℕ
  r : List ℕ
  q : List ℕ
  is-s : s ≡ c ++ r
  is-t : t ≡ c ++ q
  whole : Accepted c
  said-c : u16 c 2 ≡ length c

split_at : (c r q s t : List ℕ) → s ≡ c ++ r → t ≡ c ++ q → Accepted s → u16 s 2 ≡ length c → Parted s t
split_at c r q s t x y a m =
    let f : 4 ≤ length c = omega (arith, least-four (u8 s 0), a.enough, m) in
    let g : u16 c 2 ≡ length c = sym (u16-append c r 2 f) ∙ ap (λ (l : List ℕ). u16 l 2) (sym x) ∙ m in
    let b : Accepted (c ++ r) = rw x at a in
    record { c = c; r = r; q = q; is-s = x; is-t = y; whole = accepted-front c r f (omega (arith, g)) b; said-c = g }

accepted-at : (c q t : List ℕ) → t ≡ c ++ q → Accepted c → Accepted t
accepted-at c q t y w = rw y (accepted-append c q w)

module _ (s t : List ℕ) (a : Accepted s) (e : own t ≡ own s) where
  split : Parted s t
  split =
      split_at (own s) (drop (u16 s 2) s) (drop (u16 t 2) t) s t (sym (take-append-drop (u16 s 2) s))
      (sym (take-append-drop (u16 t 2) t) ∙ ap (λ (l : List ℕ). l ++ drop (u16 t 2) t) e) a (sym (length-take-le (u16 s 2) s a.within))

  accepted-same : Accepted t
  accepted-same = let w = split in accepted-at w.c w.q t w.is-t w.whole

  alone-same : alone t ≡ alone s
  alone-same =
      let w = split in
      let f : 4 ≤ length w.c = four w.c w.whole w.said-c in
      ap alone w.is-t ∙ alone-append w.c w.q f ∙ sym (alone-append w.c w.r f) ∙ ap alone (sym w.is-s)

  said_same : u16 t 2 ≡ u16 s 2
  said_same =
      sym (length-take-le (u16 t 2) t accepted-same.within) ∙ ap length e ∙ length-take-le (u16 s 2) s a.within

  size_same : size t ≡ size s
  size_same =
      let f : 4 ≤ u16 s 2 = omega (arith, least-four (u8 s 0), a.enough) in
      size_is t (omega (arith, said_same)) ∙ ap up4 said_same ∙ sym (size_is s f)

alike_at : (c r q s t : List ℕ) → s ≡ c ++ r → t ≡ c ++ q → ReadAlike (c ++ r) (c ++ q) → ReadAlike s t
alike_at c r q s t x y w = rw (x, y) w

pub padding-ignored : PaddingIgnored
padding-ignored s t a e =
    let w = split s t a e in
    (accepted-same s t a e, alike_at w.c w.r w.q s t w.is-s w.is-t (both w.c w.whole w.said-c w.r w.q))

-- ---- packets

all_two : (P Q R : ℕ → Type 0) → ((k : ℕ) → P k → Q k → R k) → (ks : List ℕ) → All P ks → All Q ks → All R ks
all_two P Q R f [] v w = tt
all_two P Q R f (k ∷ ks) v w = (f k v.0 w.0, all_two P Q R f ks v.1 w.1)

module _ (s t : List ℕ) (z : shape_number s ≡ 0) (b : ButPadding s t) where
  abbrev Passing : ℕ → Type 0
  Passing k = Accepted (drop k s)

  abbrev Unpadded : ℕ → Type 0
  Unpadded k = own (drop k t) ≡ own (drop k s)

  fit : All Passing (walk s 12)
  fit = all_map (λ k e. not-ill-accepted (drop k s) e) (walk s 12) (shape-sound s z)

  places_same : walk t 12 ≡ walk s 12
  places_same =
      walk-all s (λ at ks. All Passing ks → All Unpadded ks → walk t at ≡ ks) (λ at h v w. walk_end t at (omega (arith, b.long)))
      (λ at h ks q v w.
      walk-on t at (omega (arith, b.long))
      ∙ ap (λ (n : ℕ). at ∷ walk t (at + n)) (size_same (drop at s) (drop at t) v.0 w.0)
      ∙ ap (λ (l : List ℕ). at ∷ l) (q v.1 w.1)) 12 fit b.chunks

  not-ill-same : All (λ (k : ℕ). ill (drop k t) ≡ false) (walk t 12)
  not-ill-same =
      rw places_same
      (all_two Passing Unpadded (λ (k : ℕ). ill (drop k t) ≡ false) (λ k a e. not-ill (drop k t) (accepted-same (drop k s) (drop k t) a e)) (walk s 12) fit b.chunks)

  first-same : 12 < length s → size (drop 12 t) ≡ size (drop 12 s)
  first-same h =
      let v : All Passing (12 ∷ walk s (12 + size (drop 12 s))) = rw (walk-on s 12 h) at fit in
      let w : All Unpadded (12 ∷ walk s (12 + size (drop 12 s))) = rw (walk-on s 12 h) at b.chunks in
      size_same (drop 12 s) (drop 12 t) v.0 w.0

  together-same : 12 + size (drop 12 t) < length t → All (λ (k : ℕ). alone (drop k t) ≡ false) (walk t 12)
  together-same h =
      let m : 12 < length s = omega (arith, b.long) in
      let y : All (λ (k : ℕ). alone (drop k s) ≡ false) (walk s 12) = shape-together s z (omega (arith, first-same m, b.long)) in
      let x : All (λ (k : ℕ). alone (drop k t) ≡ alone (drop k s)) (walk s 12) = all_two Passing Unpadded (λ (k : ℕ). alone (drop k t) ≡ alone (drop k s)) (λ k a e. alone-same (drop k s) (drop k t) a e) (walk s 12) fit b.chunks in
      rw places_same
      (all_two (λ (k : ℕ). alone (drop k t) ≡ alone (drop k s)) (λ (k : ℕ). alone (drop k s) ≡ false) (λ (k : ℕ). alone (drop k t) ≡ false) (λ k p q. p ∙ q) (walk s 12) x y)

  packet-alike : PacketAlike s t
  packet-alike = record {
    shape = shape-passes t not-ill-same together-same;
    places = places_same;
    chunks = all_two Passing Unpadded (λ (k : ℕ). ReadAlike (drop k s) (drop k t)) (λ k a e. (padding-ignored (drop k s) (drop k t) a e).1) (walk s 12) fit b.chunks;
  }

pub packet-padding : PacketPadding
packet-padding s t z b = packet-alike s t z b
