-- "Read both ways, with one meaning": an INIT or INIT ACK whose length counts the padding of its last parameter is read as the one whose
-- length does not. Assumes nothing.
use Rattle.std.specs.Prelude.{ℕ, ◌+◌, ◌-◌, ◌≤◌, ◌<◌, ◌≡◌, Bool, Option, ltb, length, take, drop}
use Rattle.std.proofs.Math.Path.{refl, ap}
use Rattle.std.proofs.Common.{sym, ◌∙◌, arith, length-append}
use Rattle.std.proofs.Math.Bool.{true, false}
use mathlib.Core.List.{List, [], ◌∷◌, ◌++◌, map}
use borrow.Author.Tests.{lt-ltb, le-ltb}
use Rattle.std.proofs.lemmas.List.{take-append-le}
use Rattle.scans.specs.Scan.{pick}
use Rattle.scans.specs.Upto.{pick-keeps}
use Rattle.octets.specs.Bytes.{u16, up4}
use Rattle.octets.specs.BytesLaws.{u16-append}
use Rattle.octets.specs.Walk.{walk, first_item}
use Rattle.octets.specs.WalkLaws.{walk-on, walk_end}
use Rattle.octets.specs.Padding.{counting, Padded, Inside, AllInside, Sought, counting-long, counting-rest, counting-says, counting-part, padded-item, padded-size, padded-all, over-padded, first-padded}
use Rattle.octets.specs.Padding.Sought.{found, missed}
use Rattle.chunks.specs.Frame.{chunk_end, part_from, bytes_in}
use Rattle.chunks.specs.BackLaws.{ended_is, from_is}
use Rattle.chunks.specs.InitChunk.{init_of}
use Rattle.chunks.specs.InitLaws.{init-counting}
use Rattle.chunks.specs.declared.frame.Part.{Part}
use Rattle.chunks.specs.declared.init.Init.{Init}
use Rattle.parameters.specs.declared.parameter.Parameter.{Parameter}
use Rattle.parameters.specs.Parameter.{treated, parameter_at, is_kind, ends_search, found_at, params_of, place_of, is_there, part_at, value_of}
use Rattle.parameters.specs.Report.{Gathered, parameter_judged, gather_one, gather_all, ROOM, init_ack_bytes, error_parameters_bytes}

-- the parameters b, one by one
abbrev pub parameters_listed : List ℕ → List (Option Parameter)
parameters_listed b = map (parameter_at b) (walk b 0)

-- all that is read of the chunks s and t is the same: the fixed fields, each parameter, which types there are, where the first of a type
-- stands and its bytes (the cookie, the Host Name), the INIT ACK and the ERROR that report the unknown ones
pub record InitAlike (s t : List ℕ) : Type 0 where
  pub fields : init_of t ≡ init_of s
  pub each : parameters_listed (params_of t) ≡ parameters_listed (params_of s)
  pub there : (k : ℕ) → is_there k t ≡ is_there k s
  pub value : (k i : ℕ) → i ≤ 4 → value_of k i t ≡ value_of k i s
  pub bytes : (k i : ℕ) → i ≤ 4 → bytes_in t (value_of k i t) ≡ bytes_in s (value_of k i s)
  pub ack : (v : Init) (c : List ℕ) → init_ack_bytes v c t ≡ init_ack_bytes v c s
  pub error : error_parameters_bytes t ≡ error_parameters_bytes s

-- ---- one parameter, whatever follows it

module _ (p z : List ℕ) (i : Inside p) where
  number_same : (at : ℕ) → at ≤ 2 → u16 (p ++ z) at ≡ u16 p at
  number_same at h = u16-append p z at (omega (arith, i.some, i.within))

  ended-whole : chunk_end p ≡ u16 p 2
  ended-whole = ended_is p (u16 p 2) refl i.within

  ended_same : chunk_end (p ++ z) ≡ chunk_end p
  ended_same = ended_is (p ++ z) (u16 p 2) (number_same 2 (omega arith)) (omega (arith, i.within, length-append p z)) ∙ sym ended-whole

  part_same : (k : ℕ) → k ≤ 4 → part_from k (p ++ z) ≡ part_from k p
  part_same k h =
      from_is (p ++ z) (u16 p 2) (number_same 2 (omega arith)) (omega (arith, i.within, length-append p z)) k (omega (arith, i.some))
      ∙ sym (from_is p (u16 p 2) refl i.within k (omega (arith, i.some)))

  kind-same : (k : ℕ) → is_kind k (p ++ z) ≡ is_kind k p
  unfolding is_kind
  kind-same k = rw (number_same 0 (omega arith))

  ends_same : (k : ℕ) → ends_search k (p ++ z) ≡ ends_search k p
  unfolding ends_search
  ends_same k = rw (kind-same k, number_same 0 (omega arith))

  -- its own bytes, no padding
  own_same : take (chunk_end (p ++ z)) (p ++ z) ≡ take (chunk_end p) p
  own_same = ap (λ (n : ℕ). take n (p ++ z)) ended_same ∙ take-append-le (chunk_end p) p z (omega (arith, ended-whole, i.within))

  one_same : (room : ℕ) (w : Bool) (g : Gathered) → gather_one room w g (p ++ z) ≡ gather_one room w g p
  unfolding gather_one
  one_same room w g =
      λ j. pick g.done g (parameter_judged room w g.bytes (own_same j) (treated (number_same 0 (omega arith) j)))

-- ---- the parameters b, and c with their padding

-- the part of the first of a type, by where it begins among b and where they begin
abbrev part_of : ℕ → List ℕ → ℕ → ℕ → Part
part_of from b at i = pick (ltb at (length b)) (part_at from at (part_from i (drop at b))) (record { at = 0; len = 0 })

module _ {b c : List ℕ} (e : Padded b c) where
  long : length b ≤ length c
  long = omega (arith, e.long)

  step_same : (at : ℕ) → at < length b → at < length c → Inside (drop at b) → parameter_at c at ≡ parameter_at b at
  unfolding parameter_at
  step_same at h g i =
      let q : chunk_end (drop at c) ≡ chunk_end (drop at b) = ap chunk_end (padded-item e at h) ∙ ended_same (drop at b) e.padding i in
      let k : u16 (drop at c) 0 ≡ u16 (drop at b) 0 = ap (λ (p : List ℕ). u16 p 0) (padded-item e at h) ∙ number_same (drop at b) e.padding i 0 (omega arith) in
      rw (lt-ltb at (length c) g, lt-ltb at (length b) h, q, k, padded-size e at h i)

  listed_same : AllInside b → parameters_listed c ≡ parameters_listed b
  listed_same w =
      padded-all e (λ at. map (parameter_at c) (walk c at) ≡ map (parameter_at b) (walk b at)) (λ at h g. ap (map (parameter_at c)) (walk_end c at g) ∙ sym (ap (map (parameter_at b)) (walk_end b at h)))
      (λ at m h g i q.
      ap (map (parameter_at c)) (walk-on c at g)
      ∙ (λ j. step_same at h g i j ∷ map (parameter_at c) (walk c (at + padded-size e at h i j)))
      ∙ ap (λ (l : List (Option Parameter)). parameter_at b at ∷ l) q
      ∙ sym (ap (map (parameter_at b)) (walk-on b at h))) w

  gather-same : (room : ℕ) (w : Bool) (acc : List ℕ) → AllInside b → gather_all room w acc c ≡ gather_all room w acc b
  unfolding gather_all
  gather-same room w acc a =
      ap (λ (g : Gathered). g.bytes) (over-padded e (gather_one room w) (λ g p i. one_same p e.padding i room w g) a (record { bytes = acc; done = false }))

  sought-there : {m n : ℕ} → Sought b c m n → ltb m (length c) ≡ ltb n (length b)
  sought-there {m} {n} (found q h i) = rw (q, lt-ltb n (length c) (omega (arith, long)), lt-ltb n (length b) h)
  sought-there {m} {n} (missed q r) = rw (q, r, le-ltb (length c) (length c) (omega arith), le-ltb (length b) (length b) (omega arith))

  sought-part : {m n : ℕ} → Sought b c m n → (from i : ℕ) → i ≤ 4 → part_of from c m i ≡ part_of from b n i
  sought-part {m} {n} (found q h i) from k l =
      let p : part_from k (drop n c) ≡ part_from k (drop n b) = ap (part_from k) (padded-item e n h) ∙ part_same (drop n b) e.padding i k l in
      rw (q, lt-ltb n (length c) (omega (arith, long)), lt-ltb n (length b) h, p)
  sought-part {m} {n} (missed q r) from k l = rw (q, r, le-ltb (length c) (length c) (omega arith), le-ltb (length b) (length b) (omega arith))

  -- the search ended at the same place, so the same was found
  still-sought : (k : ℕ) {m n : ℕ} → Sought b c m n → Sought b c (found_at k c m) (found_at k b n)
  still-sought k {m} {n} (found q h i) = rw q (go (is_kind k (drop n b)) refl)
    where
      same : is_kind k (drop n c) ≡ is_kind k (drop n b)
      same = ap (is_kind k) (padded-item e n h) ∙ kind-same (drop n b) e.padding i k

      go : (t : Bool) → is_kind k (drop n b) ≡ t → Sought b c (found_at k c n) (found_at k b n)
      go true x = rw (same, x) (found refl h i)
      go false x = rw (same, x) (missed refl refl)
  still-sought k {m} {n} (missed q r) =
      missed (pick-keeps (λ (x : ℕ). x ≡ length c) (is_kind k (drop m c)) m (length c) q refl) (pick-keeps (λ (x : ℕ). x ≡ length b) (is_kind k (drop n b)) n (length b) r refl)

  sought : AllInside b → (k : ℕ) → Sought b c (found_at k c (first_item (ends_search k) c 0)) (found_at k b (first_item (ends_search k) b 0))
  sought w k = still-sought k (first-padded e (ends_search k) (λ p i. ends_same p e.padding i k) w)

-- ---- the chunk

pub params-from : (s : List ℕ) → 20 ≤ u16 s 2 → u16 s 2 ≤ length s → params_of s ≡ take (u16 s 2 - 20) (drop 20 s)
unfolding params_of
params-from s l h = ap (bytes_in s) (from_is s (u16 s 2) refl h 20 l)

module _ (s : List ℕ) (l : 20 ≤ u16 s 2) (h : up4 (u16 s 2) ≤ length s) where
  said : u16 (counting s) 2 ≡ up4 (u16 s 2)
  said = counting-says s (omega arith)

  begun : (part_from 20 (counting s)).at ≡ (part_from 20 s).at
  begun =
      ap (λ (p : Part). p.at) (from_is (counting s) (up4 (u16 s 2)) said (omega (arith, counting-long s)) 20 (omega arith))
      ∙ sym (ap (λ (p : Part). p.at) (from_is s (u16 s 2) refl (omega arith) 20 l))

  params-padded : Padded (params_of s) (params_of (counting s))
  params-padded =
      let p : params_of (counting s) ≡ take (up4 (u16 s 2) - 20) (drop 20 (counting s)) = params-from (counting s) (omega (arith, said)) (omega (arith, said, counting-long s)) ∙ ap (λ (n : ℕ). take (n - 20) (drop 20 (counting s))) said in
      rw (p, params-from s l (omega arith)) (counting-part s 20 (omega arith) refl l h)

  module _ (w : AllInside (params_of s)) where
    there-same : (k : ℕ) → is_there k (counting s) ≡ is_there k s
    unfolding is_there place_of
    there-same k = sought-there params-padded (sought params-padded w k)

    value_same : (k i : ℕ) → i ≤ 4 → value_of k i (counting s) ≡ value_of k i s
    unfolding value_of is_there place_of
    value_same k i m =
        ap (λ (from : ℕ). part_of from (params_of (counting s)) (found_at k (params_of (counting s)) (first_item (ends_search k) (params_of (counting s)) 0)) i) begun
        ∙ sought-part params-padded (sought params-padded w k) (part_from 20 s).at i m

    -- no part of a parameter has a byte before 20
    bytes_same : (k i : ℕ) → i ≤ 4 → bytes_in (counting s) (value_of k i (counting s)) ≡ bytes_in s (value_of k i s)
    unfolding value_of
    bytes_same k i m = ap (bytes_in (counting s)) (value_same k i m) ∙ go (is_there k s)
      where
        go : (t : Bool) → bytes_in (counting s) (pick t (part_at (part_from 20 s).at (place_of k s) (part_from i (drop (place_of k s) (params_of s)))) (record { at = 0; len = 0 }))
            ≡ bytes_in s (pick t (part_at (part_from 20 s).at (place_of k s) (part_from i (drop (place_of k s) (params_of s)))) (record { at = 0; len = 0 }))
        go true =
            let v : Part = part_from i (drop (place_of k s) (params_of s)) in
            let a : (part_from 20 s).at ≡ 20 = ap (λ (p : Part). p.at) (from_is s (u16 s 2) refl (omega arith) 20 l) in
            ap (take v.len) (counting-rest s ((part_from 20 s).at + place_of k s + v.at) (omega (arith, a)))
        go false = refl

    pub counting-alike : InitAlike s (counting s)
    unfolding init_ack_bytes error_parameters_bytes
    counting-alike = record {
      fields = init-counting s;
      each = listed_same params-padded w;
      there = there-same;
      value = value_same;
      bytes = bytes_same;
      ack = λ v c. rw (gather-same params-padded ROOM true _ w);
      error = rw (gather-same params-padded ROOM false [] w);
    }
