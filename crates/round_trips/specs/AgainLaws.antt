-- What is accepted, read and written again is the same bytes, where no ignored bit stands. Assumes nothing.
use Prim.Native.Nat.{ℕ, zero, suc, ◌+◌, ◌-◌, ◌*◌, ◌/◌, ◌%◌, ◌<◌, ◌≤◌}
use Rattle.std.specs.Prelude.{◌≡◌, Bool, false, eqb, drop, get_or, replicate}
use Rattle.std.proofs.Math.Path.{refl, sym, ap}
use Rattle.std.proofs.Common.{◌∙◌, length-append, length-drop, take-append-drop, length-take-le, take_at, take_all, drop_at, drop-drop}
use Rattle.std.proofs.Math.Bool.{true}
use mathlib.Core.List.{List, [], ◌∷◌, ◌++◌, append-nil}
use native.Mathlib.Omega.{arith}
use Rattle.std.proofs.Math.ListN.{length, take}
use Rattle.std.proofs.lemmas.List.{length-replicate}
use Rattle.numbers.specs.Profile.{rail}
use Rattle.numbers.specs.declared.circle.Tsn.{Tsn}
use Rattle.octets.specs.Bytes.{u8, u16, u32, be16, up4, zeros}
use Rattle.octets.specs.BytesLaws.{zeros-long}
use Rattle.octets.specs.WalkLaws.{over-end}
use Rattle.chunks.specs.Frame.{framed, parameter, part_from, bytes_in, weight}
use Rattle.chunks.specs.FrameLaws.{framed-long}
use Rattle.chunks.specs.BackLaws.{framed-length, from_is}
use Rattle.chunks.specs.AgainLaws.{SackTaken, two-again, four-again, join, data-again, sack-again}
use Rattle.chunks.specs.ChunkRoundTripLaws.{init-back, point-back}
use Rattle.chunks.specs.InitChunk.{init_of, init_fields}
use Rattle.chunks.specs.SackChunk.{sack_head_of, repeat_of, blocks_in, sack_bytes}
use Rattle.chunks.specs.SackLaws.{counts-are}
use Rattle.chunks.specs.HeartbeatChunk.{heartbeat_bytes}
use Rattle.chunks.specs.ShutdownChunk.{point_of, shutdown_bytes}
use Rattle.chunks.specs.CookieChunk.{cookie_echo_bytes}
use Rattle.chunks.specs.CookieLaws.{echo-is}
use Rattle.chunks.specs.declared.init.Init.{Init}
use Rattle.chunks.specs.declared.sack.SackHead.{SackHead}
use Rattle.parameters.specs.Parameter.{COOKIE, params_of, value_of}
use Rattle.parameters.specs.Report.{gather_one, gather_all, ROOM, init_ack_bytes}
use Rattle.parameters.specs.ReportLaws.{Collected, collected, init-ack-is}
use Rattle.parameters.specs.FillingLaws.{ack-cookie-bytes}
use Rattle.parameters.specs.ParameterPaddingLaws.{params-from}
use Rattle.packets.specs.Shape.{least}
use Rattle.packets.specs.ShapeLaws.{not-ill-accepted, least-four, leasts, counts-fill}
use Rattle.round_trips.specs.RoundTrips.{value_in, reflected_in, Clean, WrittenClean, chunk_in, repeats_from, sack_in, AcceptedAgain}

first_two : (s : List ℕ) → 2 ≤ length s → u8 s 0 ∷ u8 s 1 ∷ [] ≡ take 2 s
first_two [] h = absurd (omega arith)
first_two (a ∷ []) h = absurd (omega arith)
first_two (a ∷ b ∷ l) h = refl

-- ---- what is written

pub written-clean : WrittenClean
written-clean k f g v w o h =
    let s : List ℕ = framed k f v in
    let n : ℕ = 4 + length v in
    let e : u16 s 2 ≡ n = ap (λ (l : List ℕ). u16 l 2) (sym (append-nil s)) ∙ (framed-length k f v).value [] in
    let d : drop n s ≡ zeros n = drop_at (k ∷ f ∷ be16 n ++ v) (zeros n) n (omega arith) in
    let p : zeros n ≡ take (up4 n - n) (drop n s) = sym (ap (take (up4 n - n)) d ∙ take_all (up4 n - n) (zeros n) (omega (arith, zeros-long n))) in
    record {
      octets = o;
      type = refl;
      flags = h;
      accepted = not-ill-accepted s w.fit;
      room = omega (arith, e, framed-long k f v);
      padding = rw e p;
    }

-- ---- any chunk

module _ {k f : ℕ} {s : List ℕ} (c : Clean k f s) where
  four : 4 ≤ u16 s 2
  four = omega (arith, least-four (u8 s 0), c.accepted.enough)

  part-is : (j : ℕ) → j ≤ u16 s 2 → bytes_in s (part_from j s) ≡ take (u16 s 2 - j) (drop j s)
  part-is j h = ap (bytes_in s) (from_is s (u16 s 2) refl c.accepted.within j h)

  part-long : (j : ℕ) → j ≤ u16 s 2 → length (take (u16 s 2 - j) (drop j s)) ≡ u16 s 2 - j
  part-long j h = length-take-le (u16 s 2 - j) (drop j s) (omega (arith, length-drop j s, c.accepted.within))

  head-again : {g : ℕ} → u8 s 1 ≡ g → k ∷ g ∷ be16 (u16 s 2) ≡ take 4 s
  head-again e =
      join s 2 2 4 refl ((λ i. sym c.type i ∷ sym e i ∷ []) ∙ first_two s (omega (arith, four, c.room))) (two-again s c.octets 2 (omega (arith, four, c.room)))

  -- a chunk with the flags g, of which v are the bytes behind the head
  framed-again : {g : ℕ} {v : List ℕ} → u8 s 1 ≡ g → v ≡ take (u16 s 2 - 4) (drop 4 s) → framed k g v ≡ chunk_in s
  framed-again {g} {v} a e =
      let n : ℕ = u16 s 2 in
      let m : 4 + length v ≡ n = omega (arith, ap length e, part-long 4 four, four) in
      rw m
      (join s n (up4 n - n) (up4 n) (omega arith)
      (join s 4 (n - 4) n (omega (arith, four)) (head-again a) e)
      c.padding)

  value-again : {g : ℕ} → u8 s 1 ≡ g → framed k g (value_in s) ≡ chunk_in s
  value-again e = framed-again e (part-is 4 four)

  none-again : {g : ℕ} → u8 s 1 ≡ g → u16 s 2 ≡ 4 → framed k g [] ≡ chunk_in s
  none-again e h =
      let z : 0 ≡ u16 s 2 - 4 = omega (arith, h) in
      framed-again e (ap (λ (j : ℕ). take j (drop 4 s)) z)

  -- what is read of a chunk that is the bytes bs
  read_as : {A : Type 0} (read : List ℕ → A) {v : A} {bs : List ℕ} → bs ≡ chunk_in s → ((rest : List ℕ) → read (bs ++ rest) ≡ v) → read s ≡ v
  read_as read {v} {bs} e w =
      ap read (sym (take-append-drop (up4 (u16 s 2)) s) ∙ ap (λ (l : List ℕ). l ++ drop (up4 (u16 s 2)) s) (sym e)) ∙ w (drop (up4 (u16 s 2)) s)

no_flag : {k : ℕ} {s : List ℕ} → Clean k 1 s → u8 s 1 ≡ 0
no_flag c = omega (arith, c.flags)

-- ---- INIT and INIT ACK

module _ {k : ℕ} {s : List ℕ} (c : Clean k 1 s) (l : 20 ≤ u16 s 2) where
  fields : Init
  fields = record { tag = u32 s 4; window = u32 s 8; outs = u16 s 12; ins = u16 s 14; tsn = record { 0 = u32 s 16 } }

  fields-again : framed k 0 (init_fields fields ++ take (u16 s 2 - 20) (drop 20 s)) ≡ chunk_in s
  unfolding fields
  fields-again =
      let n : ℕ = u16 s 2 in
      let h : n ≤ length s = c.accepted.within in
      let m : 4 + length (init_fields fields ++ take (n - 20) (drop 20 s)) ≡ n = omega (arith, part-long c 20 l) in
      rw m
      (join s n (up4 n - n) (up4 n) (omega arith)
      (join s 20 (n - 20) n (omega arith)
      (join s 16 4 20 refl
      (join s 14 2 16 refl
      (join s 12 2 14 refl
      (join s 8 4 12 refl
      (join s 4 4 8 refl
      (head-again c (no_flag c))
      (four-again s c.octets 4 (omega arith)))
      (four-again s c.octets 8 (omega arith)))
      (two-again s c.octets 12 (omega arith)))
      (two-again s c.octets 14 (omega arith)))
      (four-again s c.octets 16 (omega arith)))
      refl)
      c.padding)

  fields-are : init_of s ≡ fields
  fields-are = read_as c init_of fields-again (init-back k fields (take (u16 s 2 - 20) (drop 20 s))).value

  init-again : framed k 0 (init_fields (init_of s) ++ params_of s) ≡ chunk_in s
  init-again = (λ i. framed k 0 (init_fields (fields-are i) ++ params-from s l c.accepted.within i)) ∙ fields-again

-- the least of a type, by its place in the list of them
twenty : {k : ℕ} {s : List ℕ} → Clean k 1 s → least k ≡ 20 → 20 ≤ u16 s 2
twenty c e = omega (arith, c.accepted.enough, ap least c.type, e)

init-long : {s : List ℕ} → Clean 1 1 s → 20 ≤ u16 s 2
init-long c = twenty c (ap (λ (l : List ℕ). get_or l 1 0) leasts)

ack-long : {s : List ℕ} → Clean 2 1 s → 20 ≤ u16 s 2
ack-long c = twenty c (ap (λ (l : List ℕ). get_or l 2 0) leasts)

-- with no parameters
bare-again : (s : List ℕ) → Clean 1 1 s → u16 s 2 ≡ 20 → framed 1 0 (init_fields (init_of s)) ≡ chunk_in s
bare-again s c h =
    let z : 0 ≡ u16 s 2 - 20 = omega (arith, h) in
    let e : [] ≡ params_of s = ap (λ (j : ℕ). take j (drop 20 s)) z ∙ sym (params-from s (init-long c) c.accepted.within) in
    ap (λ (b : List ℕ). framed 1 0 (init_fields (init_of s) ++ b)) e ∙ init-again c (init-long c)

-- ---- SACK

repeats-get : (s : List ℕ) (i n j : ℕ) (ts : List Tsn) → j < n → get_or (repeats_from s i n ++ ts) j (record { 0 = 0 }) ≡ repeat_of s (i + j)
repeats-get s i zero j ts h = absurd (omega arith)
repeats-get s i (suc n) zero ts h = let z : i ≡ i + 0 = omega arith in ap (repeat_of s) z
repeats-get s i (suc n) (suc j) ts h =
    let z : i + 1 + j ≡ i + suc j = omega arith in
    repeats-get s (i + 1) n j ts (omega arith) ∙ ap (repeat_of s) z

module _ (s : List ℕ) (c : Clean 3 1 s) (all : (blocks_in rail s).count ≡ (sack_head_of s).blocks) (h : (sack_head_of s).blocks ≤ 64) (g : (sack_head_of s).repeats ≤ 16) where
  abbrev headed : ℕ → SackHead
  headed b = record { point = (sack_head_of s).point; window = (sack_head_of s).window; blocks = b; repeats = (sack_head_of s).repeats }

  taken : SackTaken s (sack_in s)
  taken = record {
    head = ap headed all;
    blocks = refl;
    repeats = λ i l.
        let z : 0 + i ≡ i = omega arith in
        repeats-get s 0 (sack_head_of s).repeats i (replicate (16 - (sack_head_of s).repeats) (record { 0 = 0 })) l ∙ ap (repeat_of s) z;
  }

  counts-again : sack_bytes rail (sack_in s) ≡ chunk_in s
  counts-again =
      let e : u16 s 2 ≡ 16 + 4 * (u16 s 12 + u16 s 14) = counts-fill s c.accepted c.type in
      let n : u16 s 2 ≡ 16 + 4 * ((blocks_in rail s).count + (sack_head_of s).repeats) = omega (arith, all, (counts-are s).0, (counts-are s).1) in
      let z : u16 s 2 ≡ up4 (u16 s 2) = omega arith in
      sack-again s c.octets (sack_in s) taken c.type (no_flag c) (omega (arith, all, h)) g n c.accepted.within ∙ ap (λ (j : ℕ). take j s) z

-- ---- one parameter that fills the chunk from `at` on

module _ {k f : ℕ} {s : List ℕ} (c : Clean k f s) (at p : ℕ) (l : at + 4 ≤ u16 s 2) (a : u16 s at ≡ p) (b : u16 s (at + 2) ≡ u16 s 2 - at) where
  parameter-again : parameter p (take (u16 s 2 - (at + 4)) (drop (at + 4) s)) ≡ take (u16 s 2 - at) (drop at s)
  parameter-again =
      let n : ℕ = u16 s 2 in
      let t : List ℕ = drop at s in
      let v : List ℕ = take (n - (at + 4)) (drop (at + 4) s) in
      let h : n ≤ length s = c.accepted.within in
      let e : 4 + length v ≡ u16 s (at + 2) = omega (arith, part-long c (at + 4) l, l, b) in
      let x : be16 p ≡ take 2 t = ap be16 (sym a) ∙ two-again s c.octets at (omega arith) in
      let y : be16 (4 + length v) ≡ take 2 (drop 2 t) = ap be16 e ∙ two-again s c.octets (at + 2) (omega arith) ∙ ap (take 2) (sym (drop-drop 2 at s)) in
      join t 4 (n - (at + 4)) (n - at) (omega arith) (join t 2 2 4 refl x y) (ap (take (n - (at + 4))) (sym (drop-drop 4 at s)))

-- HEARTBEAT
info-again : (s : List ℕ) → Clean 4 1 s → 8 ≤ u16 s 2 → u16 s 4 ≡ 1 → u16 s 6 ≡ u16 s 2 - 4 → heartbeat_bytes (bytes_in s (part_from 8 s)) ≡ chunk_in s
info-again s c l a b = ap heartbeat_bytes (part-is c 8 l) ∙ framed-again c (no_flag c) (parameter-again c 4 1 l a b)

-- of no parameters nothing is gathered: as where acc is all that an array of ROOM bytes holds
gather_none : (w : Bool) (acc : List ℕ) → length acc ≤ ROOM → gather_all ROOM w acc [] ≡ acc
gather_none w acc h =
    let z : List ℕ = replicate (ROOM - length acc) 0 in
    let x : List ℕ = acc ++ z in
    let l : length x ≡ ROOM = omega (arith, length-append acc z, length-replicate {A = ℕ} (ROOM - length acc) 0) in
    let t : take (length acc) x ≡ acc = take_at acc z (length acc) refl in
    let e : Collected x (length acc) w [] (length acc) x = collected {g = record { n = length acc; done = false }} (omega (arith, l)) (sym (over-end (gather_one (length x) w) (record { bytes = take (length acc) x; done = false }) [] 0 (omega arith))) in
    sym (sym t ∙ e.is ∙ (λ i. gather_all (l i) w (t i) []))

-- INIT ACK with a cookie alone
module _ (s x : List ℕ) (c : Clean 2 1 s) (none : params_of x ≡ []) (l : 24 < u16 s 2) (h : u16 s 2 ≤ 280) (a : u16 s 20 ≡ COOKIE) (b : u16 s 22 ≡ u16 s 2 - 20) where
  cookie : List ℕ
  cookie = take (u16 s 2 - 24) (drop 24 s)

  cookie-few : length cookie ≤ 256
  unfolding cookie
  cookie-few = omega (arith, part-long c 24 (omega arith))

  cookie-some : length cookie ≡ 0 → ⊥
  unfolding cookie
  cookie-some e = omega (arith, e, part-long c 24 (omega arith))

  cookie-again : init_ack_bytes (init_of s) cookie x ≡ chunk_in s
  unfolding cookie
  cookie-again =
      let m : 20 ≤ u16 s 2 = omega arith in
      let p : parameter COOKIE cookie ≡ params_of s = parameter-again c 20 COOKIE (omega arith) a b ∙ sym (params-from s m c.accepted.within) in
      init-ack-is (init_of s) cookie x cookie-few cookie-some
      ∙ ap (λ (y : List ℕ). framed 2 0 (init_fields (init_of s) ++ gather_all ROOM true (parameter COOKIE cookie) y)) none
      ∙ ap (λ (y : List ℕ). framed 2 0 (init_fields (init_of s) ++ y)) (gather_none true (parameter COOKIE cookie) (omega (arith, cookie-few)) ∙ p)
      ∙ init-again c m

  ack-again : init_ack_bytes (init_of s) (bytes_in s (value_of COOKIE 4 s)) x ≡ chunk_in s
  ack-again =
      ap (λ (y : List ℕ). init_ack_bytes (init_of s) y x)
      (read_as c (λ (y : List ℕ). bytes_in y (value_of COOKIE 4 y)) cookie-again (ack-cookie-bytes (init_of s) cookie x cookie-few cookie-some).value) ∙ cookie-again

-- ---- the T bit

bit-again : (f : ℕ) → f < 2 → f ≡ weight (eqb (f / 1 % 2) 1) 1
bit-again zero h = refl
bit-again (suc zero) h = refl
bit-again (suc (suc f)) h = absurd (omega arith)

reflected-again : {k : ℕ} {s : List ℕ} → Clean k 2 s → u8 s 1 ≡ weight (reflected_in s) 1
reflected-again {k} {s} c = bit-again (u8 s 1) c.flags

-- ---- SHUTDOWN

point-again : (s : List ℕ) → Clean 7 1 s → u16 s 2 ≡ 8 → shutdown_bytes (point_of s) ≡ chunk_in s
point-again s c h = ap shutdown_bytes (read_as c point_of same (point-back told).value) ∙ same
  where
    told : Tsn
    told = record { 0 = u32 s 4 }

    same : shutdown_bytes told ≡ chunk_in s
    same =
        let z : 4 ≡ u16 s 2 - 4 = omega (arith, h) in
        framed-again c (no_flag c) (four-again s c.octets 4 (omega (arith, h, c.accepted.within)) ∙ ap (λ (j : ℕ). take j (drop 4 s)) z)

-- ---- COOKIE ECHO

echo-again : (s : List ℕ) → Clean 10 1 s → 4 < u16 s 2 → u16 s 2 ≤ 260 → cookie_echo_bytes (value_in s) ≡ chunk_in s
echo-again s c l h =
    let n : length (value_in s) ≡ u16 s 2 - 4 = ap length (part-is c 4 (four c)) ∙ part-long c 4 (four c) in
    echo-is (value_in s) (omega (arith, n, h)) (λ e. omega (arith, e, n, l)) ∙ value-again c (no_flag c)

pub accepted-again : AcceptedAgain
accepted-again = record {
  of-data = λ s c more few. data-again s c.octets c.type c.flags more few c.room c.padding;
  of-init = λ s c. init-again c (init-long c);
  of-init-bare = bare-again;
  of-init-ack = λ s c. init-again c (ack-long c);
  of-init-ack-bare = ack-again;
  of-sack = counts-again;
  of-heartbeat = info-again;
  of-heartbeat-ack = λ s c. value-again c (no_flag c);
  of-abort = λ s c. value-again c (reflected-again c);
  of-shutdown = point-again;
  of-shutdown-ack = λ s c h. none-again c (no_flag c) h;
  of-error = λ s c. value-again c (no_flag c);
  of-cookie-echo = echo-again;
  of-cookie-ack = λ s c h. none-again c (no_flag c) h;
  of-shutdown-complete = λ s c h. none-again c (reflected-again c) h;
}
