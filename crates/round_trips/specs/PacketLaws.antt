-- A packet that is written reads back: its header, its chunks, and what each of them holds. Assumes nothing.
use Rattle.std.specs.Prelude.{ℕ, ◌+◌, ◌≤◌, ◌≡◌, refl, List, [], ◌∷◌, ◌++◌, map, length, take, drop}
use Rattle.std.proofs.Common.{sym, ap, ◌∙◌, append_assoc, arith, take_at, drop_at, drop-drop}
use Rattle.scans.specs.Each.{All, all_map}
use Rattle.octets.specs.Walk.{size, walk, item_at, joined, item_places, Whole}
use Rattle.octets.specs.TilingLaws.{joined-size, joined-next, walk-joined}
use Rattle.chunks.specs.BackLaws.{Back}
use Rattle.packets.specs.Header.{seal_bytes}
use Rattle.packets.specs.HeaderLaws.{header-back, seal-rest}
use Rattle.packets.specs.Body.{ChunkSound}
use Rattle.packets.specs.BodyLaws.{written-passes}
use Rattle.round_trips.specs.RoundTrips.{ReadThere, PacketRead, PacketBack}

items-joined : (cs : List (List ℕ)) (s : List ℕ) (at : ℕ) → All Whole cs → drop at s ≡ joined cs → map (item_at s) (item_places at cs) ≡ cs
items-joined [] s at w e = refl
items-joined (c ∷ cs) s at w e =
    let z : size (drop at s) ≡ length c = joined-size c cs s at w.0 e in
    let x : item_at s at ≡ c = (λ i. take (z i) (e i)) ∙ take_at c (joined cs) (length c) refl in
    let y : drop (at + length c) s ≡ joined cs = ap (λ (n : ℕ). drop (at + n) s) (sym z) ∙ joined-next c cs s at w.0 e in
    λ i. x i ∷ items-joined cs s (at + length c) w.1 y i

joined-both : (a b : List (List ℕ)) → joined (a ++ b) ≡ joined a ++ joined b
joined-both [] b = refl
joined-both (c ∷ a) b = ap (λ (l : List ℕ). c ++ l) (joined-both a b) ∙ sym (append_assoc c (joined a) (joined b))

read-there : (cs : List (List ℕ)) (s : List ℕ) → drop 12 s ≡ joined cs → ReadThere cs s
read-there cs s e A before after c q read v b =
    let d : drop (12 + length (joined before)) s ≡ c ++ joined after = sym (drop-drop (length (joined before)) 12 s) ∙ ap (drop (length (joined before))) (e ∙ ap joined q ∙ joined-both before (c ∷ after)) ∙ drop_at (joined before) (c ++ joined after) (length (joined before)) refl in
    ap read d ∙ b.value (joined after)

pub packet-back : PacketBack
packet-back h n out cs w t l m r e =
    let s : List ℕ = take n (seal_bytes h n out) in
    let d : drop 12 s ≡ joined cs = seal-rest h n out (omega arith) r ∙ e in
    let v : All Whole cs = all_map (λ c x. x.whole) cs w in
    let p : walk s 12 ≡ item_places 12 cs = walk-joined cs s 12 v d in
    record {
      passes = written-passes h n out cs w t l m r e;
      header = header-back h n out (omega arith) r;
      places = p;
      chunks = ap (map (item_at s)) p ∙ items-joined cs s 12 v d;
      values = read-there cs s d;
    }
