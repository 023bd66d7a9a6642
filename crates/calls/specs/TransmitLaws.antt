-- What the functions that fill a packet have to show. Assumes nothing.
use Rattle.std.specs.Prelude.{ℕ, ◌+◌, ◌-◌, ◌≤◌, ◌≡◌, length, take, drop}
use Rattle.std.proofs.Common.{sym, ◌∙◌, arith, ltb-false}
use Rattle.std.proofs.Math.Path.{ap}
use mathlib.Core.List.{List, ◌++◌}
use Rattle.scans.specs.Scan.{either}
use Rattle.scans.specs.Each.{neither}
use Rattle.octets.specs.BytesLaws.{part-is}
use Rattle.octets.specs.Writing.{Wrote, wrote_count, bytes_wrote_at}
use Rattle.octets.specs.WritingLaws.{wrote-part, part-within, wrote-few}
use Rattle.places.specs.declared.place.Place.{Place}
use Rattle.states.specs.declared.call.Call.{Call}
use Rattle.association.specs.declared.ends.Association.{Association}
use Rattle.association.specs.Bounds.{least_out}
use Rattle.calls.specs.Answer.{is_short_area, is_short_out, barred}
use Rattle.calls.specs.AnswerLaws.{call-let-in}
use Rattle.calls.specs.Transmit.{chunk_bytes, Bundle, added}

-- one chunk more: where it ends, and what stands in the output
pub record ChunkAdded (area : List ℕ) (p : Place) (i at : ℕ) (out : List ℕ) (r : ℕ) (exit : List ℕ) : Type 0 where
  pub is : ◌≡◌ {A = Bundle} (record { at = r; out = exit }) (added area p i (record { at = at; out = out }))
  pub within : r ≤ length out
  pub near : r ≤ at + 65532

module _ (at : ℕ) (xs : List ℕ) {bs ys : List ℕ} {r : ℕ} (h : at ≤ length xs) (w : Wrote (take (length xs - at) (drop at xs)) bs r ys) where
  pub part_small : at + r ≤ length xs
  part_small = part-within at xs h w

  pub part-few : r ≤ 65532
  part-few = wrote-few w

  pub added-one : {area : List ℕ} {p : Place} {i : ℕ} {exit : List ℕ} → bs ≡ chunk_bytes area p i
      → exit ≡ take at xs ++ (ys ++ drop (length xs - at) (drop at xs)) → ChunkAdded area p i at xs (at + r) exit
  unfolding added
  added-one {area} {p} {i} {exit} b m =
      let e : exit ≡ bytes_wrote_at xs at (chunk_bytes area p i) = m ∙ wrote-part at xs h w ∙ ap (λ (l : List ℕ). bytes_wrote_at xs at l) b in
      let t : r ≡ wrote_count (drop at xs) (chunk_bytes area p i) = w.count ∙ (λ j. wrote_count (part-is xs at j) (b j)) in
      record { is = (λ j. record { at = at + t j; out = e j }); within = part_small; near = omega (arith, part-few) }

-- the lent area and output are long enough
pub both-roomy : (a : Association) (area out : List ℕ) (call : Call) {n : ℕ} → n ≡ barred a (either (is_short_area area) (is_short_out out)) call → n ≡ 0 → 12 ≤ length out
both-roomy a area out call e z =
    omega (arith, ltb-false (length out) least_out (neither (is_short_area area) (is_short_out out) (call-let-in a (either (is_short_area area) (is_short_out out)) call (sym e ∙ z)).0).1)
