-- "The premises of demand 3 already exclude it" (02, T-07): no number of the line is opposite to another, so no arrival is answered 24 there.
-- Assumes nothing.
use Rattle.std.specs.Prelude.{ℕ, ◌-◌, ◌<◌, ◌≡◌, refl, Bool, true, false, not, List, [], ◌∷◌, length, leb, ltb}
use Rattle.std.proofs.Common.{sym, ap, subst, arith}
use Rattle.scans.specs.Scan.{pick}
use Rattle.scans.specs.Each.{All}
use Rattle.scans.specs.Upto.{pick-keeps}
use Rattle.numbers.specs.declared.circle.Distance.TheVariants.{Ahead, Behind}
use Rattle.numbers.specs.declared.circle.Judgement.TheVariants.{AtOrBehind, AheadWithin, AheadBeyond}
use Rattle.numbers.specs.Numbering.{line, lines, far}
use Rattle.numbers.specs.Profile.{Profile, is_agreed}
use Rattle.numbers.specs.Judgement.{judged_by, judged}
use Rattle.holding.specs.declared.held.Held.{Held}
use Rattle.holding.specs.Held.{as_held}
use Rattle.delivery.specs.declared.receiving.Receiving.{Receiving}
use Rattle.delivery.specs.declared.arrival.Verdict.{Verdict}
use Rattle.delivery.specs.declared.arrival.Verdict.TheVariants.{Kept, Empty, Long, Opposite, Duplicate, Wedged, Far, Stray, Clashing}
use Rattle.delivery.specs.Receiving.{low_of}
use Rattle.delivery.specs.Contradiction.{is_contradicted}
use Rattle.delivery.specs.Arrival.{verdict_number, is_opposite, is_old, is_beyond, is_repeat, is_wedged, judgement_of, verdict_of, arrived}
use Rattle.line.specs.Runs.{ReceiverEvent, arrive, take, sack, Never, ReceiverLent, event_turn, answers}

-- ---- one verdict

-- a verdict other than 24
abbrev Other : Verdict → Type 0
Other v = v ≡ Opposite → ⊥

other : (v : Verdict) → verdict_number v < 24 → Other v
other v l q = omega (arith, ap verdict_number q, l)

-- a number of the line lies on one side of the point
judged-sided : (p room t : ℕ) → is_opposite (judged line p room t) ≡ false
unfolding judged far
judged-sided p room t = go (leb p t)
  where
    ahead : (a b : Bool) (d : ℕ) → is_opposite (pick a AtOrBehind (pick b (AheadBeyond d) (AheadWithin d))) ≡ false
    ahead true b d = refl
    ahead false true d = refl
    ahead false false d = refl

    go : (a : Bool) → is_opposite (judged_by room (pick a (Ahead (t - p)) (Behind (p - t)))) ≡ false
    go true = ahead (ltb (t - p) 1) (ltb room (t - p)) (t - p)
    go false = refl

module _ (P : Profile) (r : Receiving) (h : Held) (streams : ℕ) where
  unmet : (t : Bool) (x y : Verdict) → t ≡ false → Other y → Other (pick t x y)
  unmet t x y e w = subst (λ (b : Bool). Other (pick b x y)) (sym e) w

  either : (t : Bool) (x y : Verdict) → Other x → Other y → Other (pick t x y)
  either = pick-keeps Other

  verdict-sided : Other (verdict_of lines P r h streams)
  unfolding verdict_of judgement_of
  verdict-sided =
      either (ltb h.len 1) Empty _ (other Empty (omega arith))
      (either (ltb P.payload h.len) Long _ (other Long (omega arith))
      (unmet (is_opposite (judgement_of line P r h.tsn.0)) Opposite _ (judged-sided r.keeping.point.0 (P.places - low_of line r) h.tsn.0)
      (either (is_old (judgement_of line P r h.tsn.0)) Duplicate _ (other Duplicate (omega arith))
      (either (is_repeat line r.keeping r.held h.tsn.0) Duplicate _ (other Duplicate (omega arith))
      (either (is_wedged lines P (low_of line r) r.held r.next r.keeping.point.0) Wedged _ (other Wedged (omega arith))
      (either (is_beyond (judgement_of line P r h.tsn.0)) Far _ (other Far (omega arith))
      (either (not (is_agreed P h.stream.0 streams)) Stray _ (other Stray (omega arith))
      (either (is_contradicted line r.held h) Clashing Kept (other Clashing (omega arith)) (other Kept (omega arith))))))))))

-- ---- every answer

pub all-sided : (P : Profile) (streams : ℕ) (es : List ReceiverEvent) (l : ReceiverLent) → All (Never Opposite) (answers lines P streams l es)
unfolding answers arrived
all-sided P streams [] l = tt
all-sided P streams (arrive c bytes ∷ es) l =
    (verdict-sided P l.receiving (as_held c (length bytes)) streams, all-sided P streams es (event_turn lines P streams l (arrive c bytes)).lent)
all-sided P streams (take out ∷ es) l = (tt, all-sided P streams es (event_turn lines P streams l (take out)).lent)
all-sided P streams (sack ∷ es) l = (tt, all-sided P streams es (event_turn lines P streams l sack).lent)
