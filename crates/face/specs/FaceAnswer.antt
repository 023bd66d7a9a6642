-- What most calls tell: the length of the packet, and whether an expiry closed the association.
use Rattle.std.specs.Prelude.{ℕ, List, [], ◌∷◌}
use mir.Val.{bool_byte}
use Rattle.calls.specs.declared.answer.Answer as whole
use Rattle.calls.specs.Answer.{Plan, answer_of, plan_out}
use Rattle.flat.specs.Shown.{association_head}
use Rattle.asks.specs.TableAnswer.{Reply}
use Rattle.asks.specs.TableTimers.{Lapse}
use Rattle.kept.specs.declared.head.Kept.{Kept}
use Rattle.kept.specs.Kept.{named, packed}
use Rattle.face.specs.FaceLeft.{CallTold, call_told_of, CallLeft, left_with, served}

abbrev pub answer_told : Reply → CallTold
answer_told r = call_told_of r.number (packed r.head) (r.length ∷ bool_byte r.over ∷ [])

-- the same of an answer with the whole record
abbrev pub whole_told : whole.Answer → CallTold
whole_told a = answer_told (record { number = a.number; length = a.length; over = a.over; head = association_head a.association })

-- a call that goes as planned; the same with no output
abbrev pub call_answered : Kept → Plan → List ℕ → CallLeft (List ℕ)
call_answered k p out = served k (left_with (whole_told (answer_of p out)) (plan_out p out)) (0 ∷ 0 ∷ []) out

abbrev pub answered_alone : Kept → Plan → CallTold
answered_alone k p = named k (whole_told (answer_of p [])) (call_told_of 1 k (0 ∷ 0 ∷ []))

-- T3, with the places that it leaves
abbrev pub lapse_left : Lapse → CallLeft (List ℕ)
lapse_left l = left_with (answer_told l.answer) l.places

abbrev pub lapsed_left : Kept → Lapse → List ℕ → CallLeft (List ℕ)
lapsed_left k l places = served k (lapse_left l) (0 ∷ 0 ∷ []) places
