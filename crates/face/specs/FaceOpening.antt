-- A record to start from, and our own INIT: all tables are lent.
use Rattle.std.specs.Prelude.{ℕ, List, [], ◌∷◌}
use Rattle.association.specs.Fresh.{closed_at}
use Rattle.calls.specs.Answer.{Plan, answer_of, plan_out}
use Rattle.flat.specs.Shown.{association_head}
use Rattle.asks.specs.TableOpening.{Tables, zero_tables, tables_after}
use Rattle.kept.specs.declared.head.Kept.{Kept}
use Rattle.kept.specs.Kept.{packed}
use Rattle.face.specs.FaceLeft.{call_told_of, CallLeft, left_with, served}
use Rattle.face.specs.FaceAnswer.{whole_told}

abbrev pub tables_lent : List ℕ → List ℕ → List ℕ → List ℕ → List ℕ → Tables
tables_lent held next places next_out kept = record { held = held; next = next; places = places; next_out = next_out; kept = kept }

-- whatever stood there
abbrev pub closed_left : ℕ → ℕ → CallLeft Tables
closed_left port mode = left_with (call_told_of 0 (packed (association_head (closed_at port mode))) []) zero_tables

pub record AssociatedLent : Type 0 where
  pub tables : Tables
  pub out : List ℕ

abbrev pub associated_lent : Tables → List ℕ → AssociatedLent
associated_lent ts out = record { tables = ts; out = out }

abbrev pub associated_left : Kept → Plan → AssociatedLent → CallLeft AssociatedLent
associated_left k p b = served k (left_with (whole_told (answer_of p b.out)) (associated_lent (tables_after (answer_of p b.out).number b.tables) (plan_out p b.out))) (0 ∷ 0 ∷ []) b
