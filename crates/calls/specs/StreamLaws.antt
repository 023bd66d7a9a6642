-- A message that is not refused is on a stream that there is. Assumes nothing.
use Rattle.std.specs.Prelude.{ℕ, ◌<◌, ◌≡◌, Bool, List}
use Rattle.std.proofs.Math.Path.{refl}
use Rattle.std.proofs.Common.{sym, ◌∙◌}
use Rattle.std.proofs.Math.Bool.{true, false}
use Rattle.std.proofs.lemmas.Bool.{eqb-false}
use Rattle.std.proofs.Math.Dec.{eqb}
use Rattle.scans.specs.Scan.{pick}
use Rattle.numbers.specs.declared.circle.StreamId.{StreamId}
use Rattle.numbers.specs.Profile.{rail}
use Rattle.sending.specs.HandInSoundLaws.{taken-whole}
use Rattle.sending.specs.SendingLaws.{handed-number}
use Rattle.states.specs.declared.call.Call.TheVariants.{HandIn}
use Rattle.association.specs.declared.ends.Association.{Association}
use Rattle.calls.specs.Answer.{is_short_area, barred}
use Rattle.calls.specs.Messages.{senders_handing, handed_as, hand_in_call}

module _ (a : Association) (area : List ℕ) (len : ℕ) (stream : StreamId) (unordered : Bool) (ppid : ℕ) where
  pub handed-agreed : (hand_in_call a area len stream unordered ppid).number ≡ 0 → stream.0 < rail.streams
  unfolding hand_in_call
  handed-agreed z = go (eqb (barred a (is_short_area area) HandIn) 0) refl z
    where
      go : (t : Bool) → eqb (barred a (is_short_area area) HandIn) 0 ≡ t
          → (pick t (handed_as a (senders_handing a len stream unordered ppid)) (record { number = barred a (is_short_area area) HandIn; chunks = 0; association = a })).number ≡ 0
          → stream.0 < rail.streams
      go true e y = (taken-whole rail a.sending len stream a.ends.streams_out (sym (handed-number rail a.sending stream a.ends.streams_out len unordered ppid) ∙ y)).0
      go false e y = absurd (eqb-false (barred a (is_short_area area) HandIn) 0 e y)
