-- The book that a record keeps to: whatever chunk comes, it stays, and DATA is read the same in both. Assumes nothing.
use Rattle.std.specs.Prelude.{ℕ, ◌≡◌, Bool, List, eqb, length}
use Rattle.std.proofs.Math.Path.{refl}
use Rattle.scans.specs.Scan.{pick}
use Rattle.scans.specs.Upto.{pick-keeps}
use Rattle.chunks.specs.declared.kind.Handling.{Handling}
use Rattle.chunks.specs.declared.kind.Handling.TheVariants.{Stop, StopAndReport, Skip, SkipAndReport}
use Rattle.chunks.specs.Frame.{part_from}
use Rattle.chunks.specs.InitChunk.{init_of}
use Rattle.parameters.specs.Parameter.{value_of, is_there, COOKIE, NAME}
use Rattle.parameters.specs.Stale.{stale_in}
use Rattle.sending.specs.BookLaws.{fresh-mode, acknowledged-mode, shutdown-mode, heard-mode}
use Rattle.states.specs.declared.rows.Row.{Row}
use Rattle.states.specs.declared.rows.Row.TheVariants.{Refused, ReadData, ReadLateData, AnswerInit, TakeInitAck, ReadSack, ReadSackPending, ReadSackReceived, EchoHeartbeat, ClearTries, BecomeClosed, ReadShutdown, CrossShutdown, RepeatShutdownAck, ReflectComplete, SendComplete, PassError, ReadError, ReadEcho, RepeatAck, BecomeEstablished, BecomeComplete, PassUnknown, TellUnknown}
use Rattle.association.specs.declared.ends.Association.{Association}
use Rattle.association.specs.Fresh.{with_mode}
use Rattle.steps.specs.declared.chunk.Beside.{Beside}
use Rattle.steps.specs.declared.lent.Echoed.{Echoed}
use Rattle.steps.specs.declared.lent.Echoed.TheVariants.{Bad, Stale, Good}
use Rattle.steps.specs.Verdict.{Step}
use Rattle.steps.specs.declared.lent.Made.{Made}
use Rattle.steps.specs.declared.meeting.Action.{Action}
use Rattle.steps.specs.declared.meeting.Action.TheVariants.{Restart, Retag, Late, Again, Outside}
use Rattle.steps.specs.Opening.{is_poor, is_cookie_odd, is_poor_lent, answer_init, established, echoing, echoed_back, take_init_ack}
use Rattle.steps.specs.Meeting.{offered, repeat_ack, action_of, starts_anew, with_peer_tag, stays, acts, read_echo}
use Rattle.steps.specs.Carrying.{is_kept, arrival_of, data_read, read_data, read_late_data, area_data, heard_by, heard_sack, is_last, read_sack, read_sack_pending, read_sack_received, echo_heartbeat, clear_tries}
use Rattle.steps.specs.Closing.{read_error, heard_shutdown, read_shutdown, answer_shutdown}
use Rattle.steps.specs.Unknown.{pass_unknown, tell_unknown}
use Rattle.steps.specs.Steps.{row_step, row_met, step_of}

module _ (room : ℕ) (a : Association) (b : Beside) (cookie s : List ℕ) where
  abbrev Booked : Step → Type 0
  Booked t = t.association.sending.mode ≡ a.sending.mode

  either : (t : Bool) (x y : Step) → Booked x → Booked y → Booked (pick t x y)
  either = pick-keeps Booked

  stays-booked : (m : Made) (x : Action) → Booked (stays room a m x)
  unfolding with_peer_tag
  stays-booked m Restart = refl
  stays-booked m Retag = refl
  stays-booked m Again = refl
  stays-booked m Late = refl
  stays-booked m Outside = refl

  -- a restart keeps to the book of the life before it
  acts-booked : (m : Made) (x : Action) → Booked (acts room a b.source m x)
  unfolding acts established
  acts-booked m x = either (starts_anew x a.state) _ _ (fresh-mode _ _ _ _ _) (stays-booked m x)

  echo-booked : (e : Echoed) → Booked (read_echo room a e b.source s)
  unfolding read_echo
  echo-booked (Good m) = either (is_cookie_odd (part_from 4 s).len) _ _ refl (acts-booked m (action_of a.state a.ends m))
  echo-booked (Stale m) = either (is_cookie_odd (part_from 4 s).len) _ _ refl refl
  echo-booked Bad = either (is_cookie_odd (part_from 4 s).len) _ _ refl refl

  sack-booked : (heard_sack a s).sending.mode ≡ a.sending.mode
  unfolding heard_by
  sack-booked = acknowledged-mode _ a.sending _

  shutdown-booked : (heard_shutdown a s).sending.mode ≡ a.sending.mode
  unfolding heard_shutdown
  shutdown-booked = shutdown-mode _ a.sending _

  pass-booked : (h : Handling) → Booked (pass_unknown a h)
  pass-booked Stop = refl
  pass-booked StopAndReport = refl
  pass-booked Skip = refl
  pass-booked SkipAndReport = refl

  tell-booked : (h : Handling) → Booked (tell_unknown a h s)
  tell-booked Stop = refl
  tell-booked StopAndReport = refl
  tell-booked Skip = refl
  tell-booked SkipAndReport = refl

  row-booked : (r : Row) → Booked (row_step room a b cookie s r)
  unfolding answer_init repeat_ack take_init_ack echoed_back echoing data_read read_data read_late_data read_sack read_sack_pending read_sack_received echo_heartbeat clear_tries read_error read_shutdown answer_shutdown
  row-booked AnswerInit = either (is_poor_lent (offered a b.lent) (length cookie)) _ _ refl (either (is_poor (init_of s)) _ _ refl (either (is_there NAME s) _ _ refl refl))
  row-booked RepeatAck = either (is_poor (init_of s)) _ _ refl refl
  row-booked TakeInitAck = either (is_poor (init_of s)) _ _ refl (either (is_cookie_odd (value_of COOKIE 4 s).len) _ _ refl (either (is_there NAME s) _ _ refl refl))
  row-booked ReadEcho = echo-booked b.echoed
  row-booked ReadLateData = either (is_kept (arrival_of a s).verdict) _ _ refl refl
  row-booked ReadSackPending = either (is_last (heard_sack a s)) _ _ sack-booked sack-booked
  row-booked ReadSackReceived = either (is_last (heard_sack a s)) _ _ sack-booked sack-booked
  row-booked ReadError = either (stale_in s) _ _ refl refl
  row-booked ReadShutdown = either (is_last (heard_shutdown a s)) _ _ shutdown-booked (either (eqb (heard_shutdown a s).number 0) _ _ shutdown-booked refl)
  row-booked CrossShutdown = either (eqb (heard_shutdown a s).number 0) _ _ shutdown-booked refl
  row-booked RepeatShutdownAck = either (eqb (heard_shutdown a s).number 0) _ _ shutdown-booked refl
  row-booked Refused = refl
  row-booked BecomeEstablished = refl
  row-booked ReadData = refl
  row-booked ReadSack = sack-booked
  row-booked EchoHeartbeat = refl
  row-booked ClearTries = heard-mode a.sending
  row-booked BecomeClosed = refl
  row-booked PassError = refl
  row-booked ReflectComplete = refl
  row-booked SendComplete = refl
  row-booked BecomeComplete = refl
  row-booked (PassUnknown h) = pass-booked h
  row-booked (TellUnknown h) = tell-booked h

  pub step-booked : (step_of room a b cookie s).association.sending.mode ≡ a.sending.mode
  unfolding step_of
  step-booked = row-booked (row_met a b s)

-- 02, T-12: "Reading, delivery and demand 3 are the same in both modes": the verdict on DATA, what is then held, and the area
module _ (a : Association) (m : ℕ) (s : List ℕ) where
  pub blind-arrival : arrival_of (with_mode a m) s ≡ arrival_of a s
  blind-arrival = refl

  pub blind-area : (area : List ℕ) → area_data (with_mode a m) area s ≡ area_data a area s
  blind-area area = refl

  pub blind-data : ((read_data (with_mode a m) s).fate ≡ (read_data a s).fate)
      × ((read_data (with_mode a m) s).named ≡ (read_data a s).named)
      × ((read_data (with_mode a m) s).association ≡ with_mode (read_data a s).association m)
  unfolding read_data data_read
  blind-data = (refl, refl, refl)
