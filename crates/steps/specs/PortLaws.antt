-- Whatever chunk comes, our port stays as it is. Assumes nothing.
use Rattle.std.specs.Prelude.{ℕ, ◌≡◌, Bool, List, eqb, length}
use Rattle.std.proofs.Math.Path.{refl}
use Rattle.scans.specs.Scan.{pick}
use Rattle.scans.specs.Upto.{pick-keeps}
use Rattle.chunks.specs.declared.kind.Handling.{Handling}
use Rattle.chunks.specs.declared.kind.Handling.TheVariants.{Stop, StopAndReport, Skip, SkipAndReport}
use Rattle.chunks.specs.Frame.{part_from}
use Rattle.chunks.specs.InitChunk.{init_of}
use Rattle.parameters.specs.Parameter.{value_of, is_there, COOKIE, NAME}
use Rattle.parameters.specs.Stale.{stale_in}
use Rattle.states.specs.declared.rows.Row.{Row}
use Rattle.states.specs.declared.rows.Row.TheVariants.{Refused, ReadData, ReadLateData, AnswerInit, TakeInitAck, ReadSack, ReadSackPending, ReadSackReceived, EchoHeartbeat, ClearTries, BecomeClosed, ReadShutdown, CrossShutdown, RepeatShutdownAck, RepeatAck, ReflectComplete, SendComplete, PassError, ReadError, ReadEcho, BecomeEstablished, BecomeComplete, PassUnknown, TellUnknown}
use Rattle.association.specs.declared.ends.Association.{Association}
use Rattle.steps.specs.declared.chunk.Beside.{Beside}
use Rattle.steps.specs.declared.lent.Made.{Made}
use Rattle.steps.specs.declared.meeting.Action.{Action}
use Rattle.steps.specs.declared.meeting.Action.TheVariants.{Restart, Retag, Late, Again, Outside}
use Rattle.steps.specs.declared.lent.Echoed.{Echoed}
use Rattle.steps.specs.declared.lent.Echoed.TheVariants.{Bad, Stale, Good}
use Rattle.steps.specs.Verdict.{Step}
use Rattle.steps.specs.Opening.{is_poor, is_cookie_odd, is_poor_lent, answer_init, established, echoing, echoed_back, take_init_ack}
use Rattle.steps.specs.Meeting.{offered, repeat_ack, action_of, starts_anew, with_peer_tag, stays, acts, read_echo}
use Rattle.steps.specs.Carrying.{is_kept, arrival_of, data_read, read_data, read_late_data, heard_sack, is_last, read_sack, read_sack_pending, read_sack_received, echo_heartbeat, clear_tries}
use Rattle.steps.specs.Closing.{read_error, heard_shutdown, read_shutdown, answer_shutdown}
use Rattle.steps.specs.Unknown.{pass_unknown, tell_unknown}
use Rattle.steps.specs.Steps.{row_step, row_met, step_of}

module _ (room : ℕ) (a : Association) (b : Beside) (cookie s : List ℕ) where
  abbrev Ported : Step → Type 0
  Ported t = t.association.ends.local_port ≡ a.ends.local_port

  either : (t : Bool) (x y : Step) → Ported x → Ported y → Ported (pick t x y)
  either = pick-keeps Ported

  stays-ported : (m : Made) (x : Action) → Ported (stays room a m x)
  unfolding with_peer_tag
  stays-ported m Restart = refl
  stays-ported m Retag = refl
  stays-ported m Again = refl
  stays-ported m Late = refl
  stays-ported m Outside = refl

  acts-ported : (m : Made) (x : Action) → Ported (acts room a b.source m x)
  unfolding acts established
  acts-ported m x = either (starts_anew x a.state) _ _ refl (stays-ported m x)

  echo-ported : (e : Echoed) → Ported (read_echo room a e b.source s)
  unfolding read_echo
  echo-ported (Good m) = either (is_cookie_odd (part_from 4 s).len) _ _ refl (acts-ported m (action_of a.state a.ends m))
  echo-ported (Stale m) = either (is_cookie_odd (part_from 4 s).len) _ _ refl refl
  echo-ported Bad = either (is_cookie_odd (part_from 4 s).len) _ _ refl refl

  pass-ported : (h : Handling) → Ported (pass_unknown a h)
  pass-ported Stop = refl
  pass-ported StopAndReport = refl
  pass-ported Skip = refl
  pass-ported SkipAndReport = refl

  tell-ported : (h : Handling) → Ported (tell_unknown a h s)
  tell-ported Stop = refl
  tell-ported StopAndReport = refl
  tell-ported Skip = refl
  tell-ported SkipAndReport = refl

  row-ported : (r : Row) → Ported (row_step room a b cookie s r)
  unfolding answer_init repeat_ack take_init_ack echoed_back echoing data_read read_data read_late_data read_sack read_sack_pending read_sack_received echo_heartbeat clear_tries read_error read_shutdown answer_shutdown
  row-ported AnswerInit = either (is_poor_lent (offered a b.lent) (length cookie)) _ _ refl (either (is_poor (init_of s)) _ _ refl (either (is_there NAME s) _ _ refl refl))
  row-ported TakeInitAck = either (is_poor (init_of s)) _ _ refl (either (is_cookie_odd (value_of COOKIE 4 s).len) _ _ refl (either (is_there NAME s) _ _ refl refl))
  row-ported RepeatAck = either (is_poor (init_of s)) _ _ refl refl
  row-ported ReadEcho = echo-ported b.echoed
  row-ported ReadLateData = either (is_kept (arrival_of a s).verdict) _ _ refl refl
  row-ported ReadSackPending = either (is_last (heard_sack a s)) _ _ refl refl
  row-ported ReadSackReceived = either (is_last (heard_sack a s)) _ _ refl refl
  row-ported ReadError = either (stale_in s) _ _ refl refl
  row-ported ReadShutdown = either (is_last (heard_shutdown a s)) _ _ refl (either (eqb (heard_shutdown a s).number 0) _ _ refl refl)
  row-ported CrossShutdown = either (eqb (heard_shutdown a s).number 0) _ _ refl refl
  row-ported RepeatShutdownAck = either (eqb (heard_shutdown a s).number 0) _ _ refl refl
  row-ported Refused = refl
  row-ported BecomeEstablished = refl
  row-ported ReadData = refl
  row-ported ReadSack = refl
  row-ported EchoHeartbeat = refl
  row-ported ClearTries = refl
  row-ported BecomeClosed = refl
  row-ported PassError = refl
  row-ported ReflectComplete = refl
  row-ported SendComplete = refl
  row-ported BecomeComplete = refl
  row-ported (PassUnknown h) = pass-ported h
  row-ported (TellUnknown h) = tell-ported h

  pub step-ported : (step_of room a b cookie s).association.ends.local_port ≡ a.ends.local_port
  unfolding step_of
  step-ported = row-ported (row_met a b s)
