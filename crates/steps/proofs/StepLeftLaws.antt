-- Every chunk that a packet may bring leaves what its refusal must leave (specs/LeftLaws). It stands here, so that an edit of a refusal is refused by it.
-- Assumes nothing.
use Rattle.std.specs.Prelude.{ℕ, zero, suc, ◌<◌, ◌≡◌, Bool, List, [], eqb, length}
use Rattle.std.proofs.Math.Path.{refl}
use Rattle.std.proofs.Common.{ap, arith, ne_eqb}
use Rattle.scans.specs.Scan.{pick}
use Rattle.scans.specs.Upto.{pick-keeps}
use Rattle.numbers.specs.Numbering.{circles}
use Rattle.numbers.specs.Profile.{rail}
use Rattle.chunks.specs.declared.kind.Handling.{Handling}
use Rattle.chunks.specs.declared.kind.Handling.TheVariants.{Stop, StopAndReport, Skip, SkipAndReport}
use Rattle.chunks.specs.Frame.{part_from}
use Rattle.chunks.specs.InitChunk.{init_of}
use Rattle.chunks.specs.SackChunk.{sack_head_of}
use Rattle.parameters.specs.Parameter.{value_of, is_there, COOKIE, NAME}
use Rattle.parameters.specs.Stale.{stale_in}
use Rattle.path.specs.Sizes.{sizes_of}
use Rattle.holding.specs.Held.{as_held}
use Rattle.delivery.specs.Arrival.{verdict_number}
use Rattle.delivery.specs.ReceivingLaws.{arrived-refused, area-refused}
use Rattle.sending.specs.Acknowledge.{whole_sack}
use Rattle.sending.specs.SendingLaws.{refused-sack}
use Rattle.states.specs.declared.state.State.{State}
use Rattle.states.specs.declared.state.State.TheVariants.{ShutdownAckSent}
use Rattle.states.specs.declared.rows.Row.{Row}
use Rattle.states.specs.declared.rows.Row.TheVariants as row
use Rattle.association.specs.declared.ends.Association.{Association}
use Rattle.association.specs.Fresh.{with_sending}
use Rattle.steps.specs.declared.chunk.Beside.{Beside}
use Rattle.steps.specs.declared.lent.Lent.{Lent}
use Rattle.steps.specs.declared.lent.Made.{Made}
use Rattle.steps.specs.declared.meeting.Action.{Action}
use Rattle.steps.specs.declared.meeting.Action.TheVariants.{Restart, Retag, Late, Again, Outside}
use Rattle.steps.specs.declared.lent.Echoed.{Echoed}
use Rattle.steps.specs.declared.lent.Echoed.TheVariants.{Bad, Stale, Good}
use Rattle.steps.specs.declared.verdict.Fate.TheVariants.{Accepted, Refused}
use Rattle.steps.specs.declared.verdict.Owed.{Owed}
use Rattle.steps.specs.declared.verdict.Owed.TheVariants.{Nothing}
use Rattle.steps.specs.Verdict.{Step, fate_number}
use Rattle.steps.specs.Opening.{is_poor, is_cookie_odd, is_poor_lent, answer_init, echoed_back, take_init_ack}
use Rattle.steps.specs.Meeting.{offered, repeat_ack, action_of, starts_anew, stays, acts, read_echo}
use Rattle.steps.specs.Carrying.{data_arriving, payload_of, is_kept, arrival_in, arrival_of, data_read, read_data, read_late_data, area_in, area_data, chunk_blocks, heard_by, heard_sack, sack_read, read_sack, is_last, read_sack_pending, read_sack_received, echo_heartbeat, clear_tries}
use Rattle.steps.specs.Closing.{heard_shutdown, read_error, read_shutdown, answer_shutdown}
use Rattle.steps.specs.Unknown.{pass_unknown, tell_unknown}
use Rattle.steps.specs.Steps.{row_step, row_area, row_met, step_of, step_area}
use Rattle.steps.specs.LeftLaws.{ChunkRefusalLeaves, unchanged, received, StepLeaves}

-- the number that is told
told-number : (n : ℕ) → fate_number (pick (eqb n 0) Accepted (Refused n)) ≡ n
told-number zero = refl
told-number (suc n) = rw (ne_eqb (suc n) 0 (λ q. omega arith))

module _ (a : Association) (area s : List ℕ) where
  abbrev Lefts : Step → Type 0
  Lefts p = StepLeaves a area s p area

  abbrev quietly : List ℕ
  quietly = []

  abbrev nothing : Owed
  nothing = Nothing

  -- nothing is refused there
  took : {X : Type 0} → 0 < 0 → X
  took h = absurd (omega arith)

  -- refused, with the record as it came
  same : {n : ℕ} → 0 < n → ChunkRefusalLeaves a s n a × (quietly ≡ quietly) × (area ≡ area) × (nothing ≡ nothing)
  same h = (unchanged refl, refl, refl, refl)

  either_left : (t : Bool) (x y : Step) → Lefts x → Lefts y → Lefts (pick t x y)
  either_left = pick-keeps Lefts

  -- ---- DATA
  data-left : StepLeaves a area s (data_read a s (arrival_of a s)) (area_data a area s)
  unfolding data_read arrival_in area_in
  data-left h =
      let v = (arrival_of a s).verdict in
      let n : fate_number (data_read a s (arrival_of a s)).fate ≡ verdict_number v = told-number (verdict_number v) in
      let m : 0 < verdict_number v = omega (arith, n, h) in
      let c = as_held (data_arriving s) (length (payload_of s)) in (
        received v (arrival_of a s).receiving n (arrived-refused circles rail a.receiving c a.ends.streams_in m) refl,
        refl,
        area-refused circles rail a.receiving c a.ends.streams_in area (payload_of s) m,
        refl,
      )

  now-left : StepLeaves a area s (read_data a s) (area_data a area s)
  unfolding read_data
  now-left = data-left

  late-left : StepLeaves a area s (read_late_data a s) (area_data a area s)
  unfolding read_late_data
  late-left = pick-keeps (λ (p : Step). StepLeaves a area s p (area_data a area s)) (is_kept (arrival_of a s).verdict) _ _ took data-left

  -- ---- SACK
  sack-left : Lefts (sack_read a (heard_sack a s))
  unfolding heard_by
  sack-left h =
      let n : fate_number (sack_read a (heard_sack a s)).fate ≡ (heard_sack a s).number = told-number (heard_sack a s).number in
      (unchanged (ap (with_sending a) (refused-sack (sizes_of a.sending.mode) a.sending (whole_sack (sack_head_of s).point (sack_head_of s).window (chunk_blocks s)) (omega (arith, n, h)))), refl, refl, refl)

  read_left : Lefts (read_sack a s)
  unfolding read_sack
  read_left = sack-left

  pending-left : Lefts (read_sack_pending a s)
  unfolding read_sack_pending
  pending-left = either_left (is_last (heard_sack a s)) _ _ took sack-left

  received-left : Lefts (read_sack_received a s)
  unfolding read_sack_received
  received-left = either_left (is_last (heard_sack a s)) _ _ took sack-left

  heartbeat-left : Lefts (echo_heartbeat a s)
  unfolding echo_heartbeat
  heartbeat-left = took

  clear-left : Lefts (clear_tries a)
  unfolding clear_tries
  clear-left = took

  -- ---- what opens and closes
  answer-left : (l : Lent) (cookie : List ℕ) → Lefts (answer_init a l cookie s)
  unfolding answer_init
  answer-left l cookie = either_left (is_poor_lent l (length cookie)) _ _ same (either_left (is_poor (init_of s)) _ _ same (either_left (is_there NAME s) _ _ took took))

  ack-left : (room : ℕ) → Lefts (take_init_ack room a s)
  unfolding take_init_ack echoed_back
  ack-left room = either_left (is_poor (init_of s)) _ _ same (either_left (is_cookie_odd (value_of COOKIE 4 s).len) _ _ same (either_left (is_there NAME s) _ _ took took))

  repeat-left : Lefts (repeat_ack a s)
  unfolding repeat_ack
  repeat-left = either_left (is_poor (init_of s)) _ _ same took

  stays-left : (room : ℕ) (m : Made) (x : Action) → Lefts (stays room a m x)
  stays-left room m Restart = took
  stays-left room m Retag = took
  stays-left room m Again = took
  stays-left room m Late = took
  stays-left room m Outside = same

  acts-left : (room source : ℕ) (m : Made) (x : Action) → Lefts (acts room a source m x)
  unfolding acts
  acts-left room source m x = either_left (starts_anew x a.state) _ _ took (stays-left room m x)

  echo-left : (room : ℕ) (e : Echoed) (source : ℕ) → Lefts (read_echo room a e source s)
  unfolding read_echo
  echo-left room (Good m) source = either_left (is_cookie_odd (part_from 4 s).len) _ _ same (acts-left room source m (action_of a.state a.ends m))
  echo-left room (Stale m) source = either_left (is_cookie_odd (part_from 4 s).len) _ _ same same
  echo-left room Bad source = either_left (is_cookie_odd (part_from 4 s).len) _ _ same same

  error-left : Lefts (read_error a s)
  unfolding read_error
  error-left = either_left (stale_in s) _ _ took took

  shutdown-left : Lefts (read_shutdown a s)
  unfolding read_shutdown
  shutdown-left = either_left (is_last (heard_shutdown a s)) _ _ took (either_left (eqb (heard_shutdown a s).number 0) _ _ took same)

  answered-left : (state : State) → Lefts (answer_shutdown a state s)
  unfolding answer_shutdown
  answered-left state = either_left (eqb (heard_shutdown a s).number 0) _ _ took same

  -- ---- unknown chunks
  pass-left : (h : Handling) → Lefts (pass_unknown a h)
  pass-left Stop = took
  pass-left StopAndReport = took
  pass-left Skip = took
  pass-left SkipAndReport = took

  tell-left : (h : Handling) → Lefts (tell_unknown a h s)
  tell-left Stop = took
  tell-left StopAndReport = took
  tell-left Skip = took
  tell-left SkipAndReport = took

  -- ---- one chunk
  row-left : (room : ℕ) (b : Beside) (cookie : List ℕ) (r : Row) → StepLeaves a area s (row_step room a b cookie s r) (row_area a area s r)
  row-left room b cookie row.Refused = same
  row-left room b cookie row.AnswerInit = answer-left (offered a b.lent) cookie
  row-left room b cookie row.TakeInitAck = ack-left room
  row-left room b cookie row.ReadEcho = echo-left room b.echoed b.source
  row-left room b cookie row.BecomeEstablished = took
  row-left room b cookie row.ReadData = now-left
  row-left room b cookie row.ReadLateData = late-left
  row-left room b cookie row.ReadSack = read_left
  row-left room b cookie row.ReadSackPending = pending-left
  row-left room b cookie row.ReadSackReceived = received-left
  row-left room b cookie row.EchoHeartbeat = heartbeat-left
  row-left room b cookie row.ClearTries = clear-left
  row-left room b cookie row.BecomeClosed = took
  row-left room b cookie row.PassError = took
  row-left room b cookie row.ReadError = error-left
  row-left room b cookie row.ReadShutdown = shutdown-left
  row-left room b cookie row.CrossShutdown = answered-left (ShutdownAckSent 0)
  row-left room b cookie row.RepeatShutdownAck = answered-left a.state
  row-left room b cookie row.RepeatAck = repeat-left
  row-left room b cookie row.ReflectComplete = took
  row-left room b cookie row.SendComplete = took
  row-left room b cookie row.BecomeComplete = took
  row-left room b cookie (row.PassUnknown h) = pass-left h
  row-left room b cookie (row.TellUnknown h) = tell-left h

  -- so of every chunk that a packet may bring
  pub step_left : (room : ℕ) (b : Beside) (cookie : List ℕ) → StepLeaves a area s (step_of room a b cookie s) (step_area a b area s)
  unfolding step_of step_area
  step_left room b cookie = row-left room b cookie (row_met a b s)
