-- One chunk: a DATA that the state reads is an arrival, one that it does not is answered 7, and every other chunk leaves the receiving side as it was or
-- starts it afresh. Assumes nothing.
use Rattle.std.specs.Prelude.{ℕ, ◌/◌, ◌≡◌, Bool, List, [], ◌∷◌, eqb, length}
use Rattle.std.proofs.Math.Path.{refl}
use Rattle.std.proofs.Common.{sym, ap}
use Rattle.std.proofs.Math.Bool.{true, false}
use Rattle.scans.specs.Scan.{pick}
use Rattle.scans.specs.Each.{clash}
use Rattle.scans.specs.Upto.{pick-keeps}
use Rattle.octets.specs.Bytes.{u8}
use Rattle.chunks.specs.declared.kind.Handling.{Handling}
use Rattle.chunks.specs.declared.kind.Handling.TheVariants.{Stop, StopAndReport, Skip, SkipAndReport}
use Rattle.chunks.specs.declared.kind.Kind.{Kind}
use Rattle.chunks.specs.declared.kind.Kind.TheVariants as kind
use Rattle.chunks.specs.Kind.{handled, kind_of}
use Rattle.chunks.specs.Frame.{part_from}
use Rattle.chunks.specs.InitChunk.{init_of}
use Rattle.parameters.specs.Parameter.{value_of, is_there, COOKIE, NAME}
use Rattle.parameters.specs.Stale.{stale_in}
use Rattle.delivery.specs.declared.arrival.Arrival.{Arrival}
use Rattle.delivery.specs.declared.arrival.Verdict.{Verdict}
use Rattle.delivery.specs.declared.arrival.Verdict.TheVariants.{Kept, Empty, Long, Opposite, Duplicate, Wedged, Far, Stray, Clashing}
use Rattle.delivery.specs.Arrival.{verdict_number}
use Rattle.states.specs.declared.state.State.{State}
use Rattle.states.specs.declared.state.State.TheVariants.{ShutdownAckSent}
use Rattle.states.specs.declared.rows.Met.{Met}
use Rattle.states.specs.declared.rows.Row.{Row}
use Rattle.states.specs.declared.rows.Row.TheVariants.{Refused, ReadData, ReadLateData, AnswerInit, TakeInitAck, ReadSack, ReadSackPending, ReadSackReceived, EchoHeartbeat, ClearTries, BecomeClosed, ReadShutdown, CrossShutdown, RepeatShutdownAck, RepeatAck, ReflectComplete, SendComplete, PassError, ReadError, ReadEcho, BecomeEstablished, BecomeComplete, PassUnknown, TellUnknown}
use Rattle.states.specs.Rows.{cells, row_of}
use Rattle.states.specs.RowsLaws.{each-state}
use Rattle.association.specs.declared.ends.Association.{Association}
use Rattle.steps.specs.declared.chunk.Beside.{Beside}
use Rattle.steps.specs.declared.lent.Lent.{Lent}
use Rattle.steps.specs.declared.lent.Made.{Made}
use Rattle.steps.specs.declared.lent.Echoed.{Echoed}
use Rattle.steps.specs.declared.lent.Echoed.TheVariants.{Bad, Stale, Good}
use Rattle.steps.specs.declared.meeting.Action.{Action}
use Rattle.steps.specs.declared.meeting.Action.TheVariants.{Restart, Retag, Late, Again, Outside}
use Rattle.steps.specs.Verdict.{Step, fate_number}
use Rattle.steps.specs.Opening.{is_poor, is_cookie_odd, is_poor_lent, answer_init, echoing, echoed_back, take_init_ack, established}
use Rattle.steps.specs.Meeting.{offered, repeat_ack, action_of, starts_anew, with_peer_tag, stays, acts, read_echo}
use Rattle.steps.specs.Carrying.{is_kept, arrival_in, arrival_of, data_read, read_data, late_data_read, read_late_data, area_in, area_data, heard_sack, is_last, read_sack, read_sack_pending, read_sack_received, echo_heartbeat, clear_tries}
use Rattle.steps.specs.Closing.{heard_shutdown, read_error, read_shutdown, answer_shutdown}
use Rattle.steps.specs.Unknown.{pass_unknown, tell_unknown}
use Rattle.steps.specs.Steps.{row_step, row_area, met_by, row_met, step_of, step_area}
use Rattle.arriving.specs.ChunkVerdict.{fate_code}
use Rattle.demands.specs.News.{numbered, is_data}
use Rattle.demands.specs.Heard.{Heard, not-read, ack_start, act_start, echo_start, arrives, row_heard, chunk_heard, Side, side_of, side_goes_on, said_on, circle_goes, circle_said}

-- what two tests of one kind choose
pub pick-both : {A B : Type 0} (Q : A → B → Type 0) (t : Bool) (x y : A) (u v : B) → Q x u → Q y v → Q (pick t x y) (pick t u v)
pick-both Q true x y u v p q = p
pick-both Q false x y u v p q = q

module _ (a : Association) (area s : List ℕ) where
  -- what is then received is what is heard
  abbrev Goes : Step → List ℕ → List Heard → Type 0
  Goes p after hs = side_of p.association after ≡ circle_goes (side_of a area) hs

  -- nothing is heard
  abbrev Rests : Step → Type 0
  Rests p = Goes p area []

  rests : (p : Step) → side_of p.association area ≡ side_of a area → Rests p
  unfolding side_goes_on
  rests p e = e

  either-rests : (t : Bool) (x y : Step) → Rests x → Rests y → Rests (pick t x y)
  either-rests = pick-keeps Rests

  -- ---- DATA

  data-goes : Goes (data_read a s (arrival_of a s)) (area_data a area s) (arrives s ∷ [])
  unfolding side_goes_on data_read arrival_in area_in
  data-goes = refl

  now-goes : Goes (read_data a s) (area_data a area s) (arrives s ∷ [])
  unfolding read_data
  now-goes = data-goes

  late-goes : Goes (read_late_data a s) (area_data a area s) (arrives s ∷ [])
  unfolding read_late_data side_goes_on arrival_in area_in
  late-goes = pick-keeps (λ (p : Step). Goes p (area_data a area s) (arrives s ∷ [])) (is_kept (arrival_of a s).verdict) _ _ refl data-goes

  -- ---- what opens

  answer-rests : (l : Lent) (cookie : List ℕ) → Rests (answer_init a l cookie s)
  unfolding answer_init side_goes_on
  answer-rests l cookie =
      either-rests (is_poor_lent l (length cookie)) _ _ refl (either-rests (is_poor (init_of s)) _ _ refl (either-rests (is_there NAME s) _ _ refl refl))

  repeat-rests : Rests (repeat_ack a s)
  unfolding repeat_ack side_goes_on
  repeat-rests = either-rests (is_poor (init_of s)) _ _ refl refl

  ack-goes : (room : ℕ) → Goes (take_init_ack room a s) area (ack_start s)
  unfolding take_init_ack echoed_back echoing side_goes_on
  ack-goes room =
      pick-both (λ (p : Step) hs. Goes p area hs) (is_poor (init_of s)) _ _ _ _ refl
      (pick-both (λ (p : Step) hs. Goes p area hs) (is_cookie_odd (value_of COOKIE 4 s).len) _ _ _ _ refl
      (pick-both (λ (p : Step) hs. Goes p area hs) (is_there NAME s) _ _ _ _ refl refl))

  -- an echo that starts nothing changes at most the peer's tag
  stays-rests : (room : ℕ) (m : Made) (x : Action) → Rests (stays room a m x)
  unfolding with_peer_tag side_goes_on
  stays-rests room m Restart = refl
  stays-rests room m Retag = refl
  stays-rests room m Again = refl
  stays-rests room m Late = refl
  stays-rests room m Outside = refl

  acts-goes : (room source : ℕ) (m : Made) (x : Action) → Goes (acts room a source m x) area (act_start a.state m x)
  unfolding acts established side_goes_on
  acts-goes room source m x = pick-both (λ (p : Step) hs. Goes p area hs) (starts_anew x a.state) _ _ _ _ refl (stays-rests room m x)

  echo-goes : (room : ℕ) (e : Echoed) (source : ℕ) → Goes (read_echo room a e source s) area (echo_start a e s)
  unfolding read_echo side_goes_on
  echo-goes room (Good m) source =
      pick-both (λ (p : Step) hs. Goes p area hs) (is_cookie_odd (part_from 4 s).len) _ _ _ _ refl (acts-goes room source m (action_of a.state a.ends m))
  echo-goes room (Stale m) source = pick-both (λ (p : Step) hs. Goes p area hs) (is_cookie_odd (part_from 4 s).len) _ _ _ _ refl refl
  echo-goes room Bad source = pick-both (λ (p : Step) hs. Goes p area hs) (is_cookie_odd (part_from 4 s).len) _ _ _ _ refl refl

  -- ---- what is carried beside it, and what closes

  sack-rests : Rests (read_sack a s)
  unfolding read_sack side_goes_on
  sack-rests = refl

  pending-rests : Rests (read_sack_pending a s)
  unfolding read_sack_pending side_goes_on
  pending-rests = either-rests (is_last (heard_sack a s)) _ _ refl refl

  received-rests : Rests (read_sack_received a s)
  unfolding read_sack_received side_goes_on
  received-rests = either-rests (is_last (heard_sack a s)) _ _ refl refl

  heartbeat-rests : Rests (echo_heartbeat a s)
  unfolding echo_heartbeat side_goes_on
  heartbeat-rests = refl

  clear-rests : Rests (clear_tries a)
  unfolding clear_tries side_goes_on
  clear-rests = refl

  error-rests : Rests (read_error a s)
  unfolding read_error side_goes_on
  error-rests = either-rests (stale_in s) _ _ refl refl

  shutdown-rests : Rests (read_shutdown a s)
  unfolding read_shutdown side_goes_on
  shutdown-rests = either-rests (is_last (heard_shutdown a s)) _ _ refl (either-rests (eqb (heard_shutdown a s).number 0) _ _ refl refl)

  answered-rests : (state : State) → Rests (answer_shutdown a state s)
  unfolding answer_shutdown side_goes_on
  answered-rests state = either-rests (eqb (heard_shutdown a s).number 0) _ _ refl refl

  pass-rests : (h : Handling) → Rests (pass_unknown a h)
  unfolding side_goes_on
  pass-rests Stop = refl
  pass-rests StopAndReport = refl
  pass-rests Skip = refl
  pass-rests SkipAndReport = refl

  tell-rests : (h : Handling) → Rests (tell_unknown a h s)
  unfolding side_goes_on
  tell-rests Stop = refl
  tell-rests StopAndReport = refl
  tell-rests Skip = refl
  tell-rests SkipAndReport = refl

  -- 7 leaves all, of a DATA or not
  refused-goes : (t : Bool) → side_of a area ≡ circle_goes (side_of a area) (pick t (not-read ∷ []) [])
  unfolding side_goes_on
  refused-goes true = refl
  refused-goes false = refl

  module _ (room : ℕ) (b : Beside) (cookie : List ℕ) where
    row_goes : (r : Row) → Goes (row_step room a b cookie s r) (row_area a area s r) (row_heard a b s r)
    row_goes Refused = refused-goes (is_data s)
    row_goes ReadData = now-goes
    row_goes ReadLateData = late-goes
    row_goes AnswerInit = answer-rests (offered a b.lent) cookie
    row_goes TakeInitAck = ack-goes room
    row_goes ReadEcho = echo-goes room b.echoed b.source
    row_goes BecomeEstablished = rests (row_step room a b cookie s BecomeEstablished) refl
    row_goes ReadSack = sack-rests
    row_goes ReadSackPending = pending-rests
    row_goes ReadSackReceived = received-rests
    row_goes EchoHeartbeat = heartbeat-rests
    row_goes ClearTries = clear-rests
    row_goes BecomeClosed = rests (row_step room a b cookie s BecomeClosed) refl
    row_goes PassError = rests (row_step room a b cookie s PassError) refl
    row_goes ReadError = error-rests
    row_goes ReadShutdown = shutdown-rests
    row_goes CrossShutdown = answered-rests (ShutdownAckSent 0)
    row_goes RepeatShutdownAck = answered-rests a.state
    row_goes RepeatAck = repeat-rests
    row_goes ReflectComplete = rests (row_step room a b cookie s ReflectComplete) refl
    row_goes SendComplete = rests (row_step room a b cookie s SendComplete) refl
    row_goes BecomeComplete = rests (row_step room a b cookie s BecomeComplete) refl
    row_goes (PassUnknown h) = pass-rests h
    row_goes (TellUnknown h) = tell-rests h

    pub chunk-goes : Goes (step_of room a b cookie s) (step_area a b area s) (chunk_heard a b s)
    unfolding step_of step_area chunk_heard
    chunk-goes = row_goes (row_met a b s)

-- ---- the number that is told of it

abbrev is_data_kind : Kind → Bool
is_data_kind kind.Data = true
is_data_kind kind.Init = false
is_data_kind kind.InitAck = false
is_data_kind kind.Sack = false
is_data_kind kind.Heartbeat = false
is_data_kind kind.HeartbeatAck = false
is_data_kind kind.Abort = false
is_data_kind kind.Shutdown = false
is_data_kind kind.ShutdownAck = false
is_data_kind kind.Error = false
is_data_kind kind.CookieEcho = false
is_data_kind kind.CookieAck = false
is_data_kind kind.ShutdownComplete = false
is_data_kind (kind.Unknown h) = false

-- type 0 is DATA, and no other is
abbrev Other : Kind → Type 0
Other k = is_data_kind k ≡ false

data-kind : (n : ℕ) → eqb n 0 ≡ true → kind_of n ≡ kind.Data
unfolding kind_of
data-kind n e = rw e

other-kind : (n : ℕ) → eqb n 0 ≡ false → Other (kind_of n)
unfolding kind_of
other-kind n e =
    rw e
    (pick-keeps Other (eqb n 1) kind.Init _ refl
    (pick-keeps Other (eqb n 2) kind.InitAck _ refl
    (pick-keeps Other (eqb n 3) kind.Sack _ refl
    (pick-keeps Other (eqb n 4) kind.Heartbeat _ refl
    (pick-keeps Other (eqb n 5) kind.HeartbeatAck _ refl
    (pick-keeps Other (eqb n 6) kind.Abort _ refl
    (pick-keeps Other (eqb n 7) kind.Shutdown _ refl
    (pick-keeps Other (eqb n 8) kind.ShutdownAck _ refl
    (pick-keeps Other (eqb n 9) kind.Error _ refl
    (pick-keeps Other (eqb n 10) kind.CookieEcho _ refl
    (pick-keeps Other (eqb n 11) kind.CookieAck _ refl
    (pick-keeps Other (eqb n 14) kind.ShutdownComplete (kind.Unknown (handled (n / 64))) refl refl))))))))))))

-- only DATA is read as such
abbrev is_read : Row → Bool
is_read ReadData = true
is_read ReadLateData = true
is_read Refused = false
is_read AnswerInit = false
is_read TakeInitAck = false
is_read ReadEcho = false
is_read BecomeEstablished = false
is_read ReadSack = false
is_read ReadSackPending = false
is_read ReadSackReceived = false
is_read EchoHeartbeat = false
is_read ClearTries = false
is_read BecomeClosed = false
is_read PassError = false
is_read ReadError = false
is_read ReadShutdown = false
is_read CrossShutdown = false
is_read RepeatShutdownAck = false
is_read RepeatAck = false
is_read ReflectComplete = false
is_read SendComplete = false
is_read BecomeComplete = false
is_read (PassUnknown h) = false
is_read (TellUnknown h) = false

abbrev Unlike : (State → Row) → State → Type 0
Unlike row s = is_read (row s) ≡ false

other_row : (k : Kind) (m : Met) (s : State) → Other k → is_read (row_of k m s) ≡ false
unfolding row_of
other_row kind.Data m s e = clash (sym e)
other_row kind.Init m s e = each-state (Unlike (cells kind.Init m)) refl (λ n. refl) (λ n. refl) refl refl (λ n. refl) refl (λ n. refl) s
other_row kind.InitAck m s e = each-state (Unlike (cells kind.InitAck m)) refl (λ n. refl) (λ n. refl) refl refl (λ n. refl) refl (λ n. refl) s
other_row kind.Sack m s e = each-state (Unlike (cells kind.Sack m)) refl (λ n. refl) (λ n. refl) refl refl (λ n. refl) refl (λ n. refl) s
other_row kind.Heartbeat m s e = each-state (Unlike (cells kind.Heartbeat m)) refl (λ n. refl) (λ n. refl) refl refl (λ n. refl) refl (λ n. refl) s
other_row kind.HeartbeatAck m s e = each-state (Unlike (cells kind.HeartbeatAck m)) refl (λ n. refl) (λ n. refl) refl refl (λ n. refl) refl (λ n. refl) s
other_row kind.Abort m s e = each-state (Unlike (cells kind.Abort m)) refl (λ n. refl) (λ n. refl) refl refl (λ n. refl) refl (λ n. refl) s
other_row kind.Shutdown m s e = each-state (Unlike (cells kind.Shutdown m)) refl (λ n. refl) (λ n. refl) refl refl (λ n. refl) refl (λ n. refl) s
other_row kind.ShutdownAck m s e = each-state (Unlike (cells kind.ShutdownAck m)) refl (λ n. refl) (λ n. refl) refl refl (λ n. refl) refl (λ n. refl) s
other_row kind.Error m s e = each-state (Unlike (cells kind.Error m)) refl (λ n. refl) (λ n. refl) refl refl (λ n. refl) refl (λ n. refl) s
other_row kind.CookieEcho m s e = pick-keeps (λ (r : Row). is_read r ≡ false) m.first ReadEcho Refused refl refl
other_row kind.CookieAck m s e = each-state (Unlike (cells kind.CookieAck m)) refl (λ n. refl) (λ n. refl) refl refl (λ n. refl) refl (λ n. refl) s
other_row kind.ShutdownComplete m s e = each-state (Unlike (cells kind.ShutdownComplete m)) refl (λ n. refl) (λ n. refl) refl refl (λ n. refl) refl (λ n. refl) s
other_row (kind.Unknown h) m s e = each-state (Unlike (cells (kind.Unknown h) m)) refl (λ n. refl) (λ n. refl) refl refl (λ n. refl) refl (λ n. refl) s

-- what is told of a DATA that the receiving side answers so: its number, and that it was not left unread
data-number : (a : Association) (s : List ℕ) (o : Arrival) (v : Verdict) → o.verdict ≡ v
    → (fate_number (data_read a s o).fate ≡ verdict_number v) × (eqb (fate_code (data_read a s o).fate) 6 ≡ false)
unfolding data_read
data-number a s o Kept e = rw e (refl, refl)
data-number a s o Empty e = rw e (refl, refl)
data-number a s o Long e = rw e (refl, refl)
data-number a s o Opposite e = rw e (refl, refl)
data-number a s o Duplicate e = rw e (refl, refl)
data-number a s o Wedged e = rw e (refl, refl)
data-number a s o Far e = rw e (refl, refl)
data-number a s o Stray e = rw e (refl, refl)
data-number a s o Clashing e = rw e (refl, refl)

late-number : (a : Association) (s : List ℕ) (o : Arrival) (v : Verdict) → o.verdict ≡ v
    → (fate_number (late_data_read a s o).fate ≡ verdict_number v) × (eqb (fate_code (late_data_read a s o).fate) 6 ≡ false)
unfolding data_read
late-number a s o Kept e = rw e (refl, refl)
late-number a s o Empty e = rw e (refl, refl)
late-number a s o Long e = rw e (refl, refl)
late-number a s o Opposite e = rw e (refl, refl)
late-number a s o Duplicate e = rw e (refl, refl)
late-number a s o Wedged e = rw e (refl, refl)
late-number a s o Far e = rw e (refl, refl)
late-number a s o Stray e = rw e (refl, refl)
late-number a s o Clashing e = rw e (refl, refl)

module _ (room : ℕ) (a : Association) (b : Beside) (cookie area s : List ℕ) where
  abbrev now : Side
  now = side_of a area

  -- of a DATA
  abbrev Tells : Row → Type 0
  Tells r =
      (numbered (fate_number (row_step room a b cookie s r).fate) ∷ [] ≡ circle_said now (row_heard a b s r)) × (eqb (fate_code (row_step room a b cookie s r).fate) 6 ≡ false)

  refused-tells : is_data s ≡ true → Tells Refused
  unfolding said_on
  refused-tells e = (ap (λ (t : Bool). circle_said now (pick t (not-read ∷ []) [])) (sym e), refl)

  now-tells : Tells ReadData
  unfolding said_on read_data arrival_in
  now-tells = let n = data-number a s (arrival_of a s) (arrival_of a s).verdict refl in (ap (λ (x : ℕ). numbered x ∷ []) n.0, n.1)

  late-tells : Tells ReadLateData
  unfolding said_on read_late_data arrival_in
  late-tells = let n = late-number a s (arrival_of a s) (arrival_of a s).verdict refl in (ap (λ (x : ℕ). numbered x ∷ []) n.0, n.1)

  data-tells : is_data s ≡ true → (m : Met) (state : State) → Tells (cells kind.Data m state)
  data-tells e m =
      let no = refused-tells e in
      each-state (λ state. Tells (cells kind.Data m state)) no (λ n. no) (λ n. no) now-tells now-tells (λ n. late-tells) no (λ n. no)

  pub chunk-tells : is_data s ≡ true
      → (numbered (fate_number (step_of room a b cookie s).fate) ∷ [] ≡ circle_said now (chunk_heard a b s)) × (eqb (fate_code (step_of room a b cookie s).fate) 6 ≡ false)
  unfolding step_of chunk_heard row_of
  chunk-tells e = rw (data-kind (u8 s 0) e) (data-tells e (met_by a b) a.state)

  -- of any other nothing is told
  abbrev Silent : List Heard → Type 0
  Silent hs = circle_said now hs ≡ []

  ack-silent : Silent (ack_start s)
  unfolding said_on
  ack-silent =
      pick-keeps Silent (is_poor (init_of s)) _ _ refl
      (pick-keeps Silent (is_cookie_odd (value_of COOKIE 4 s).len) _ _ refl (pick-keeps Silent (is_there NAME s) _ _ refl refl))

  echo-silent : (e : Echoed) → Silent (echo_start a e s)
  unfolding said_on
  echo-silent (Good m) =
      pick-keeps Silent (is_cookie_odd (part_from 4 s).len) _ _ refl (pick-keeps Silent (starts_anew (action_of a.state a.ends m) a.state) _ _ refl refl)
  echo-silent (Stale m) = pick-keeps Silent (is_cookie_odd (part_from 4 s).len) _ _ refl refl
  echo-silent Bad = pick-keeps Silent (is_cookie_odd (part_from 4 s).len) _ _ refl refl

  row-silent : is_data s ≡ false → (r : Row) → is_read r ≡ false → Silent (row_heard a b s r)
  unfolding said_on
  row-silent e Refused u = rw e refl
  row-silent e ReadData u = clash (sym u)
  row-silent e ReadLateData u = clash (sym u)
  row-silent e TakeInitAck u = ack-silent
  row-silent e ReadEcho u = echo-silent b.echoed
  row-silent e AnswerInit u = refl
  row-silent e BecomeEstablished u = refl
  row-silent e ReadSack u = refl
  row-silent e ReadSackPending u = refl
  row-silent e ReadSackReceived u = refl
  row-silent e EchoHeartbeat u = refl
  row-silent e ClearTries u = refl
  row-silent e BecomeClosed u = refl
  row-silent e PassError u = refl
  row-silent e ReadError u = refl
  row-silent e ReadShutdown u = refl
  row-silent e CrossShutdown u = refl
  row-silent e RepeatShutdownAck u = refl
  row-silent e RepeatAck u = refl
  row-silent e ReflectComplete u = refl
  row-silent e SendComplete u = refl
  row-silent e BecomeComplete u = refl
  row-silent e (PassUnknown h) u = refl
  row-silent e (TellUnknown h) u = refl

  pub chunk-silent : is_data s ≡ false → circle_said now (chunk_heard a b s) ≡ []
  unfolding chunk_heard
  chunk-silent e = row-silent e (row_met a b s) (other_row (kind_of (u8 s 0)) (met_by a b) a.state (other-kind (u8 s 0) e))
