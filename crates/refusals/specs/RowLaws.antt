-- A chunk that is refused leaves every word of what is lent, adds nothing to the reply and owes nothing; of the head number-keeping may change, and that with no
-- number but 11 and 14. Assumes nothing.
use Rattle.std.specs.Prelude.{ℕ, ◌<◌, ◌≡◌, List, [], eqb, length}
use Rattle.std.proofs.Math.Path.{refl}
use Rattle.std.proofs.Common.{sym, ap, ◌∙◌, arith}
use Rattle.std.proofs.Math.Bool.{Bool, true, false}
use Rattle.scans.specs.Scan.{pick}
use Rattle.scans.specs.Upto.{pick-keeps}
use Rattle.numbers.specs.Numbering.{circles}
use Rattle.numbers.specs.Profile.{rail}
use Rattle.path.specs.Sizes.{sizes_of}
use Rattle.chunks.specs.declared.kind.Handling.{Handling}
use Rattle.chunks.specs.declared.kind.Handling.TheVariants.{Stop, StopAndReport, Skip, SkipAndReport}
use Rattle.octets.specs.Writing.{wrote_count}
use Rattle.octets.specs.WritingLaws.{wrote_none}
use Rattle.chunks.specs.Frame.{part_from, bytes_in}
use Rattle.chunks.specs.InitChunk.{init_of}
use Rattle.chunks.specs.ShutdownChunk.{point_of}
use Rattle.parameters.specs.Parameter.{value_of, is_there, COOKIE, NAME}
use Rattle.parameters.specs.Stale.{stale_in}
use Rattle.holding.specs.declared.held.Held.{Held}
use Rattle.holding.specs.Held.{as_held}
use Rattle.delivery.specs.declared.arrival.Verdict.{Verdict}
use Rattle.delivery.specs.declared.arrival.Verdict.TheVariants.{Kept, Empty, Long, Opposite, Duplicate, Wedged, Far, Stray, Clashing}
use Rattle.delivery.specs.Arrival.{verdict_of, receiving_after, stored_by, arrival_area}
use Rattle.reception.specs.declared.arrival.Arrived.{Arrived}
use Rattle.reception.specs.Reception.{arrival_words, arrival_told, words_after}
use Rattle.places.specs.declared.sack.Sack.{Sack}
use Rattle.sending.specs.declared.acknowledging.Answer.{Answer}
use Rattle.sending.specs.Acknowledge.{judged_point, shut_of}
use Rattle.sending.specs.Sending.{is_bare}
use Rattle.sender.specs.declared.Sender.{Sender}
use Rattle.sender.specs.Seen.{sending_shown}
use Rattle.acks.specs.Acks.{accepted_head, accepted_words, acked_head, acked_words, shut_head, shut_words}
use Rattle.states.specs.declared.state.State.{State}
use Rattle.states.specs.declared.state.State.TheVariants.{Closed, ShutdownReceived, ShutdownAckSent}
use Rattle.states.specs.declared.rows.Row.{Row}
use Rattle.states.specs.declared.rows.Row.TheVariants as row
use Rattle.association.specs.declared.ends.Association.{Association}
use Rattle.association.specs.Fresh.{with_state, with_sending}
use Rattle.steps.specs.declared.chunk.Beside.{Beside}
use Rattle.steps.specs.declared.lent.Lent.{Lent}
use Rattle.steps.specs.declared.lent.Made.{Made}
use Rattle.steps.specs.declared.lent.Echoed.{Echoed}
use Rattle.steps.specs.declared.lent.Echoed.TheVariants.{Bad, Stale, Good}
use Rattle.steps.specs.declared.meeting.Action.{Action}
use Rattle.steps.specs.declared.meeting.Action.TheVariants.{Restart, Retag, Late, Again, Outside}
use Rattle.steps.specs.declared.verdict.Fate.TheVariants.{Accepted, Refused}
use Rattle.steps.specs.declared.verdict.Named.{Named}
use Rattle.steps.specs.declared.verdict.Named.TheVariants.{NoCall, ErrorStale}
use Rattle.steps.specs.declared.verdict.Event.TheVariants.{NoEvent, Down}
use Rattle.steps.specs.declared.verdict.Reason.TheVariants.{HostName}
use Rattle.steps.specs.declared.verdict.Owed.TheVariants.{Nothing}
use Rattle.steps.specs.Verdict.{Step, fate_number, accepted, answering, refused, quiet, leaving_unread}
use Rattle.steps.specs.Opening.{is_poor, is_cookie_odd, is_poor_lent, name_refused, answer_init, established, echoed_back, take_init_ack}
use Rattle.steps.specs.Meeting.{offered, repeat_ack, cookie_ack_bytes, action_of, starts_anew, started_as, stays, acts, read_echoed, read_echo}
use Rattle.steps.specs.Carrying.{data_arriving, payload_of, data_read, late_data_read, shutdown_owed, shutdown_acked, area_in, sack_call, echo_heartbeat, clear_tries}
use Rattle.steps.specs.Closing.{read_error, shutdown_taken, shutdown_answered}
use Rattle.steps.specs.Unknown.{pass_unknown, tell_unknown}
use Rattle.steps.specs.Steps.{row_met}
use Rattle.flat.specs.declared.head.Head.{Head}
use Rattle.flat.specs.Shown.{bare, association_head}
use Rattle.asks.specs.TableAnswer.{head_with_keeping}
use Rattle.rows.specs.TableRows.{heard_data, held_heard, arrival_with, side, read_data_by, read_late_data_by, sack_to_sender, sack_heard, places_sacked, answer_with, read_sack_by, read_sack_pending_by, read_sack_received_by, heard_point, places_shut, read_shutdown_by, answer_shutdown_by, is_taken, echo_begins, is_starting, cleared_if, kept_if, RowLeft, head_left, data_left, places_left, ack_left, echo_left, row_left, Rowed, rowed}

-- what a row leaves of its chunk, where the head was h
record Leaves (h : Head) (ws ns ps ms cs bytes : List ℕ) (l : RowLeft) : Type 0 where
  pub held : l.held ≡ ws
  pub next : l.next ≡ ns
  pub places : l.places ≡ ps
  pub next_out : l.next_out ≡ ms
  pub kept : l.kept ≡ cs
  pub area : l.area ≡ bytes
  pub reply : l.step.reply ≡ []
  pub owed : l.step.owed ≡ Nothing
  pub head : association_head l.step.association ≡ head_with_keeping h l.step.association.receiving.keeping
  pub keeping : (fate_number l.step.fate ≡ 11 → ⊥) → (fate_number l.step.fate ≡ 14 → ⊥) → l.step.association.receiving.keeping ≡ h.keeping

module _ (h : Head) (held next places next_out kept area s : List ℕ) where
  abbrev Refusal : RowLeft → Type 0
  Refusal l = 0 < fate_number l.step.fate → Leaves h held next places next_out kept area l

  -- a row that changes no table
  abbrev Heads : Step → Type 0
  Heads d = Refusal (head_left h held next places next_out kept area s d)

  took : {X : Type 0} → 0 < 0 → X
  took p = absurd (omega arith)

  same : (n : ℕ) (c : Named) → Heads (refused (bare h) n c)
  same n c p = record { held = refl; next = refl; places = refl; next_out = refl; kept = refl; area = refl; reply = refl; owed = refl; head = refl; keeping = λ x y. refl }

  either-heads : (t : Bool) (x y : Step) → Heads x → Heads y → Heads (pick t x y)
  either-heads = pick-keeps Heads

  -- ---- DATA

  abbrev chunk : Held
  chunk = as_held (data_arriving s) (length (payload_of s))

  abbrev told : Verdict → Arrived
  told v = record { verdict = v; keeping = (receiving_after circles.tsn rail (side h held next) chunk v).keeping }

  abbrev data_by : Step → Verdict → RowLeft
  data_by d v = record {
    step = d;
    held = arrival_words rail held chunk v;
    next = next;
    places = places;
    next_out = next_out;
    kept = kept;
    area = stored_by rail (side h held next).held area (payload_of s) v;
  }

  read-refusal : (v : Verdict) → Refusal (data_by (data_read (bare h) s (arrival_with (told v) [] [])) v)
  unfolding data_read
  read-refusal Kept p = took p
  read-refusal Empty p = record { held = refl; next = refl; places = refl; next_out = refl; kept = refl; area = refl; reply = refl; owed = refl; head = refl; keeping = λ x y. refl }
  read-refusal Long p = record { held = refl; next = refl; places = refl; next_out = refl; kept = refl; area = refl; reply = refl; owed = refl; head = refl; keeping = λ x y. refl }
  read-refusal Opposite p = record { held = refl; next = refl; places = refl; next_out = refl; kept = refl; area = refl; reply = refl; owed = refl; head = refl; keeping = λ x y. refl }
  read-refusal Duplicate p = record { held = refl; next = refl; places = refl; next_out = refl; kept = refl; area = refl; reply = refl; owed = refl; head = refl; keeping = λ x y. absurd (x refl) }
  read-refusal Wedged p = record { held = refl; next = refl; places = refl; next_out = refl; kept = refl; area = refl; reply = refl; owed = refl; head = refl; keeping = λ x y. refl }
  read-refusal Far p = record { held = refl; next = refl; places = refl; next_out = refl; kept = refl; area = refl; reply = refl; owed = refl; head = refl; keeping = λ x y. refl }
  read-refusal Stray p = record { held = refl; next = refl; places = refl; next_out = refl; kept = refl; area = refl; reply = refl; owed = refl; head = refl; keeping = λ x y. absurd (y refl) }
  read-refusal Clashing p = record { held = refl; next = refl; places = refl; next_out = refl; kept = refl; area = refl; reply = refl; owed = refl; head = refl; keeping = λ x y. refl }

  late-refusal : (v : Verdict) → Refusal (data_by (late_data_read (bare h) s (arrival_with (told v) [] [])) v)
  late-refusal Kept p = took p
  late-refusal Empty p = read-refusal Empty p
  late-refusal Long p = read-refusal Long p
  late-refusal Opposite p = read-refusal Opposite p
  late-refusal Duplicate p = read-refusal Duplicate p
  late-refusal Wedged p = read-refusal Wedged p
  late-refusal Far p = read-refusal Far p
  late-refusal Stray p = read-refusal Stray p
  late-refusal Clashing p = read-refusal Clashing p

  data-leaves : Refusal (data_left h held next places next_out kept area s (read_data_by h held next s))
  unfolding read_data_by heard_data held_heard area_in arrival_told words_after arrival_area
  data-leaves = read-refusal (verdict_of circles rail (side h held next) chunk h.ends.streams_in)

  late-leaves : Refusal (data_left h held next places next_out kept area s (read_late_data_by h held next s))
  unfolding read_late_data_by heard_data held_heard area_in arrival_told words_after arrival_area
  late-leaves = late-refusal (verdict_of circles rail (side h held next) chunk h.ends.streams_in)

  -- ---- SACK and the point of a SHUTDOWN

  abbrev Points : List ℕ → Step → Type 0
  Points ws d = Refusal (places_left h held next places next_out kept area s ws d)

  points-same : (n : ℕ) (c : Named) → Points places (refused (bare h) n c)
  points-same n c p = record { held = refl; next = refl; places = refl; next_out = refl; kept = refl; area = refl; reply = refl; owed = refl; head = refl; keeping = λ x y. refl }

  -- the sending side's answer with the number n: where that is not 0, head and words are as they were
  module _ (n : ℕ) (g : Sender) (ws : List ℕ) where
    abbrev words_if : Bool → List ℕ
    words_if t = pick t ws places

    abbrev answer_if : Bool → Answer
    answer_if t = answer_with (record { number = n; head = pick t g h.sender }) (words_if t) []

    -- a SACK, where t says whether it is taken in
    abbrev sack_if : Bool → Step
    sack_if t = quiet (with_sending (bare h) (answer_if t).sending) (record { fate = pick t Accepted (Refused n); named = sack_call n })

    sack-refusal : (t : Bool) → Points (words_if t) (sack_if t)
    sack-refusal true p = took p
    sack-refusal false p = record { held = refl; next = refl; places = refl; next_out = refl; kept = refl; area = refl; reply = refl; owed = refl; head = refl; keeping = λ x y. refl }

    -- and one by which all may be acknowledged
    then-refusal : (last : Association → Step) → ((a : Association) → Points ws (last a)) → (t : Bool)
        → Points (words_if t) (pick (pick t (is_bare (answer_if t).sending) false) (last (with_sending (bare h) (answer_if t).sending)) (sack_if t))
    then-refusal last f true = pick-keeps (Points ws) (is_bare (answer_if true).sending) _ _ (f _) (sack-refusal true)
    then-refusal last f false = sack-refusal false

    -- a point that is not stale
    taken-refusal : (t : Bool)
        → Points (words_if t) (pick (pick t (is_bare (answer_if t).sending) false) (shutdown_acked (with_sending (bare h) (answer_if t).sending) (ShutdownAckSent 0)) (pick t (accepted (with_state (with_sending (bare h) (answer_if t).sending) ShutdownReceived) NoEvent []) (refused (bare h) n (sack_call n))))
    taken-refusal true = pick-keeps (Points ws) (is_bare (answer_if true).sending) _ _ took took
    taken-refusal false = points-same n (sack_call n)

    answered-refusal : (state : State) (t : Bool) → Points (words_if t) (pick t (shutdown_acked (with_sending (bare h) (answer_if t).sending) state) (refused (bare h) n (sack_call n)))
    answered-refusal state true = took
    answered-refusal state false = points-same n (sack_call n)

    -- any point: a stale one, by u, is answered 0 and leaves the sending side
    abbrev words_or : Bool → List ℕ
    words_or u = pick u places (words_if (eqb n 0))

    abbrev answer_or : Bool → Answer
    answer_or u = answer_with (pick u (record { number = 0; head = h.sender }) (record { number = n; head = pick (eqb n 0) g h.sender })) (words_or u) []

    shutdown-refusal : (u : Bool) → Points (words_or u) (shutdown_taken (bare h) (answer_or u))
    shutdown-refusal true = pick-keeps (Points places) (is_bare (answer_or true).sending) _ _ took took
    shutdown-refusal false = taken-refusal (eqb n 0)

    shut-refusal : (state : State) (u : Bool) → Points (words_or u) (shutdown_answered (bare h) state (answer_or u))
    shut-refusal state true = took
    shut-refusal state false = answered-refusal state (eqb n 0)

  abbrev sack_judged : ℕ
  sack_judged = judged_point (sending_shown rail h.sender [] []) (sack_to_sender s)

  sack-leaves : Points (places_sacked h.sender places s) (read_sack_by h places s)
  unfolding read_sack_by sack_heard places_sacked acked_head acked_words
  sack-leaves = sack-refusal sack_judged (accepted_head (sizes_of h.sender.mode) rail h.sender places (sack_to_sender s)) (accepted_words rail h.sender places (sack_to_sender s)) (eqb sack_judged 0)

  pending-leaves : Points (places_sacked h.sender places s) (read_sack_pending_by h places s)
  unfolding read_sack_pending_by sack_heard places_sacked acked_head acked_words
  pending-leaves = then-refusal sack_judged (accepted_head (sizes_of h.sender.mode) rail h.sender places (sack_to_sender s)) (accepted_words rail h.sender places (sack_to_sender s)) shutdown_owed (λ a. took) (eqb sack_judged 0)

  received-leaves : Points (places_sacked h.sender places s) (read_sack_received_by h places s)
  unfolding read_sack_received_by sack_heard places_sacked acked_head acked_words
  received-leaves =
      then-refusal sack_judged (accepted_head (sizes_of h.sender.mode) rail h.sender places (sack_to_sender s)) (accepted_words rail h.sender places (sack_to_sender s)) (λ (q : Association). shutdown_acked q (ShutdownAckSent 0)) (λ a. took) (eqb sack_judged 0)

  abbrev point : Sack
  point = shut_of (sending_shown rail h.sender [] []) (point_of s)

  abbrev point_judged : ℕ
  point_judged = judged_point (sending_shown rail h.sender [] []) point

  shutdown-leaves : Points (places_shut h.sender places s) (read_shutdown_by h places s)
  unfolding read_shutdown_by heard_point places_shut shut_head shut_words acked_head acked_words
  shutdown-leaves = shutdown-refusal point_judged (accepted_head (sizes_of h.sender.mode) rail h.sender places point) (accepted_words rail h.sender places point) (eqb point_judged 15)

  shut-leaves : (state : State) → Points (places_shut h.sender places s) (answer_shutdown_by h places state s)
  unfolding answer_shutdown_by heard_point places_shut shut_head shut_words acked_head acked_words
  shut-leaves state = shut-refusal point_judged (accepted_head (sizes_of h.sender.mode) rail h.sender places point) (accepted_words rail h.sender places point) state (eqb point_judged 15)

  -- ---- what opens and closes

  answer-leaves : (lent : Lent) (cookie : List ℕ) → Heads (answer_init (bare h) lent cookie s)
  unfolding answer_init
  answer-leaves lent cookie =
      either-heads (is_poor_lent lent (length cookie)) _ _ (same 8 NoCall) (either-heads (is_poor (init_of s)) _ _ (same 8 NoCall) (either-heads (is_there NAME s) _ _ took took))

  ack-leaves : (room : ℕ) → Refusal (ack_left h held next places next_out kept area s (take_init_ack room (bare h) s))
  unfolding take_init_ack echoed_back is_taken
  ack-leaves room = go (is_poor (init_of s)) (is_cookie_odd (value_of COOKIE 4 s).len) (is_there NAME s)
    where
      go : (x y z : Bool)
          → (let t : Bool = pick x false (pick y false (pick z false true)) in
          Refusal (record {
            step = pick x (refused (bare h) 8 NoCall) (pick y (refused (bare h) 8 NoCall) (pick z (answering (with_state (bare h) Closed) (Down HostName) (init_of s).tag (name_refused s)) (echoed_back room (bare h) (init_of s) (bytes_in s (value_of COOKIE 4 s)) s)));
            held = cleared_if t 512 held;
            next = cleared_if t 128 next;
            places = places;
            next_out = next_out;
            kept = kept_if t s kept;
            area = area;
          }))
      go true y z = same 8 NoCall
      go false true z = same 8 NoCall
      go false false true = took
      go false false false = took

  repeat-leaves : Heads (repeat_ack (bare h) s)
  unfolding repeat_ack
  repeat-leaves = either-heads (is_poor (init_of s)) _ _ (same 8 NoCall) took

  -- an echo, where t says whether all begins from it
  abbrev echo_if : Bool → Step → RowLeft
  echo_if t d = record {
    step = d;
    held = cleared_if t 512 held;
    next = cleared_if t 128 next;
    places = cleared_if t 1024 places;
    next_out = cleared_if t 128 next_out;
    kept = cleared_if t 256 kept;
    area = area;
  }

  echo-same : (n : ℕ) (c : Named) → Refusal (echo_if false (leaving_unread (refused (bare h) n c)))
  echo-same n c p = record { held = refl; next = refl; places = refl; next_out = refl; kept = refl; area = refl; reply = refl; owed = refl; head = refl; keeping = λ x y. refl }

  -- in every state a good one is refused only outside A to D
  stays-leaves : (room : ℕ) (m : Made) (x : Action) → Refusal (echo_if false (stays room (bare h) m x))
  stays-leaves room m Restart = took
  stays-leaves room m Retag = took
  stays-leaves room m Again = took
  stays-leaves room m Late = took
  stays-leaves room m Outside = echo-same 7 NoCall

  acts-leaves : (room source : ℕ) (m : Made) (x : Action) → Refusal (echo_if (starts_anew x h.state) (acts room (bare h) source m x))
  unfolding acts
  acts-leaves room source m x = go (starts_anew x h.state)
    where
      go : (t : Bool) → Refusal (echo_if t (pick t (accepted (established (bare h) source m) (started_as x h.state) cookie_ack_bytes) (stays room (bare h) m x)))
      go true = took
      go false = stays-leaves room m x

  echo-leaves : (room : ℕ) (e : Echoed) (source : ℕ) → Refusal (echo_left h held next places next_out kept area s e (read_echo room (bare h) e source s))
  unfolding read_echo is_starting
  echo-leaves room e source = go (is_cookie_odd (part_from 4 s).len) e
    where
      go : (x : Bool) (e : Echoed) → Refusal (echo_if (pick x false (echo_begins h.state h.ends e)) (pick x (leaving_unread (refused (bare h) 8 NoCall)) (read_echoed room (bare h) source e)))
      go true e = echo-same 8 NoCall
      go false (Good m) = acts-leaves room source m (action_of h.state h.ends m)
      go false (Stale m) = echo-same 27 ErrorStale
      go false Bad = echo-same 27 NoCall

  heartbeat-leaves : Heads (echo_heartbeat (bare h) s)
  unfolding echo_heartbeat
  heartbeat-leaves = took

  clear-leaves : Heads (clear_tries (bare h))
  unfolding clear_tries
  clear-leaves = took

  error-leaves : Heads (read_error (bare h) s)
  unfolding read_error
  error-leaves = either-heads (stale_in s) _ _ took took

  -- ---- unknown chunks

  pass-leaves : (k : Handling) → Heads (pass_unknown (bare h) k)
  pass-leaves Stop = took
  pass-leaves StopAndReport = took
  pass-leaves Skip = took
  pass-leaves SkipAndReport = took

  tell-leaves : (k : Handling) → Heads (tell_unknown (bare h) k s)
  tell-leaves Stop = took
  tell-leaves StopAndReport = took
  tell-leaves Skip = took
  tell-leaves SkipAndReport = took

  -- ---- one chunk

  row-leaves : (room : ℕ) (b : Beside) (cookie : List ℕ) (r : Row) → Refusal (row_left h held next places next_out kept area s room b cookie r)
  row-leaves room b cookie row.Refused = same 7 NoCall
  row-leaves room b cookie row.AnswerInit = answer-leaves (offered (bare h) b.lent) cookie
  row-leaves room b cookie row.TakeInitAck = ack-leaves room
  row-leaves room b cookie row.ReadEcho = echo-leaves room b.echoed b.source
  row-leaves room b cookie row.BecomeEstablished = took
  row-leaves room b cookie row.ReadData = data-leaves
  row-leaves room b cookie row.ReadLateData = late-leaves
  row-leaves room b cookie row.ReadSack = sack-leaves
  row-leaves room b cookie row.ReadSackPending = pending-leaves
  row-leaves room b cookie row.ReadSackReceived = received-leaves
  row-leaves room b cookie row.EchoHeartbeat = heartbeat-leaves
  row-leaves room b cookie row.ClearTries = clear-leaves
  row-leaves room b cookie row.BecomeClosed = took
  row-leaves room b cookie row.PassError = took
  row-leaves room b cookie row.ReadError = error-leaves
  row-leaves room b cookie row.ReadShutdown = shutdown-leaves
  row-leaves room b cookie row.CrossShutdown = shut-leaves (ShutdownAckSent 0)
  row-leaves room b cookie row.RepeatShutdownAck = shut-leaves h.state
  row-leaves room b cookie row.RepeatAck = repeat-leaves
  row-leaves room b cookie row.ReflectComplete = took
  row-leaves room b cookie row.SendComplete = took
  row-leaves room b cookie row.BecomeComplete = took
  row-leaves room b cookie (row.PassUnknown k) = pass-leaves k
  row-leaves room b cookie (row.TellUnknown k) = tell-leaves k

-- the same of what the chunk at the head of s leaves of all that is lent, with no byte of a reply
pub record RowedLeaves (h : Head) (ws ns ps ms cs bytes : List ℕ) (o : Rowed) : Type 0 where
  pub held : o.held ≡ ws
  pub next : o.next ≡ ns
  pub places : o.places ≡ ps
  pub next_out : o.next_out ≡ ms
  pub kept : o.kept ≡ cs
  pub area : o.area ≡ bytes
  pub written : o.stepped.written ≡ 0
  pub owed : o.stepped.owed ≡ Nothing
  pub head : o.stepped.head ≡ head_with_keeping h o.stepped.head.keeping
  pub keeping : (fate_number o.stepped.fate ≡ 11 → ⊥) → (fate_number o.stepped.fate ≡ 14 → ⊥) → o.stepped.head.keeping ≡ h.keeping

pub rowed-leaves : (h : Head) (held next places next_out kept area s space : List ℕ) (b : Beside) (cookie : List ℕ)
    → (let o : Rowed = rowed b cookie s h held next places next_out kept area space in 0 < fate_number o.stepped.fate → RowedLeaves h held next places next_out kept area o)
unfolding rowed
rowed-leaves h held next places next_out kept area s space b cookie p =
    let w = row-leaves h held next places next_out kept area s (length space) b cookie (row_met (bare h) b s) p in
    record {
      held = w.held;
      next = w.next;
      places = w.places;
      next_out = w.next_out;
      kept = w.kept;
      area = w.area;
      written = ap (λ (bs : List ℕ). wrote_count space bs) w.reply ∙ sym (wrote_none space).count;
      owed = w.owed;
      head = w.head;
      keeping = w.keeping;
    }
