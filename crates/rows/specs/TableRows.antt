-- One chunk over a head and the words of its tables: what the row of the state table that it meets leaves. The rules are those of `steps`, over the head alone (`bare`) and the answer of the side that the chunk is for.
use Rattle.std.specs.Prelude.{ℕ, Bool, true, false, List, [], length, replicate}
use Rattle.scans.specs.Scan.{pick}
use Rattle.numbers.specs.Numbering.{circles}
use Rattle.numbers.specs.Profile.{rail, held_word_count}
use Rattle.octets.specs.Writing.{wrote_bytes}
use Rattle.path.specs.Sizes.{sizes_of}
use Rattle.chunks.specs.Frame.{part_from, bytes_in}
use Rattle.chunks.specs.InitChunk.{init_of}
use Rattle.chunks.specs.SackChunk.{sack_head_of}
use Rattle.chunks.specs.ShutdownChunk.{point_of}
use Rattle.parameters.specs.Parameter.{value_of, is_there, COOKIE, NAME}
use Rattle.places.specs.declared.sack.Sack.{Sack}
use Rattle.holding.specs.Held.{as_held}
use Rattle.delivery.specs.declared.receiving.Receiving.{Receiving}
use Rattle.delivery.specs.declared.arrival.Arrival.{Arrival}
use Rattle.reception.specs.declared.arrival.Arrived.{Arrived}
use Rattle.reception.specs.Reception.{arrival_told, words_after, receiving_shown}
use Rattle.sending.specs.declared.acknowledging.Answer.{Answer}
use Rattle.sending.specs.Acknowledge as sending
use Rattle.sender.specs.declared.Sender.{Sender}
use Rattle.sender.specs.Seen.{sending_shown}
use Rattle.acks.specs.Acks.{Acked, acked_head, acked_words, shut_head, shut_words}
use Rattle.states.specs.declared.state.State.{State}
use Rattle.states.specs.declared.state.State.TheVariants.{Established, ShutdownAckSent}
use Rattle.states.specs.declared.rows.Row.{Row}
use Rattle.states.specs.declared.rows.Row.TheVariants.{Refused, ReadData, ReadLateData, AnswerInit, TakeInitAck, ReadSack, ReadSackPending, ReadSackReceived, EchoHeartbeat, ClearTries, BecomeClosed, ReadShutdown, CrossShutdown, RepeatShutdownAck, RepeatAck, ReflectComplete, SendComplete, PassError, ReadError, ReadEcho, BecomeEstablished, BecomeComplete, PassUnknown, TellUnknown}
use Rattle.association.specs.declared.ends.Ends.{Ends}
use Rattle.association.specs.declared.ends.Association.{Association}
use Rattle.association.specs.Fresh.{with_state}
use Rattle.steps.specs.declared.chunk.Beside.{Beside}
use Rattle.steps.specs.declared.lent.Echoed.{Echoed}
use Rattle.steps.specs.declared.lent.Echoed.TheVariants.{Bad, Stale, Good}
use Rattle.steps.specs.declared.verdict.Event.TheVariants.{NoEvent, Up}
use Rattle.steps.specs.declared.verdict.Named.TheVariants.{NoCall}
use Rattle.steps.specs.Verdict.{Step, accepted, refused}
use Rattle.steps.specs.Opening.{is_poor, is_cookie_odd, kept_cookie, answer_init, take_init_ack}
use Rattle.steps.specs.Meeting.{offered, repeat_ack, action_of, starts_anew, read_echo}
use Rattle.steps.specs.Carrying.{data_arriving, payload_of, chunk_blocks, data_read, late_data_read, shutdown_owed, shutdown_acked, area_in, sack_read, sack_read_then, echo_heartbeat, clear_tries}
use Rattle.steps.specs.Closing.{become_closed, read_error, shutdown_taken, shutdown_answered, reflect_complete, send_complete, become_complete}
use Rattle.steps.specs.Unknown.{pass_unknown, tell_unknown}
use Rattle.steps.specs.Steps.{row_met}
use Rattle.flat.specs.declared.head.Head.{Head}
use Rattle.flat.specs.Shown.{bare}
use Rattle.rows.specs.declared.stepped.Stepped.{Stepped}
use Rattle.rows.specs.Stepped.{stepped_in}

-- ---- DATA

-- the receiver's answer, and the words of the held chunks then
unfoldable pub heard_data : Receiving → ℕ → List ℕ → Arrived
heard_data r streams s = arrival_told circles rail r (as_held (data_arriving s) (length (payload_of s))) streams

unfoldable pub held_heard : Receiving → ℕ → List ℕ → List ℕ → List ℕ
held_heard r streams held s = words_after circles rail r held (as_held (data_arriving s) (length (payload_of s))) streams

-- an answer as `steps` has it, with the words beside it
abbrev pub arrival_with : Arrived → List ℕ → List ℕ → Arrival
arrival_with o held next = record { verdict = o.verdict; receiving = receiving_shown rail o.keeping held next }

module _ (h : Head) (held next : List ℕ) where
  -- the receiving side that is asked
  abbrev pub side : Receiving
  side = receiving_shown rail h.keeping held next

  abbrev pub held_by : List ℕ → List ℕ
  held_by s = held_heard side h.ends.streams_in held s

  abbrev pub area_by : List ℕ → List ℕ → List ℕ
  area_by area s = area_in side h.ends.streams_in area s

  -- what is told of it, in which the words have no part
  abbrev pub arrival_by : List ℕ → Arrival
  arrival_by s = arrival_with (heard_data side h.ends.streams_in s) [] []

  -- in ESTABLISHED and SHUTDOWN-PENDING
  unfoldable pub read_data_by : List ℕ → Step
  read_data_by s = data_read (bare h) s (arrival_by s)

  -- in SHUTDOWN-SENT
  unfoldable pub read_late_data_by : List ℕ → Step
  read_late_data_by s = late_data_read (bare h) s (arrival_by s)

-- ---- SACK

abbrev pub sack_to_sender : List ℕ → Sack
sack_to_sender s = sending.whole_sack (sack_head_of s).point (sack_head_of s).window (chunk_blocks s)

-- the sender's answer, and the words of the places then
unfoldable pub sack_heard : Sender → List ℕ → List ℕ → Acked
sack_heard q places s = acked_head (sizes_of q.mode) rail q places (sack_to_sender s)

unfoldable pub places_sacked : Sender → List ℕ → List ℕ → List ℕ
places_sacked q places s = acked_words rail q places (sack_to_sender s)

-- an answer as `steps` has it, with the words beside it
abbrev pub answer_with : Acked → List ℕ → List ℕ → Answer
answer_with o places next_out = record { number = o.number; sending = sending_shown rail o.head places next_out }

module _ (h : Head) (places : List ℕ) where
  -- the next SSNs have no part in it
  abbrev pub sack_answer : List ℕ → Answer
  sack_answer s = answer_with (sack_heard h.sender places s) (places_sacked h.sender places s) []

  -- in ESTABLISHED
  unfoldable pub read_sack_by : List ℕ → Step
  read_sack_by s = sack_read (bare h) (sack_answer s)

  -- in SHUTDOWN-PENDING
  unfoldable pub read_sack_pending_by : List ℕ → Step
  read_sack_pending_by s = sack_read_then shutdown_owed (bare h) (sack_answer s)

  -- in SHUTDOWN-RECEIVED
  unfoldable pub read_sack_received_by : List ℕ → Step
  read_sack_received_by s = sack_read_then (λ (q : Association). shutdown_acked q (ShutdownAckSent 0)) (bare h) (sack_answer s)

-- ---- SHUTDOWN

-- the sender's answer to its point, and the words of the places then
unfoldable pub heard_point : Sender → List ℕ → List ℕ → Acked
heard_point q places s = shut_head (sizes_of q.mode) rail q places (point_of s)

unfoldable pub places_shut : Sender → List ℕ → List ℕ → List ℕ
places_shut q places s = shut_words rail q places (point_of s)

module _ (h : Head) (places : List ℕ) where
  abbrev pub point_answer : List ℕ → Answer
  point_answer s = answer_with (heard_point h.sender places s) (places_shut h.sender places s) []

  -- in ESTABLISHED, SHUTDOWN-PENDING and SHUTDOWN-RECEIVED
  unfoldable pub read_shutdown_by : List ℕ → Step
  read_shutdown_by s = shutdown_taken (bare h) (point_answer s)

  -- in SHUTDOWN-SENT and SHUTDOWN-ACK-SENT, in the state that it leads to
  unfoldable pub answer_shutdown_by : State → List ℕ → Step
  answer_shutdown_by state s = shutdown_answered (bare h) state (point_answer s)

-- ---- fresh starts

-- an INIT ACK that is taken in: the receiving side begins, and the cookie is kept
unfoldable pub is_taken : List ℕ → Bool
is_taken s =
    pick (is_poor (init_of s)) false
    (pick (is_cookie_odd (value_of COOKIE 4 s).len) false
    (pick (is_there NAME s) false true))

-- an echo from which all begins
abbrev pub echo_begins : State → Ends → Echoed → Bool
echo_begins state ends (Good m) = starts_anew (action_of state ends m) state
echo_begins state ends (Stale m) = false
echo_begins state ends Bad = false

unfoldable pub is_starting : State → Ends → Echoed → List ℕ → Bool
is_starting state ends e s = pick (is_cookie_odd (part_from 4 s).len) false (echo_begins state ends e)

-- so many zeros in place of a table
abbrev pub cleared_if : Bool → ℕ → List ℕ → List ℕ
cleared_if t n ws = pick t (replicate n 0) ws

-- the bytes of the cookie that an INIT ACK brings, in place of the kept ones
abbrev pub kept_if : Bool → List ℕ → List ℕ → List ℕ
kept_if t s kept = pick t (kept_cookie (bytes_in s (value_of COOKIE 4 s))).bytes kept

-- ---- one chunk

-- what a row leaves: its step, of which the record counts for its head alone, and what then stands in all that is lent but the output
pub record RowLeft : Type 0 where
  pub step : Step
  pub held : List ℕ
  pub next : List ℕ
  pub places : List ℕ
  pub next_out : List ℕ
  pub kept : List ℕ
  pub area : List ℕ

module _ (h : Head) (held next places next_out kept area s : List ℕ) where
  -- no table changes
  abbrev pub head_left : Step → RowLeft
  head_left d = record { step = d; held = held; next = next; places = places; next_out = next_out; kept = kept; area = area }

  abbrev pub data_left : Step → RowLeft
  data_left d = record {
    step = d;
    held = held_by h held next s;
    next = next;
    places = places;
    next_out = next_out;
    kept = kept;
    area = area_by h held next area s;
  }

  abbrev pub places_left : List ℕ → Step → RowLeft
  places_left ws d = record { step = d; held = held; next = next; places = ws; next_out = next_out; kept = kept; area = area }

  abbrev pub ack_left : Step → RowLeft
  ack_left d = record {
    step = d;
    held = cleared_if (is_taken s) (held_word_count rail) held;
    next = cleared_if (is_taken s) rail.streams next;
    places = places;
    next_out = next_out;
    kept = kept_if (is_taken s) s kept;
    area = area;
  }

  abbrev pub echo_left : Echoed → Step → RowLeft
  echo_left e d = record {
    step = d;
    held = cleared_if (is_starting h.state h.ends e s) 512 held;
    next = cleared_if (is_starting h.state h.ends e s) 128 next;
    places = cleared_if (is_starting h.state h.ends e s) 1024 places;
    next_out = cleared_if (is_starting h.state h.ends e s) 128 next_out;
    kept = cleared_if (is_starting h.state h.ends e s) 256 kept;
    area = area;
  }

  -- what a row leaves, for the chunk at the head of s; `room` is what is left of the reply
  abbrev pub row_left : ℕ → Beside → List ℕ → Row → RowLeft
  row_left room b cookie Refused = head_left (refused (bare h) 7 NoCall)
  row_left room b cookie AnswerInit = head_left (answer_init (bare h) (offered (bare h) b.lent) cookie s)
  row_left room b cookie TakeInitAck = ack_left (take_init_ack room (bare h) s)
  row_left room b cookie ReadEcho = echo_left b.echoed (read_echo room (bare h) b.echoed b.source s)
  row_left room b cookie BecomeEstablished = head_left (accepted (with_state (bare h) Established) Up [])
  row_left room b cookie ReadData = data_left (read_data_by h held next s)
  row_left room b cookie ReadLateData = data_left (read_late_data_by h held next s)
  row_left room b cookie ReadSack = places_left (places_sacked h.sender places s) (read_sack_by h places s)
  row_left room b cookie ReadSackPending = places_left (places_sacked h.sender places s) (read_sack_pending_by h places s)
  row_left room b cookie ReadSackReceived = places_left (places_sacked h.sender places s) (read_sack_received_by h places s)
  row_left room b cookie EchoHeartbeat = head_left (echo_heartbeat (bare h) s)
  row_left room b cookie ClearTries = head_left (clear_tries (bare h))
  row_left room b cookie BecomeClosed = head_left (become_closed (bare h))
  row_left room b cookie PassError = head_left (accepted (bare h) NoEvent [])
  row_left room b cookie ReadError = head_left (read_error (bare h) s)
  row_left room b cookie ReadShutdown = places_left (places_shut h.sender places s) (read_shutdown_by h places s)
  row_left room b cookie CrossShutdown = places_left (places_shut h.sender places s) (answer_shutdown_by h places (ShutdownAckSent 0) s)
  row_left room b cookie RepeatShutdownAck = places_left (places_shut h.sender places s) (answer_shutdown_by h places h.state s)
  row_left room b cookie RepeatAck = head_left (repeat_ack (bare h) s)
  row_left room b cookie ReflectComplete = head_left (reflect_complete (bare h))
  row_left room b cookie SendComplete = head_left (send_complete (bare h))
  row_left room b cookie BecomeComplete = head_left (become_complete (bare h))
  row_left room b cookie (PassUnknown k) = head_left (pass_unknown (bare h) k)
  row_left room b cookie (TellUnknown k) = head_left (tell_unknown (bare h) k s)

  -- the reply of the row that the chunk meets
  abbrev pub reply_by : ℕ → Beside → List ℕ → List ℕ
  reply_by room b cookie = (row_left room b cookie (row_met (bare h) b s)).step.reply

-- the result and all that is lent: held chunks, next expected SSNs, places to send, next SSNs, the bytes of the cookie, the area, the output
pub record Rowed : Type 0 where
  pub stepped : Stepped
  pub held : List ℕ
  pub next : List ℕ
  pub places : List ℕ
  pub next_out : List ℕ
  pub kept : List ℕ
  pub area : List ℕ
  pub space : List ℕ

abbrev pub rowed_of : Stepped → List ℕ → List ℕ → List ℕ → List ℕ → List ℕ → List ℕ → List ℕ → Rowed
rowed_of d held next places next_out kept area space = record {
  stepped = d;
  held = held;
  next = next;
  places = places;
  next_out = next_out;
  kept = kept;
  area = area;
  space = space;
}

-- the same of what a row leaves, with its reply at the head of the output
abbrev pub rowed_by : List ℕ → RowLeft → Rowed
rowed_by space l =
    rowed_of (stepped_in space l.step) l.held l.next l.places l.next_out l.kept l.area (wrote_bytes space l.step.reply)

-- what becomes of the chunk at the head of s, beside a lent cookie: head, held chunks, next expected SSNs, places, next SSNs, kept cookie, area and output as they were
unfoldable pub rowed : Beside → List ℕ → List ℕ → Head → List ℕ → List ℕ → List ℕ → List ℕ → List ℕ → List ℕ → List ℕ → Rowed
rowed b cookie s h held next places next_out kept area space =
    rowed_by space (row_left h held next places next_out kept area s (length space) b cookie (row_met (bare h) b s))
