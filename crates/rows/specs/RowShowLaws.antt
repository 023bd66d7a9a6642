-- What head and words show after a chunk is what `steps` says of the record that they showed. Assumes nothing.
use Rattle.std.specs.Prelude.{ℕ, ◌^◌, ◌<◌, ◌≡◌, List, [], eqb, length, replicate}
use Rattle.std.proofs.Math.Path.{refl, ap}
use Rattle.std.proofs.Common.{sym, ◌∙◌, arith}
use Rattle.std.proofs.Math.Bool.{Bool, true, false}
use borrow.Author.Tests.{eqb-false}
use Rattle.scans.specs.Scan.{pick}
use Rattle.scans.specs.Each.{All}
use Rattle.numbers.specs.declared.circle.Tsn.{Tsn}
use Rattle.numbers.specs.Numbering.{ring, circles}
use Rattle.numbers.specs.Profile.{rail}
use Rattle.path.specs.Sizes.{Sizes, sizes_of}
use Rattle.octets.specs.Writing.{wrote_bytes}
use Rattle.chunks.specs.declared.init.Init.{Init}
use Rattle.chunks.specs.declared.kind.Handling.{Handling}
use Rattle.chunks.specs.declared.kind.Handling.TheVariants.{Stop, StopAndReport, Skip, SkipAndReport}
use Rattle.chunks.specs.AgainLaws.{Octet}
use Rattle.chunks.specs.ReadLaws.{data-tsn, data-stream, data-ssn, data-ppid}
use Rattle.chunks.specs.Frame.{part_from, bytes_in}
use Rattle.chunks.specs.InitChunk.{init_of}
use Rattle.chunks.specs.ShutdownChunk.{point_of, shutdown_ack_bytes}
use Rattle.parameters.specs.Parameter.{value_of, is_there, COOKIE, NAME}
use Rattle.parameters.specs.Report.{init_ack_bytes}
use Rattle.parameters.specs.Stale.{stale_in}
use Rattle.holding.specs.Held.{as_held}
use Rattle.places.specs.declared.place.Place.{Place}
use Rattle.delivery.specs.declared.receiving.Receiving.{Receiving}
use Rattle.delivery.specs.declared.arrival.Arrival.{Arrival}
use Rattle.delivery.specs.Receiving.{fresh_receiving}
use Rattle.delivery.specs.ReceivingTableLaws.{fresh-receiving-is}
use Rattle.sending.specs.declared.sending.Sending.{Sending}
use Rattle.sending.specs.declared.acknowledging.Answer.{Answer}
use Rattle.sending.specs.Acknowledge.{judged_point, acknowledged_sending, shut_of, shutdown_point}
use Rattle.sending.specs.SendingLaws.{refused-sack}
use Rattle.sending.specs.SendingTableLaws.{bare-is, heard-is, shutdown-is}
use Rattle.tables.specs.PlaceWords.{places_of}
use Rattle.tables.specs.Ssns.{ssns_of}
use Rattle.reception.specs.Reception.{receiving_shown}
use Rattle.reception.specs.ReceptionLaws.{Fitting, words-arrived, fresh-receiving-shown}
use Rattle.sender.specs.Seen.{sending_shown, sender_head}
use Rattle.acks.specs.Acks.{Acked}
use Rattle.acks.specs.AcksLaws.{acked-shows, shut-shows}
use Rattle.states.specs.declared.state.State.{State}
use Rattle.states.specs.declared.state.State.TheVariants.{Closed, ShutdownReceived, ShutdownAckSent}
use Rattle.states.specs.declared.rows.Row.{Row}
use Rattle.states.specs.declared.rows.Row.TheVariants.{Refused, ReadData, ReadLateData, AnswerInit, TakeInitAck, ReadSack, ReadSackPending, ReadSackReceived, EchoHeartbeat, ClearTries, BecomeClosed, ReadShutdown, CrossShutdown, RepeatShutdownAck, RepeatAck, ReflectComplete, SendComplete, PassError, ReadError, ReadEcho, BecomeEstablished, BecomeComplete, PassUnknown, TellUnknown}
use Rattle.association.specs.declared.ends.Association.{Association}
use Rattle.association.specs.declared.ends.Cookie.{Cookie}
use Rattle.association.specs.Fresh.{with_state, with_receiving, with_sending}
use Rattle.steps.specs.declared.chunk.Beside.{Beside}
use Rattle.steps.specs.declared.lent.Lent.{Lent}
use Rattle.steps.specs.declared.lent.Made.{Made}
use Rattle.steps.specs.declared.meeting.Action.{Action}
use Rattle.steps.specs.declared.meeting.Action.TheVariants.{Restart, Retag, Late, Again, Outside}
use Rattle.steps.specs.declared.lent.Echoed.{Echoed}
use Rattle.steps.specs.declared.lent.Echoed.TheVariants.{Bad, Stale, Good}
use Rattle.steps.specs.declared.verdict.Event.TheVariants.{NoEvent, Down}
use Rattle.steps.specs.declared.verdict.Reason.TheVariants.{HostName, StaleCookie}
use Rattle.steps.specs.declared.verdict.Named.TheVariants.{NoCall}
use Rattle.steps.specs.declared.verdict.Done.{Done}
use Rattle.steps.specs.Verdict.{Step, done_in, accepted, answering, refused, quiet, leaving_unread}
use Rattle.steps.specs.Opening.{is_poor, is_cookie_odd, is_poor_lent, ack_of, name_refused, answer_init, echoing, echoed_back, take_init_ack, established, kept_cookie}
use Rattle.steps.specs.Meeting.{offered, repeat_ack, action_of, starts_anew, started_as, with_peer_tag, cookie_ack_bytes, stays, acts, read_echoed, read_echo}
use Rattle.steps.specs.Carrying.{data_arriving, payload_of, is_kept, arrival_in, arrival_of, told_data, data_read, late_data_read, read_data, read_late_data, shutdown_owed, shutdown_acked, heard_by, sack_call, sack_read, is_last, sack_read_then, read_sack, read_sack_pending, read_sack_received, echo_heartbeat, clear_tries}
use Rattle.steps.specs.Closing.{read_error, heard_shutdown, shutdown_taken, shutdown_answered, read_shutdown, answer_shutdown}
use Rattle.steps.specs.Unknown.{pass_unknown, tell_unknown}
use Rattle.steps.specs.Steps.{row_step, row_area, row_met, step_of, step_area}
use Rattle.flat.specs.declared.head.Head.{Head}
use Rattle.flat.specs.Shown.{shown, bare, association_head}
use Rattle.flat.specs.ShownLaws.{started-shows}
use Rattle.rows.specs.TableRows.{side, heard_data, held_heard, held_by, arrival_with, arrival_by, read_data_by, read_late_data_by, sack_to_sender, sack_heard, places_sacked, answer_with, read_sack_by, read_sack_pending_by, read_sack_received_by, heard_point, places_shut, read_shutdown_by, answer_shutdown_by, is_taken, echo_begins, is_starting, cleared_if, kept_if, RowLeft, row_left, Rowed, rowed}
use Rattle.rows.specs.TableRowsLaws.{Sized}

-- a step whose record is what its head shows with these tables
abbrev tabled : List ℕ → List ℕ → List ℕ → List ℕ → List ℕ → Step → Step
tabled ws ns ps ms cs d = record {
  association = shown (association_head d.association) ws ns ps ms cs;
  fate = d.fate;
  named = d.named;
  event = d.event;
  unread = d.unread;
  owed = d.owed;
  reply = d.reply;
}

abbrev shown_left : RowLeft → Step
shown_left l = tabled l.held l.next l.places l.next_out l.kept l.step

-- what was done, with the record that head and tables then show
abbrev pub done_shown : Rowed → Done
done_shown t = record {
  association = shown t.stepped.head t.held t.next t.places t.next_out t.kept;
  fate = t.stepped.fate;
  named = t.stepped.named;
  event = t.stepped.event;
  unread = t.stepped.unread;
  owed = t.stepped.owed;
  written = t.stepped.written;
}

-- of octets, the fields of a DATA are within their types
pub octets-fit : (s : List ℕ) → All Octet s → Fitting (as_held (data_arriving s) (length (payload_of s)))
unfolding data_arriving
octets-fit s w = record { tsn = data-tsn s w; stream = data-stream s w; ssn = data-ssn s w; ppid = data-ppid s w }

-- a SHUTDOWN's point that is refused leaves the sending side
refused-point : (z : Sizes) (q : Sending) (point : Tsn) → 0 < (shutdown_point z q point).number → (shutdown_point z q point).sending ≡ q
refused-point z q point h =
    ap (λ (o : Answer). o.sending) (shutdown-is z q point)
    ∙ go (eqb (judged_point q (shut_of q point)) 15) (rw (shutdown-is z q point) at h)
  where
    go : (t : Bool) → 0 < (let o : Answer = pick t (record { number = 0; sending = q }) (acknowledged_sending z q (shut_of q point)) in o.number)
        → (let o : Answer = pick t (record { number = 0; sending = q }) (acknowledged_sending z q (shut_of q point)) in o.sending) ≡ q
    go true k = refl
    go false k = refused-sack z q (shut_of q point) k

module _ (h : Head) (held next places next_out kept s : List ℕ) where
  abbrev now : Association
  now = shown h held next places next_out kept

  -- the tables stay
  abbrev lift : Step → Step
  lift d = tabled held next places next_out kept d

  -- ---- what opens

  answer-shows : (l : Lent) (cookie : List ℕ) → lift (answer_init (bare h) l cookie s) ≡ answer_init now l cookie s
  unfolding answer_init
  answer-shows l cookie = go (is_poor_lent l (length cookie)) (is_poor (init_of s)) (is_there NAME s)
    where
      go : (p q n : Bool)
          → lift (pick p (refused (bare h) 8 NoCall) (pick q (refused (bare h) 8 NoCall) (pick n (answering (bare h) NoEvent (init_of s).tag (name_refused s)) (answering (bare h) NoEvent (init_of s).tag (init_ack_bytes (ack_of l (init_of s)) cookie s)))))
          ≡ pick p (refused now 8 NoCall) (pick q (refused now 8 NoCall) (pick n (answering now NoEvent (init_of s).tag (name_refused s)) (answering now NoEvent (init_of s).tag (init_ack_bytes (ack_of l (init_of s)) cookie s))))
      go true q n = refl
      go false true n = refl
      go false false true = refl
      go false false false = refl

  -- the receiving side begins
  fresh-shows : (t : Tsn) → receiving_shown rail (fresh_receiving (ring (2 ^ 32)) rail t).keeping (replicate 512 0) (replicate 128 0) ≡ fresh_receiving (ring (2 ^ 32)) rail t
  fresh-shows t =
      ap (λ (r : Receiving). receiving_shown rail r.keeping (replicate 512 0) (replicate 128 0)) (fresh-receiving-is (ring (2 ^ 32)) rail t)
      ∙ fresh-receiving-shown (ring (2 ^ 32)) rail t 512 128

  echoing-shows : (v : Init) (c : Cookie) → shown (association_head (echoing (bare h) v c)) (replicate 512 0) (replicate 128 0) places next_out c.bytes ≡ echoing now v c
  unfolding echoing
  echoing-shows v c = ap (λ (r : Receiving). with_receiving (echoing now v c) r) (fresh-shows v.tsn)

  back-shows : (room : ℕ) (c : List ℕ) → tabled (replicate 512 0) (replicate 128 0) places next_out (kept_cookie c).bytes (echoed_back room (bare h) (init_of s) c s) ≡ echoed_back room now (init_of s) c s
  unfolding echoed_back
  back-shows room c = ap (λ (a : Association). accepted a NoEvent (echoed_back room now (init_of s) c s).reply) (echoing-shows (init_of s) (kept_cookie c))

  ack-shows : (room : ℕ) → tabled (cleared_if (is_taken s) 512 held) (cleared_if (is_taken s) 128 next) places next_out (kept_if (is_taken s) s kept) (take_init_ack room (bare h) s) ≡ take_init_ack room now s
  unfolding is_taken take_init_ack
  ack-shows room = go (is_poor (init_of s)) (is_cookie_odd (value_of COOKIE 4 s).len) (is_there NAME s)
    where
      go : (p q n : Bool)
          → (let t : Bool = pick p false (pick q false (pick n false true)) in
          tabled (cleared_if t 512 held) (cleared_if t 128 next) places next_out (kept_if t s kept)
          (pick p (refused (bare h) 8 NoCall) (pick q (refused (bare h) 8 NoCall) (pick n (answering (with_state (bare h) Closed) (Down HostName) (init_of s).tag (name_refused s)) (echoed_back room (bare h) (init_of s) (bytes_in s (value_of COOKIE 4 s)) s)))))
          ≡ pick p (refused now 8 NoCall) (pick q (refused now 8 NoCall) (pick n (answering (with_state now Closed) (Down HostName) (init_of s).tag (name_refused s)) (echoed_back room now (init_of s) (bytes_in s (value_of COOKIE 4 s)) s)))
      go true q n = refl
      go false true n = refl
      go false false true = refl
      go false false false = back-shows room (bytes_in s (value_of COOKIE 4 s))

  repeat-shows : lift (repeat_ack (bare h) s) ≡ repeat_ack now s
  unfolding repeat_ack
  repeat-shows = go (is_poor (init_of s))
    where
      go : (p : Bool) → lift (pick p (refused (bare h) 8 NoCall) (accepted (bare h) NoEvent shutdown_ack_bytes)) ≡ pick p (refused now 8 NoCall) (accepted now NoEvent shutdown_ack_bytes)
      go true = refl
      go false = refl

  stays-shows : (room : ℕ) (m : Made) (x : Action) → lift (stays room (bare h) m x) ≡ stays room now m x
  unfolding with_peer_tag
  stays-shows room m Restart = refl
  stays-shows room m Retag = refl
  stays-shows room m Again = refl
  stays-shows room m Late = refl
  stays-shows room m Outside = refl

  -- all tables are empty where it starts
  abbrev clearing : Bool → Step → Step
  clearing t d = tabled (cleared_if t 512 held) (cleared_if t 128 next) (cleared_if t 1024 places) (cleared_if t 128 next_out) (cleared_if t 256 kept) d

  acts-shows : (room source : ℕ) (m : Made) (x : Action) → clearing (starts_anew x h.state) (acts room (bare h) source m x) ≡ acts room now source m x
  unfolding acts established
  acts-shows room source m x = go (starts_anew x h.state)
    where
      go : (t : Bool)
          → clearing t (pick t (accepted (established (bare h) source m) (started_as x h.state) cookie_ack_bytes) (stays room (bare h) m x))
          ≡ pick t (accepted (established now source m) (started_as x h.state) cookie_ack_bytes) (stays room now m x)
      go true = ap (λ (a : Association). accepted a (started_as x h.state) cookie_ack_bytes) (started-shows _ _ m.my_tsn m.window _ h.sender.mode)
      go false = stays-shows room m x

  echo-shows : (room : ℕ) (e : Echoed) (source : ℕ) → clearing (is_starting h.state h.ends e s) (read_echo room (bare h) e source s) ≡ read_echo room now e source s
  unfolding is_starting read_echo
  echo-shows room e source = go (is_cookie_odd (part_from 4 s).len) e
    where
      go : (o : Bool) (e : Echoed)
          → clearing (pick o false (echo_begins h.state h.ends e)) (pick o (leaving_unread (refused (bare h) 8 NoCall)) (read_echoed room (bare h) source e))
          ≡ pick o (leaving_unread (refused now 8 NoCall)) (read_echoed room now source e)
      go true e = refl
      go false (Good m) = acts-shows room source m (action_of h.state h.ends m)
      go false (Stale m) = refl
      go false Bad = refl

  -- ---- DATA

  module _ (l : length held ≡ 512) (f : Fitting (as_held (data_arriving s) (length (payload_of s)))) where
    abbrev arrival : Arrival
    arrival = arrival_with (heard_data (side h held next) h.ends.streams_in s) (held_by h held next s) next

    arrived-so : arrival ≡ arrival_of now s
    unfolding heard_data held_heard arrival_in
    arrived-so =
        words-arrived circles rail h.keeping held next (as_held (data_arriving s) (length (payload_of s))) h.ends.streams_in (omega (arith, l)) (omega arith) f

    data-shows : tabled (held_by h held next s) next places next_out kept (read_data_by h held next s) ≡ read_data now s
    unfolding read_data_by read_data data_read
    data-shows = ap (λ (o : Arrival). quiet (with_receiving now o.receiving) (told_data o.verdict s)) arrived-so

    late-shows : tabled (held_by h held next s) next places next_out kept (read_late_data_by h held next s) ≡ read_late_data now s
    unfolding read_late_data_by read_late_data data_read
    late-shows = go (is_kept arrival.verdict) ∙ ap (λ (o : Arrival). late_data_read now s o) arrived-so
      where
        go : (t : Bool)
            → tabled (held_by h held next s) next places next_out kept (pick t (shutdown_owed (with_receiving (bare h) (arrival_by h held next s).receiving)) (data_read (bare h) s (arrival_by h held next s)))
            ≡ pick t (shutdown_owed (with_receiving now arrival.receiving)) (data_read now s arrival)
        go true = refl
        go false = refl

  -- ---- SACK and SHUTDOWN

  -- the next SSNs have no part in whether anything is left
  last-so : (o : Acked) (ws : List ℕ) → is_last (answer_with o ws []) ≡ is_last (answer_with o ws next_out)
  last-so o ws =
      ap (λ (t : Bool). pick (eqb o.number 0) t false)
      (bare-is (sending_shown rail o.head ws []) ∙ sym (bare-is (sending_shown rail o.head ws next_out)))

  module _ (o : Acked) (ws : List ℕ) where
    -- the record goes on with the words that the answer leaves
    abbrev on : Step → Step
    on d = tabled held next ws next_out kept d

    then-shows : (last : Association → Step) → on (last (with_sending (bare h) (answer_with o ws []).sending)) ≡ last (with_sending now (answer_with o ws next_out).sending)
        → on (sack_read_then last (bare h) (answer_with o ws [])) ≡ sack_read_then last now (answer_with o ws next_out)
    then-shows last e =
        ap (λ (t : Bool). on (pick t (last (with_sending (bare h) (answer_with o ws []).sending)) (sack_read (bare h) (answer_with o ws [])))) (last-so o ws)
        ∙ go (is_last (answer_with o ws next_out))
      where
        go : (t : Bool) → on (pick t (last (with_sending (bare h) (answer_with o ws []).sending)) (sack_read (bare h) (answer_with o ws [])))
            ≡ pick t (last (with_sending now (answer_with o ws next_out).sending)) (sack_read now (answer_with o ws next_out))
        go true = e
        go false = refl

    -- what is refused leaves the places
    module _ (stay : eqb o.number 0 ≡ false → places_of rail ws ≡ places_of rail places) where
      refused-shows : eqb o.number 0 ≡ false → on (refused (bare h) o.number (sack_call o.number)) ≡ refused now o.number (sack_call o.number)
      refused-shows e =
          ap (λ (ps : List Place). refused (with_sending now (record {
            acked = h.sender.acked;
            next_tsn = h.sender.next_tsn;
            advertised = h.sender.advertised;
            oldest = h.sender.oldest;
            places = ps;
            next = ssns_of rail next_out;
            path = h.sender.path;
            mode = h.sender.mode;
          })) o.number (sack_call o.number)) (stay e)

      taken-shows : on (shutdown_taken (bare h) (answer_with o ws [])) ≡ shutdown_taken now (answer_with o ws next_out)
      taken-shows =
          ap (λ (t : Bool). on (pick t (shutdown_acked (with_sending (bare h) (answer_with o ws []).sending) (ShutdownAckSent 0)) (rest (bare h) (answer_with o ws []) (eqb o.number 0)))) (last-so o ws)
          ∙ go (is_last (answer_with o ws next_out)) (eqb o.number 0) refl
        where
          rest : Association → Answer → Bool → Step
          rest a x u = pick u (accepted (with_state (with_sending a x.sending) ShutdownReceived) NoEvent []) (refused a x.number (sack_call x.number))

          go : (t u : Bool) → eqb o.number 0 ≡ u
              → on (pick t (shutdown_acked (with_sending (bare h) (answer_with o ws []).sending) (ShutdownAckSent 0)) (rest (bare h) (answer_with o ws []) u))
              ≡ pick t (shutdown_acked (with_sending now (answer_with o ws next_out).sending) (ShutdownAckSent 0)) (rest now (answer_with o ws next_out) u)
          go true u e = refl
          go false true e = refl
          go false false e = refused-shows e

      answered-shows : (state : State) → on (shutdown_answered (bare h) state (answer_with o ws [])) ≡ shutdown_answered now state (answer_with o ws next_out)
      answered-shows state = go (eqb o.number 0) refl
        where
          go : (u : Bool) → eqb o.number 0 ≡ u
              → on (pick u (shutdown_acked (with_sending (bare h) (answer_with o ws []).sending) state) (refused (bare h) o.number (sack_call o.number)))
              ≡ pick u (shutdown_acked (with_sending now (answer_with o ws next_out).sending) state) (refused now o.number (sack_call o.number))
          go true e = refl
          go false e = refused-shows e

  module _ (l : length places ≡ 1024) where
    sacked-so : answer_with (sack_heard h.sender places s) (places_sacked h.sender places s) next_out ≡ heard_by now.sending s
    unfolding sack_heard places_sacked heard_by
    sacked-so = acked-shows (sizes_of h.sender.mode) rail h.sender places next_out (omega (arith, l)) (sack_to_sender s)

    sack-shows : tabled held next (places_sacked h.sender places s) next_out kept (read_sack_by h places s) ≡ read_sack now s
    unfolding read_sack_by read_sack
    sack-shows = ap (λ (o : Answer). sack_read now o) sacked-so

    pending-shows : tabled held next (places_sacked h.sender places s) next_out kept (read_sack_pending_by h places s) ≡ read_sack_pending now s
    unfolding read_sack_pending_by read_sack_pending
    pending-shows =
        then-shows (sack_heard h.sender places s) (places_sacked h.sender places s) shutdown_owed refl
        ∙ ap (λ (o : Answer). sack_read_then shutdown_owed now o) sacked-so

    received-shows : tabled held next (places_sacked h.sender places s) next_out kept (read_sack_received_by h places s) ≡ read_sack_received now s
    unfolding read_sack_received_by read_sack_received
    received-shows =
        then-shows (sack_heard h.sender places s) (places_sacked h.sender places s) (λ (q : Association). shutdown_acked q (ShutdownAckSent 0)) refl
        ∙ ap (λ (o : Answer). sack_read_then (λ (q : Association). shutdown_acked q (ShutdownAckSent 0)) now o) sacked-so

    point-so : answer_with (heard_point h.sender places s) (places_shut h.sender places s) next_out ≡ heard_shutdown now s
    unfolding heard_point places_shut heard_shutdown
    point-so = shut-shows (sizes_of h.sender.mode) rail h.sender places next_out (omega (arith, l)) (point_of s)

    point-stays : eqb (heard_point h.sender places s).number 0 ≡ false → places_of rail (places_shut h.sender places s) ≡ places_of rail places
    unfolding heard_shutdown
    point-stays e =
        let n : (heard_point h.sender places s).number ≡ (shutdown_point (sizes_of h.sender.mode) now.sending (point_of s)).number = ap (λ (o : Answer). o.number) point-so in
        ap (λ (o : Answer). o.sending.places) point-so
        ∙ ap (λ (q : Sending). q.places) (refused-point (sizes_of h.sender.mode) now.sending (point_of s) (omega (arith, n, eqb-false (heard_point h.sender places s).number 0 e)))

    shutdown-shows : tabled held next (places_shut h.sender places s) next_out kept (read_shutdown_by h places s) ≡ read_shutdown now s
    unfolding read_shutdown_by read_shutdown
    shutdown-shows =
        taken-shows (heard_point h.sender places s) (places_shut h.sender places s) point-stays
        ∙ ap (λ (o : Answer). shutdown_taken now o) point-so

    answer-shutdown-shows : (state : State) → tabled held next (places_shut h.sender places s) next_out kept (answer_shutdown_by h places state s) ≡ answer_shutdown now state s
    unfolding answer_shutdown_by answer_shutdown
    answer-shutdown-shows state =
        answered-shows (heard_point h.sender places s) (places_shut h.sender places s) point-stays state
        ∙ ap (λ (o : Answer). shutdown_answered now state o) point-so

  -- ---- the head alone

  heartbeat-shows : lift (echo_heartbeat (bare h) s) ≡ echo_heartbeat now s
  unfolding echo_heartbeat
  heartbeat-shows = refl

  clear-shows : lift (clear_tries (bare h)) ≡ clear_tries now
  unfolding clear_tries
  clear-shows =
      ap (λ (q : Sending). accepted (with_sending now (sending_shown rail (sender_head q) places next_out)) NoEvent []) (heard-is (bare h).sending)
      ∙ ap (λ (q : Sending). accepted (with_sending now q) NoEvent []) (sym (heard-is now.sending))

  error-shows : lift (read_error (bare h) s) ≡ read_error now s
  unfolding read_error
  error-shows = go (stale_in s)
    where
      go : (t : Bool) → lift (pick t (accepted (with_state (bare h) Closed) (Down StaleCookie) []) (accepted (bare h) NoEvent []))
          ≡ pick t (accepted (with_state now Closed) (Down StaleCookie) []) (accepted now NoEvent [])
      go true = refl
      go false = refl

  pass-shows : (k : Handling) → lift (pass_unknown (bare h) k) ≡ pass_unknown now k
  pass-shows Stop = refl
  pass-shows StopAndReport = refl
  pass-shows Skip = refl
  pass-shows SkipAndReport = refl

  tell-shows : (k : Handling) → lift (tell_unknown (bare h) k s) ≡ tell_unknown now k s
  tell-shows Stop = refl
  tell-shows StopAndReport = refl
  tell-shows Skip = refl
  tell-shows SkipAndReport = refl

  -- ---- one chunk: tables of the right length, and a DATA's fields within their types

  module _ (w : Sized held next places next_out kept) (f : Fitting (as_held (data_arriving s) (length (payload_of s)))) (area : List ℕ) (b : Beside) (cookie : List ℕ) where
    row_shows : (room : ℕ) (r : Row)
        → (let l : RowLeft = row_left h held next places next_out kept area s room b cookie r in
        (shown_left l ≡ row_step room now b cookie s r) × (l.area ≡ row_area now area s r))
    row_shows room Refused = (refl, refl)
    row_shows room AnswerInit = (answer-shows (offered (bare h) b.lent) cookie, refl)
    row_shows room TakeInitAck = (ack-shows room, refl)
    row_shows room ReadEcho = (echo-shows room b.echoed b.source, refl)
    row_shows room BecomeEstablished = (refl, refl)
    row_shows room ReadData = (data-shows w.held f, refl)
    row_shows room ReadLateData = (late-shows w.held f, refl)
    row_shows room ReadSack = (sack-shows w.places, refl)
    row_shows room ReadSackPending = (pending-shows w.places, refl)
    row_shows room ReadSackReceived = (received-shows w.places, refl)
    row_shows room EchoHeartbeat = (heartbeat-shows, refl)
    row_shows room ClearTries = (clear-shows, refl)
    row_shows room BecomeClosed = (refl, refl)
    row_shows room PassError = (refl, refl)
    row_shows room ReadError = (error-shows, refl)
    row_shows room ReadShutdown = (shutdown-shows w.places, refl)
    row_shows room CrossShutdown = (answer-shutdown-shows w.places (ShutdownAckSent 0), refl)
    row_shows room RepeatShutdownAck = (answer-shutdown-shows w.places h.state, refl)
    row_shows room RepeatAck = (repeat-shows, refl)
    row_shows room ReflectComplete = (refl, refl)
    row_shows room SendComplete = (refl, refl)
    row_shows room BecomeComplete = (refl, refl)
    row_shows room (PassUnknown k) = (pass-shows k, refl)
    row_shows room (TellUnknown k) = (tell-shows k, refl)

    pub rows-show : (space : List ℕ)
        → (let t : Rowed = rowed b cookie s h held next places next_out kept area space in
        (done_shown t ≡ done_in space (step_of (length space) now b cookie s))
        × (t.area ≡ step_area now b area s)
        × (t.space ≡ wrote_bytes space (step_of (length space) now b cookie s).reply))
    unfolding rowed step_of step_area
    rows-show space =
        let t = row_shows (length space) (row_met now b s) in
        (ap (λ (d : Step). done_in space d) t.0, t.1, ap (λ (d : Step). wrote_bytes space d.reply) t.0)
