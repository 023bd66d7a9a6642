-- An event over tables is the event of the definition, of the record that they show. Assumes nothing.
use Rattle.std.specs.Prelude.{ℕ, suc, ◌*◌, ◌<◌, ◌≡◌, List, [], ◌∷◌, ◌++◌, ltb, length, get_or, drop, replicate}
use Rattle.std.proofs.Math.Path.{refl, ap}
use Rattle.std.proofs.Common.{sym, subst, ◌∙◌, take-append-drop}
use Rattle.std.proofs.Math.Bool.{false}
use Rattle.std.proofs.lemmas.List.{length-replicate}
use Rattle.scans.specs.Upto.{pick-keeps}
use Rattle.scans.specs.Each.{All}
use Rattle.chunks.specs.AgainLaws.{Octet}
use Rattle.states.specs.declared.call.Call.TheVariants.{FirstTimer, SecondTimer}
use Rattle.steps.specs.declared.lent.Lent.{Lent}
use Rattle.steps.specs.declared.lent.Echoed.{Echoed}
use Rattle.arriving.specs.Arrival.{arrived_of, packet_area, packet_out}
use Rattle.rows.specs.TableRowsLaws.{Sized}
use Rattle.calls.specs.declared.answer.Answer.{Answer}
use Rattle.calls.specs.declared.messages.HandedIn.{HandedIn}
use Rattle.calls.specs.declared.messages.Delivered.{Delivered}
use Rattle.calls.specs.declared.transmitting.Transmitted.{Transmitted}
use Rattle.calls.specs.Answer.{Plan}
use Rattle.calls.specs.Messages.{no_message}
use Rattle.calls.specs.Acknowledging.{no_sack}
use Rattle.calls.specs.Timers.{expiring, sampling}
use Rattle.calls.specs.Closing.{shutting, aborting}
use Rattle.calls.specs.Telling.{telling_stale, beating}
use Rattle.flat.specs.declared.head.Association.{Association}
use Rattle.flat.specs.Shown.{shown, shows}
use Rattle.asks.specs.BesideLaws.{TablesBeside, answer-beside, expiry-beside, sample-beside, shutdown-beside, abort-beside, stream-beside, stale-beside, heartbeat-beside, sack-beside, opening-beside}
use Rattle.asks.specs.TableMessagesLaws.{handover-shows, area-handed, delivery-shows, out-delivered}
use Rattle.asks.specs.TableTimersLaws.{lapsed-shows}
use Rattle.asks.specs.TableTransmitLaws.{dispatch-shows, out-dispatched}
use Rattle.landing.specs.Verdicts.{all_verdict_words, verdicts_of}
use Rattle.landing.specs.VerdictsLaws.{VerdictSmall, words_back}
use Rattle.landing.specs.Landing.{After, landed}
use Rattle.landing.specs.LandingShowLaws.{LandingShows, arrived-shows, landed-any}
use Rattle.events.specs.declared.event.Event.{Event}
use Rattle.events.specs.declared.event.Event.TheVariants.{Packet, Associate, HandIn, Transmit, Take, Acknowledge, T1, T2, T3, Shutdown, Abort, ErrorStream, ErrorStale, Heartbeat, Sample, Unknown}
use Rattle.events.specs.Happening.{EventLeft, planned, planned_quietly, telling_any, happened, halves}
use Rattle.happening.specs.TableTold.{no_data_went, telling_count, told_plainly, told_of_answer, of_landed}
use Rattle.happening.specs.TableHappening.{TableBuffers, TablesLeft, tables_of, table_planned, keeping, table_happened}
use Rattle.happening.specs.EventShown.{buffers_shown, verdicts_in, EventShows, EventTyped}

all-octets : (s : List ℕ) → ((i : ℕ) → get_or s i 0 < 256) → All Octet s
all-octets [] h = tt
all-octets (x ∷ s) h = (h 0, all-octets s (λ i. h (suc i)))

module _ (a : Association) (b : TableBuffers) where
  abbrev Showing : TablesLeft → EventLeft → Type 0
  Showing l d = EventShows b.verdicts l d

  -- a call that changes no table
  planned-shows : (p : Plan) → TablesBeside (tables_of a) p → Showing (table_planned a p b) (planned p (buffers_shown b))
  planned-shows p w = record {
    told = refl;
    association = answer-beside (tables_of a) p b.out w;
    received = refl;
    sent = refl;
    out = refl;
    verdicts = λ w. refl;
    rest = λ w. refl;
  }

  keeping-shows : (p : Plan) → TablesBeside (tables_of a) p → Showing (keeping a p b) (planned_quietly p (buffers_shown b))
  keeping-shows p w = record {
    told = refl;
    association = answer-beside (tables_of a) p [] w;
    received = refl;
    sent = refl;
    out = refl;
    verdicts = λ w. refl;
    rest = λ w. refl;
  }

  any-beside : (stream : ℕ) → TablesBeside (tables_of a) (telling_any (shows a) stream b.out)
  unfolding telling_any
  any-beside stream =
      pick-keeps (TablesBeside (tables_of a)) (ltb stream 65536) _ _ (stream-beside a.head a.held a.next_in a.places a.next_out a.cookie (record { 0 = stream }) b.out) refl

  -- a packet, with words lent for its verdicts
  arriving : (l : Lent) (e : Echoed) (words : List ℕ) → Sized a.held a.next_in a.places a.next_out a.cookie → ((i : ℕ) → get_or b.input i 0 < 256) → length words ≡ 1460
      → LandingShows (landed b.input l b.cookie e a.head a.held a.next_in a.places a.next_out a.cookie b.received words b.out)
      (arrived_of (shows a) b.received b.input l b.cookie e b.out) (packet_area (shows a) b.received b.input l b.cookie e b.out) (packet_out (shows a) b.received b.input l b.cookie e b.out) words
  arriving l e words z o m =
      arrived-shows b.input (all-octets b.input o) l b.cookie e a.head a.held a.next_in a.places a.next_out a.cookie b.received words b.out z m

  pub happened-shows : (e : Event) → EventTyped a b e → Showing (table_happened a e b) (happened (shows a) e (buffers_shown b))
  unfolding table_happened happened
  happened-shows (Packet l e) t =
      let w = arriving l e (replicate 1460 0) t.0 t.1 (length-replicate {A = ℕ} 1460 0) in
      let q = landed-any b.input l b.cookie e a.head a.held a.next_in a.places a.next_out a.cookie b.received b.out b.verdicts (replicate 1460 0) in
      record {
        told = ap (λ (x : After). of_landed x.landed) q ∙ (λ i. telling_count (w.number i) (w.reply i) false no_data_went no_sack (no_message 0) (w.count i));
        association = ap (λ (x : After). shown x.landed.head x.held x.next x.places x.next_out x.kept) q ∙ w.association;
        received = ap (λ (x : After). x.area) q ∙ w.area;
        sent = refl;
        out = ap (λ (x : After). x.out) q ∙ w.out;
        verdicts = λ m. (arriving l e b.verdicts t.0 t.1 m).told;
        rest = λ m. (arriving l e b.verdicts t.0 t.1 m).rest;
      }
  happened-shows (Associate tag tsn port streams) t = record {
    told = refl;
    association = opening-beside a.head a.held a.next_in a.places a.next_out a.cookie tag tsn port streams b.out;
    received = refl;
    sent = refl;
    out = refl;
    verdicts = λ w. refl;
    rest = λ w. refl;
  }
  happened-shows (HandIn stream unordered ppid) t =
      let w = handover-shows a.head a.held a.next_in a.places a.next_out a.cookie b.sent b.input stream unordered ppid t.0 t.1 t.2 in
      record {
        told = ap (λ (x : HandedIn). told_plainly x.number x.chunks false) w;
        association = ap (λ (x : HandedIn). x.association) w;
        received = refl;
        sent = area-handed a.head a.held a.next_in a.places a.next_out a.cookie b.sent b.input stream unordered ppid;
        out = refl;
        verdicts = λ w. refl;
        rest = λ w. refl;
      }
  happened-shows Transmit t =
      let w = dispatch-shows a.head a.held a.next_in a.places a.next_out a.cookie b.sent b.out t.0 t.1 t.2 in
      record {
        told = ap (λ (x : Transmitted). telling_count x.number x.length false (record { resent = x.resent; first = x.first; last = x.last }) no_sack (no_message 0) 0) w;
        association = ap (λ (x : Transmitted). x.association) w;
        received = refl;
        sent = refl;
        out = out-dispatched a.head a.held a.next_in a.places a.next_out a.cookie b.sent b.out t.0 t.1 t.2;
        verdicts = λ w. refl;
        rest = λ w. refl;
      }
  happened-shows Take t =
      let w = delivery-shows a.head a.held a.next_in a.places a.next_out a.cookie b.received b.out t.0 t.1 in
      record {
        told = ap (λ (x : Delivered). telling_count x.number x.message.length false no_data_went no_sack x.message 0) w;
        association = ap (λ (x : Delivered). x.association) w;
        received = refl;
        sent = refl;
        out = out-delivered a.head a.held a.next_in a.places a.next_out a.cookie b.received b.out;
        verdicts = λ w. refl;
        rest = λ w. refl;
      }
  happened-shows Acknowledge t = record {
    told = refl;
    association = sack-beside a.head a.held a.next_in a.places a.next_out a.cookie b.out;
    received = refl;
    sent = refl;
    out = refl;
    verdicts = λ w. refl;
    rest = λ w. refl;
  }
  happened-shows T1 t = planned-shows (expiring (shows a) FirstTimer b.out) (expiry-beside a.head a.held a.next_in a.places a.next_out a.cookie FirstTimer b.out)
  happened-shows T2 t = planned-shows (expiring (shows a) SecondTimer b.out) (expiry-beside a.head a.held a.next_in a.places a.next_out a.cookie SecondTimer b.out)
  happened-shows T3 t =
      let w = lapsed-shows a.head a.held a.next_in a.places a.next_out a.cookie t in
      record {
        told = ap (λ (x : Answer). told_of_answer x) w.answer;
        association = ap (λ (x : Answer). x.association) w.answer;
        received = refl;
        sent = refl;
        out = refl;
        verdicts = λ w. refl;
        rest = λ w. refl;
      }
  happened-shows Shutdown t = planned-shows (shutting (shows a) b.out) (shutdown-beside a.head a.held a.next_in a.places a.next_out a.cookie b.out)
  happened-shows (Abort why) t = planned-shows (aborting (shows a) why b.out) (abort-beside a.head a.held a.next_in a.places a.next_out a.cookie why b.out)
  happened-shows (ErrorStream stream) t = planned-shows (telling_any (shows a) stream b.out) (any-beside stream)
  happened-shows (ErrorStale port tag late) t =
      planned-shows (telling_stale (shows a) port tag late b.out) (stale-beside a.head a.held a.next_in a.places a.next_out a.cookie port tag late b.out)
  happened-shows (Heartbeat x y) t =
      planned-shows (beating (shows a) (halves x y) b.out) (heartbeat-beside a.head a.held a.next_in a.places a.next_out a.cookie (halves x y) b.out)
  happened-shows (Sample ms) t = keeping-shows (sampling (shows a) ms) (sample-beside a.head a.held a.next_in a.places a.next_out a.cookie ms)
  happened-shows Unknown t = record {
    told = refl;
    association = refl;
    received = refl;
    sent = refl;
    out = refl;
    verdicts = λ w. refl;
    rest = λ w. refl;
  }

  -- what leaves what it should shows what it should
  pub left-shows : (e : Event) {l : TablesLeft} → l ≡ table_happened a e b → EventTyped a b e → (l ≡ table_happened a e b) × Showing l (happened (shows a) e (buffers_shown b))
  left-shows e {l} p t = (p, subst (λ (x : TablesLeft). Showing x (happened (shows a) e (buffers_shown b))) (sym p) (happened-shows e t))

-- read back, the words are the verdicts, where each is within its words: a packet that is let in has at most 1,472 bytes, a number is that of a `Fate` (a `u8`), and
-- what happened is at most 5
pub verdicts-read : {words : List ℕ} {l : TablesLeft} {d : EventLeft} → EventShows words l d → length words ≡ 1460 → All VerdictSmall (verdicts_in d) → verdicts_of (length (verdicts_in d)) l.verdicts ≡ verdicts_in d
verdicts-read {words} {l} {d} w m s =
    let n : ℕ = 4 * d.ran.told.seen.count in
    let e : l.verdicts ≡ all_verdict_words (verdicts_in d) ++ drop n l.verdicts = sym (take-append-drop n l.verdicts) ∙ ap (λ (x : List ℕ). x ++ drop n l.verdicts) (w.verdicts m) in
    ap (λ (x : List ℕ). verdicts_of (length (verdicts_in d)) x) e ∙ words_back (verdicts_in d) (drop n l.verdicts) s
