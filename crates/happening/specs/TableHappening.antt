-- "One thin entry updates a record": each event is the call of its name, over the record by value, which lends its own tables.
use Rattle.std.specs.Prelude.{ℕ, false, List, []}
use Rattle.states.specs.declared.call.Call.TheVariants.{HandIn as toHandIn, FirstTimer, SecondTimer, ThirdTimer}
use Rattle.calls.specs.declared.acknowledging.Acknowledged.{Acknowledged}
use Rattle.calls.specs.Answer.{Plan, answer_of, plan_out, barred, is_short_area}
use Rattle.calls.specs.Opening.{associating}
use Rattle.calls.specs.Messages.{take_bar}
use Rattle.calls.specs.Transmit.{transmit_bar}
use Rattle.calls.specs.Acknowledging.{acknowledged_call, acknowledged_out}
use Rattle.calls.specs.Timers.{expiring, sampling}
use Rattle.calls.specs.Closing.{shutting, aborting}
use Rattle.calls.specs.Telling.{telling_stale, beating}
use Rattle.flat.specs.declared.head.Head.{Head}
use Rattle.flat.specs.declared.head.Association.{Association}
use Rattle.flat.specs.Shown.{association_head, shows}
use Rattle.asks.specs.TableAnswer.{Reply}
use Rattle.asks.specs.TableOpening.{Tables, tables_after}
use Rattle.asks.specs.TableTimers.{Lapse, lapsed}
use Rattle.asks.specs.TableMessages.{Handover, handed_over, Delivery, delivered_from}
use Rattle.asks.specs.TableTransmit.{Dispatch, dispatched}
use Rattle.landing.specs.Landing.{After, landed}
use Rattle.events.specs.declared.event.Event.{Event}
use Rattle.events.specs.declared.event.Event.TheVariants.{Packet, Associate, HandIn, Transmit, Take, Acknowledge, T1, T2, T3, Shutdown, Abort, ErrorStream, ErrorStale, Heartbeat, Sample, Unknown}
use Rattle.events.specs.Happening.{unknown_number, telling_any, halves}
use Rattle.happening.specs.declared.told.Told.{Told}
use Rattle.happening.specs.declared.told.Ran.{Ran}
use Rattle.happening.specs.TableTold.{told_plainly, of_answered, told_of_answer, of_handed, told_of_transmitted, of_sack, told_of_delivered, of_landed}

-- what the host lends: its two areas, the packet or the message, a cookie, room for verdicts, an output
pub record TableBuffers : Type 0 where
  pub received : List ℕ
  pub sent : List ℕ
  pub verdicts : List ℕ
  pub input : List ℕ
  pub cookie : List ℕ
  pub out : List ℕ

abbrev pub lent_table_buffers : List ℕ → List ℕ → List ℕ → List ℕ → List ℕ → List ℕ → TableBuffers
lent_table_buffers received sent verdicts input cookie out = record { received = received; sent = sent; verdicts = verdicts; input = input; cookie = cookie; out = out }

-- what an event leaves: what is told, the record, and what stands in the areas, the verdicts and the output
pub record TablesLeft : Type 0 where
  pub ran : Ran
  pub received : List ℕ
  pub sent : List ℕ
  pub verdicts : List ℕ
  pub out : List ℕ

abbrev pub left_of : Ran → List ℕ → List ℕ → List ℕ → List ℕ → TablesLeft
left_of r received sent verdicts out = record { ran = r; received = received; sent = sent; verdicts = verdicts; out = out }

abbrev pub ran_of : Told → Association → Ran
ran_of t a = record { told = t; association = a }

-- all but the output stays
abbrev pub table_leaving : Ran → List ℕ → TableBuffers → TablesLeft
table_leaving r out b = left_of r b.received b.sent b.verdicts out

-- the record with another head, with other tables
abbrev pub with_head : Association → Head → Association
with_head a h = record { head = h; held = a.held; next_in = a.next_in; places = a.places; next_out = a.next_out; cookie = a.cookie }

abbrev pub with_place_words : Association → Head → List ℕ → List ℕ → Association
with_place_words a h places next = record { head = h; held = a.held; next_in = a.next_in; places = places; next_out = next; cookie = a.cookie }

abbrev pub with_held_words : Association → List ℕ → List ℕ → Association
with_held_words a held next = record { head = a.head; held = held; next_in = next; places = a.places; next_out = a.next_out; cookie = a.cookie }

abbrev pub with_tables : Head → Tables → Association
with_tables h t = record { head = h; held = t.held; next_in = t.next; places = t.places; next_out = t.next_out; cookie = t.kept }

abbrev pub tables_of : Association → Tables
tables_of a = record { held = a.held; next = a.next_in; places = a.places; next_out = a.next_out; kept = a.cookie }

-- what a call that changes no table tells and leaves
abbrev pub ran_with : Association → Reply → Ran
ran_with a r = ran_of (of_answered r) (with_head a r.head)

-- a call that goes as planned; the same with no output
abbrev pub table_planned : Association → Plan → TableBuffers → TablesLeft
table_planned a p b = table_leaving (ran_of (told_of_answer (answer_of p b.out)) (with_head a (association_head (answer_of p b.out).association))) (plan_out p b.out) b

abbrev pub keeping : Association → Plan → TableBuffers → TablesLeft
keeping a p b = table_leaving (ran_of (told_of_answer (answer_of p [])) (with_head a (association_head (answer_of p []).association))) b.out b

-- the calls that change tables
abbrev pub table_associates : Association → Plan → TableBuffers → TablesLeft
table_associates a p b =
    table_leaving (ran_of (told_of_answer (answer_of p b.out)) (with_tables (association_head (answer_of p b.out).association) (tables_after (answer_of p b.out).number (tables_of a)))) (plan_out p b.out) b

abbrev pub lapses : Association → Lapse → TableBuffers → TablesLeft
lapses a l b = table_leaving (ran_of (of_answered l.answer) (with_place_words a l.answer.head l.places a.next_out)) b.out b

abbrev pub hands : Association → Handover → TableBuffers → TablesLeft
hands a d b = left_of (ran_of (of_handed d.answer) (with_place_words a a.head d.places a.next_out)) b.received d.area b.verdicts b.out

abbrev pub dispatches : Association → Dispatch → TableBuffers → TablesLeft
dispatches a d b = table_leaving (ran_of (told_of_transmitted d.answer) (with_place_words a d.answer.head d.places d.next)) d.out b

abbrev pub delivers : Association → Delivery → TableBuffers → TablesLeft
delivers a d b = table_leaving (ran_of (told_of_delivered d.answer) (with_held_words a d.held d.next)) d.out b

abbrev pub table_acknowledges : Association → Acknowledged → List ℕ → TableBuffers → TablesLeft
table_acknowledges a k out b = table_leaving (ran_of (of_sack k.number k.length k.sack) (with_head a (association_head k.association))) out b

abbrev pub lands : After → TableBuffers → TablesLeft
lands x b =
    left_of (ran_of (of_landed x.landed) (with_tables x.landed.head (record { held = x.held; next = x.next; places = x.places; next_out = x.next_out; kept = x.kept })))
    x.area b.sent x.verdicts x.out

unfoldable pub table_happened : Association → Event → TableBuffers → TablesLeft
table_happened a (Packet l e) b = lands (landed b.input l b.cookie e a.head a.held a.next_in a.places a.next_out a.cookie b.received b.verdicts b.out) b
table_happened a (Associate tag tsn port streams) b = table_associates a (associating (shows a) tag tsn port streams b.out) b
table_happened a (HandIn stream unordered ppid) b = hands a (handed_over (barred (shows a) (is_short_area b.sent) toHandIn) a.head a.places b.sent b.input stream unordered ppid) b
table_happened a Transmit b = dispatches a (dispatched (transmit_bar (shows a) b.sent b.out) a.head a.places a.next_out b.sent b.out) b
table_happened a Take b = delivers a (delivered_from (take_bar (shows a) b.received) a.head a.held a.next_in b.received b.out) b
table_happened a Acknowledge b = table_acknowledges a (acknowledged_call (shows a) b.out) (acknowledged_out (shows a) b.out) b
table_happened a T1 b = table_planned a (expiring (shows a) FirstTimer b.out) b
table_happened a T2 b = table_planned a (expiring (shows a) SecondTimer b.out) b
table_happened a T3 b = lapses a (lapsed (barred (shows a) false ThirdTimer) a.head a.places) b
table_happened a Shutdown b = table_planned a (shutting (shows a) b.out) b
table_happened a (Abort why) b = table_planned a (aborting (shows a) why b.out) b
table_happened a (ErrorStream stream) b = table_planned a (telling_any (shows a) stream b.out) b
table_happened a (ErrorStale port tag late) b = table_planned a (telling_stale (shows a) port tag late b.out) b
table_happened a (Heartbeat x y) b = table_planned a (beating (shows a) (halves x y) b.out) b
table_happened a (Sample ms) b = keeping a (sampling (shows a) ms) b
table_happened a Unknown b = table_leaving (ran_of (told_plainly (unknown_number (shows a)) 0 false) a) b.out b
