-- An INIT and a COOKIE ECHO where there may be an association already (RFC 9260 sections 5.2.1, 5.2.2 and 5.2.4).
use Rattle.std.specs.Prelude.{ℕ, Bool, true, false, List, [], eqb}
use Rattle.scans.specs.Scan.{pick}
use Rattle.numbers.specs.declared.circle.Tsn.{Tsn}
use Rattle.octets.specs.Writing.{both_fitting}
use Rattle.chunks.specs.Types.{cookie_ack_type, error_type, cookie_shutting_code}
use Rattle.chunks.specs.Frame.{framed, part_from}
use Rattle.chunks.specs.Cause.{caused}
use Rattle.chunks.specs.InitChunk.{init_of}
use Rattle.chunks.specs.ShutdownChunk.{shutdown_ack_bytes}
use Rattle.states.specs.declared.state.State.{State}
use Rattle.states.specs.ByState.{by}
use Rattle.states.specs.Calls.{knows_peer}
use Rattle.states.specs.Tries.{is_closed}
use Rattle.association.specs.declared.ends.Ends.{Ends}
use Rattle.association.specs.declared.ends.Association.{Association}
use Rattle.steps.specs.declared.lent.Lent.{Lent}
use Rattle.steps.specs.declared.lent.Made.{Made}
use Rattle.steps.specs.declared.lent.Echoed.{Echoed}
use Rattle.steps.specs.declared.lent.Echoed.TheVariants.{Bad, Stale, Good}
use Rattle.steps.specs.declared.meeting.Action.{Action}
use Rattle.steps.specs.declared.meeting.Action.TheVariants.{Restart, Retag, Late, Again, Outside}
use Rattle.steps.specs.declared.verdict.Event.{Event}
use Rattle.steps.specs.declared.verdict.Event.TheVariants.{NoEvent, Up, Restarted, Retagged}
use Rattle.steps.specs.declared.verdict.Named.TheVariants.{NoCall, ErrorStale}
use Rattle.steps.specs.Opening.{is_poor, is_cookie_odd, established}
use Rattle.steps.specs.Verdict.{Step, accepted, refused, leaving_unread}

-- ---- INIT

-- what our own INIT said, its tag unchanged; the next TSN is the first, since nothing was sent yet (section 5.2.1)
abbrev pub as_sent : Ends → Tsn → Lent
as_sent e next = record { tag = e.my_tag; tsn = next; streams = e.streams_out; options = e.options }

-- a new tag and a new TSN, and the rest as the association has it (section 5.2.2)
abbrev pub as_new : Ends → Lent → Lent
as_new e l = record { tag = l.tag; tsn = l.tsn; streams = e.streams_out; options = e.options }

-- what our INIT ACK says of us; in CLOSED what the host lends
abbrev pub offer : State → Ends → Tsn → Lent → Lent
offer s e next l = by l (as_sent e next) (as_sent e next) (as_new e l) (as_new e l) (as_new e l) (as_new e l) (as_new e l) s

abbrev pub offered : Association → Lent → Lent
offered a l = offer a.state a.ends a.sending.next_tsn l

-- an INIT in SHUTDOWN-ACK-SENT is answered by the SHUTDOWN ACK again (section 9.2)
unfoldable pub repeat_ack : Association → List ℕ → Step
repeat_ack a s = pick (is_poor (init_of s)) (refused a 8 NoCall) (accepted a NoEvent shutdown_ack_bytes)

-- ---- COOKIE ECHO

-- a tie of 0 is none, and matches no tag
abbrev pub is_tie : ℕ → ℕ → Bool
is_tie tag tie = pick (eqb tie 0) false (eqb tie tag)

abbrev pub is_tied : Ends → Made → Bool
is_tied e m = pick (is_tie e.my_tag m.my_tie) (is_tie e.peer_tag m.peer_tie) false

abbrev pub is_untied : Made → Bool
is_untied m = pick (eqb m.my_tie 0) (eqb m.peer_tie 0) false

-- table 12 of section 5.2.4, as nested tests; the law `table-12` reads it as the rows. The peer's tag counts for nothing where it is not known
unfoldable pub action_of : State → Ends → Made → Action
action_of s e m =
    pick (eqb m.my_tag e.my_tag)
    (pick (knows_peer s) (pick (eqb m.peer_tag e.peer_tag) Again Retag) Retag)
    (pick (knows_peer s) (pick (eqb m.peer_tag e.peer_tag) (pick (is_untied m) Late Outside) (pick (is_tied e m) Restart Outside)) Outside)

-- "a good echo starts from a fresh record only where it restarts (A) or enters ESTABLISHED" (02, T-08), in the order of the states. In CLOSED there is no
-- association, so every good echo starts one (section 5.1.5); in SHUTDOWN-ACK-SENT a restart is refused (5.2.4 A); B and D enter ESTABLISHED only from
-- where an association is being opened, and revive nothing that the host has closed
abbrev pub starts_anew : Action → State → Bool
starts_anew Restart = by true true true true true true true false
starts_anew Retag = by true true true false false false false false
starts_anew Again = by true true true false false false false false
starts_anew Late = by true false false false false false false false
starts_anew Outside = by true false false false false false false false

-- "the delivery of a restart notice" (02, T-08)
abbrev pub started_as : Action → State → Event
started_as Restart s = pick (is_closed s) Up Restarted
started_as Retag s = Up
started_as Again s = Up
started_as Late s = Up
started_as Outside s = Up

-- the peer's tag alone changes
unfoldable pub with_peer_tag : Association → ℕ → Association
with_peer_tag a tag = record {
  state = a.state;
  ends = record {
    local_port = a.ends.local_port;
    peer_port = a.ends.peer_port;
    my_tag = a.ends.my_tag;
    peer_tag = tag;
    streams_in = a.ends.streams_in;
    streams_out = a.ends.streams_out;
    options = a.ends.options;
  };
  cookie = a.cookie;
  receiving = a.receiving;
  sending = a.sending;
}

abbrev pub cookie_ack_bytes : List ℕ
cookie_ack_bytes = framed cookie_ack_type 0 []

-- ERROR with cause 10, "Cookie Received While Shutting Down" (section 3.3.10.10)
abbrev pub shutting_bytes : List ℕ
shutting_bytes = framed error_type 0 (caused cookie_shutting_code [])

-- where it does not start: what was received stays. What is not acted on leaves the rest of the packet unread, whose tag is not ours; "a case outside A to D
-- keeps 7" (02, T-08)
abbrev pub stays : ℕ → Association → Made → Action → Step
stays room a m Restart = leaving_unread (accepted a NoEvent (both_fitting room shutdown_ack_bytes shutting_bytes))
stays room a m Retag = accepted (with_peer_tag a m.peer_tag) Retagged cookie_ack_bytes
stays room a m Again = accepted a NoEvent cookie_ack_bytes
stays room a m Late = leaving_unread (accepted a NoEvent [])
stays room a m Outside = leaving_unread (refused a 7 NoCall)

unfoldable pub acts : ℕ → Association → ℕ → Made → Action → Step
acts room a source m x =
    pick (starts_anew x a.state) (accepted (established a source m) (started_as x a.state) cookie_ack_bytes) (stays room a m x)

-- 27: "echoed cookie bad or stale"
abbrev pub read_echoed : ℕ → Association → ℕ → Echoed → Step
read_echoed room a source (Good m) = acts room a source m (action_of a.state a.ends m)
read_echoed room a source (Stale m) = leaving_unread (refused a 27 ErrorStale)
read_echoed room a source Bad = leaving_unread (refused a 27 NoCall)

-- a COOKIE ECHO, first in its packet; refused, it leaves the rest of the packet unread
unfoldable pub read_echo : ℕ → Association → Echoed → ℕ → List ℕ → Step
read_echo room a e source s =
    pick (is_cookie_odd (part_from 4 s).len) (leaving_unread (refused a 8 NoCall)) (read_echoed room a source e)
