-- Messages: "handed in in ESTABLISHED, … taken in any state".
use Rattle.std.specs.Prelude.{ℕ, Bool, false, List, eqb}
use Rattle.scans.specs.Scan.{pick}
use Rattle.numbers.specs.declared.circle.StreamId.{StreamId}
use Rattle.numbers.specs.Circle.{ssn0}
use Rattle.numbers.specs.Numbering.{circles}
use Rattle.numbers.specs.Profile.{rail}
use Rattle.holding.specs.declared.taking.Message.{Message}
use Rattle.holding.specs.declared.taking.Answer as took
use Rattle.holding.specs.declared.taking.Answer.TheVariants.{Taken, Nothing, Short}
use Rattle.holding.specs.Taking.{written}
use Rattle.delivery.specs.declared.receiving.Taken as receiver
use Rattle.delivery.specs.Receiving.{taken_into}
use Rattle.sending.specs.declared.cutting.Handed.{Handed}
use Rattle.sending.specs.HandIn.{handed_in, handed_in_area}
use Rattle.states.specs.declared.call.Call.TheVariants.{HandIn}
use Rattle.association.specs.declared.ends.Association.{Association}
use Rattle.association.specs.Fresh.{with_receiving, with_sending}
use Rattle.association.specs.Bounds.{first_number}
use Rattle.calls.specs.declared.messages.HandedIn.{HandedIn}
use Rattle.calls.specs.declared.messages.Delivered.{Delivered}
use Rattle.calls.specs.Answer.{is_short_area, barred}

-- ---- handing in

-- 19 and 20 are the sending side's
abbrev pub senders_handing : Association → ℕ → StreamId → Bool → ℕ → Handed
senders_handing a len stream unordered ppid = handed_in rail a.sending len stream unordered ppid a.ends.streams_out

-- a message that the sending side answers so
abbrev pub handed_as : Association → Handed → HandedIn
handed_as a h = record { number = h.number; chunks = h.chunks; association = with_sending a h.sending }

-- what the call answers: 1, 18, 7, 19, 20
unfoldable pub hand_in_call : Association → List ℕ → ℕ → StreamId → Bool → ℕ → HandedIn
hand_in_call a area len stream unordered ppid =
    pick (eqb (barred a (is_short_area area) HandIn) 0)
    (handed_as a (senders_handing a len stream unordered ppid))
    (record { number = barred a (is_short_area area) HandIn; chunks = 0; association = a })

-- what then stands in the lent area
unfoldable pub hand_in_call_area : Association → List ℕ → List ℕ → StreamId → List ℕ
hand_in_call_area a area message stream =
    pick (eqb (barred a (is_short_area area) HandIn) 0)
    (handed_in_area rail a.sending area message stream a.ends.streams_out)
    area

-- ---- taking

-- no message; n is the length needed, if one is
abbrev pub no_message : ℕ → Message
no_message n = record { length = n; stream = record { 0 = 0 }; unordered = false; ssn = ssn0; ppid = 0 }

-- nothing is given
abbrev pub undelivered : Association → ℕ → ℕ → Delivered
undelivered a number n = record { number = number; message = no_message n; association = a }

-- 17 "nothing to take"; "A take with a short buffer answers 18 with the length needed; 17 comes before that"
abbrev pub delivered_as : took.Answer → Association → Delivered
delivered_as (Taken m) a = record { number = 0; message = m; association = a }
delivered_as Nothing a = undelivered a 17 0
delivered_as (Short n) a = undelivered a 18 n

-- a take from the receiving side into `room` bytes
abbrev pub taking : Association → ℕ → receiver.Taken
taking a room = taken_into circles rail a.receiving room

-- 1, 18 for the area
abbrev pub take_bar : Association → List ℕ → ℕ
take_bar a area = first_number a (is_short_area area) 0

-- what the call answers: 1, 18 for the area, 17, 18 for the output
unfoldable pub delivered : Association → List ℕ → ℕ → Delivered
delivered a area room =
    pick (eqb (take_bar a area) 0)
    (delivered_as (taking a room).answer (with_receiving a (taking a room).receiving))
    (undelivered a (take_bar a area) 0)

-- what then stands in the lent output
unfoldable pub delivered_out : Association → List ℕ → List ℕ → List ℕ
delivered_out a area out =
    pick (eqb (take_bar a area) 0)
    (written circles rail a.receiving.held a.receiving.next a.receiving.keeping.point.0 area out)
    out
