-- What each function promises the host: the head, what is lent and what is handed over as they came, then what is told and what stands in what was lent. The
-- lists that a promise is for any of are tables that its call is not lent: they have no part in it.
use Rattle.std.specs.Prelude.{ℕ, ◌≡◌, false, List}
use Rattle.states.specs.declared.call.Call.{Call}
use Rattle.states.specs.declared.call.Call.TheVariants.{HandIn, ThirdTimer}
use Rattle.association.specs.declared.ends.Association.{Association}
use Rattle.steps.specs.declared.lent.Lent.{Lent}
use Rattle.steps.specs.declared.lent.Echoed.{Echoed}
use Rattle.calls.specs.Answer.{Plan, is_short_area, barred}
use Rattle.calls.specs.Opening.{associating}
use Rattle.calls.specs.Messages.{take_bar}
use Rattle.calls.specs.Transmit.{transmit_bar}
use Rattle.calls.specs.Acknowledging.{acknowledged_call, acknowledged_out}
use Rattle.calls.specs.Timers.{expiring, sampling}
use Rattle.flat.specs.Shown.{shown}
use Rattle.asks.specs.TableOpening.{Tables}
use Rattle.asks.specs.TableTimers.{lapsed}
use Rattle.asks.specs.TableMessages.{handed_over, delivered_from}
use Rattle.asks.specs.TableTransmit.{dispatched}
use Rattle.landing.specs.Landing.{landed}
use Rattle.kept.specs.declared.head.Kept.{Kept}
use Rattle.kept.specs.Flags.{is_yes}
use Rattle.kept.specs.Kept.{unpacked}
use Rattle.face.specs.FaceLeft.{CallTold, left_with}
use Rattle.face.specs.FaceAnswer.{call_answered, answered_alone, lapsed_left}
use Rattle.face.specs.FaceOpening.{closed_left, AssociatedLent, associated_left}
use Rattle.face.specs.FaceMessages.{HandedLent, handed_left, DeliveredLent, delivered_left}
use Rattle.face.specs.FaceTransmit.{DispatchedLent, dispatched_left}
use Rattle.face.specs.FaceArrival.{ArrivedLent, arrived_left}
use Rattle.face.specs.FaceAcknowledging.{SackSaid, acknowledged_left}

-- the record that the host's head and tables show
abbrev pub record_of : Kept → List ℕ → List ℕ → List ℕ → List ℕ → List ℕ → Association
record_of k held next places next_out kept = shown (unpacked k) held next places next_out kept

-- ---- all tables are lent

-- a record to start from
abbrev pub Closes : ℕ → ℕ → CallTold → Tables → Type 0
Closes port mode t exit = left_with t exit ≡ closed_left port mode

-- our own INIT
abbrev pub Associates : Kept → ℕ → ℕ → ℕ → ℕ → AssociatedLent → CallTold → AssociatedLent → Type 0
Associates k tag tsn port streams b t exit =
    left_with t exit ≡ associated_left k (associating (record_of k b.tables.held b.tables.next b.tables.places b.tables.next_out b.tables.kept) tag (record { 0 = tsn }) port streams b.out) b

-- a packet arrives
abbrev pub Arrives : Kept → List ℕ → Lent → List ℕ → Echoed → ArrivedLent → CallTold → ArrivedLent → Type 0
Arrives k packet lent cookie e b t exit =
    left_with t exit ≡ arrived_left k (landed packet lent cookie e (unpacked k) b.held b.next b.places b.next_out b.kept b.area b.verdicts b.out) b

-- ---- messages

-- one is handed in
abbrev pub HandsIn : Kept → List ℕ → List ℕ → ℕ → ℕ → ℕ → HandedLent → CallTold → HandedLent → Type 0
HandsIn k held message stream unordered ppid b t exit =
    (ns ms cs : List ℕ)
    → left_with t exit ≡ handed_left k (handed_over (barred (record_of k held ns b.places ms cs) (is_short_area b.area) HandIn) (unpacked k) b.places b.area message (record { 0 = stream }) (is_yes unordered) ppid) b

-- one is taken
abbrev pub Takes : Kept → List ℕ → List ℕ → DeliveredLent → CallTold → DeliveredLent → Type 0
Takes k places area b t exit =
    (ms cs : List ℕ) → left_with t exit ≡ delivered_left k (delivered_from (take_bar (record_of k b.held b.next places ms cs) area) (unpacked k) b.held b.next area b.out) b

-- ---- what is sent

-- a packet of DATA chunks
abbrev pub Transmits : Kept → List ℕ → List ℕ → DispatchedLent → CallTold → DispatchedLent → Type 0
Transmits k held area b t exit =
    (ns cs : List ℕ) → left_with t exit ≡ dispatched_left k (dispatched (transmit_bar (record_of k held ns b.places b.next cs) area b.out) (unpacked k) b.places b.next area b.out) b

-- a SACK
abbrev pub Acknowledges : Kept → List ℕ → List ℕ → List ℕ → CallTold → SackSaid → Type 0
Acknowledges k held places out t exit =
    (ns ms cs : List ℕ) → left_with t exit ≡ acknowledged_left k (acknowledged_call (record_of k held ns places ms cs) out) (acknowledged_out (record_of k held ns places ms cs) out) out

-- any other packet of our own, as the rule for it plans
abbrev pub Sends : (Association → List ℕ → Plan) → Kept → List ℕ → List ℕ → List ℕ → CallTold → List ℕ → Type 0
Sends rule k held places out t exit = (ns ms cs : List ℕ) → left_with t exit ≡ call_answered k (rule (record_of k held ns places ms cs) out) out

-- ---- timers

-- T1 or T2, with the kept cookie
abbrev pub Expires : Call → Kept → List ℕ → List ℕ → List ℕ → List ℕ → CallTold → List ℕ → Type 0
Expires timer k held places cookie out t exit = (ns ms : List ℕ) → left_with t exit ≡ call_answered k (expiring (record_of k held ns places ms cookie) timer out) out

-- T3
abbrev pub Lapses : Kept → List ℕ → List ℕ → CallTold → List ℕ → Type 0
Lapses k held places t exit = (ns ms cs : List ℕ) → left_with t exit ≡ lapsed_left k (lapsed (barred (record_of k held ns places ms cs) false ThirdTimer) (unpacked k) places) places

-- a round trip was measured
abbrev pub Samples : Kept → List ℕ → List ℕ → ℕ → CallTold → Type 0
Samples k held places sample t = (ns ms cs : List ℕ) → t ≡ answered_alone k (sampling (record_of k held ns places ms cs) sample)
