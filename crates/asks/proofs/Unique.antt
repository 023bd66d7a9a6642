-- Each promise leaves one outcome: two results, and two contents of every lent table and buffer, that a contract allows are equal, whatever words the
-- tables had. Assumes nothing.
use mathlib.Core.Path.{◌≡◌, sym, ap, ◌∙◌}
use mathlib.Core.List.{[]}
use Rattle.calls.specs.declared.answer.Answer.{Answer}
use Rattle.calls.specs.declared.acknowledging.Acknowledged.{Acknowledged}
use Rattle.calls.specs.CallLaws.{done-one, kept-one}
use Rattle.numbers.specs.RefusalLaws.{answered-apart}
use Rattle.messages.specs.HandingLaws.{handings-apart}
use Rattle.asks.specs.TableAnswer.{Reply, answered_of}
use Rattle.asks.specs.ReplyLaws.{replies-apart, sack-replies-apart, message-replies-apart, packet-replies-apart}
use Rattle.asks.specs.TableAcknowledging.{acknowledged_of}
use Rattle.asks.specs.TableOpening.{Tables}
use Rattle.asks.specs.TableOpeningLaws.{tables-one}
use Rattle.asks.specs.TableTimers.{Lapse}
use Rattle.asks.specs.TableMessages.{Handover, Delivery}
use Rattle.asks.specs.TableTransmit.{Dispatch}
use Rattle.asks.proofs.answer.permitted.Reads as permitted-reads
use Rattle.asks.proofs.closing.shutdown.Reads as shutdown-reads
use Rattle.asks.proofs.closing.abort.Reads as abort-reads
use Rattle.asks.proofs.handing.hand_in.Reads as hand-in-reads
use Rattle.asks.proofs.delivering.take.Reads as take-reads
use Rattle.asks.proofs.opening.associate.Reads as associate-reads
use Rattle.asks.proofs.telling.error_stream.Reads as error-stream-reads
use Rattle.asks.proofs.telling.error_stale.Reads as error-stale-reads
use Rattle.asks.proofs.telling.heartbeat.Reads as heartbeat-reads
use Rattle.asks.proofs.timers.t1.Reads as t1-reads
use Rattle.asks.proofs.timers.t2.Reads as t2-reads
use Rattle.asks.proofs.timers.t3.Reads as t3-reads
use Rattle.asks.proofs.timers.rtt.Reads as rtt-reads
use Rattle.asks.proofs.acknowledging.sack.Reads as sack-reads
use Rattle.asks.proofs.transmitting.transmit.Reads as transmit-reads

pub permitted-unique : (κs : _) (a : _) (r q : _) (s t : _) → permitted-reads.Post κs a r s → permitted-reads.Post κs a q t → r ≡ q
permitted-unique κs a r q s t x y = answered-apart r q (x [] [] [] ∙ sym (y [] [] []))

pub shutdown-unique : (κs : _) (a : _) (r q : _) (s t : _) → shutdown-reads.Post κs a r s → shutdown-reads.Post κs a q t → (r ≡ q) × (s.1.1.1.0.now ≡ t.1.1.1.0.now)
shutdown-unique κs a r q s t x y = let d = done-one (x [] [] []) (y [] [] []) in (replies-apart a.0 r q (ap (λ (w : Answer). answered_of w) d.0), d.1)

pub abort-unique : (κs : _) (a : _) (r q : _) (s t : _) → abort-reads.Post κs a r s → abort-reads.Post κs a q t → (r ≡ q) × (s.1.1.1.1.0.now ≡ t.1.1.1.1.0.now)
abort-unique κs a r q s t x y = let d = done-one (x [] [] []) (y [] [] []) in (replies-apart a.0 r q (ap (λ (w : Answer). answered_of w) d.0), d.1)

pub error-stream-unique : (κs : _) (a : _) (r q : _) (s t : _) → error-stream-reads.Post κs a r s → error-stream-reads.Post κs a q t → (r ≡ q) × (s.1.1.1.1.0.now ≡ t.1.1.1.1.0.now)
error-stream-unique κs a r q s t x y = let d = done-one (x [] [] []) (y [] [] []) in (replies-apart a.0 r q (ap (λ (w : Answer). answered_of w) d.0), d.1)

pub error-stale-unique : (κs : _) (a : _) (r q : _) (s t : _) → error-stale-reads.Post κs a r s → error-stale-reads.Post κs a q t → (r ≡ q) × (s.1.1.1.1.1.1.0.now ≡ t.1.1.1.1.1.1.0.now)
error-stale-unique κs a r q s t x y = let d = done-one (x [] [] []) (y [] [] []) in (replies-apart a.0 r q (ap (λ (w : Answer). answered_of w) d.0), d.1)

pub heartbeat-unique : (κs : _) (a : _) (r q : _) (s t : _) → heartbeat-reads.Post κs a r s → heartbeat-reads.Post κs a q t → (r ≡ q) × (s.1.1.1.1.0.now ≡ t.1.1.1.1.0.now)
heartbeat-unique κs a r q s t x y = let d = done-one (x [] [] []) (y [] [] []) in (replies-apart a.0 r q (ap (λ (w : Answer). answered_of w) d.0), d.1)

pub t1-unique : (κs : _) (a : _) (r q : _) (s t : _) → t1-reads.Post κs a r s → t1-reads.Post κs a q t → (r ≡ q) × (s.1.1.1.1.0.now ≡ t.1.1.1.1.0.now)
t1-unique κs a r q s t x y = let d = done-one (x [] []) (y [] []) in (replies-apart a.0 r q (ap (λ (w : Answer). answered_of w) d.0), d.1)

pub t2-unique : (κs : _) (a : _) (r q : _) (s t : _) → t2-reads.Post κs a r s → t2-reads.Post κs a q t → (r ≡ q) × (s.1.1.1.1.0.now ≡ t.1.1.1.1.0.now)
t2-unique κs a r q s t x y = let d = done-one (x [] []) (y [] []) in (replies-apart a.0 r q (ap (λ (w : Answer). answered_of w) d.0), d.1)

pub rtt-unique : (κs : _) (a : _) (r q : _) (s t : _) → rtt-reads.Post κs a r s → rtt-reads.Post κs a q t → r ≡ q
rtt-unique κs a r q s t x y = replies-apart a.0 r q (ap (λ (w : Answer). answered_of w) (kept-one (x [] [] []) (y [] [] [])))

pub sack-unique : (κs : _) (a : _) (r q : _) (s t : _) → sack-reads.Post κs a r s → sack-reads.Post κs a q t → (r ≡ q) × (s.1.1.1.0.now ≡ t.1.1.1.0.now)
sack-unique κs a r q s t x y =
    (sack-replies-apart a.0 r q (ap (λ (w : Acknowledged). acknowledged_of w) ((x [] [] []).0 ∙ sym (y [] [] []).0)), (x [] [] []).1 ∙ sym (y [] [] []).1)

pub t3-unique : (κs : _) (a : _) (r q : _) (s t : _) → t3-reads.Post κs a r s → t3-reads.Post κs a q t → (r ≡ q) × (s.1.1.0.now ≡ t.1.1.0.now)
t3-unique κs a r q s t x y =
    let e = x [] [] [] ∙ sym (y [] [] []) in (replies-apart a.0 r q (ap (λ (w : Lapse). w.answer) e), ap (λ (w : Lapse). w.places) e)

pub hand-in-unique : (κs : _) (a : _) (r q : _) (s t : _) → hand-in-reads.Post κs a r s → hand-in-reads.Post κs a q t → (r ≡ q) × (s.1.1.0.now ≡ t.1.1.0.now) × (s.1.1.1.0.now ≡ t.1.1.1.0.now)
hand-in-unique κs a r q s t x y =
    let e = x [] [] [] ∙ sym (y [] [] []) in (handings-apart r q (ap (λ (w : Handover). w.answer) e), ap (λ (w : Handover). w.places) e, ap (λ (w : Handover). w.area) e)

pub take-unique : (κs : _) (a : _) (r q : _) (s t : _) → take-reads.Post κs a r s → take-reads.Post κs a q t → (r ≡ q) × (s.1.0.now ≡ t.1.0.now) × (s.1.1.0.now ≡ t.1.1.0.now) × (s.1.1.1.1.1.0.now ≡ t.1.1.1.1.1.0.now)
take-unique κs a r q s t x y =
    let e = x [] [] ∙ sym (y [] []) in (message-replies-apart r q (ap (λ (w : Delivery). w.answer) e), ap (λ (w : Delivery). w.held) e, ap (λ (w : Delivery). w.next) e, ap (λ (w : Delivery). w.out) e)

pub transmit-unique : (κs : _) (a : _) (r q : _) (s t : _) → transmit-reads.Post κs a r s → transmit-reads.Post κs a q t → (r ≡ q) × (s.1.1.0.now ≡ t.1.1.0.now) × (s.1.1.1.0.now ≡ t.1.1.1.0.now) × (s.1.1.1.1.1.0.now ≡ t.1.1.1.1.1.0.now)
transmit-unique κs a r q s t x y =
    let e = x [] [] ∙ sym (y [] []) in (packet-replies-apart a.0 r q (ap (λ (w : Dispatch). w.answer) e), ap (λ (w : Dispatch). w.places) e, ap (λ (w : Dispatch). w.next) e, ap (λ (w : Dispatch). w.out) e)

pub associate-unique : (κs : _) (a : _) (r q : _) (s t : _) → associate-reads.Post κs a r s → associate-reads.Post κs a q t → (r ≡ q) × (s.1.0.now ≡ t.1.0.now) × (s.1.1.0.now ≡ t.1.1.0.now) × (s.1.1.1.0.now ≡ t.1.1.1.0.now) × (s.1.1.1.1.0.now ≡ t.1.1.1.1.0.now) × (s.1.1.1.1.1.0.now ≡ t.1.1.1.1.1.0.now) × (s.1.1.1.1.1.1.1.1.1.1.0.now ≡ t.1.1.1.1.1.1.1.1.1.1.0.now)
associate-unique κs a r q s t x y =
    let d = done-one x.0 y.0 in
    let e = ap (λ (w : Answer). answered_of w) d.0 in
    let u = tables-one _ (ap (λ (w : Reply). w.number) e) x.1 y.1 in
    (replies-apart a.0 r q e, ap (λ (w : Tables). w.held) u, ap (λ (w : Tables). w.next) u, ap (λ (w : Tables). w.places) u, ap (λ (w : Tables). w.next_out) u, ap (λ (w : Tables). w.kept) u, d.1)
