-- Each promise leaves one outcome: two results, and two contents of a lent buffer, that a contract allows are equal. Assumes nothing.
use mathlib.Core.Path.{◌≡◌, sym, ◌∙◌}
use mathlib.Core.List.{[]}
use Rattle.face.specs.FaceLeftLaws.{one_left}
use Rattle.face.proofs.peeking.peek.Reads as peek-reads
use Rattle.face.proofs.acknowledging.sack.Reads as sack-reads
use Rattle.face.proofs.arrival.arrive.Reads as arrive-reads
use Rattle.face.proofs.closing.abort.Reads as abort-reads
use Rattle.face.proofs.closing.shutdown.Reads as shutdown-reads
use Rattle.face.proofs.delivering.take.Reads as take-reads
use Rattle.face.proofs.handing.hand_in.Reads as hand-in-reads
use Rattle.face.proofs.opening.associate.Reads as associate-reads
use Rattle.face.proofs.opening.close.Reads as close-reads
use Rattle.face.proofs.telling.error_stale.Reads as error-stale-reads
use Rattle.face.proofs.telling.error_stream.Reads as error-stream-reads
use Rattle.face.proofs.telling.heartbeat.Reads as heartbeat-reads
use Rattle.face.proofs.timers.rtt.Reads as rtt-reads
use Rattle.face.proofs.timers.t1.Reads as t1-reads
use Rattle.face.proofs.timers.t2.Reads as t2-reads
use Rattle.face.proofs.timers.t3.Reads as t3-reads
use Rattle.face.proofs.transmitting.transmit.Reads as transmit-reads

pub peek-unique : (κs : _) (a : _) (r q : _) (s t : _) → peek-reads.Post κs a r s → peek-reads.Post κs a q t → r ≡ q
peek-unique κs a r q s t x y = λ i. record { number = (x.0 ∙ sym y.0) i; words = (x.1 ∙ sym y.1) i }

pub sack-unique : (κs : _) (a : _) (r q : _) (s t : _) → sack-reads.Post κs a r s → sack-reads.Post κs a q t → (r ≡ q) × (s.1.1.1.1.1.1.1.0.now ≡ t.1.1.1.1.1.1.1.0.now) × (s.1.1.1.1.0.now ≡ t.1.1.1.1.0.now) × (s.1.1.1.1.1.0.now ≡ t.1.1.1.1.1.0.now) × (s.1.1.1.1.1.1.0.now ≡ t.1.1.1.1.1.1.0.now) × (s.1.1.1.0.now ≡ t.1.1.1.0.now)
sack-unique κs a r q s t x y = let e = one_left (x [] [] []) (y [] [] []) in (λ i. record { number = (e.0 i).number; kept = (e.0 i).kept }, λ i. (e.0 i).words, λ i. (e.1 i).starts, λ i. (e.1 i).ends, λ i. (e.1 i).dups, λ i. (e.1 i).out)

pub arrive-unique : (κs : _) (a : _) (r q : _) (s t : _) → arrive-reads.Post κs a r s → arrive-reads.Post κs a q t → (r ≡ q) × (s.1.1.1.1.1.1.1.1.1.1.1.1.1.1.1.1.1.1.1.1.1.1.1.1.1.1.0.now ≡ t.1.1.1.1.1.1.1.1.1.1.1.1.1.1.1.1.1.1.1.1.1.1.1.1.1.1.0.now) × (s.1.0.now ≡ t.1.0.now) × (s.1.1.0.now ≡ t.1.1.0.now) × (s.1.1.1.0.now ≡ t.1.1.1.0.now) × (s.1.1.1.1.0.now ≡ t.1.1.1.1.0.now) × (s.1.1.1.1.1.0.now ≡ t.1.1.1.1.1.0.now) × (s.1.1.1.1.1.1.0.now ≡ t.1.1.1.1.1.1.0.now) × (s.1.1.1.1.1.1.1.0.now ≡ t.1.1.1.1.1.1.1.0.now) × (s.1.1.1.1.1.1.1.1.1.1.1.1.1.1.1.1.1.1.1.1.1.1.1.1.1.0.now ≡ t.1.1.1.1.1.1.1.1.1.1.1.1.1.1.1.1.1.1.1.1.1.1.1.1.1.0.now)
arrive-unique κs a r q s t x y = let e = one_left (x) (y) in (λ i. record { number = (e.0 i).number; kept = (e.0 i).kept }, λ i. (e.0 i).words, λ i. (e.1 i).held, λ i. (e.1 i).next, λ i. (e.1 i).places, λ i. (e.1 i).next_out, λ i. (e.1 i).kept, λ i. (e.1 i).area, λ i. (e.1 i).verdicts, λ i. (e.1 i).out)

pub abort-unique : (κs : _) (a : _) (r q : _) (s t : _) → abort-reads.Post κs a r s → abort-reads.Post κs a q t → (r ≡ q) × (s.1.1.1.1.1.1.0.now ≡ t.1.1.1.1.1.1.0.now) × (s.1.1.1.1.1.0.now ≡ t.1.1.1.1.1.0.now)
abort-unique κs a r q s t x y = let e = one_left (x [] [] []) (y [] [] []) in (λ i. record { number = (e.0 i).number; kept = (e.0 i).kept }, λ i. (e.0 i).words, λ i. e.1 i)

pub shutdown-unique : (κs : _) (a : _) (r q : _) (s t : _) → shutdown-reads.Post κs a r s → shutdown-reads.Post κs a q t → (r ≡ q) × (s.1.1.1.1.0.now ≡ t.1.1.1.1.0.now) × (s.1.1.1.0.now ≡ t.1.1.1.0.now)
shutdown-unique κs a r q s t x y = let e = one_left (x [] [] []) (y [] [] []) in (λ i. record { number = (e.0 i).number; kept = (e.0 i).kept }, λ i. (e.0 i).words, λ i. e.1 i)

pub take-unique : (κs : _) (a : _) (r q : _) (s t : _) → take-reads.Post κs a r s → take-reads.Post κs a q t → (r ≡ q) × (s.1.1.1.1.1.1.0.now ≡ t.1.1.1.1.1.1.0.now) × (s.1.0.now ≡ t.1.0.now) × (s.1.1.0.now ≡ t.1.1.0.now) × (s.1.1.1.1.1.0.now ≡ t.1.1.1.1.1.0.now)
take-unique κs a r q s t x y = let e = one_left (x [] []) (y [] []) in (λ i. record { number = (e.0 i).number; kept = (e.0 i).kept }, λ i. (e.0 i).words, λ i. (e.1 i).held, λ i. (e.1 i).next, λ i. (e.1 i).out)

pub hand-in-unique : (κs : _) (a : _) (r q : _) (s t : _) → hand-in-reads.Post κs a r s → hand-in-reads.Post κs a q t → (r ≡ q) × (s.1.1.1.1.1.1.1.1.0.now ≡ t.1.1.1.1.1.1.1.1.0.now) × (s.1.1.0.now ≡ t.1.1.0.now) × (s.1.1.1.0.now ≡ t.1.1.1.0.now)
hand-in-unique κs a r q s t x y = let e = one_left (x [] [] []) (y [] [] []) in (λ i. record { number = (e.0 i).number; kept = (e.0 i).kept }, λ i. (e.0 i).words, λ i. (e.1 i).places, λ i. (e.1 i).area)

pub associate-unique : (κs : _) (a : _) (r q : _) (s t : _) → associate-reads.Post κs a r s → associate-reads.Post κs a q t → (r ≡ q) × (s.1.1.1.1.1.1.1.1.1.1.1.0.now ≡ t.1.1.1.1.1.1.1.1.1.1.1.0.now) × (s.1.0.now ≡ t.1.0.now) × (s.1.1.0.now ≡ t.1.1.0.now) × (s.1.1.1.0.now ≡ t.1.1.1.0.now) × (s.1.1.1.1.0.now ≡ t.1.1.1.1.0.now) × (s.1.1.1.1.1.0.now ≡ t.1.1.1.1.1.0.now) × (s.1.1.1.1.1.1.1.1.1.1.0.now ≡ t.1.1.1.1.1.1.1.1.1.1.0.now)
associate-unique κs a r q s t x y = let e = one_left (x) (y) in (λ i. record { number = (e.0 i).number; kept = (e.0 i).kept }, λ i. (e.0 i).words, λ i. (e.1 i).tables.held, λ i. (e.1 i).tables.next, λ i. (e.1 i).tables.places, λ i. (e.1 i).tables.next_out, λ i. (e.1 i).tables.kept, λ i. (e.1 i).out)

pub close-unique : (κs : _) (a : _) (r q : _) (s t : _) → close-reads.Post κs a r s → close-reads.Post κs a q t → (r ≡ q) × (s.1.0.now ≡ t.1.0.now) × (s.1.1.0.now ≡ t.1.1.0.now) × (s.1.1.1.0.now ≡ t.1.1.1.0.now) × (s.1.1.1.1.0.now ≡ t.1.1.1.1.0.now) × (s.1.1.1.1.1.0.now ≡ t.1.1.1.1.1.0.now)
close-unique κs a r q s t x y = let e = one_left (x) (y) in (λ i. record { number = (e.0 i).number; kept = (e.0 i).kept }, λ i. (e.1 i).held, λ i. (e.1 i).next, λ i. (e.1 i).places, λ i. (e.1 i).next_out, λ i. (e.1 i).kept)

pub error-stale-unique : (κs : _) (a : _) (r q : _) (s t : _) → error-stale-reads.Post κs a r s → error-stale-reads.Post κs a q t → (r ≡ q) × (s.1.1.1.1.1.1.1.0.now ≡ t.1.1.1.1.1.1.1.0.now) × (s.1.1.1.1.1.1.0.now ≡ t.1.1.1.1.1.1.0.now)
error-stale-unique κs a r q s t x y = let e = one_left (x [] [] []) (y [] [] []) in (λ i. record { number = (e.0 i).number; kept = (e.0 i).kept }, λ i. (e.0 i).words, λ i. e.1 i)

pub error-stream-unique : (κs : _) (a : _) (r q : _) (s t : _) → error-stream-reads.Post κs a r s → error-stream-reads.Post κs a q t → (r ≡ q) × (s.1.1.1.1.1.0.now ≡ t.1.1.1.1.1.0.now) × (s.1.1.1.1.0.now ≡ t.1.1.1.1.0.now)
error-stream-unique κs a r q s t x y = let e = one_left (x [] [] []) (y [] [] []) in (λ i. record { number = (e.0 i).number; kept = (e.0 i).kept }, λ i. (e.0 i).words, λ i. e.1 i)

pub heartbeat-unique : (κs : _) (a : _) (r q : _) (s t : _) → heartbeat-reads.Post κs a r s → heartbeat-reads.Post κs a q t → (r ≡ q) × (s.1.1.1.1.1.0.now ≡ t.1.1.1.1.1.0.now) × (s.1.1.1.1.0.now ≡ t.1.1.1.1.0.now)
heartbeat-unique κs a r q s t x y = let e = one_left (x [] [] []) (y [] [] []) in (λ i. record { number = (e.0 i).number; kept = (e.0 i).kept }, λ i. (e.0 i).words, λ i. e.1 i)

pub rtt-unique : (κs : _) (a : _) (r q : _) (s t : _) → rtt-reads.Post κs a r s → rtt-reads.Post κs a q t → (r ≡ q) × (s.1.1.1.1.0.now ≡ t.1.1.1.1.0.now)
rtt-unique κs a r q s t x y = let e = x [] [] [] ∙ sym (y [] [] []) in (λ i. record { number = (e i).number; kept = (e i).kept }, λ i. (e i).words)

pub t1-unique : (κs : _) (a : _) (r q : _) (s t : _) → t1-reads.Post κs a r s → t1-reads.Post κs a q t → (r ≡ q) × (s.1.1.1.1.1.0.now ≡ t.1.1.1.1.1.0.now) × (s.1.1.1.1.0.now ≡ t.1.1.1.1.0.now)
t1-unique κs a r q s t x y = let e = one_left (x [] []) (y [] []) in (λ i. record { number = (e.0 i).number; kept = (e.0 i).kept }, λ i. (e.0 i).words, λ i. e.1 i)

pub t2-unique : (κs : _) (a : _) (r q : _) (s t : _) → t2-reads.Post κs a r s → t2-reads.Post κs a q t → (r ≡ q) × (s.1.1.1.1.1.0.now ≡ t.1.1.1.1.1.0.now) × (s.1.1.1.1.0.now ≡ t.1.1.1.1.0.now)
t2-unique κs a r q s t x y = let e = one_left (x [] []) (y [] []) in (λ i. record { number = (e.0 i).number; kept = (e.0 i).kept }, λ i. (e.0 i).words, λ i. e.1 i)

pub t3-unique : (κs : _) (a : _) (r q : _) (s t : _) → t3-reads.Post κs a r s → t3-reads.Post κs a q t → (r ≡ q) × (s.1.1.1.0.now ≡ t.1.1.1.0.now) × (s.1.1.0.now ≡ t.1.1.0.now)
t3-unique κs a r q s t x y = let e = one_left (x [] [] []) (y [] [] []) in (λ i. record { number = (e.0 i).number; kept = (e.0 i).kept }, λ i. (e.0 i).words, λ i. e.1 i)

pub transmit-unique : (κs : _) (a : _) (r q : _) (s t : _) → transmit-reads.Post κs a r s → transmit-reads.Post κs a q t → (r ≡ q) × (s.1.1.1.1.1.1.0.now ≡ t.1.1.1.1.1.1.0.now) × (s.1.1.0.now ≡ t.1.1.0.now) × (s.1.1.1.0.now ≡ t.1.1.1.0.now) × (s.1.1.1.1.1.0.now ≡ t.1.1.1.1.1.0.now)
transmit-unique κs a r q s t x y = let e = one_left (x [] []) (y [] []) in (λ i. record { number = (e.0 i).number; kept = (e.0 i).kept }, λ i. (e.0 i).words, λ i. (e.1 i).places, λ i. (e.1 i).next, λ i. (e.1 i).out)
