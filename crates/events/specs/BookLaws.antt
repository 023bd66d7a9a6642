-- 02, T-12: "a mode chosen when the record is made": nothing that can happen to it changes it. Assumes nothing.
use Rattle.std.specs.Prelude.{◌≡◌, refl, [], length}
use Rattle.states.specs.declared.call.Call.TheVariants.{FirstTimer, SecondTimer}
use Rattle.association.specs.declared.ends.Association.{Association}
use Rattle.arriving.specs.BookLaws.{arrive-booked}
use Rattle.calls.specs.BookLaws.{Booked, answer-booked, associate-booked, expiry-booked, third-booked, sample-booked, shutdown-booked, abort-booked, stream-booked, stale-booked, heartbeat-booked, hand-in-booked, transmit-booked, take-booked, sack-booked}
use Rattle.events.specs.declared.event.Event.{Event}
use Rattle.events.specs.Happening.{Buffers, EventLeft, halves, happened}
use Rattle.events.specs.HappenedLaws.{any-keeps, each-event}

pub mode-kept : (a : Association) (v : Event) (b : Buffers) → (happened a v b).ran.association.sending.mode ≡ a.sending.mode
mode-kept a v b =
    each-event a b (λ (u : Event) (x : EventLeft). x.ran.association.sending.mode ≡ a.sending.mode)
    (record {
      packet = λ l e. arrive-booked a b.received b.input l b.cookie e b.out;
      associate = λ tag tsn port streams. answer-booked a _ b.out (associate-booked a tag tsn port streams b.out);
      hand_in = λ stream unordered ppid. hand-in-booked a b.sent (length b.input) stream unordered ppid;
      transmit = transmit-booked a b.sent b.out;
      take = take-booked a b.received (length b.out);
      acknowledge = sack-booked a b.out;
      t1 = answer-booked a _ b.out (expiry-booked a FirstTimer b.out);
      t2 = answer-booked a _ b.out (expiry-booked a SecondTimer b.out);
      t3 = answer-booked a _ [] (third-booked a);
      shutdown = answer-booked a _ b.out (shutdown-booked a b.out);
      abort = λ why. answer-booked a _ b.out (abort-booked a why b.out);
      error-stream = λ stream. answer-booked a _ b.out (any-keeps (Booked a) a stream b.out (stream-booked a (record { 0 = stream }) b.out) refl);
      error-stale = λ port tag late. answer-booked a _ b.out (stale-booked a port tag late b.out);
      heartbeat = λ x y. answer-booked a _ b.out (heartbeat-booked a (halves x y) b.out);
      sample = λ ms. answer-booked a _ [] (sample-booked a ms);
      unknown = refl;
    })
    v
