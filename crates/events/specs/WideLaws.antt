-- What does not fit in 16 bits passes for nothing that does: an event that the host is told the number 0 of was done with the port, or the stream, that
-- the host gave. Assumes nothing.
use Rattle.std.specs.Prelude.{ℕ, ◌<◌, ◌≤◌, ◌≡◌, Bool, List, length}
use Rattle.std.proofs.Math.Path.{refl}
use Rattle.std.proofs.Common.{ap, subst, ◌∙◌, arith}
use Rattle.std.proofs.Math.Bool.{true, false}
use borrow.Author.Tests.{ltb-true, ltb-false}
use Rattle.std.proofs.Math.Dec.{ltb}
use Rattle.scans.specs.Scan.{pick}
use Rattle.states.specs.declared.call.Call.TheVariants.{Acknowledge}
use Rattle.association.specs.declared.ends.Association.{Association}
use Rattle.association.specs.Bounds.{earlier}
use Rattle.calls.specs.declared.answer.Answer.{Answer}
use Rattle.calls.specs.Answer.{is_short_out, barred, refusing, answer_of}
use Rattle.calls.specs.Telling.{telling_stream}
use Rattle.calls.specs.PortLaws.{associate-ported, stale-ported}
use Rattle.calls.specs.StreamLaws.{handed-agreed}
use Rattle.events.specs.declared.event.Event.{Event}
use Rattle.events.specs.Event.{value_at, tsn_at, streams_at, stream_at, port_at, hand_in_of, event_of}
use Rattle.events.specs.EventLaws.{port-wide, streams-fit, streams-wide, associate-coded, hand-in-coded, stray-coded, stale-coded}
use Rattle.events.specs.Happening.{Buffers, stray_number, telling_any, happened}
use Rattle.events.specs.HappeningLaws.{refused-done, stray-refused}

-- what is not below a limit is at least it
below : (n : ℕ) {X : Type 0} → (n < 65536 → X) → (65536 ≤ n → X) → X
below n {X} f g = go (ltb n 65536) refl
  where
    go : (t : Bool) → ltb n 65536 ≡ t → X
    go true e = f (ltb-true n 65536 e)
    go false e = g (ltb-false n 65536 e)

module _ (a : Association) (vs : List ℕ) (b : Buffers) where
  -- the peer's port
  pub associate-fits : (happened a (event_of 3 vs) b).ran.told.number ≡ 0 → value_at vs 2 < 65536
  unfolding happened
  associate-fits z =
      below (value_at vs 2) (λ h. h) (λ h. absurd ((associate-ported a (value_at vs 0) (tsn_at vs 1) (port_at vs 2) (streams_at vs 3) b.out (subst (λ (e : Event). (happened a e b).ran.told.number ≡ 0) (associate-coded vs) z)).to (port-wide vs 2 h)))

  -- the stream of a message, ordered or not: below 128 as it was given
  hand-in-below : (unordered : Bool) → (happened a (hand_in_of vs unordered) b).ran.told.number ≡ 0 → value_at vs 0 < 128
  unfolding happened
  hand-in-below unordered z = go (ltb (value_at vs 0) 65535) refl
    where
      agreed : streams_at vs 0 < 128
      agreed = handed-agreed a b.sent (length b.input) (stream_at vs 0) unordered (value_at vs 1) z

      go : (t : Bool) → ltb (value_at vs 0) 65535 ≡ t → value_at vs 0 < 128
      go true e = omega (arith, agreed, streams-fit vs 0 (ltb-true (value_at vs 0) 65535 e))
      go false e = absurd (omega (arith, agreed, streams-wide vs 0 (ltb-false (value_at vs 0) 65535 e)))

  pub hand-in-fits : ((happened a (event_of 4 vs) b).ran.told.number ≡ 0 → value_at vs 0 < 128) × ((happened a (event_of 5 vs) b).ran.told.number ≡ 0 → value_at vs 0 < 128)
  hand-in-fits = (
    λ z. hand-in-below false (subst (λ (e : Event). (happened a e b).ran.told.number ≡ 0) (hand-in-coded vs).0 z),
    λ z. hand-in-below true (subst (λ (e : Event). (happened a e b).ran.told.number ≡ 0) (hand-in-coded vs).1 z),
  )

  -- the port of the cookie's peer
  pub stale-fits : (happened a (event_of 17 vs) b).ran.told.number ≡ 0 → value_at vs 0 < 65536
  unfolding happened
  stale-fits z =
      below (value_at vs 0) (λ h. h) (λ h. absurd ((stale-ported a (port_at vs 0) (value_at vs 1) (value_at vs 2) b.out (subst (λ (e : Event). (happened a e b).ran.told.number ≡ 0) (stale-coded vs) z)).0.to (port-wide vs 0 h)))

  -- the stream of an ERROR
  abbrev barring : ℕ
  barring = barred a (is_short_out b.out) Acknowledge

  abbrev refusal : Answer
  refusal = record { number = earlier barring 19; length = 0; over = false; association = a }

  pub stray-fits : (happened a (event_of 16 vs) b).ran.told.number ≡ 0 → value_at vs 0 < 65536
  unfolding happened telling_any stray_number
  stray-fits z = go (ltb (value_at vs 0) 65536) refl (subst (λ (e : Event). (happened a e b).ran.told.number ≡ 0) (stray-coded vs) z)
    where
      go : (t : Bool) → ltb (value_at vs 0) 65536 ≡ t → (answer_of (pick t (telling_stream a (record { 0 = value_at vs 0 }) b.out) (refusing a (earlier barring 19))) b.out).number ≡ 0 → value_at vs 0 < 65536
      go true e y = ltb-true (value_at vs 0) 65536 e
      go false e y = absurd (stray-refused barring (ap (λ (q : Answer). q.number) (refused-done a {m = earlier barring 19} {n = earlier barring 19} {out = b.out} {r = refusal} refl (stray-refused barring) (record { is = refl })).answer ∙ y))
