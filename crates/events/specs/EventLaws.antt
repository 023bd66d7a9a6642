-- What does not fit in 16 bits is not taken for what does. Assumes nothing.
use Rattle.std.specs.Prelude.{ℕ, ◌<◌, ◌≤◌, ◌≡◌, true, false, List}
use Rattle.std.proofs.Math.Path.{refl}
use Rattle.std.proofs.Common.{lt-ltb, le-ltb}
use Rattle.events.specs.declared.event.Event.TheVariants.{ErrorStream}
use Rattle.events.specs.Event.{value_at, streams_at, port_at, associate_of, hand_in_of, stale_of, event_of}

module _ (vs : List ℕ) (i : ℕ) where
  pub port-fits : value_at vs i < 65536 → port_at vs i ≡ value_at vs i
  port-fits h = rw (lt-ltb _ _ h)

  pub port-wide : 65536 ≤ value_at vs i → port_at vs i ≡ 0
  port-wide h = rw (le-ltb _ _ h)

  pub streams-fit : value_at vs i < 65535 → streams_at vs i ≡ value_at vs i
  streams-fit h = rw (lt-ltb _ _ h)

  -- over 128 whichever it was
  pub streams-wide : 65535 ≤ value_at vs i → streams_at vs i ≡ 65535
  streams-wide h = rw (le-ltb _ _ h)

-- the events of these values, by their numbers
module _ (vs : List ℕ) where
  pub associate-coded : event_of 3 vs ≡ associate_of vs
  unfolding event_of
  associate-coded = refl

  pub hand-in-coded : (event_of 4 vs ≡ hand_in_of vs false) × (event_of 5 vs ≡ hand_in_of vs true)
  unfolding event_of
  hand-in-coded = (refl, refl)

  pub stray-coded : event_of 16 vs ≡ ErrorStream (value_at vs 0)
  unfolding event_of
  stray-coded = refl

  pub stale-coded : event_of 17 vs ≡ stale_of vs
  unfolding event_of
  stale-coded = refl
