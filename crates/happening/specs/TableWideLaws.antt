-- What does not fit in 16 bits passes for nothing that does (`events`), over tables too. Assumes nothing.
use Rattle.std.specs.Prelude.{ℕ, ◌<◌, ◌≡◌, true, false, List}
use Rattle.std.proofs.Common.{sym, ap, subst, ◌∙◌}
use Rattle.flat.specs.declared.head.Association.{Association}
use Rattle.flat.specs.Shown.{shows}
use Rattle.events.specs.declared.event.Event.{Event}
use Rattle.events.specs.declared.event.Event.TheVariants.{ErrorStream}
use Rattle.events.specs.Event.{value_at, associate_of, hand_in_of, stale_of, event_of}
use Rattle.events.specs.EventLaws.{associate-coded, hand-in-coded, stray-coded, stale-coded}
use Rattle.events.specs.Happening as definition
use Rattle.events.specs.WideLaws as wide
use Rattle.happening.specs.declared.told.Told.{Told}
use Rattle.happening.specs.TableHappening.{TableBuffers, table_happened}
use Rattle.happening.specs.EventShown.{buffers_shown, EventTyped}
use Rattle.happening.specs.EventShownLaws.{happened-shows}

module _ (a : Association) (vs : List ℕ) (b : TableBuffers) where
  -- the number that is told is the definition's
  same_number : (k : ℕ) (e : Event) → event_of k vs ≡ e → EventTyped a b e → (table_happened a (event_of k vs) b).ran.told.number ≡ 0 → (definition.happened (shows a) (event_of k vs) (buffers_shown b)).ran.told.number ≡ 0
  same_number k e p t z =
      sym (ap (λ (x : Told). x.number) (happened-shows a b (event_of k vs) (subst (λ (x : Event). EventTyped a b x) (sym p) t)).told) ∙ z

  -- the peer's port
  pub table-associate-fits : (table_happened a (event_of 3 vs) b).ran.told.number ≡ 0 → value_at vs 2 < 65536
  table-associate-fits z = wide.associate-fits (shows a) vs (buffers_shown b) (same_number 3 (associate_of vs) (associate-coded vs) tt z)

  -- the stream of a message, ordered or not: below 128 as it was given
  pub table-hand-in-fits : (EventTyped a b (hand_in_of vs false) → (table_happened a (event_of 4 vs) b).ran.told.number ≡ 0 → value_at vs 0 < 128) × (EventTyped a b (hand_in_of vs true) → (table_happened a (event_of 5 vs) b).ran.told.number ≡ 0 → value_at vs 0 < 128)
  table-hand-in-fits = (
    λ t z. (wide.hand-in-fits (shows a) vs (buffers_shown b)).0 (same_number 4 (hand_in_of vs false) (hand-in-coded vs).0 t z),
    λ t z. (wide.hand-in-fits (shows a) vs (buffers_shown b)).1 (same_number 5 (hand_in_of vs true) (hand-in-coded vs).1 t z),
  )

  -- the port of the cookie's peer
  pub table-stale-fits : (table_happened a (event_of 17 vs) b).ran.told.number ≡ 0 → value_at vs 0 < 65536
  table-stale-fits z = wide.stale-fits (shows a) vs (buffers_shown b) (same_number 17 (stale_of vs) (stale-coded vs) tt z)

  -- the stream of an ERROR
  pub table-stray-fits : (table_happened a (event_of 16 vs) b).ran.told.number ≡ 0 → value_at vs 0 < 65536
  table-stray-fits z = wide.stray-fits (shows a) vs (buffers_shown b) (same_number 16 (ErrorStream (value_at vs 0)) (stray-coded vs) tt z)
