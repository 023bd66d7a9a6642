-- A record as its types have it, within its bounds: the fresh ones are, and it stays so whatever part is replaced by one that is. Assumes nothing.
use Rattle.std.specs.Prelude.{ℕ, ◌^◌, ◌<◌, ◌≤◌, ◌≡◌, refl, true}
use Rattle.std.proofs.Common.{◌∙◌, arith}
use Rattle.numbers.specs.declared.circle.Tsn.{Tsn}
use Rattle.numbers.specs.Numbering.{ring}
use Rattle.numbers.specs.Profile.{rail}
use Rattle.path.specs.Sizes.{rail_sizes, sizes_of}
use Rattle.path.specs.PathLaws.{book-fair}
use Rattle.delivery.specs.declared.receiving.Receiving.{Receiving}
use Rattle.delivery.specs.Receiving.{fresh_receiving}
use Rattle.delivery.specs.ReceivingBounds.{ReceivingSound}
use Rattle.delivery.specs.ReceivingBoundsLaws.{receiving-test-sound, receiving-sound-test}
use Rattle.delivery.specs.ReceivingLaws.{ReceivingShaped, fresh-receiving-shaped, fresh-receiving-sound}
use Rattle.sending.specs.declared.sending.Sending.{Sending}
use Rattle.sending.specs.SendingBoundsLaws.{sending-test-sound}
use Rattle.sending.specs.TypedLaws.{SendingWhole}
use Rattle.sending.specs.SendingKeptLaws.{SendingKept, kept-rail, fresh_kept}
use Rattle.states.specs.declared.state.State.{State}
use Rattle.states.specs.declared.state.State.TheVariants.{Closed}
use Rattle.states.specs.Tries.{within_tries}
use Rattle.states.specs.Calls.{knows_peer}
use Rattle.association.specs.declared.ends.Ends.{Ends}
use Rattle.association.specs.declared.ends.Association.{Association}
use Rattle.association.specs.Fresh.{no_cookie, started, closed_at, with_state, with_receiving, with_sending}
use Rattle.association.specs.Bounds.{are_ends, are_few, is_head, is_sound}
use Rattle.association.specs.BoundsLaws.{sound-parts, parts-sound, sound-with-state, sound-with-receiving, sound-with-sending, known-ends, closed-head}

-- what the types say: each number is one of its circle, each array has its length
pub record AssociationTyped (a : Association) : Type 0 where
  pub receiving : ReceivingShaped (ring (2 ^ 32)) rail a.receiving
  pub sending : SendingWhole rail a.sending

pub record AssociationKept (a : Association) : Type 0 where
  pub typed : AssociationTyped a
  pub sound : is_sound a ≡ true

-- the receiving side alone
pub record Received (r : Receiving) : Type 0 where
  pub shaped : ReceivingShaped (ring (2 ^ 32)) rail r
  pub sound : ReceivingSound (ring (2 ^ 32)) rail r

-- ---- a record with one part replaced

module _ (a : Association) (k : AssociationKept a) where
  pub kept-receiver : Received a.receiving
  kept-receiver = record { shaped = k.typed.receiving; sound = receiving-test-sound (ring (2 ^ 32)) rail a.receiving (sound-parts a k.sound).receiving }

  pub kept-sender : SendingKept rail_sizes rail a.sending
  kept-sender = record { whole = k.typed.sending; within = (sound-parts a k.sound).sending }

  -- 02, T-12: a mode that is known
  pub kept-mode : a.sending.mode ≤ 1
  kept-mode = (sending-test-sound rail_sizes rail a.sending kept-sender.within).booked

  -- "Tries: 8 for T1, 10 for T2 and T3": no count passes its limit
  pub kept-tries : (within_tries a.state ≡ true) × (a.sending.path.tries ≤ 10)
  kept-tries = ((sound-parts a k.sound).tries, (sending-test-sound rail_sizes rail a.sending kept-sender.within).path.tried)

  pub kept-with-receiving : (r : Receiving) → Received r → AssociationKept (with_receiving a r)
  kept-with-receiving r h = record {
    typed = record { receiving = h.shaped; sending = k.typed.sending };
    sound = sound-with-receiving a k.sound r (receiving-sound-test (ring (2 ^ 32)) rail r h.sound);
  }

  pub kept-with-sending : (s : Sending) → SendingKept rail_sizes rail s → AssociationKept (with_sending a s)
  kept-with-sending s h = record { typed = record { receiving = k.typed.receiving; sending = h.whole }; sound = sound-with-sending a k.sound s h.within }

  pub kept-with-state : (s : State) → within_tries s ≡ true → is_head s a.ends a.cookie ≡ true → AssociationKept (with_state a s)
  kept-with-state s t h = record { typed = record { receiving = k.typed.receiving; sending = k.typed.sending }; sound = sound-with-state a k.sound s t h }

  pub kept-closed : AssociationKept (with_state a Closed)
  kept-closed = kept-with-state Closed refl (closed-head a.ends a.cookie a.state (sound-parts a k.sound).head)

  -- from a state that knows the peer to one that asks for no more
  pub kept-moved : knows_peer a.state ≡ true → (s : State) → within_tries s ≡ true → is_head s a.ends a.cookie ≡ are_ends a.ends true → AssociationKept (with_state a s)
  kept-moved o s t h = kept-with-state s t (h ∙ known-ends a.ends a.cookie a.state o (sound-parts a k.sound).head)

-- ---- records to start from

pub received-fresh : (t : Tsn) → t.0 < 2 ^ 32 → Received (fresh_receiving (ring (2 ^ 32)) rail t)
received-fresh t h = record { shaped = fresh-receiving-shaped (ring (2 ^ 32)) rail t h; sound = fresh-receiving-sound (ring (2 ^ 32)) rail t }

pub kept-started : (s : State) (e : Ends) (ours : Tsn) (window : ℕ) (theirs : Tsn) (mode : ℕ) → within_tries s ≡ true → is_head s e no_cookie ≡ true → ours.0 < 2 ^ 32 → theirs.0 < 2 ^ 32
    → mode ≤ 1 → AssociationKept (started s e ours window theirs mode)
kept-started s e ours window theirs mode t h o d b =
    let r = received-fresh theirs d in
    let v = kept-rail mode rail _ (fresh_kept (sizes_of mode) rail (book-fair mode) ours window mode b (omega arith) o) in
    record {
      typed = record { receiving = r.shaped; sending = v.whole };
      sound = parts-sound (started s e ours window theirs mode) (record { tries = t; cookie = refl; head = h; receiving = receiving-sound-test (ring (2 ^ 32)) rail _ r.sound; sending = v.within });
    }

-- in a mode that is known
pub kept-closed_at : (port mode : ℕ) → mode ≤ 1 → AssociationKept (closed_at port mode)
unfolding are_few
kept-closed_at port mode b = kept-started Closed (closed_at port mode).ends (record { 0 = 1 }) 0 (record { 0 = 1 }) mode refl refl (omega arith) (omega arith) b
