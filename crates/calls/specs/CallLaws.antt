-- What every call keeps to. Assumes nothing.
use Rattle.std.specs.Prelude.{ℕ, ◌≡◌, refl, Bool, true, false, List, eqb, length}
use Rattle.std.proofs.Common.{sym, ◌∙◌}
use Rattle.scans.specs.Scan.{pick}
use Rattle.holding.specs.declared.taking.Answer as took
use Rattle.holding.specs.declared.taking.Answer.TheVariants.{Taken, Nothing, Short}
use Rattle.states.specs.declared.state.State.{State}
use Rattle.states.specs.declared.state.State.TheVariants.{Closed, CookieWait, CookieEchoed, Established, ShutdownPending, ShutdownSent, ShutdownReceived, ShutdownAckSent}
use Rattle.states.specs.Tries.{tried_again, within_tries}
use Rattle.states.specs.TriesLaws.{tries-kept}
use Rattle.states.specs.declared.call.Call.{Call}
use Rattle.association.specs.declared.ends.Association.{Association}
use Rattle.association.specs.Fresh.{with_state, with_receiving}
use Rattle.association.specs.Bounds.{is_sound}
use Rattle.association.specs.BoundsLaws.{sound-closed}
use Rattle.calls.specs.declared.answer.Answer.{Answer}
use Rattle.calls.specs.Answer.{is_short_area, barred, Plan, CallDone, QuietlyDone}
use Rattle.calls.specs.Messages.{undelivered, delivered_as, taking, delivered, delivered_out}
use Rattle.calls.specs.Timers.{association_backed_off, tried_to}

-- 1 comes before all else
pub unsound-first : (a : Association) (short : Bool) (call : Call) → is_sound a ≡ false → barred a short call ≡ 1
unfolding barred
unsound-first a short call e = rw e

-- then 18
pub short-next : (a : Association) (call : Call) → is_sound a ≡ true → barred a true call ≡ 18
unfolding barred
short-next a call e = rw e

-- of a take as well
pub take-unsound : (a : Association) (area out : List ℕ) → is_sound a ≡ false → (delivered a area (length out) ≡ undelivered a 1 0) × (delivered_out a area out ≡ out)
unfolding delivered delivered_out
take-unsound a area out given = (rw given, rw given)

-- two outcomes that a call's promise allows are one
pub done-one : {p : Plan} {out : List ℕ} {r s : Answer} {x y : List ℕ} → CallDone p out r x → CallDone p out s y → (r ≡ s) × (x ≡ y)
done-one d e = (d.answer ∙ sym e.answer, d.bytes ∙ sym e.bytes)

pub kept-one : {p : Plan} {r s : Answer} → QuietlyDone p r → QuietlyDone p s → r ≡ s
kept-one d e = d.answer ∙ sym e.answer

-- ---- tries

pub tried-within : (a : Association) (s : State) → within_tries s ≡ true → within_tries (tried_to a s).association.state ≡ true
unfolding tried_to association_backed_off
tried-within a Closed h = refl
tried-within a (CookieWait n) h = h
tried-within a (CookieEchoed n) h = h
tried-within a Established h = refl
tried-within a ShutdownPending h = refl
tried-within a (ShutdownSent n) h = h
tried-within a ShutdownReceived h = refl
tried-within a (ShutdownAckSent n) h = h

-- T1 and T2 never leave more than 8 and 10
pub expiry-within : (a : Association) → within_tries a.state ≡ true → within_tries (tried_to a (tried_again a.state)).association.state ≡ true
expiry-within a h = tried-within a (tried_again a.state) (tries-kept a.state h)

-- ---- "taken in any state"

same-message : (x : took.Answer) (b c : Association) → (delivered_as x b).message ≡ (delivered_as x c).message
same-message (Taken m) b c = refl
same-message Nothing b c = refl
same-message (Short n) b c = refl

-- a record that was closed gives the message that it would have given
pub closed-gives : (a : Association) (area : List ℕ) (room : ℕ) → is_sound a ≡ true
    → (delivered (with_state a Closed) area room).message ≡ (delivered a area room).message
unfolding delivered
closed-gives a area room e = rw (sound-closed a e, e) (go (is_short_area area))
  where
    go : (s : Bool)
        → (pick (eqb (pick s 18 0) 0) (delivered_as (taking a room).answer (with_receiving (with_state a Closed) (taking a room).receiving)) (undelivered (with_state a Closed) (pick s 18 0) 0)).message
        ≡ (pick (eqb (pick s 18 0) 0) (delivered_as (taking a room).answer (with_receiving a (taking a room).receiving)) (undelivered a (pick s 18 0) 0)).message
    go true = refl
    go false = same-message (taking a room).answer _ _
