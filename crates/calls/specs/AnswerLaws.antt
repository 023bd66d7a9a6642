-- What a call has to show. Assumes nothing.
use Rattle.std.specs.Prelude.{ℕ, ◌≤◌, ◌≡◌, Bool, true, false, List, [], length}
use Rattle.std.proofs.Math.Path.{refl}
use Rattle.std.proofs.Common.{sym, ◌∙◌, arith}
use borrow.Author.Tests.{ltb-false, eq-eqb, ne_eqb}
use Rattle.scans.specs.Scan.{pick}
use Rattle.packets.specs.declared.header.Header.{Header}
use Rattle.states.specs.declared.state.State.TheVariants.{Closed}
use Rattle.states.specs.declared.call.Call.{Call}
use Rattle.states.specs.Calls.{permitted}
use Rattle.association.specs.declared.ends.Association.{Association}
use Rattle.association.specs.Fresh.{with_state}
use Rattle.association.specs.Bounds.{least_out}
use Rattle.association.specs.BoundsLaws.{first-none}
use Rattle.calls.specs.declared.answer.Answer.{Answer}
use Rattle.calls.specs.Packet.{Sent}
use Rattle.calls.specs.Answer.{is_short_out, barred, Plan, quietly, carrying_chunk, closing_plan, unless, answer_of, plan_out, CallDone, QuietlyDone}

-- a call that is let in has its lent output and area, and is one for the state
pub call-let-in : (a : Association) (short : Bool) (call : Call) → barred a short call ≡ 0 → (short ≡ false) × (permitted call a.state ≡ true)
unfolding barred
call-let-in a short call e = let f = first-none a short (pick (permitted call a.state) 0 7) e in (f.1, go (permitted call a.state) f.2)
  where
    go : (p : Bool) → ◌≡◌ {A = ℕ} (pick p 0 7) 0 → p ≡ true
    go true h = refl
    go false h = absurd (omega (arith, h))

pub roomy : (a : Association) (out : List ℕ) (call : Call) {n : ℕ} → n ≡ barred a (is_short_out out) call → n ≡ 0 → 12 ≤ length out
roomy a out call e z = omega (arith, ltb-false (length out) least_out (call-let-in a (is_short_out out) call (sym e ∙ z)).0)

-- ---- the ways to end

pub record Refused (a : Association) (n : ℕ) (r : Answer) : Type 0 where
  pub is : r ≡ record { number = n; length = 0; over = false; association = a }

-- n bytes were sent
pub record LengthTold (a : Association) (n : ℕ) (r : Answer) : Type 0 where
  pub is : r ≡ record { number = 0; length = n; over = false; association = a }

pub record Over (a : Association) (r : Answer) : Type 0 where
  pub is : r ≡ record { number = 0; length = 0; over = true; association = with_state a Closed }

pub told-as : {a b : Association} {n : ℕ} {r : Answer} → b ≡ a → LengthTold b n r → LengthTold a n r
told-as {n = n} e t = record { is = t.is ∙ (λ i. record { number = 0; length = n; over = false; association = e i }) }

module _ {out : List ℕ} (a : Association) {r : Answer} where
  pub done-quiet : LengthTold a 0 r → CallDone (quietly a) out r out
  unfolding answer_of plan_out
  done-quiet t = record { answer = t.is; bytes = refl }

  pub done-over : Over a r → CallDone (closing_plan a) out r out
  unfolding answer_of plan_out
  done-over t = record { answer = t.is; bytes = refl }

  pub done-sent : {exit : List ℕ} {h : Header} {bs : List ℕ} {n : ℕ} → Sent h bs out n exit → LengthTold a n r → CallDone (carrying_chunk a h bs) out r exit
  unfolding answer_of plan_out
  done-sent s t = record { answer = rw (← s.count) t.is; bytes = s.bytes }

  module _ {n : ℕ} (p : Plan) where
    pub done_refused : {m : ℕ} → m ≡ n → (m ≡ 0 → ⊥) → Refused a m r → CallDone (unless n a p) out r out
    unfolding answer_of plan_out
    done_refused {m} e ne t = rw (← e, ne_eqb m 0 ne) (record { answer = t.is; bytes = refl })

    pub done-so : {m : ℕ} {exit : List ℕ} → m ≡ n → m ≡ 0 → CallDone p out r exit → CallDone (unless n a p) out r exit
    done-so {m} e z d = rw (← e, eq-eqb m 0 z) d

-- the same with no output
module _ (a : Association) {r : Answer} where
  pub kept-quiet : LengthTold a 0 r → QuietlyDone (quietly a) r
  kept-quiet t = record { answer = (done-quiet {out = []} a t).answer }

  module _ {n : ℕ} (p : Plan) where
    pub kept-refused : {m : ℕ} → m ≡ n → (m ≡ 0 → ⊥) → Refused a m r → QuietlyDone (unless n a p) r
    kept-refused e ne t = record { answer = (done_refused {out = []} a p e ne t).answer }

    pub kept-so : {m : ℕ} → m ≡ n → m ≡ 0 → QuietlyDone p r → QuietlyDone (unless n a p) r
    kept-so {m} e z d = rw (← e, eq-eqb m 0 z) d
