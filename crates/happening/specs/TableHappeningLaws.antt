-- What an event over the record by value has to show. Assumes nothing.
use Rattle.std.specs.Prelude.{ℕ, ◌≡◌, refl, false, List}
use Rattle.std.proofs.Common.{◌∙◌}
use Rattle.calls.specs.declared.acknowledging.Acknowledged as whole
use Rattle.calls.specs.Answer.{Plan, CallDone, QuietlyDone, refusing}
use Rattle.flat.specs.Shown.{association_head, shows}
use Rattle.flat.specs.declared.head.Association.{Association}
use Rattle.asks.specs.TableAnswer.{Reply, answer_in}
use Rattle.asks.specs.TableAcknowledging.{SackReply, acknowledged_in}
use Rattle.asks.specs.TableOpening.{Tables, tables_after}
use Rattle.events.specs.HappeningLaws.{refused-done}
use Rattle.happening.specs.declared.told.Told.{Told}
use Rattle.happening.specs.declared.told.Ran.{Ran}
use Rattle.happening.specs.TableTold.{told_plainly, of_answered, told_of_answer, told_of_sack}
use Rattle.happening.specs.TableHappening.{TableBuffers, ran_of, ran_with, table_leaving, with_head, with_tables, tables_of, table_planned, keeping, table_associates, table_acknowledges}

module _ (a : Association) (b : TableBuffers) where
  module _ {r : Reply} {n : Ran} (w : n ≡ ran_with a r) {p : Plan} where
    pub goes-as-planned : {out : List ℕ} → CallDone p b.out (answer_in r a.held a.next_in a.places a.next_out a.cookie) out → table_leaving n out b ≡ table_planned a p b
    goes-as-planned {out = out} d = (λ i. table_leaving (w i) out b) ∙ (λ i. table_leaving (ran_of (told_of_answer (d.answer i)) (with_head a (association_head (d.answer i).association))) (d.bytes i) b)

    pub goes-alone : QuietlyDone p (answer_in r a.held a.next_in a.places a.next_out a.cookie) → table_leaving n b.out b ≡ keeping a p b
    goes-alone d = (λ i. table_leaving (w i) b.out b) ∙ (λ i. table_leaving (ran_of (told_of_answer (d.answer i)) (with_head a (association_head (d.answer i).association))) b.out b)

  pub goes-afresh : {r : Reply} {n : Ran} {p : Plan} {ts : Tables} {out : List ℕ} → n ≡ ran_with (with_tables a.head ts) r
      → CallDone p b.out (answer_in r ts.held ts.next ts.places ts.next_out ts.kept) out → ts ≡ tables_after r.number (tables_of a)
      → table_leaving n out b ≡ table_associates a p b
  goes-afresh {r} {ts = ts} {out = out} w d q =
      (λ i. table_leaving (w i) out b)
      ∙ (λ i. table_leaving (ran_of (of_answered r) (with_tables r.head (q i))) out b)
      ∙ (λ i. table_leaving (ran_of (told_of_answer (d.answer i)) (with_tables (association_head (d.answer i).association) (tables_after (d.answer i).number (tables_of a)))) (d.bytes i) b)

  pub says : {r : SackReply} {t : Told} → t ≡ told_of_sack r → {g : Association} {k : whole.Acknowledged} {out bytes : List ℕ} → g ≡ with_head a r.head
      → (acknowledged_in r a.held a.next_in a.places a.next_out a.cookie ≡ k) × (out ≡ bytes) → table_leaving (ran_of t g) out b ≡ table_acknowledges a k bytes b
  says w {out = out} u d = (λ i. table_leaving (ran_of (w i) (u i)) out b) ∙ (λ i. table_acknowledges a (d.0 i) (d.1 i) b)

-- a call that is refused outright
pub refuses : (a : Association) (b : TableBuffers) {t : Told} {m n : ℕ} → m ≡ n → (m ≡ 0 → ⊥) → t ≡ told_plainly m 0 false → table_leaving (ran_of t a) b.out b ≡ table_planned a (refusing (shows a) n) b
refuses a b {m = m} e ne w =
    goes-as-planned a b {r = record { number = m; length = 0; over = false; head = a.head }} (λ i. ran_of (w i) a) (refused-done (shows a) e ne (record { is = refl }))
