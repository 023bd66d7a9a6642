-- Which number a packet gets, and what it then leaves; and two results that read alike are one. Assumes nothing.
use Rattle.std.specs.Prelude.{ℕ, ◌≡◌, Bool, List, Result, Ok, Err, length, take}
use Rattle.std.proofs.Math.Path.{refl, ap}
use Rattle.std.proofs.Common.{sym, ◌∙◌, eq-eqb, ne_eqb}
use Rattle.scans.specs.Scan.{pick}
use Rattle.numbers.specs.declared.refusal.Refusal.{Refusal}
use Rattle.numbers.specs.RefusalLaws.{refusals-apart, refusal-never-none}
use Rattle.steps.specs.declared.lent.Lent.{Lent}
use Rattle.steps.specs.declared.lent.Echoed.{Echoed}
use Rattle.steps.specs.Lent.{heeded}
use Rattle.arriving.specs.Tags.{head_number}
use Rattle.arriving.specs.Arrival.{lent_number, packet_number, answered_length, answered_out, arrival_number}
use Rattle.association.specs.declared.ends.Association.{Association}
use Rattle.flat.specs.declared.head.Head.{Head}
use Rattle.flat.specs.Shown.{bare, shown}
use Rattle.rows.specs.Lending.{Standing}
use Rattle.landing.specs.declared.arrival.Landed.{Landed}
use Rattle.landing.specs.declared.walk.Walk.{Walk}
use Rattle.landing.specs.TableWalk.{TableTurn, turn_over, bare_walked}
use Rattle.landing.specs.Landing.{Landing, After, after_of, after_over, landing_of, landing_refused_as, packet_walked_over, let_in, landed}

pub landings-apart : (h : Head) (r q : Result Landed Refusal) → landing_of h r ≡ landing_of h q → r ≡ q
landings-apart h (Ok a) (Ok b) e = ap (λ (x : Landing). Ok (record { count = x.count; length = x.length; head = x.head })) e
landings-apart h (Ok a) (Err b) e = absurd (refusal-never-none b (sym (ap (λ (x : Landing). x.number) e)))
landings-apart h (Err a) (Ok b) e = absurd (refusal-never-none a (ap (λ (x : Landing). x.number) e))
landings-apart h (Err a) (Err b) e = ap Err (refusals-apart a b (ap (λ (x : Landing). x.number) e))

-- the walk, then the answer
pub landed-in-done : (w : Walk) (t : Standing) (verdicts scratch packet out : List ℕ) {u : TableTurn} → turn_over w t verdicts scratch ≡ u
    → {n : ℕ} {out' : List ℕ} → (n ≡ answered_length (bare_walked w) packet (take w.used scratch) out) × (out' ≡ answered_out (bare_walked w) packet (take w.used scratch) out)
    → after_over (record { number = 0; count = w.count; length = n; head = w.head }) t verdicts out' ≡ let_in u packet out
unfolding let_in
landed-in-done w t verdicts scratch packet out {u} e {n} {out'} p =
    (λ i. after_over (record { number = 0; count = w.count; length = p.0 i; head = w.head }) t verdicts (p.1 i))
    ∙ ap (λ (v : TableTurn). let_in v packet out) e

module _ (packet : List ℕ) (lent : Lent) (cookie : List ℕ) (e : Echoed) (h : Head) (held next places next_out kept area verdicts out : List ℕ) where
  abbrev all : Association
  all = shown h held next places next_out kept

  abbrev number : ℕ
  number = arrival_number all area packet e out

  abbrev first : ℕ
  first = lent_number all (length area) (length out)

  abbrev Leaves : After → Type 0
  Leaves x = x ≡ landed packet lent cookie e h held next places next_out kept area verdicts out

  abbrev choice : Bool → After
  choice t = pick t (let_in (packet_walked_over packet lent cookie (heeded h.state h.ends e) h held next places next_out kept area verdicts) packet out) (after_of (landing_refused_as h number) held next places next_out kept area verdicts out)

  -- ports and tag ask nothing of the tables
  packet-bare : (w : Echoed) → packet_number (bare h) packet w ≡ packet_number all packet w
  unfolding packet_number head_number
  packet-bare w = refl

  refused-by : {n : ℕ} → n ≡ number → (n ≡ 0 → ⊥) → {r : Landing} → r ≡ landing_refused_as h n → Leaves (after_of r held next places next_out kept area verdicts out)
  unfolding landed
  refused-by {n} k z {r} p =
      (λ i. after_of ((p ∙ ap (λ (m : ℕ). landing_refused_as h m) k) i) held next places next_out kept area verdicts out) ∙ ap choice (sym (ne_eqb number 0 (λ q. z (k ∙ q))))

  module _ {n : ℕ} (k : (ns ms cs : List ℕ) → n ≡ lent_number (shown h held ns places ms cs) (length area) (length out)) where
    pub landed-refused-lent : (n ≡ 0 → ⊥) → {r : Landing} → r ≡ landing_refused_as h n → Leaves (after_of r held next places next_out kept area verdicts out)
    unfolding arrival_number
    landed-refused-lent z p =
        let l : n ≡ first = k next next_out kept in
        refused-by (l ∙ ap (λ (t : Bool). pick t (packet_number all packet (heeded h.state h.ends e)) first) (sym (ne_eqb first 0 (λ q. z (l ∙ q))))) z p

    module _ (z : n ≡ 0) {word : Echoed} (w : word ≡ heeded h.state h.ends e) {m : ℕ} (q : m ≡ packet_number (bare h) packet word) where
      is-packet : m ≡ number
      unfolding arrival_number
      is-packet =
          q ∙ ap (λ (x : Echoed). packet_number (bare h) packet x) w ∙ packet-bare (heeded h.state h.ends e)
          ∙ ap (λ (t : Bool). pick t (packet_number all packet (heeded h.state h.ends e)) first) (sym (eq-eqb first 0 (sym (k next next_out kept) ∙ z)))

      pub landed-refused : (m ≡ 0 → ⊥) → {r : Landing} → r ≡ landing_refused_as h m → Leaves (after_of r held next places next_out kept area verdicts out)
      landed-refused = refused-by is-packet

      pub landed-let-in : m ≡ 0 → {x : After} → x ≡ let_in (packet_walked_over packet lent cookie word h held next places next_out kept area verdicts) packet out → Leaves x
      unfolding landed
      landed-let-in y p =
          p ∙ ap (λ (v : Echoed). let_in (packet_walked_over packet lent cookie v h held next places next_out kept area verdicts) packet out) w
          ∙ ap choice (sym (eq-eqb number 0 (sym is-packet ∙ y)))
