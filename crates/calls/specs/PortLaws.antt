-- "port number 0 MUST NOT be used" (RFC 9260 section 3.1), and only an INIT goes out with tag 0 (section 8.5.1 A): what the two calls of CLOSED send.
-- Assumes nothing.
use Rattle.std.specs.Prelude.{ℕ, ◌≡◌, refl, Bool, true, false, List, eqb}
use Rattle.std.proofs.Common.{arith, eqb-true}
use Rattle.std.proofs.lemmas.Bool.{eqb-false}
use Rattle.scans.specs.Scan.{pick, either}
use Rattle.numbers.specs.declared.circle.Tsn.{Tsn}
use Rattle.packets.specs.declared.header.Header.{Header}
use Rattle.states.specs.declared.call.Call.TheVariants.{Associate, TellStale}
use Rattle.association.specs.declared.ends.Association.{Association}
use Rattle.association.specs.Bounds.{lacks_port, earlier}
use Rattle.association.specs.BoundsLaws.{earlier-none}
use Rattle.calls.specs.Answer.{is_short_out, barred, Plan, refusing, unless, answer_of}
use Rattle.calls.specs.Opening.{wanting, associate_refusal, associating}
use Rattle.calls.specs.Telling.{stale_refusal, telling_stale}

-- a header goes from one port to another, and neither is 0
pub record Ported (h : Header) (local port : ℕ) : Type 0 where
  pub source : h.source ≡ local
  pub destination : h.destination ≡ port
  pub from : local ≡ 0 → ⊥
  pub to : port ≡ 0 → ⊥

-- a call that is not refused goes as planned
planned : (n : ℕ) (a : Association) (p : Plan) → (unless n a p).number ≡ 0 → (n ≡ 0) × (unless n a p ≡ p)
planned n a p = go (eqb n 0) refl
  where
    go : (t : Bool) → eqb n 0 ≡ t → (pick t p (refusing a n)).number ≡ 0 → (n ≡ 0) × (pick t p (refusing a n) ≡ p)
    go true e z = (eqb-true n 0 e, refl)
    go false e z = absurd (eqb-false n 0 e z)

-- 4 or another number is not 0, so no port is
not-4 : (local peer rest : ℕ) → pick (lacks_port local peer) 4 rest ≡ 0 → (local ≡ 0 → ⊥) × (peer ≡ 0 → ⊥) × (rest ≡ 0)
not-4 local peer rest = go (eqb local 0) (eqb peer 0) refl refl
  where
    go : (s t : Bool) → eqb local 0 ≡ s → eqb peer 0 ≡ t → pick (either s t) 4 rest ≡ 0 → (local ≡ 0 → ⊥) × (peer ≡ 0 → ⊥) × (rest ≡ 0)
    go true t e f z = absurd (omega (arith, z))
    go false true e f z = absurd (omega (arith, z))
    go false false e f z = (eqb-false local 0 e, eqb-false peer 0 f, z)

not-tag : (tag : ℕ) → ◌≡◌ {A = ℕ} (pick (eqb tag 0) 4 0) 0 → tag ≡ 0 → ⊥
not-tag tag = go (eqb tag 0) refl
  where
    go : (t : Bool) → eqb tag 0 ≡ t → ◌≡◌ {A = ℕ} (pick t 4 0) 0 → tag ≡ 0 → ⊥
    go true e z = absurd (omega (arith, z))
    go false e z = eqb-false tag 0 e

-- what the host is told the number 0 of has gone out so
pub associate-ported : (a : Association) (tag : ℕ) (tsn : Tsn) (port streams : ℕ) (out : List ℕ) → (answer_of (associating a tag tsn port streams out) out).number ≡ 0
    → Ported (associating a tag tsn port streams out).header a.ends.local_port port
unfolding answer_of associating associate_refusal wanting
associate-ported a tag tsn port streams out z =
    let n : ℕ = earlier (barred a (is_short_out out) Associate) (associate_refusal a.ends.local_port tag port streams) in
    let p = planned n a _ z in
    let w = not-4 a.ends.local_port port _ (earlier-none (barred a (is_short_out out) Associate) (associate_refusal a.ends.local_port tag port streams) p.0).1 in
    rw p.1 (record { source = refl; destination = refl; from = w.0; to = w.1 })

pub stale-ported : (a : Association) (port tag late : ℕ) (out : List ℕ) → (answer_of (telling_stale a port tag late out) out).number ≡ 0
    → Ported (telling_stale a port tag late out).header a.ends.local_port port × ((telling_stale a port tag late out).header.tag ≡ 0 → ⊥)
unfolding answer_of telling_stale stale_refusal
stale-ported a port tag late out z =
    let n : ℕ = earlier (barred a (is_short_out out) TellStale) (stale_refusal a.ends.local_port port tag) in
    let p = planned n a _ z in
    let w = not-4 a.ends.local_port port _ (earlier-none (barred a (is_short_out out) TellStale) (stale_refusal a.ends.local_port port tag) p.0).1 in
    rw p.1 (record { source = refl; destination = refl; from = w.0; to = w.1 }, not-tag tag w.2)
