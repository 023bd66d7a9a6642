-- A packet, whatever it holds, leaves the book that the record keeps to. Assumes nothing.
use Rattle.std.specs.Prelude.{ℕ, ◌≡◌, List, ltb, eqb, drop}
use Rattle.std.proofs.Math.Path.{refl}
use Rattle.std.proofs.Common.{◌∙◌}
use Rattle.scans.specs.Upto.{pick-keeps}
use Rattle.octets.specs.WalkLaws.{over-keeps}
use Rattle.association.specs.declared.ends.Association.{Association}
use Rattle.steps.specs.declared.chunk.Beside.{Beside}
use Rattle.steps.specs.declared.lent.Echoed.{Echoed}
use Rattle.steps.specs.declared.lent.Lent.{Lent}
use Rattle.steps.specs.declared.verdict.Done.{Done}
use Rattle.steps.specs.Lent.{heeded}
use Rattle.steps.specs.BookLaws.{step-booked}
use Rattle.arriving.specs.declared.arrival.Arrived.{Arrived}
use Rattle.arriving.specs.declared.verdict.Verdict.{Verdict}
use Rattle.arriving.specs.declared.walk.Walked.{Walked}
use Rattle.arriving.specs.Walked.{Turn, walk_begun, verdict_noted, chunk_taken_in, beside_at, reply_room, turned, walked_over}
use Rattle.arriving.specs.Arrival.{packet_refused, packet_walked, arrival_number, arrived_of}

module _ (n : ℕ) where
  abbrev Booked : Association → Type 0
  Booked a = a.sending.mode ≡ n

  noted-booked : (w : Walked) (v : Verdict) → Booked w.association → Booked (verdict_noted w v).association
  unfolding verdict_noted
  noted-booked w v k = pick-keeps (λ (x : Walked). Booked x.association) (ltb w.count 365) _ w k k

  taken-booked : (w : Walked) (at : ℕ) (d : Done) → Booked d.association → Booked (chunk_taken_in w at d).association
  unfolding chunk_taken_in
  taken-booked w at d k = noted-booked _ _ k

  turned-booked : (at : ℕ) (b : Beside) (cookie s : List ℕ) (t : Turn) → Booked t.walked.association → Booked (turned at b cookie s t).walked.association
  unfolding turned
  turned-booked at b cookie s t k =
      pick-keeps (λ (x : Turn). Booked x.walked.association) t.walked.unread _ _ (noted-booked t.walked _ k)
      (taken-booked t.walked at _ (step-booked (reply_room t) t.walked.association (beside_at at b) cookie s ∙ k))

module _ (a : Association) (area packet : List ℕ) (lent : Lent) (cookie : List ℕ) where
  passed-booked : (e : Echoed) → (packet_walked a area packet lent cookie e).walked.association.sending.mode ≡ a.sending.mode
  unfolding packet_walked walked_over walk_begun
  passed-booked e =
      over-keeps (λ (t : Turn). t.walked.association.sending.mode ≡ a.sending.mode) _ packet (λ t at p. turned-booked a.sending.mode _ _ cookie (drop at packet) t p) _ 12 refl

  pub arrive-booked : (e : Echoed) (out : List ℕ) → (arrived_of a area packet lent cookie e out).association.sending.mode ≡ a.sending.mode
  unfolding arrived_of packet_refused
  arrive-booked e out = pick-keeps (λ (r : Arrived). r.association.sending.mode ≡ a.sending.mode) (eqb (arrival_number a area packet e out) 0) _ _ (passed-booked (heeded a.state a.ends e)) refl
