-- A packet, whatever it holds, keeps a record within its bounds; the reply is at most 1,472 bytes; a refused packet leaves all. Assumes nothing.
use Rattle.std.specs.Prelude.{ℕ, zero, suc, ◌+◌, ◌-◌, ◌<◌, ◌≤◌, ◌≡◌, Bool, not, ltb, eqb}
use Rattle.std.proofs.Math.Path.{refl}
use Rattle.std.proofs.Common.{sym, ap, ◌∙◌, arith, ltb-false, eqb-true, length-append}
use Rattle.std.proofs.Math.Bool.{true, false}
use mathlib.Core.List.{List, [], ◌∷◌, ◌++◌}
use Rattle.std.proofs.lemmas.Bool.{not-true}
use Rattle.std.proofs.Math.ListN.{length, drop}
use Rattle.scans.specs.Scan.{pick}
use Rattle.scans.specs.Each.{All, after-so, after-not, neither}
use Rattle.scans.specs.Upto.{pick-keeps}
use Rattle.octets.specs.Bytes.{laid}
use Rattle.octets.specs.BytesLaws.{drop_past}
use Rattle.octets.specs.WalkLaws.{over-keeps}
use Rattle.octets.specs.Writing.{fitting}
use Rattle.packets.specs.declared.header.Header.{Header}
use Rattle.packets.specs.Header.{header_of}
use Rattle.packets.specs.HeaderLaws.{seal-most, seal-past}
use Rattle.packets.specs.Checks.{size_number, sum_number}
use Rattle.packets.specs.Shape.{shape_number}
use Rattle.chunks.specs.AgainLaws.{Octet}
use Rattle.chunks.specs.Frame.{weight}
use Rattle.chunks.specs.FrameLaws.{framed-long}
use Rattle.chunks.specs.ShutdownChunk.{shutdown_bytes}
use Rattle.association.specs.declared.ends.Association.{Association}
use Rattle.states.specs.Tries.{is_closed}
use Rattle.association.specs.Bounds.{lacks_port, is_sound}
use Rattle.association.specs.BoundsLaws.{sound-parts, open-ported, earlier-none}
use Rattle.association.specs.AssociationKeptLaws.{AssociationKept}
use Rattle.steps.specs.declared.chunk.Beside.{Beside}
use Rattle.steps.specs.declared.lent.Echoed.{Echoed}
use Rattle.steps.specs.declared.lent.Lent.{Lent}
use Rattle.steps.specs.declared.verdict.Done.{Done}
use Rattle.steps.specs.declared.verdict.Owed.{Owed}
use Rattle.steps.specs.declared.verdict.Owed.TheVariants.{Nothing, Shutdown, Complete, Reflected, To}
use Rattle.steps.specs.Lent.{heeded}
use Rattle.steps.specs.SoundLaws.{Worded, Heeded, heeded-so}
use Rattle.steps.specs.Steps.{step_of}
use Rattle.steps.specs.StepsLaws.{step_keeps}
use Rattle.steps.specs.PortLaws.{step-ported}
use Rattle.arriving.specs.declared.arrival.Arrived.{Arrived}
use Rattle.arriving.specs.declared.verdict.Verdict.{Verdict}
use Rattle.arriving.specs.declared.walk.Walked.{Walked}
use Rattle.arriving.specs.Walked.{Turn, walk_begun, verdict_noted, chunk_taken_in, beside_at, reply_room, chunk_step, turned, walked_over}
use Rattle.arriving.specs.Reply.{is_silenced, is_shutdown_due, shutdown_added, closed_by, whole_reply, reply_head, reply_length, sent_out}
use Rattle.arriving.specs.Tags.{are_ports, rule_for, is_tag, head_number}
use Rattle.arriving.specs.Arrival.{lent_number, packet_number, packet_refused, packet_walked, answered_length, answered_out, arrival_number, arrived_of, packet_area, packet_out}

pub all_drop : {A : Type 0} (Q : A → Type 0) (n : ℕ) (xs : List A) → All Q xs → All Q (drop n xs)
all_drop Q zero xs w = w
all_drop Q (suc n) [] w = tt
all_drop Q (suc n) (x ∷ xs) w = all_drop Q n xs w.1

-- ---- the record

zero-keeps : (Q : Arrived → Type 0) (n : ℕ) (x y : Arrived) → (n ≡ 0 → Q x) → Q y → Q (pick (eqb n 0) x y)
zero-keeps Q n x y f k = go (eqb n 0) refl
  where
    go : (t : Bool) → eqb n 0 ≡ t → Q (pick t x y)
    go true e = f (eqb-true n 0 e)
    go false e = k

-- while a packet is read: within its bounds, and at a port that is not 0
abbrev Housed : Association → Type 0
Housed a = AssociationKept a × (eqb a.ends.local_port 0 ≡ false)

noted-kept : (w : Walked) (v : Verdict) → Housed w.association → Housed (verdict_noted w v).association
unfolding verdict_noted
noted-kept w v k = pick-keeps (λ (x : Walked). Housed x.association) (ltb w.count 365) _ w k k

taken-kept : (w : Walked) (at : ℕ) (d : Done) → Housed d.association → Housed (chunk_taken_in w at d).association
unfolding chunk_taken_in
taken-kept w at d k = noted-kept _ _ k

step_kept : (room : ℕ) (a : Association) (b : Beside) (cookie s : List ℕ) → Heeded b.echoed → eqb b.source 0 ≡ false → All Octet s → Housed a → Housed (step_of room a b cookie s).association
step_kept room a b cookie s h f w k =
    let p : lacks_port a.ends.local_port b.source ≡ false = rw k.1 f in
    (step_keeps room a k.0 b h p cookie s w, ap (λ (n : ℕ). eqb n 0) (step-ported room a b cookie s) ∙ k.1)

turned-kept : (at : ℕ) (b : Beside) (cookie s : List ℕ) → Heeded b.echoed → eqb b.source 0 ≡ false → All Octet s → (t : Turn) → Housed t.walked.association
    → Housed (turned at b cookie s t).walked.association
unfolding turned
turned-kept at b cookie s h f w t k =
    pick-keeps (λ (x : Turn). Housed x.walked.association) t.walked.unread _ _ (noted-kept t.walked _ k)
    (taken-kept t.walked at _ (step_kept (reply_room t) t.walked.association (beside_at at b) cookie s h f w k))

-- 4: what is let in comes to our port, which is not 0, and from one that is not 0
not-four : (z m p t : Bool) (rest : ℕ) → ◌≡◌ {A = ℕ} (pick z 2 (pick m 3 (pick (eqb (pick p (pick t 0 4) 4) 4) 4 rest))) 0 → p ≡ true
not-four true m p t rest h = absurd (omega (arith, h))
not-four false true p t rest h = absurd (omega (arith, h))
not-four false false true t rest h = refl
not-four false false false t rest h = absurd (omega (arith, h))

let-in-ports : (a : Association) (packet : List ℕ) (e : Echoed) → packet_number a packet e ≡ 0 → are_ports a.state a.ends (header_of packet) ≡ true
unfolding packet_number head_number
let-in-ports a packet e h = not-four (eqb (size_number packet) 2) (eqb (sum_number packet) 3) (are_ports a.state a.ends (header_of packet)) (is_tag (rule_for a.state a.ends (drop 12 packet) e) (header_of packet).tag) (shape_number packet) h

ports-there : (a : Association) (h : Header) → is_sound a ≡ true → are_ports a.state a.ends h ≡ true → (eqb a.ends.local_port 0 ≡ false) × (eqb h.source 0 ≡ false)
unfolding are_ports
ports-there a h s e =
    let d = after-not (eqb h.destination 0) _ e in
    let l = after-so (eqb h.destination a.ends.local_port) _ d.1 in
    (ap (λ (n : ℕ). eqb n 0) (sym (eqb-true h.destination a.ends.local_port l.0)) ∙ d.0, go (is_closed a.state) refl l.1)
  where
    go : (t : Bool) → is_closed a.state ≡ t → pick t (not (eqb h.source 0)) (eqb h.source a.ends.peer_port) ≡ true → eqb h.source 0 ≡ false
    go true q x = not-true (eqb h.source 0) x
    go false q x =
        let o = neither (eqb a.ends.local_port 0) _ (open-ported a.ends a.cookie a.state q (sound-parts a s).head) in
        ap (λ (n : ℕ). eqb n 0) (eqb-true h.source a.ends.peer_port x) ∙ o.1

module _ (a : Association) (area packet : List ℕ) (lent : Lent) (cookie : List ℕ) where
  passed-kept : (e : Echoed) → Heeded e → eqb (header_of packet).source 0 ≡ false → All Octet packet → Housed a → Housed (packet_walked a area packet lent cookie e).walked.association
  unfolding packet_walked walked_over walk_begun
  passed-kept e h f w k = over-keeps (λ (t : Turn). Housed t.walked.association) _ packet (λ t at p. turned-kept _ _ cookie (drop at packet) h f (all_drop Octet at packet w) t p) _ 12 k

  let-in-housed : (e : Echoed) (out : List ℕ) → AssociationKept a → arrival_number a area packet e out ≡ 0 → Housed a × (eqb (header_of packet).source 0 ≡ false)
  unfolding arrival_number
  let-in-housed e out k z =
      let n = earlier-none (lent_number a (length area) (length out)) (packet_number a packet (heeded a.state a.ends e)) z in
      let p = ports-there a (header_of packet) k.sound (let-in-ports a packet (heeded a.state a.ends e) n.1) in
      ((k, p.0), p.1)

  pub arrive-keeps : (e : Echoed) (out : List ℕ) → Worded e → All Octet packet → AssociationKept a → AssociationKept (arrived_of a area packet lent cookie e out).association
  unfolding arrived_of packet_refused
  arrive-keeps e out x w k =
      zero-keeps (λ (r : Arrived). AssociationKept r.association) (arrival_number a area packet e out) _ _
      (λ z. let n = let-in-housed e out k z in (passed-kept (heeded a.state a.ends e) (heeded-so a.state a.ends e x) n.1 w n.0).0) k

-- ---- the reply: "one of at most 1,472"

fitting-small : (room : ℕ) (bs : List ℕ) → length (fitting room bs) ≤ room
fitting-small room bs = go (ltb room (length bs)) refl
  where
    go : (t : Bool) → ltb room (length bs) ≡ t → length (pick t [] bs) ≤ room
    go true e = omega arith
    go false e = ltb-false room (length bs) e

-- one reply more, as far as it fits
more-small : (reply bs : List ℕ) → length reply ≤ 1460 → length (reply ++ fitting (1460 - length reply) bs) ≤ 1460
more-small reply bs h = omega (arith, length-append reply (fitting (1460 - length reply) bs), fitting-small (1460 - length reply) bs)

turned-small : (at : ℕ) (b : Beside) (cookie s : List ℕ) (t : Turn) → length t.reply ≤ 1460 → length (turned at b cookie s t).reply ≤ 1460
unfolding turned
turned-small at b cookie s t h = pick-keeps (λ (x : Turn). length x.reply ≤ 1460) t.walked.unread _ _ h (more-small t.reply (chunk_step at b cookie s t).reply h)

pub passed-small : (a : Association) (area packet : List ℕ) (lent : Lent) (cookie : List ℕ) (e : Echoed) → length (packet_walked a area packet lent cookie e).reply ≤ 1460
unfolding packet_walked walked_over walk_begun
passed-small a area packet lent cookie e = over-keeps (λ (t : Turn). length t.reply ≤ 1460) _ packet (λ t at p. turned-small _ _ cookie (drop at packet) t p) _ 12 (omega arith)

ended-small : (w : Walked) (reply : List ℕ) → length reply ≤ 1460 → length (shutdown_added w reply) ≤ 1460
unfolding shutdown_added
ended-small w reply h = pick-keeps (λ (x : List ℕ). length x ≤ 1460) (is_shutdown_due w) _ reply (more-small reply (shutdown_bytes w.association.receiving.keeping.point) h) h

pub whole-small : (w : Walked) (reply : List ℕ) → length reply ≤ 1460 → length (whole_reply w reply) ≤ 1460
unfolding whole_reply
whole-small w reply h = go w.complete
  where
    go : (o : Owed) → length (closed_by w reply o) ≤ 1460
    go Complete = omega (arith, framed-long 14 (weight false 1) [])
    go Reflected = omega (arith, framed-long 14 (weight true 1) [])
    go Nothing = ended-small w reply h
    go Shutdown = ended-small w reply h
    go (To tag) = ended-small w reply h

module _ (w : Walked) (packet reply out : List ℕ) (h : length reply ≤ 1460) where
  answered-most : answered_length w packet reply out ≤ 1472
  unfolding answered_length reply_length
  answered-most =
      pick-keeps (λ (n : ℕ). n ≤ 1472) (is_silenced packet) 0 _ (omega arith)
      (pick-keeps (λ (n : ℕ). n ≤ 1472) (ltb 12 (12 + length (whole_reply w reply))) _ 0 (omega (arith, seal-most (12 + length (whole_reply w reply)) (laid out 12 (whole_reply w reply)), whole-small w reply h)) (omega arith))

  answered-rest : drop 1472 (answered_out w packet reply out) ≡ drop 1472 out
  unfolding answered_out sent_out
  answered-rest =
      let l = whole-small w reply h in
      let past : drop 1472 (laid out 12 (whole_reply w reply)) ≡ drop 1472 out = drop_past (whole_reply w reply) out 12 1472 (omega arith) in
      pick-keeps (λ (x : List ℕ). drop 1472 x ≡ drop 1472 out) (is_silenced packet) out _ refl
      (pick-keeps (λ (x : List ℕ). drop 1472 x ≡ drop 1472 out) (ltb 12 (12 + length (whole_reply w reply))) _ _ (seal-past (reply_head w.association w.complete (header_of packet)) (12 + length (whole_reply w reply)) (laid out 12 (whole_reply w reply)) 1472 (omega arith) ∙ past) past)

module _ (a : Association) (area packet : List ℕ) (lent : Lent) (cookie : List ℕ) (e : Echoed) (out : List ℕ) where
  pub arrive-most : (arrived_of a area packet lent cookie e out).length ≤ 1472
  unfolding arrived_of packet_refused
  arrive-most =
      pick-keeps (λ (r : Arrived). r.length ≤ 1472) (eqb (arrival_number a area packet e out) 0) _ _ (answered-most _ packet _ out (passed-small a area packet lent cookie (heeded a.state a.ends e))) (omega arith)

  -- no byte behind is written
  pub arrive-rest : drop 1472 (packet_out a area packet lent cookie e out) ≡ drop 1472 out
  unfolding packet_out
  arrive-rest =
      pick-keeps (λ (x : List ℕ). drop 1472 x ≡ drop 1472 out) (eqb (arrival_number a area packet e out) 0) _ out (answered-rest _ packet _ out (passed-small a area packet lent cookie (heeded a.state a.ends e))) refl

  -- ---- a refused packet leaves all

  pub arrive-left : 0 < (arrived_of a area packet lent cookie e out).number
      → ((arrived_of a area packet lent cookie e out).association ≡ a) × (packet_area a area packet lent cookie e out ≡ area) × (packet_out a area packet lent cookie e out ≡ out)
  unfolding arrived_of packet_area packet_out packet_refused
  arrive-left = go (eqb (arrival_number a area packet e out) 0) _ _ _ refl
    where
      go : (t : Bool) (x : Arrived) (filled sent : List ℕ) → x.number ≡ 0 → 0 < (pick t x (packet_refused a (arrival_number a area packet e out))).number
          → ((pick t x (packet_refused a (arrival_number a area packet e out))).association ≡ a) × (pick t filled area ≡ area) × (pick t sent out ≡ out)
      go true x filled sent z h = absurd (omega arith)
      go false x filled sent z h = (refl, refl, refl)
