-- A packet all of whose chunks are refused, but for 11 and 14, leaves all and is not answered. Assumes nothing.
use Rattle.std.specs.Prelude.{ℕ, zero, suc, ◌+◌, ◌-◌, ◌*◌, ◌<◌, ◌≤◌, ◌≡◌, Bool, List, [], ◌∷◌, ◌++◌, ltb, length, take, drop, set}
use Rattle.std.proofs.Math.Path.{refl}
use Rattle.std.proofs.Common.{sym, ap, subst, ◌∙◌, arith, lt-ltb, eq-eqb, eqb-true, length-set, take-suc-set}
use Rattle.std.proofs.Math.Bool.{true, false}
use Rattle.std.proofs.Math.Decide.{dec_lt}
use Rattle.std.proofs.Math.Dec.{eqb}
use Rattle.std.proofs.Math.ListN.{length-replicate}
use Rattle.scans.specs.Scan.{pick, either}
use Rattle.scans.specs.Each.{All}
use Rattle.scans.specs.Upto.{pick-keeps}
use Rattle.octets.specs.Walk.{size, over_items}
use Rattle.octets.specs.WalkLaws.{size-least, over-on, over-end}
use Rattle.octets.specs.Writing.{fitting}
use Rattle.chunks.specs.ShutdownChunk.{shutdown_bytes}
use Rattle.packets.specs.Checks.{size_number}
use Rattle.packets.specs.ChecksLaws.{size-most}
use Rattle.association.specs.declared.ends.Association.{Association}
use Rattle.association.specs.BoundsLaws.{earlier-none}
use Rattle.steps.specs.declared.chunk.Beside.{Beside}
use Rattle.steps.specs.declared.lent.Lent.{Lent}
use Rattle.steps.specs.declared.lent.Echoed.{Echoed}
use Rattle.steps.specs.declared.verdict.Done.{Done}
use Rattle.steps.specs.declared.verdict.Owed.{Owed}
use Rattle.steps.specs.declared.verdict.Owed.TheVariants.{Nothing}
use Rattle.steps.specs.Verdict.{done_with}
use Rattle.steps.specs.Steps.{step_area}
use Rattle.steps.specs.Lent.{heeded}
use Rattle.steps.specs.LeftLaws.{step-left-all}
use Rattle.steps.proofs.StepLeftLaws.{step_left}
use Rattle.arriving.specs.declared.verdict.Verdict.{Verdict}
use Rattle.arriving.specs.declared.walk.Walked.{Walked}
use Rattle.arriving.specs.declared.arrival.Arrived.{Arrived}
use Rattle.arriving.specs.ChunkVerdict.{unread_at, chunk_verdict}
use Rattle.arriving.specs.Walked.{Turn, walk_begun, verdict_noted, owes, is_due, chunk_taken_in, beside_at, reply_room, chunk_step, reply_at, turned, walked_over}
use Rattle.arriving.specs.WalkedLaws.{walked_as}
use Rattle.arriving.specs.Reply.{is_shutdown_sent, shutdown_added, closed_by, whole_reply}
use Rattle.arriving.specs.Arrival.{lent_number, packet_number, packet_refused, packet_walked, packet_accepted, answered_length, arrival_number, arrived_of, packet_area, packet_out}
use Rattle.arriving.specs.PacketOutcomes.{nothing, behind, Arriving, left, answered, packet-arriving}
use Rattle.arriving.specs.PacketRefusal.{Barred, AllBarred, PacketLeavesAll}

-- what holds at a place, and is kept by the step there for the next, holds at the end
over-at : {R : Type 0} (I : ℕ → R → Type 0) (Q : R → Type 0) (f : R → List ℕ → R) (s : List ℕ)
    → ((r : R) (at : ℕ) → at < length s → I at r → I (at + size (drop at s)) (f r (drop at s))) → ((r : R) (at : ℕ) → I at r → Q r)
    → (n : ℕ) (r : R) (at : ℕ) → length s ≤ at + 4 * n → I at r → Q (over_items f r s at)
over-at I Q f s k q zero r at h p = rw (over-end f r s at (omega arith)) (q r at p)
over-at I Q f s k q (suc n) r at h p =
    go (dec_lt at (length s)) (λ l. over-at I Q f s k q n (f r (drop at s)) (at + size (drop at s)) (omega (arith, size-least (drop at s))) (k r at l p))
  where
    go : Dec (at < length s) → (at < length s → Q (over_items f (f r (drop at s)) s (at + size (drop at s)))) → Q (over_items f r s at)
    go (yes l) w = rw (over-on f r s at l) (w l)
    go (no l) w = rw (over-end f r s at (omega arith)) (q r at p)

all_split : {A : Type 0} (P : A → Type 0) (xs : List A) (x : A) → All P (xs ++ x ∷ []) → All P xs × P x
all_split P [] x w = (tt, w.0)
all_split P (y ∷ xs) x w = let v = all_split P xs x w.1 in ((w.0, v.0), v.1)

-- one verdict more, while there is room
noted-is : (w : Walked) (v : Verdict) → w.count < 365
    → verdict_noted w v ≡ walked_as w.association (w.count + 1) (set w.verdicts w.count v) w.used w.unread w.due w.complete
unfolding verdict_noted
noted-is w v h = rw (lt-ltb w.count 365 h)

module _ (a : Association) (area : List ℕ) where
  -- nothing has changed, nothing is gathered and nothing is owed
  record Same (t : Turn) : Type 0 where
    pub association : t.walked.association ≡ a
    pub held : t.area ≡ area
    pub reply : t.reply ≡ []
    pub due : t.walked.due ≡ false
    pub complete : t.walked.complete ≡ Nothing

  abbrev Judged : Turn → Type 0
  Judged t = All Barred (take t.walked.count t.walked.verdicts) → Same t

  -- room for a verdict of each chunk from `at` on
  record Passing (at : ℕ) (t : Turn) : Type 0 where
    pub room : length t.walked.verdicts ≡ 365
    pub few : 4 * t.walked.count + 12 ≤ at
    pub judged : Judged t

  module _ (u : Turn) (w : Walked) (v : Verdict) (e : u.walked ≡ verdict_noted w v) (h : w.count < 365) (room : length w.verdicts ≡ 365) where
    one_more : u.walked ≡ walked_as w.association (w.count + 1) (set w.verdicts w.count v) w.used w.unread w.due w.complete
    one_more = e ∙ noted-is w v h

    more_room : length u.walked.verdicts ≡ 365
    more_room = ap (λ (x : Walked). length x.verdicts) one_more ∙ (length-set w.verdicts w.count v ∙ room)

    more-count : u.walked.count ≡ w.count + 1
    more-count = ap (λ (x : Walked). x.count) one_more

    more-all : All Barred (take u.walked.count u.walked.verdicts) → All Barred (take w.count w.verdicts) × Barred v
    more-all p =
        let n : suc w.count ≡ w.count + 1 = omega arith in
        let l : take u.walked.count u.walked.verdicts ≡ take w.count w.verdicts ++ (v ∷ []) =
        ap (λ (x : Walked). take x.count x.verdicts) one_more
        ∙ (ap (λ (m : ℕ). take m (set w.verdicts w.count v)) (sym n) ∙ take-suc-set w.verdicts w.count v (omega (arith, h, room))) in
        all_split Barred (take w.count w.verdicts) v (subst (All Barred) l p)

  module _ (at : ℕ) (b : Beside) (cookie s : List ℕ) (t : Turn) (h : t.walked.count < 365) (room : length t.walked.verdicts ≡ 365) (j : Judged t) where
    abbrev done : Done
    done = done_with (length (reply_at at b cookie s t)) (chunk_step at b cookie s t)

    -- the walk with what became of the chunk, less its verdict
    abbrev taken : Walked
    taken =
        walked_as done.association t.walked.count t.walked.verdicts (t.walked.used + done.written) done.unread (either t.walked.due (is_due done.owed))
        (owes t.walked.complete done.owed)

    abbrev Onward : Turn → Type 0
    Onward u = (length u.walked.verdicts ≡ 365) × (u.walked.count ≡ t.walked.count + 1) × Judged u

    -- left unread: that is no refusal
    unread-on : (u : Turn) → u.walked ≡ verdict_noted t.walked (unread_at at) → Onward u
    unread-on u e = (
      more_room u t.walked (unread_at at) e h room,
      more-count u t.walked (unread_at at) e h room,
      λ p. absurd (omega (arith, (more-all u t.walked (unread_at at) e h room p).1.0)),
    )

    -- read and refused
    read-on : (u : Turn) → u.walked ≡ verdict_noted taken (chunk_verdict at done) → u.area ≡ step_area t.walked.association (beside_at at b) t.area s
        → u.reply ≡ t.reply ++ reply_at at b cookie s t → Onward u
    read-on u e q r = (
      more_room u taken (chunk_verdict at done) e h room,
      more-count u taken (chunk_verdict at done) e h room,
      λ p. let v = more-all u taken (chunk_verdict at done) e h room p in same (j v.0) v.1,
    )
      where
        same : Same t → Barred (chunk_verdict at done) → Same u
        same m v =
            let l = step_left t.walked.association t.area s (reply_room t) (beside_at at b) cookie v.0 in
            let w : u.walked ≡ walked_as taken.association (taken.count + 1) (set taken.verdicts taken.count (chunk_verdict at done)) taken.used taken.unread taken.due taken.complete =
            one_more u taken (chunk_verdict at done) e h room in
            record {
              association = ap (λ (x : Walked). x.association) w ∙ (step-left-all t.walked.association s _ _ l.0 v.1 v.2 ∙ m.association);
              held = q ∙ (l.2 ∙ m.held);
              reply = r ∙ ((λ i. m.reply i ++ fitting (reply_room t) (l.1 i)) ∙ pick-keeps (λ (x : List ℕ). x ≡ []) (ltb (reply_room t) 0) [] [] refl refl);
              due = ap (λ (x : Walked). x.due) w ∙ (λ i. either (m.due i) (is_due (l.3 i)));
              complete = ap (λ (x : Walked). x.complete) w ∙ (λ i. owes (m.complete i) (l.3 i));
            }

    turned_on : Onward (turned at b cookie s t)
    unfolding turned chunk_taken_in
    turned_on = pick-keeps Onward t.walked.unread _ _ (unread-on _ refl) (read-on _ refl refl refl)

  module _ (packet : List ℕ) (lent : Lent) (cookie : List ℕ) (short : length packet ≤ 1472) where
    passed-same : (e : Echoed) → Judged (packet_walked a area packet lent cookie e)
    unfolding packet_walked walked_over walk_begun
    passed-same e =
        over-at Passing Judged _ packet
        (λ t at l p. let o = turned_on _ _ cookie (drop at packet) t (omega (arith, p.few, l, short)) p.room p.judged in record { room = o.0; few = omega (arith, o.1, p.few, size-least (drop at packet)); judged = o.2 })
        (λ t at p. p.judged) (length packet) _ 12 (omega arith)
        (record { room = length-replicate 365 (unread_at 0); few = omega arith; judged = λ p. record { association = refl; held = refl; reply = refl; due = refl; complete = refl } })

-- nothing gathered and nothing owed is no reply
whole-none : (w : Walked) (reply : List ℕ) → reply ≡ [] → w.due ≡ false → w.complete ≡ Nothing → whole_reply w reply ≡ []
unfolding whole_reply shutdown_added
whole-none w reply r d c =
    ap (λ (o : Owed). closed_by w reply o) c ∙ (ap (λ (t : Bool). pick (pick t (is_shutdown_sent w.association.state) false) (reply ++ fitting (1460 - length reply) (shutdown_bytes w.association.receiving.keeping.point)) reply) d ∙ r)

not-two : (z : Bool) (n : ℕ) → pick z 2 n ≡ 0 → z ≡ false
not-two true n h = absurd (omega (arith, h))
not-two false n h = refl

module _ (a : Association) (area packet : List ℕ) (lent : Lent) (cookie : List ℕ) (e : Echoed) (out : List ℕ) where
  abbrev turn : Turn
  turn = packet_walked a area packet lent cookie (heeded a.state a.ends e)

  let-in-short : arrival_number a area packet e out ≡ 0 → length packet ≤ 1472
  unfolding arrival_number packet_number
  let-in-short z = size-most packet (not-two (eqb (size_number packet) 2) _ (earlier-none (lent_number a (length area) (length out)) (packet_number a packet (heeded a.state a.ends e)) z).1)

  abbrev told : Arrived
  told = arrived_of a area packet lent cookie e out

  let-in-same : arrival_number a area packet e out ≡ 0 → AllBarred told → Same a area turn
  unfolding arrived_of
  let-in-same z w =
      passed-same a area packet lent cookie (let-in-short z) (heeded a.state a.ends e)
      (subst (λ (t : Bool). AllBarred (pick t (packet_accepted turn.walked (answered_length turn.walked packet turn.reply out)) (packet_refused a (arrival_number a area packet e out)))) (eq-eqb (arrival_number a area packet e out) 0 z) w)

  record_same : AllBarred told → (told.association ≡ a) × (packet_area a area packet lent cookie e out ≡ area)
  unfolding arrived_of packet_area packet_refused
  record_same w = go (eqb (arrival_number a area packet e out) 0) refl
    where
      go : (t : Bool) → eqb (arrival_number a area packet e out) 0 ≡ t
          → ((pick t (packet_accepted turn.walked (answered_length turn.walked packet turn.reply out)) (packet_refused a (arrival_number a area packet e out))).association ≡ a) × (pick t turn.area area ≡ area)
      go true q = let m = let-in-same (eqb-true (arrival_number a area packet e out) 0 q) w in (m.association, m.held)
      go false q = (refl, refl)

  silent : AllBarred told → {n : ℕ} {exit : List ℕ} → Arriving a area packet lent cookie e out n exit → (n ≡ 0) × (exit ≡ out)
  silent w (left p q) = (p, q)
  silent w (answered z (nothing p q)) = (p, q)
  silent w (answered z (behind h some p q)) =
      let m = let-in-same z w in absurd (some (ap (λ (x : List ℕ). length x) (whole-none turn.walked turn.reply m.reply m.due m.complete)))

  pub barred-leaves : AllBarred told → PacketLeavesAll a area out told (packet_area a area packet lent cookie e out) (packet_out a area packet lent cookie e out)
  barred-leaves w =
      let r = record_same w in
      let s = silent w (packet-arriving a area packet lent cookie e out) in
      record { association = r.0; held = r.1; silent = s.0; sent = s.1 }

  -- and a packet that is refused as a whole has no verdict
  pub refused-unjudged : 0 < told.number → told.count ≡ 0
  unfolding arrived_of packet_refused
  refused-unjudged = go (eqb (arrival_number a area packet e out) 0) _ refl
    where
      go : (t : Bool) (x : Arrived) → x.number ≡ 0 → 0 < (pick t x (packet_refused a (arrival_number a area packet e out))).number → (pick t x (packet_refused a (arrival_number a area packet e out))).count ≡ 0
      go true x z h = absurd (omega arith)
      go false x z h = refl
