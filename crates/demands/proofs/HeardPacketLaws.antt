-- A packet: what its chunks ask of the receiving side, one after the other, is what the packet does to that side, and what is told of its DATA.
-- Assumes nothing.
use Rattle.std.specs.Prelude.{ℕ, zero, suc, ◌+◌, ◌-◌, ◌*◌, ◌<◌, ◌≤◌, ◌≡◌, Bool, eqb, length, take, drop, set}
use Rattle.std.proofs.Math.Path.{refl}
use Rattle.std.proofs.Common.{sym, ap, ◌∙◌, arith, lt-ltb, eqb-true, length-drop, length-set, take-suc-set}
use Rattle.std.proofs.Math.Bool.{true, false}
use mathlib.Core.List.{List, [], ◌∷◌, ◌++◌}
use Rattle.std.proofs.Math.Decide.{dec_lt}
use Rattle.std.proofs.Math.ListN.{length-replicate}
use Rattle.scans.specs.Scan.{pick}
use Rattle.octets.specs.Walk.{size, walk, fold, over_items}
use Rattle.octets.specs.WalkLaws.{size-least, over-on, over-end}
use Rattle.numbers.specs.Numbering.{circles}
use Rattle.packets.specs.Checks.{size_number}
use Rattle.packets.specs.ChecksLaws.{size-most}
use Rattle.packets.specs.Header.{header_of}
use Rattle.association.specs.declared.ends.Association.{Association}
use Rattle.association.specs.BoundsLaws.{earlier-none}
use Rattle.steps.specs.declared.chunk.Beside.{Beside}
use Rattle.steps.specs.declared.lent.Lent.{Lent}
use Rattle.steps.specs.declared.lent.Echoed.{Echoed}
use Rattle.steps.specs.declared.verdict.Done.{Done}
use Rattle.steps.specs.Verdict.{fate_number, done_with}
use Rattle.steps.specs.Lent.{heeded}
use Rattle.arriving.specs.declared.verdict.Verdict.{Verdict}
use Rattle.arriving.specs.declared.walk.Walked.{Walked}
use Rattle.arriving.specs.declared.arrival.Arrived.{Arrived}
use Rattle.arriving.specs.ChunkVerdict.{fate_code, unread_at, chunk_verdict}
use Rattle.arriving.specs.Walked.{Turn, walk_begun, verdict_noted, chunk_taken_in, beside_at, reply_room, chunk_step, reply_at, turned, walked_over}
use Rattle.arriving.specs.WalkedLaws.{walked_as}
use Rattle.arriving.specs.Arrival.{lent_number, packet_number, packet_refused, packet_walked, answered_length, packet_accepted, arrived_of, packet_area, arrival_number}
use Rattle.demands.specs.News.{News, numbered, is_data, news_of_data}
use Rattle.demands.specs.Heard.{Heard, chunk_heard, Hearing, listened, listened_over, Side, side_of, side_goes_on, said_on, circle_goes, circle_said}
use Rattle.demands.specs.HeardLaws.{goes_none, said-none, goes-append, said-append, told-append}
use Rattle.demands.proofs.HeardChunkLaws.{pick-both, chunk-goes, chunk-tells, chunk-silent}

-- what holds at a place, and is kept by the step there for the next, holds at the end
over-at : {R : Type 0} (I : ℕ → R → Type 0) (Q : R → Type 0) (f : R → List ℕ → R) (s : List ℕ)
    → ((r : R) (at : ℕ) → at < length s → I at r → I (at + size (drop at s)) (f r (drop at s))) → ((r : R) (at : ℕ) → I at r → Q r)
    → (n : ℕ) (r : R) (at : ℕ) → length s ≤ at + 4 * n → I at r → Q (over_items f r s at)
over-at I Q f s k q zero r at h p = rw (over-end f r s at (omega arith)) (q r at p)
over-at I Q f s k q (suc n) r at h p =
    go (dec_lt at (length s)) (λ l. over-at I Q f s k q n (f r (drop at s)) (at + size (drop at s)) (omega (arith, size-least (drop at s))) (k r at l p))
  where
    go : Dec (at < length s) → (at < length s → Q (over_items f (f r (drop at s)) s (at + size (drop at s)))) → Q (over_items f r s at)
    go (yes l) w = rw (over-on f r s at l) (w l)
    go (no l) w = rw (over-end f r s at (omega arith)) (q r at p)

-- one verdict more, while there is room
noted-is : (w : Walked) (v : Verdict) → w.count < 365
    → verdict_noted w v ≡ walked_as w.association (w.count + 1) (set w.verdicts w.count v) w.used w.unread w.due w.complete
unfolding verdict_noted
noted-is w v h = rw (lt-ltb w.count 365 h)

-- ---- what is told of one verdict

unread-told : (packet : List ℕ) (at : ℕ) → news_of_data packet (unread_at at ∷ []) ≡ []
unfolding news_of_data
unread-told packet at = refl

module _ (packet : List ℕ) (at : ℕ) (d : Done) where
  data-told : is_data (drop at packet) ≡ true → eqb (fate_code d.fate) 6 ≡ false → news_of_data packet (chunk_verdict at d ∷ []) ≡ numbered (fate_number d.fate) ∷ []
  unfolding news_of_data
  data-told e f = rw (f, e)

  other-told : is_data (drop at packet) ≡ false → news_of_data packet (chunk_verdict at d ∷ []) ≡ []
  unfolding news_of_data
  other-told e = rw e (go (eqb (fate_code d.fate) 6))
    where
      go : (t : Bool) → pick (pick t false false) (numbered (fate_number d.fate) ∷ []) [] ≡ []
      go true = refl
      go false = refl

-- ---- the walk

module _ (packet : List ℕ) (short : length packet ≤ 1472) (b : Beside) (cookie : List ℕ) (k : Side) where
  -- the chunks ahead of `at` have been heard, and there is room for a verdict of each from there on
  record Passing (at : ℕ) (h : Hearing) : Type 0 where
    pub room : length h.walking.walked.verdicts ≡ 365
    pub few : 4 * h.walking.walked.count + 12 ≤ at
    pub side : side_of h.walking.walked.association h.walking.area ≡ circle_goes k h.heard
    pub told : news_of_data packet (take h.walking.walked.count h.walking.walked.verdicts) ≡ circle_said k h.heard

  module _ (at : ℕ) (inside : at < length packet) (h : Hearing) (p : Passing at h) where
    abbrev s : List ℕ
    s = drop at packet

    abbrev place : ℕ
    place = length packet - length s

    abbrev t : Turn
    t = h.walking

    abbrev w : Walked
    w = h.walking.walked

    abbrev from : Side
    from = side_of w.association t.area

    place_is : place ≡ at
    place_is = omega (arith, length-drop at packet)

    seen_here : drop place packet ≡ s
    seen_here = ap (λ (n : ℕ). drop n packet) place_is

    few-yet : w.count < 365
    few-yet = omega (arith, p.few)

    abbrev Next : Turn → List Heard → Type 0
    Next u hs = Passing (at + size s) (record { walking = u; heard = h.heard ++ hs })

    -- one verdict more, of a chunk that asked hs
    on : (u : Turn) (hs : List Heard) (x : Walked) (v : Verdict) → u.walked ≡ verdict_noted x v → x.count ≡ w.count → x.verdicts ≡ w.verdicts
        → side_of x.association u.area ≡ circle_goes from hs → news_of_data packet (v ∷ []) ≡ circle_said from hs → Next u hs
    on u hs x v e c l g q = record {
      room = ap (λ (y : Walked). length y.verdicts) more ∙ (length-set x.verdicts x.count v ∙ (ap (λ (vs : List Verdict). length vs) l ∙ p.room));
      few = omega (arith, ap (λ (y : Walked). y.count) more, c, p.few, size-least s);
      side =
          ap (λ (y : Walked). side_of y.association u.area) more
          ∙ (g ∙ (ap (λ (y : Side). circle_goes y hs) p.side ∙ sym (goes-append circles h.heard hs k)));
      told =
          ap (λ (vs : List Verdict). news_of_data packet vs) verdicts-are
          ∙ (told-append packet (take w.count w.verdicts) (v ∷ [])
          ∙ (ap (λ (ts : List News). ts ++ news_of_data packet (v ∷ [])) p.told
          ∙ (ap (λ (ts : List News). circle_said k h.heard ++ ts) (q ∙ ap (λ (y : Side). circle_said y hs) p.side)
          ∙ sym (said-append circles h.heard hs k))));
    }
      where
        more : u.walked ≡ walked_as x.association (x.count + 1) (set x.verdicts x.count v) x.used x.unread x.due x.complete
        more = e ∙ noted-is x v (omega (arith, c, few-yet))

        verdicts-are : take u.walked.count u.walked.verdicts ≡ take w.count w.verdicts ++ (v ∷ [])
        verdicts-are =
            let n : suc x.count ≡ x.count + 1 = omega arith in
            ap (λ (y : Walked). take y.count y.verdicts) more
            ∙ (ap (λ (m : ℕ). take m (set x.verdicts x.count v)) (sym n)
            ∙ (take-suc-set x.verdicts x.count v (omega (arith, c, few-yet, p.room, ap (λ (vs : List Verdict). length vs) l))
            ∙ (λ i. take (c i) (l i) ++ (v ∷ []))))

    -- left unread, it asks nothing
    unread-on : (u : Turn) → u.walked ≡ verdict_noted w (unread_at place) → u.area ≡ t.area → Next u []
    unread-on u e q =
        on u [] w (unread_at place) e refl refl
        (ap (λ (x : List ℕ). side_of w.association x) q ∙ sym (goes_none circles from))
        (unread-told packet place ∙ sym (said-none circles from))

    abbrev done : Done
    done = done_with (length (reply_at place b cookie s t)) (chunk_step place b cookie s t)

    abbrev hears : List Heard
    hears = chunk_heard w.association (beside_at place b) s

    -- a DATA tells its number, any other chunk nothing
    tells : news_of_data packet (chunk_verdict place done ∷ []) ≡ circle_said from hears
    tells = go (is_data s) refl
      where
        go : (x : Bool) → is_data s ≡ x → news_of_data packet (chunk_verdict place done ∷ []) ≡ circle_said from hears
        go true e =
            let c = chunk-tells (reply_room t) w.association (beside_at place b) cookie t.area s e in
            data-told packet place done (ap is_data seen_here ∙ e) c.1 ∙ c.0
        go false e =
            other-told packet place done (ap is_data seen_here ∙ e) ∙ sym (chunk-silent (reply_room t) w.association (beside_at place b) cookie t.area s e)

    listened-on : Passing (at + size s) (listened b cookie packet h s)
    unfolding listened turned chunk_taken_in
    listened-on =
        pick-both Next w.unread _ _ _ _ (unread-on _ refl refl)
        (on _ hears _ (chunk_verdict place done) refl refl refl (chunk-goes w.association t.area s (reply_room t) (beside_at place b) cookie) tells)

-- ---- all chunks

walk_same : (b : Beside) (cookie packet ks : List ℕ) (h : Hearing)
    → (fold (λ q i. listened b cookie packet q (drop i packet)) h ks).walking ≡ fold (λ q i. turned (length packet - length (drop i packet)) b cookie (drop i packet) q) h.walking ks
unfolding listened
walk_same b cookie packet [] h = refl
walk_same b cookie packet (i ∷ ks) h = walk_same b cookie packet ks (listened b cookie packet h (drop i packet))

module _ (a : Association) (area packet : List ℕ) (lent : Lent) (cookie : List ℕ) where
  module _ (e : Echoed) where
    over-same : (listened_over a area packet lent cookie e).walking ≡ packet_walked a area packet lent cookie e
    unfolding listened_over packet_walked walked_over over_items
    over-same = walk_same (record { first = true; source = (header_of packet).source; lent = lent; echoed = e }) cookie packet (walk packet 12) (record { walking = walk_begun a area; heard = [] })

    -- what holds of the chunks of a packet that is let in
    abbrev Heeds : Turn → List Heard → Type 0
    Heeds u hs =
        (side_of u.walked.association u.area ≡ circle_goes (side_of a area) hs) × (news_of_data packet (take u.walked.count u.walked.verdicts) ≡ circle_said (side_of a area) hs)

    begun-passing : (b : Beside) (short : length packet ≤ 1472) → Passing packet short b cookie (side_of a area) 12 (record { walking = walk_begun a area; heard = [] })
    unfolding walk_begun news_of_data side_goes_on said_on
    begun-passing b short = record { room = length-replicate 365 (unread_at 0); few = omega arith; side = refl; told = refl }

    all-heard : length packet ≤ 1472 → Heeds (listened_over a area packet lent cookie e).walking (listened_over a area packet lent cookie e).heard
    unfolding listened_over
    all-heard short =
        let b : Beside = record { first = true; source = (header_of packet).source; lent = lent; echoed = e } in
        over-at (Passing packet short b cookie (side_of a area)) (λ (h : Hearing). Heeds h.walking h.heard) (listened b cookie packet) packet
        (λ h at l p. listened-on packet short b cookie (side_of a area) at l h p) (λ h at p. (p.side, p.told)) (length packet)
        (record { walking = walk_begun a area; heard = [] }) 12 (omega arith) (begun-passing b short)

    passed-heard : length packet ≤ 1472 → Heeds (packet_walked a area packet lent cookie e) (listened_over a area packet lent cookie e).heard
    passed-heard short = let h = all-heard short in (
      ap (λ (u : Turn). side_of u.walked.association u.area) (sym over-same) ∙ h.0,
      ap (λ (u : Turn). news_of_data packet (take u.walked.count u.walked.verdicts)) (sym over-same) ∙ h.1,
    )

  -- ---- the packet

  not-two : (z : Bool) (n : ℕ) → pick z 2 n ≡ 0 → z ≡ false
  not-two true n h = absurd (omega (arith, h))
  not-two false n h = refl

  module _ (e : Echoed) (out : List ℕ) where
    let-in-short : arrival_number a area packet e out ≡ 0 → length packet ≤ 1472
    unfolding arrival_number packet_number
    let-in-short z = size-most packet (not-two (eqb (size_number packet) 2) _ (earlier-none (lent_number a (length area) (length out)) (packet_number a packet (heeded a.state a.ends e)) z).1)

    abbrev Leaves : Arrived → List ℕ → List Heard → Type 0
    Leaves r after hs =
        (side_of r.association after ≡ circle_goes (side_of a area) hs) × (news_of_data packet (take r.count r.verdicts) ≡ circle_said (side_of a area) hs)

    refused-leaves : (n : ℕ) → Leaves (packet_refused a n) area []
    unfolding packet_refused news_of_data side_goes_on said_on
    refused-leaves n = (refl, refl)

    pub packet-heard : Leaves (arrived_of a area packet lent cookie e out) (packet_area a area packet lent cookie e out)
        (pick (eqb (arrival_number a area packet e out) 0) (listened_over a area packet lent cookie (heeded a.state a.ends e)).heard [])
    unfolding arrived_of packet_area
    packet-heard = go (eqb (arrival_number a area packet e out) 0) refl
      where
        turn : Turn
        turn = packet_walked a area packet lent cookie (heeded a.state a.ends e)

        go : (x : Bool) → eqb (arrival_number a area packet e out) 0 ≡ x
            → Leaves (pick x (packet_accepted turn.walked (answered_length turn.walked packet turn.reply out)) (packet_refused a (arrival_number a area packet e out))) (pick x turn.area area) (pick x (listened_over a area packet lent cookie (heeded a.state a.ends e)).heard [])
        go true q = passed-heard (heeded a.state a.ends e) (let-in-short (eqb-true (arrival_number a area packet e out) 0 q))
        go false q = refused-leaves (arrival_number a area packet e out)
