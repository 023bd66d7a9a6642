-- What `arrive` writes passes our own checks 2, 3, 5 and 6, is at most 1,472 bytes, and touches no byte behind. Assumes nothing.
use Rattle.std.specs.Prelude.{ℕ, zero, suc, ◌+◌, ◌-◌, ◌<◌, ◌≤◌, ◌≡◌, refl, Bool, false, List, [], ◌∷◌, ◌++◌, length, take, drop}
use Rattle.std.proofs.Common.{sym, ap, ◌∙◌, append-nil, arith, length-append}
use Rattle.std.proofs.Math.Decide.{dec_lt}
use Rattle.scans.specs.Scan.{either}
use Rattle.scans.specs.Each.{All, clash}
use Rattle.octets.specs.Bytes.{laid}
use Rattle.octets.specs.BytesLaws.{length-laid, drop_past}
use Rattle.octets.specs.Walk.{size, walk, over_items, joined}
use Rattle.octets.specs.WalkLaws.{size-least, walk-on, over-on, over-end}
use Rattle.octets.specs.WritingLaws.{holds-first}
use Rattle.packets.specs.declared.header.Header.{Header}
use Rattle.packets.specs.Header.{seal_count, seal_bytes}
use Rattle.packets.specs.HeaderLaws.{seal-done, seal-rest, seal-behind}
use Rattle.packets.specs.Shape.{alone, shape_number}
use Rattle.packets.specs.ShapeLaws.{shape-together, init-alone}
use Rattle.packets.specs.Body.{ChunkSound}
use Rattle.packets.specs.BodyLaws.{body-none, body_more, written-passes}
use Rattle.packets.specs.Checks.{form_number}
use Rattle.replies.specs.PassingLaws.{shutdown-complete-passes}
use Rattle.association.specs.declared.ends.Association.{Association}
use Rattle.steps.specs.declared.chunk.Beside.{Beside}
use Rattle.steps.specs.declared.lent.Lent.{Lent}
use Rattle.steps.specs.declared.lent.Echoed.{Echoed}
use Rattle.steps.specs.Lent.{heeded}
use Rattle.steps.proofs.ReplyingLaws.{step-replies}
use Rattle.arriving.specs.declared.walk.Walked.{Walked}
use Rattle.arriving.specs.Walked.{Turn, walk_begun, is_due, beside_at, reply_room, chunk_step, reply_at, turned}
use Rattle.arriving.specs.Arrival.{packet_walked, arrived_of, packet_out}
use Rattle.arriving.specs.PacketKeptLaws.{passed-small, whole-small}
use Rattle.arriving.specs.PacketOutcomes.{Turning, turning, begun-bare, passed_over, Closing, closing, Sealed, let-in-long, let-in-shape, Arriving, packet-arriving}
use Rattle.arriving.specs.PacketOutcomes.Turning.{unread, read}
use Rattle.arriving.specs.PacketOutcomes.Closing.{as-gathered, shut, displaced}
use Rattle.arriving.specs.PacketOutcomes.Sealed.{nothing, behind}
use Rattle.arriving.specs.PacketOutcomes.Arriving.{left, answered}
use Rattle.replies.specs.Reply.{Shared, ReplyFits, RepliesStand, RepliesPacked}
use Rattle.replies.specs.Reply.ReplyFits.{several, single}
use Rattle.replies.specs.Reply.RepliesStand.{together, apart}
use Rattle.replies.specs.Sent.{longest_reply, Passing}
use Rattle.replies.specs.Sent.Passing.{untouched, passes}
use Rattle.replies.specs.ReplyLaws.{shared-none, one-shared, shared-both, shared-as, shared-fitting, shutdown-shares, reply-fits, fits-fitting, sound-packed, shared-packed}

-- ---- the walk

-- what the step of every item that is Q keeps, the whole keeps
module _ {R : Type 0} (P : R → Type 0) (Q : List ℕ → Type 0) (f : R → List ℕ → R) (s : List ℕ) (k : (r : R) (t : List ℕ) → Q t → P r → P (f r t)) where
  over-each : (n : ℕ) (r : R) (at : ℕ) → length s ≤ at + n → All (λ (j : ℕ). Q (drop j s)) (walk s at) → P r → P (over_items f r s at)
  over-each zero r at h w p = rw (over-end f r s at (omega arith)) p
  over-each (suc n) r at h w p = go (dec_lt at (length s)) (over-each n (f r (drop at s)) (at + size (drop at s)) (omega (arith, size-least (drop at s))))
    where
      go : Dec (at < length s)
          → (All (λ (j : ℕ). Q (drop j s)) (walk s (at + size (drop at s))) → P (f r (drop at s)) → P (over_items f (f r (drop at s)) s (at + size (drop at s))))
          → P (over_items f r s at)
      go (yes x) q = let u = rw (walk-on s at x) at w in rw (over-on f r s at x) (q u.1 (k r (drop at s) u.0 p))
      go (no x) q = rw (over-end f r s at (omega arith)) p

-- every reply so far may share a packet; or where one does not, it is the only one, and no SHUTDOWN is due
abbrev Shares : Turn → Type 0
Shares t = Shared t.reply

abbrev Holds : Turn → Type 0
Holds t = RepliesStand t.reply t.walked.due

begun-shares : (a : Association) (area : List ℕ) → Shares (walk_begun a area)
begun-shares a area = shared-as (begun-bare a area).0 shared-none

module _ (at : ℕ) (b : Beside) (cookie s : List ℕ) (t : Turn) where
  fits : ReplyFits s (chunk_step at b cookie s t).owed (reply_at at b cookie s t)
  fits = fits-fitting (reply_room t) (reply-fits (step-replies (reply_room t) cookie s t.walked.association (beside_at at b)))

  -- behind chunks that may share, no INIT being among those that are read
  turn-shares : alone s ≡ false → Shares t → Shares (turned at b cookie s t)
  turn-shares h w = go fits (turning at b cookie s t)
    where
      go : {u : Turn} → ReplyFits s (chunk_step at b cookie s t).owed (reply_at at b cookie s t) → Turning at b cookie s t u → Shared u.reply
      go f (unread e d) = shared-as e w
      go (several v) (read e d) = shared-as e (shared-both w v)
      go (single tag k o v) (read e d) = absurd (init-alone s h k)

  -- the only chunk of its packet
  turn_holds : t.reply ≡ [] → t.walked.due ≡ false → Holds (turned at b cookie s t)
  turn_holds z q = go fits (turning at b cookie s t)
    where
      go : {u : Turn} → ReplyFits s (chunk_step at b cookie s t).owed (reply_at at b cookie s t) → Turning at b cookie s t u → RepliesStand u.reply u.walked.due
      go f (unread e d) = together (shared-as (e ∙ z) shared-none)
      go (several v) (read e d) = together (shared-as e (shared-both (shared-as z shared-none) v))
      go (single tag k o v) (read e d) =
          apart (rw (e ∙ ap (λ (l : List ℕ). l ++ reply_at at b cookie s t) z) v) (d ∙ (λ i. either (q i) (is_due (o i))))

-- a packet of one chunk, or of several of which none is an INIT
module _ (a : Association) (area packet cookie : List ℕ) (b : Beside) (h : shape_number packet ≡ 0) where
  abbrev step : Turn → List ℕ → Turn
  step u s = turned (length packet - length s) b cookie s u

  over-holds : Dec (12 < length packet) → Dec (12 + size (drop 12 packet) < length packet) → Holds (over_items step (walk_begun a area) packet 12)
  over-holds x (yes y) =
      together
      (over-each Shares (λ (s : List ℕ). alone s ≡ false) step packet (λ u s k w. turn-shares (length packet - length s) b cookie s u k w) (length packet) (walk_begun a area) 12 (omega arith) (shape-together packet h y) (begun-shares a area))
  over-holds (yes x) (no y) =
      rw (over-on step (walk_begun a area) packet 12 x, over-end step (step (walk_begun a area) (drop 12 packet)) packet (12 + size (drop 12 packet)) (omega arith))
      (turn_holds (length packet - length (drop 12 packet)) b cookie (drop 12 packet) (walk_begun a area) (begun-bare a area).0 (begun-bare a area).1)
  over-holds (no x) (no y) = rw (over-end step (walk_begun a area) packet 12 (omega arith)) (together (begun-shares a area))

walk-holds : (a : Association) (area packet : List ℕ) (lent : Lent) (cookie : List ℕ) (e : Echoed) → shape_number packet ≡ 0
    → Holds (packet_walked a area packet lent cookie e)
walk-holds a area packet lent cookie e h =
    let over = passed_over a area packet lent cookie e in
    rw over.1 (over-holds a area packet cookie over.0 h (dec_lt 12 (length packet)) (dec_lt (12 + size (drop 12 packet)) (length packet)))

-- ---- the closing

packed-as : {a b : List ℕ} → a ≡ b → RepliesPacked b → RepliesPacked a
packed-as e w = record { chunks = w.chunks; sound = w.sound; together = w.together; is = e ∙ w.is }

held-packed : {bs : List ℕ} {due : Bool} → RepliesStand bs due → RepliesPacked bs
held-packed (together w) = shared-packed w
held-packed (apart w d) = sound-packed w

closed : {w : Walked} {reply bs : List ℕ} → RepliesStand reply w.due → Closing w reply bs → RepliesPacked bs
closed k (as-gathered e) = packed-as e (held-packed k)
closed {w} {reply} (together v) (shut d e) =
    packed-as e (shared-packed (shared-both v (shared-fitting (1460 - length reply) (one-shared (shutdown-shares w.association.receiving.keeping.point)))))
closed (apart v f) (shut d e) = clash (sym f ∙ d)
closed k (displaced r e) = packed-as e (sound-packed (shutdown-complete-passes r))

-- ---- the packet

packed-least : {bs : List ℕ} → RepliesPacked bs → (length bs ≡ 0 → ⊥) → 4 ≤ length bs
packed-least {bs} w h = go w.chunks w.sound w.is
  where
    go : (cs : List (List ℕ)) → All ChunkSound cs → bs ≡ joined cs → 4 ≤ length bs
    go [] v e = absurd (h (ap length e))
    go (c ∷ cs) v e = omega (arith, ap length e, length-append c (joined cs), v.0.whole.some)

module _ (h : Header) (bs out : List ℕ) (w : RepliesPacked bs) (short : length bs ≤ 1460) (some : length bs ≡ 0 → ⊥) (fit : 1472 ≤ length out) where
  room : 12 + length bs ≤ length (laid out 12 bs)
  room = omega (arith, length-laid out 12 bs)

  pub seal-counts : 12 + length bs ≡ seal_count (12 + length bs) (laid out 12 bs)
  seal-counts = (seal-done h (12 + length bs) (laid out 12 bs) (12 + length bs) (omega arith) room refl (holds-first _ _ refl) refl refl).0

  stands : drop 12 (take (12 + length bs) (laid out 12 bs)) ≡ joined w.chunks
  stands = body_more [] bs out 12 (omega arith) (omega arith) (body-none out) ∙ append-nil bs ∙ w.is

  sealed-passes : form_number (take (12 + length bs) (seal_bytes h (12 + length bs) (laid out 12 bs))) ≡ 0
  sealed-passes =
      written-passes h (12 + length bs) (laid out 12 bs) w.chunks w.sound w.together (omega (arith, packed-least w some)) (omega arith) room stands

  pub reads-back : drop 12 (take (12 + length bs) (seal_bytes h (12 + length bs) (laid out 12 bs))) ≡ bs
  reads-back = seal-rest h (12 + length bs) (laid out 12 bs) (omega arith) room ∙ stands ∙ sym w.is

  stays : drop (12 + length bs) (seal_bytes h (12 + length bs) (laid out 12 bs)) ≡ drop (12 + length bs) out
  stays = seal-behind h (12 + length bs) (laid out 12 bs) (omega arith) room ∙ drop_past bs out 12 (12 + length bs) (omega arith)

pub sealed-as : {most : ℕ} {bs out exit : List ℕ} {n : ℕ} → RepliesPacked bs → 12 + length bs ≤ most → length bs ≤ 1460 → 1472 ≤ length out → Sealed bs out n exit → Passing most out n exit
sealed-as w few short fit (nothing e d) = untouched e d
sealed-as {most} {bs} {out} w few short fit (behind h some e d) =
    let k = e ∙ sym (seal-counts h bs out w short some fit) in
    passes (omega (arith, k)) ((λ i. form_number (take (k i) (d i))) ∙ sealed-passes h bs out w short some fit)
    ((λ i. drop (k i) (d i)) ∙ stays h bs out w short some fit ∙ ap (λ (j : ℕ). drop j out) (sym k))

-- ---- whatever packet arrives, and whatever the host lends

pub arrive-passes : (a : Association) (area packet : List ℕ) (lent : Lent) (cookie : List ℕ) (e : Echoed) (out : List ℕ)
    → Passing longest_reply out (arrived_of a area packet lent cookie e out).length (packet_out a area packet lent cookie e out)
arrive-passes a area packet lent cookie e out = go (packet-arriving a area packet lent cookie e out)
  where
    go : {n : ℕ} {exit : List ℕ} → Arriving a area packet lent cookie e out n exit → Passing longest_reply out n exit
    go (left p q) = untouched p q
    go (answered h s) =
        let t : Turn = packet_walked a area packet lent cookie (heeded a.state a.ends e) in
        let l = whole-small t.walked t.reply (passed-small a area packet lent cookie (heeded a.state a.ends e)) in
        sealed-as (closed (walk-holds a area packet lent cookie (heeded a.state a.ends e) (let-in-shape a area packet lent cookie e out h)) (closing t.walked t.reply))
        (omega (arith, l)) l (let-in-long a area packet lent cookie e out h) s
