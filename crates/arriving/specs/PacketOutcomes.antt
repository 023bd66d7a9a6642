-- What a packet that arrives leaves, case by case. Assumes nothing.
use Prim.Native.Nat.{ℕ, ◌+◌, ◌-◌, ◌≤◌}
use Rattle.std.specs.Prelude.{◌≡◌, Bool, List, [], ◌++◌, ltb, drop}
use Rattle.std.proofs.Math.Path.{refl}
use Rattle.std.proofs.Math.Bool.{true, false}
use Rattle.std.proofs.Common.{arith}
use borrow.Author.Tests.{ltb-true, ltb-false, eqb-true, eqb-false, ne_eqb}
use Rattle.std.proofs.Math.Dec.{eqb}
use Rattle.std.proofs.Math.ListN.{length}
use Rattle.scans.specs.Scan.{pick, either}
use Rattle.scans.specs.Each.{neither}
use Rattle.scans.specs.Upto.{pick-keeps}
use Rattle.octets.specs.Bytes.{laid}
use Rattle.octets.specs.Walk.{over_items}
use Rattle.octets.specs.Writing.{fitting}
use Rattle.numbers.specs.Profile.{chunk_room, rail}
use Rattle.chunks.specs.ShutdownChunk.{shutdown_bytes, complete_bytes}
use Rattle.packets.specs.declared.header.Header.{Header}
use Rattle.packets.specs.Header.{header_of, seal_count, seal_bytes}
use Rattle.packets.specs.Checks.{size_number, sum_number}
use Rattle.packets.specs.Shape.{shape_number}
use Rattle.states.specs.Tries.{is_closed}
use Rattle.association.specs.declared.ends.Association.{Association}
use Rattle.association.specs.Bounds.{least_out, least_area}
use Rattle.association.specs.BoundsLaws.{first-none, earlier-none}
use Rattle.steps.specs.declared.chunk.Beside.{Beside}
use Rattle.steps.specs.declared.lent.Lent.{Lent}
use Rattle.steps.specs.declared.lent.Echoed.{Echoed}
use Rattle.steps.specs.declared.verdict.Owed.{Owed}
use Rattle.steps.specs.declared.verdict.Owed.TheVariants.{Nothing, Shutdown, Complete, Reflected, To}
use Rattle.steps.specs.Lent.{heeded}
use Rattle.arriving.specs.declared.walk.Walked.{Walked}
use Rattle.arriving.specs.Tags.{are_ports, rule_for, head_number}
use Rattle.arriving.specs.Walked.{Turn, walk_begun, chunk_taken_in, is_due, chunk_step, reply_at, turned, walked_over}
use Rattle.arriving.specs.WalkedLaws.{noted-same}
use Rattle.arriving.specs.Reply.{is_silenced, is_shutdown_sent, shutdown_added, closed_by, whole_reply, reply_head, reply_length, sent_out}
use Rattle.arriving.specs.ReplyLaws.{laid_none}
use Rattle.arriving.specs.Arrival.{lent_number, packet_number, packet_refused, packet_walked, answered_length, answered_out, packet_accepted, arrival_number, arrived_of, packet_area, packet_out}

-- ---- one chunk

-- it is left unread, or its reply stands behind the others, and a SHUTDOWN is due where one was or where it owes one
pub data Turning (at : ℕ) (b : Beside) (cookie s : List ℕ) (t u : Turn) : Type 0 where
  unread : u.reply ≡ t.reply → u.walked.due ≡ t.walked.due → Turning at b cookie s t u
  read : u.reply ≡ t.reply ++ reply_at at b cookie s t → u.walked.due ≡ either t.walked.due (is_due (chunk_step at b cookie s t).owed) → Turning at b cookie s t u

module _ (at : ℕ) (b : Beside) (cookie s : List ℕ) (t : Turn) where
  pub turning : Turning at b cookie s t (turned at b cookie s t)
  unfolding turned chunk_taken_in
  turning = pick-keeps (Turning at b cookie s t) t.walked.unread _ _ (unread refl (noted-same _ _).1) (read refl (noted-same _ _).1)

-- ---- all chunks

pub begun-bare : (a : Association) (area : List ℕ) → ((walk_begun a area).reply ≡ []) × ((walk_begun a area).walked.due ≡ false)
unfolding walk_begun
begun-bare a area = (refl, refl)

pub passed_over : (a : Association) (area packet : List ℕ) (lent : Lent) (cookie : List ℕ) (e : Echoed)
    → (b : Beside) × (packet_walked a area packet lent cookie e ≡ over_items (λ (u : Turn) (s : List ℕ). turned (length packet - length s) b cookie s u) (walk_begun a area) packet 12)
unfolding packet_walked walked_over
passed_over a area packet lent cookie e = (record { first = true; source = (header_of packet).source; lent = lent; echoed = e }, refl)

-- ---- the replies are closed

-- a reply is what was gathered, or that with one SHUTDOWN behind it, or a SHUTDOWN COMPLETE in its place
pub data Closing (w : Walked) (reply bs : List ℕ) : Type 0 where
  as-gathered : bs ≡ reply → Closing w reply bs
  shut : w.due ≡ true → bs ≡ reply ++ fitting (chunk_room rail - length reply) (shutdown_bytes w.association.receiving.keeping.point) → Closing w reply bs
  displaced : (reflected : Bool) → bs ≡ complete_bytes reflected → Closing w reply bs

module _ (w : Walked) (reply : List ℕ) where
  ending : Closing w reply (shutdown_added w reply)
  unfolding shutdown_added
  ending = go w.due refl (is_shutdown_sent w.association.state)
    where
      go : (x : Bool) → w.due ≡ x → (y : Bool)
          → Closing w reply (pick (pick x y false) (reply ++ fitting (chunk_room rail - length reply) (shutdown_bytes w.association.receiving.keeping.point)) reply)
      go true e true = shut e refl
      go true e false = as-gathered refl
      go false e y = as-gathered refl

  pub closing : Closing w reply (whole_reply w reply)
  unfolding whole_reply
  closing = go w.complete
    where
      go : (o : Owed) → Closing w reply (closed_by w reply o)
      go Complete = displaced false refl
      go Reflected = displaced true refl
      go Nothing = ending
      go Shutdown = ending
      go (To tag) = ending

-- ---- the packet

-- nothing is sent and the output stays, or the reply stands there behind a header
pub data Sealed (reply out : List ℕ) (n : ℕ) (exit : List ℕ) : Type 0 where
  nothing : n ≡ 0 → exit ≡ out → Sealed reply out n exit
  behind : (h : Header) → (length reply ≡ 0 → ⊥) → n ≡ seal_count (12 + length reply) (laid out 12 reply) → exit ≡ seal_bytes h (12 + length reply) (laid out 12 reply)
      → Sealed reply out n exit

sealing : (h : Header) (reply out : List ℕ) → Sealed reply out (reply_length reply out) (sent_out h reply out)
unfolding reply_length sent_out
sealing h reply out = go (ltb 12 (12 + length reply)) refl
  where
    go : (x : Bool) → ltb 12 (12 + length reply) ≡ x
        → Sealed reply out (pick x (seal_count (12 + length reply) (laid out 12 reply)) 0) (pick x (seal_bytes h (12 + length reply) (laid out 12 reply)) (laid out 12 reply))
    go true e = behind h (λ z. omega (arith, ltb-true 12 (12 + length reply) e, z)) refl refl
    go false e = nothing refl (laid_none reply out (omega (arith, ltb-false 12 (12 + length reply) e)))

not-packet : (a b c : Bool) (n : ℕ) → pick a 2 (pick b 3 (pick c 4 n)) ≡ 0 → (c ≡ false) × (n ≡ 0)
not-packet true b c n e = absurd (omega (arith, e))
not-packet false true c n e = absurd (omega (arith, e))
not-packet false false true n e = absurd (omega (arith, e))
not-packet false false false n e = (refl, e)

module _ (a : Association) (area packet : List ℕ) (lent : Lent) (cookie : List ℕ) (e : Echoed) (out : List ℕ) where
  both : arrival_number a area packet e out ≡ 0 → (lent_number a (length area) (length out) ≡ 0) × (packet_number a packet (heeded a.state a.ends e) ≡ 0)
  unfolding arrival_number
  both = earlier-none (lent_number a (length area) (length out)) (packet_number a packet (heeded a.state a.ends e))

  -- a packet is let in only where the output is long enough for any reply
  pub let-in-long : arrival_number a area packet e out ≡ 0 → rail.«longest-packet» ≤ length out
  unfolding lent_number
  let-in-long h =
      ltb-false (length out) least_out
      (neither (ltb (length area) least_area) (ltb (length out) least_out) (first-none a (either (ltb (length area) least_area) (ltb (length out) least_out)) 0 (both h).0).1).1

  let-in-checked : arrival_number a area packet e out ≡ 0 → (eqb (head_number a (header_of packet) (drop 12 packet) (heeded a.state a.ends e)) 4 ≡ false) × (shape_number packet ≡ 0)
  unfolding packet_number
  let-in-checked h =
      not-packet (eqb (size_number packet) 2) (eqb (sum_number packet) 3) (eqb (head_number a (header_of packet) (drop 12 packet) (heeded a.state a.ends e)) 4) (shape_number packet) (both h).1

  -- and only if it is well formed
  pub let-in-shape : arrival_number a area packet e out ≡ 0 → shape_number packet ≡ 0
  let-in-shape h = (let-in-checked h).1

-- it is refused or silenced, or its replies are sent
pub data Arriving (a : Association) (area packet : List ℕ) (lent : Lent) (cookie : List ℕ) (e : Echoed) (out : List ℕ) (n : ℕ) (exit : List ℕ) : Type 0 where
  left : n ≡ 0 → exit ≡ out → Arriving a area packet lent cookie e out n exit
  answered : arrival_number a area packet e out ≡ 0
      → Sealed (whole_reply (packet_walked a area packet lent cookie (heeded a.state a.ends e)).walked (packet_walked a area packet lent cookie (heeded a.state a.ends e)).reply) out n exit
      → Arriving a area packet lent cookie e out n exit

module _ (a : Association) (area packet : List ℕ) (lent : Lent) (cookie : List ℕ) (e : Echoed) (out : List ℕ) where
  abbrev turn : Turn
  turn = packet_walked a area packet lent cookie (heeded a.state a.ends e)

  heard : arrival_number a area packet e out ≡ 0
      → Arriving a area packet lent cookie e out (answered_length turn.walked packet turn.reply out) (answered_out turn.walked packet turn.reply out)
  unfolding answered_length answered_out
  heard h = go (is_silenced packet)
    where
      head : Header
      head = reply_head turn.walked.association turn.walked.complete (header_of packet)

      go : (x : Bool)
          → Arriving a area packet lent cookie e out (pick x 0 (reply_length (whole_reply turn.walked turn.reply) out)) (pick x out (sent_out head (whole_reply turn.walked turn.reply) out))
      go true = left refl refl
      go false = answered h (sealing head (whole_reply turn.walked turn.reply) out)

  pub packet-arriving : Arriving a area packet lent cookie e out (arrived_of a area packet lent cookie e out).length (packet_out a area packet lent cookie e out)
  unfolding arrived_of packet_out packet_refused
  packet-arriving = go (eqb (arrival_number a area packet e out) 0) refl
    where
      done : ℕ
      done = answered_length turn.walked packet turn.reply out

      go : (x : Bool) → eqb (arrival_number a area packet e out) 0 ≡ x
          → Arriving a area packet lent cookie e out (pick x (packet_accepted turn.walked done) (packet_refused a (arrival_number a area packet e out))).length (pick x (answered_out turn.walked packet turn.reply out) out)
      go true p = heard (eqb-true (arrival_number a area packet e out) 0 p)
      go false p = left refl refl

-- ---- in CLOSED a packet that contains an ABORT is discarded, whatever stands ahead of it: no chunk is read, and all is left

module _ (a : Association) (area packet : List ℕ) (lent : Lent) (cookie : List ℕ) (e : Echoed) (out : List ℕ) (c : is_closed a.state ≡ true) (s : is_silenced packet ≡ true) where
  head_never : head_number a (header_of packet) (drop 12 packet) (heeded a.state a.ends e) ≡ 4
  unfolding head_number rule_for
  head_never = rw (c, s) (pick-keeps (λ (n : ℕ). n ≡ 4) (are_ports a.state a.ends (header_of packet)) 4 4 refl refl)

  never-in : arrival_number a area packet e out ≡ 0 → ⊥
  never-in h = eqb-false (head_number a (header_of packet) (drop 12 packet) (heeded a.state a.ends e)) 4 (let-in-checked a area packet lent cookie e out h).0 head_never

  pub abort-discarded : (arrived_of a area packet lent cookie e out ≡ packet_refused a (arrival_number a area packet e out)) × (packet_area a area packet lent cookie e out ≡ area) × (packet_out a area packet lent cookie e out ≡ out)
  unfolding arrived_of packet_area packet_out
  abort-discarded =
      let f : eqb (arrival_number a area packet e out) 0 ≡ false = ne_eqb (arrival_number a area packet e out) 0 never-in in
      (rw f, rw f, rw f)
