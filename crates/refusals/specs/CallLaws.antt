-- Each call that is refused leaves the words of its tables, its area and its output. Assumes nothing.
use Rattle.std.specs.Prelude.{ℕ, ◌<◌, ◌≡◌, Bool, List, [], length}
use Rattle.std.proofs.Math.Path.{refl, sym}
use Rattle.std.proofs.Common.{ap, ◌∙◌, arith}
use Rattle.std.proofs.Math.Bool.{true, false}
use borrow.Author.Tests.{ne_eqb}
use Rattle.std.proofs.Math.Dec.{eqb}
use Rattle.scans.specs.Scan.{pick}
use Rattle.numbers.specs.declared.circle.StreamId.{StreamId}
use Rattle.numbers.specs.Numbering.{circles}
use Rattle.numbers.specs.Profile.{rail}
use Rattle.path.specs.Sizes.{sizes_of}
use Rattle.path.specs.Path as way
use Rattle.holding.specs.declared.taking.Answer as took
use Rattle.holding.specs.declared.taking.Answer.TheVariants.{Taken, Nothing, Short}
use Rattle.holding.specs.Taking.{take_number, took}
use Rattle.holding.specs.TakingLaws.{took-refused}
use Rattle.sending.specs.Sending.{has_outstanding}
use Rattle.sending.specs.HandIn.{refusal}
use Rattle.tables.specs.HeldWords.{held_of}
use Rattle.tables.specs.Ssns.{ssns_of}
use Rattle.taking.specs.LeftLaws.{words_left}
use Rattle.sender.specs.Seen.{sending_shown}
use Rattle.acks.specs.Acks.{Expired, overdue_head, overdue_words, expired_head, expired_words}
use Rattle.messages.specs.MessageWords.{handing, words-kept, area-kept}
use Rattle.association.specs.declared.ends.Association.{Association}
use Rattle.calls.specs.Messages.{delivered_as}
use Rattle.steps.specs.declared.lent.Lent.{Lent}
use Rattle.steps.specs.declared.lent.Echoed.{Echoed}
use Rattle.steps.specs.Lent.{heeded}
use Rattle.arriving.specs.Arrival.{arrival_number}
use Rattle.flat.specs.declared.head.Head.{Head}
use Rattle.flat.specs.Shown.{shown, bare}
use Rattle.asks.specs.TableOpening.{Tables, tables_after}
use Rattle.asks.specs.TableTimers.{Lapse, lapsed_by, lapsed}
use Rattle.asks.specs.TableMessages.{Handover, sender_handover, not_handed, handed_over, Delivery, delivered_by, not_delivered, delivered_from}
use Rattle.asks.specs.TableTransmit.{Dispatch, not_dispatched, dispatched}
use Rattle.landing.specs.Landing.{After, after_of, landing_refused_as, packet_walked_over, let_in, landed}

-- our own INIT
pub tables-left : (n : ℕ) (ts : Tables) → 0 < n → tables_after n ts ≡ ts
unfolding tables_after
tables-left n ts h = rw (ne_eqb n 0 (λ z. omega (arith, z, h)))

-- a packet
module _ (packet : List ℕ) (lent : Lent) (cookie : List ℕ) (e : Echoed) (h : Head) (held next places next_out kept area verdicts out : List ℕ) where
  abbrev number : ℕ
  number = arrival_number (shown h held next places next_out kept) area packet e out

  pub landed-left : 0 < (landed packet lent cookie e h held next places next_out kept area verdicts out).landed.number
      → landed packet lent cookie e h held next places next_out kept area verdicts out ≡ after_of (landing_refused_as h number) held next places next_out kept area verdicts out
  unfolding landed let_in
  landed-left = go (eqb number 0)
    where
      go : (t : Bool) → (let x : After = pick t (let_in (packet_walked_over packet lent cookie (heeded h.state h.ends e) h held next places next_out kept area verdicts) packet out) (after_of (landing_refused_as h number) held next places next_out kept area verdicts out) in
          0 < x.landed.number → x ≡ after_of (landing_refused_as h number) held next places next_out kept area verdicts out)
      go true p = absurd (omega arith)
      go false p = refl

-- a message handed in
module _ (n : ℕ) (h : Head) (places area message : List ℕ) (stream : StreamId) (unordered : Bool) (ppid : ℕ) where
  abbrev no : ℕ
  no = refusal rail (sending_shown rail h.sender places []) (length message) stream h.ends.streams_out

  abbrev handover : Handover
  handover = handed_over n h places area message stream unordered ppid

  pub handed-left : 0 < handover.answer.number → (handover.places ≡ places) × (handover.area ≡ area)
  unfolding handed_over handing
  handed-left = go (eqb n 0)
    where
      by : 0 < no → ((sender_handover h places area message stream unordered ppid).places ≡ places) × ((sender_handover h places area message stream unordered ppid).area ≡ area)
      by p =
          let z : eqb no 0 ≡ false = ne_eqb no 0 (λ q. omega (arith, q, p)) in
          (sym (words-kept rail h.sender places (length message) stream h.ends.streams_out {no = no} refl unordered ppid z), sym (area-kept rail h.sender places area message stream h.ends.streams_out {no = no} refl z))

      go : (t : Bool) → (let x : Handover = pick t (sender_handover h places area message stream unordered ppid) (not_handed n places area) in 0 < x.answer.number → (x.places ≡ places) × (x.area ≡ area))
      go true p = by p
      go false p = (refl, refl)

-- a message taken
given-number : (x : took.Answer) (b : Association) → (delivered_as x b).number ≡ take_number x
given-number (Taken m) b = refl
given-number Nothing b = refl
given-number (Short n) b = refl

module _ (n : ℕ) (h : Head) (held next area out : List ℕ) where
  abbrev delivery : Delivery
  delivery = delivered_from n h held next area out

  abbrev answer : took.Answer
  answer = (took circles rail (held_of rail held) (ssns_of rail next) h.keeping.point.0 (length out)).answer

  pub delivered-left : 0 < delivery.answer.number → (delivery.held ≡ held) × (delivery.next ≡ next) × (delivery.out ≡ out)
  unfolding delivered_from
  delivered-left = go (eqb n 0)
    where
      by : 0 < (delivered_as answer (bare h)).number
          → ((delivered_by h held next area out).held ≡ held) × ((delivered_by h held next area out).next ≡ next) × ((delivered_by h held next area out).out ≡ out)
      by p =
          let q : 0 < take_number answer = omega (arith, p, given-number answer (bare h)) in
          let w = words_left circles rail held next h.keeping.point.0 (length out) q in
          (w.0, w.1, (took-refused circles rail (held_of rail held) (ssns_of rail next) h.keeping.point.0 area out q).output)

      go : (t : Bool) → (let x : Delivery = pick t (delivered_by h held next area out) (not_delivered n h held next out) in 0 < x.answer.number → (x.held ≡ held) × (x.next ≡ next) × (x.out ≡ out))
      go true p = by p
      go false p = (refl, refl, refl)

-- a packet of DATA chunks
module _ (n : ℕ) (h : Head) (places next area out : List ℕ) where
  pub dispatched-left : 0 < (dispatched n h places next area out).answer.number → dispatched n h places next area out ≡ not_dispatched n h places next out
  unfolding dispatched
  dispatched-left = go (eqb n 0) _ refl
    where
      go : (t : Bool) (x : Dispatch) → x.answer.number ≡ 0 → 0 < (pick t x (not_dispatched n h places next out)).answer.number → pick t x (not_dispatched n h places next out) ≡ not_dispatched n h places next out
      go true x z p = absurd (omega arith)
      go false x z p = refl

-- T3
module _ (n : ℕ) (h : Head) (places : List ℕ) where
  abbrev lapse : Lapse
  lapse = lapsed n h places

  pub lapsed-left : 0 < lapse.answer.number → (lapse.answer.head ≡ h) × (lapse.places ≡ places)
  unfolding lapsed expired_head expired_words
  lapsed-left = go (eqb n 0)
    where
      by : (x y : Bool)
          → (let e : Expired = pick x (pick y (record { number = 0; over = true; head = h.sender }) (record { number = 0; over = false; head = overdue_head (sizes_of h.sender.mode) rail h.sender places })) (record { number = 7; over = false; head = h.sender }) in
          0 < (lapsed_by h e).number → ((lapsed_by h e).head ≡ h) × (pick x (pick y places (overdue_words rail places)) places ≡ places))
      by true true p = absurd (omega arith)
      by true false p = absurd (omega arith)
      by false y p = (refl, refl)

      go : (t : Bool)
          → (let x : Lapse = pick t (record { answer = lapsed_by h (expired_head (sizes_of h.sender.mode) rail h.sender places); places = expired_words (sizes_of h.sender.mode) rail h.sender places }) (record { answer = record { number = n; length = 0; over = false; head = h }; places = places }) in
          0 < x.answer.number → (x.answer.head ≡ h) × (x.places ≡ places))
      go true p = by (has_outstanding (sending_shown rail h.sender places [])) (way.is_over (sizes_of h.sender.mode) h.sender.path) p
      go false p = (refl, refl)
