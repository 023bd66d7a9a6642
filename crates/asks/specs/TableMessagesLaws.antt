-- What handing in and taking over head and words have to show, and that they are what `calls` says of the record shown. Assumes nothing.
use Rattle.std.specs.Prelude.{ℕ, ◌<◌, ◌≤◌, Bool, List, eqb, length}
use Rattle.std.proofs.Math.Path.{◌≡◌, refl, ap}
use Rattle.std.proofs.Common.{◌∙◌, arith}
use Rattle.std.proofs.Math.Bool.{true, false}
use borrow.Author.Tests.{lt-ltb, le-ltb, eq-eqb, ne_eqb}
use Rattle.scans.specs.Scan.{pick}
use Rattle.scans.specs.Upto.{pick-keeps}
use Rattle.numbers.specs.declared.circle.StreamId.{StreamId}
use Rattle.numbers.specs.Numbering.{circles}
use Rattle.numbers.specs.Profile.{rail}
use Rattle.holding.specs.declared.taking.Answer as took
use Rattle.holding.specs.declared.taking.Answer.TheVariants.{Taken, Nothing, Short}
use Rattle.holding.specs.Taking.{took as took_from, written}
use Rattle.delivery.specs.declared.receiving.Taken as receiver
use Rattle.sending.specs.declared.cutting.Handed.{Handed}
use Rattle.sending.specs.HandIn.{handed_in_area}
use Rattle.tables.specs.HeldWords.{held_of}
use Rattle.tables.specs.Ssns.{ssns_of}
use Rattle.taking.specs.TakeWords.{words_taken, ssns_taken}
use Rattle.taking.specs.TakeWordsLaws.{words_long, ssns-taken-long}
use Rattle.reception.specs.ReceptionLaws.{words-taken}
use Rattle.messages.specs.MessageWords.{Handing}
use Rattle.messages.specs.MessageWords as sender
use Rattle.messages.specs.MessageWordsLaws.{handed-shows, area-shows, handed-long}
use Rattle.states.specs.declared.call.Call.TheVariants.{HandIn}
use Rattle.association.specs.declared.ends.Association.{Association}
use Rattle.association.specs.Bounds.{is_sound}
use Rattle.association.specs.Fresh.{with_receiving}
use Rattle.calls.specs.declared.messages.HandedIn.{HandedIn}
use Rattle.calls.specs.declared.messages.Delivered as whole
use Rattle.calls.specs.Answer.{is_short_area, barred}
use Rattle.calls.specs.Messages.{handed_as, hand_in_call, undelivered, delivered_as, take_bar, delivered, delivered_out, senders_handing, hand_in_call_area, taking}
use Rattle.flat.specs.declared.head.Head.{Head}
use Rattle.flat.specs.Shown.{shown, bare}
use Rattle.asks.specs.TableMessages.{Handover, sender_handover, not_handed, handed_over, MessageReply, Delivery, delivered_beside, delivered_by, not_delivered, delivered_from}

-- ---- handing in

module _ (h : Head) (places area message : List ℕ) (stream : StreamId) (unordered : Bool) (ppid : ℕ) {n b : ℕ} (q : n ≡ b) where
  pub handover-by : {r : Handing} {ps bytes : List ℕ} → n ≡ 0 → r ≡ sender.handing rail h.sender places (length message) stream h.ends.streams_out
      → ps ≡ sender.handed_words rail h.sender places (length message) stream unordered ppid h.ends.streams_out
      → bytes ≡ sender.handed_area rail h.sender places area message stream h.ends.streams_out
      → ◌≡◌ {A = Handover} (record { answer = r; places = ps; area = bytes }) (handed_over b h places area message stream unordered ppid)
  unfolding handed_over
  handover-by z x y w = rw (← q, eq-eqb n 0 z) (λ i. record { answer = x i; places = y i; area = w i })

  pub handover-refused : (n ≡ 0 → ⊥) → ◌≡◌ {A = Handover} (record { answer = record { number = n; chunks = 0 }; places = places; area = area }) (handed_over b h places area message stream unordered ppid)
  unfolding handed_over
  handover-refused z = rw (← q, ne_eqb n 0 z)

-- what is shown after a message was handed in
module _ (h : Head) (held ns places ms cs area message : List ℕ) (stream : StreamId) (unordered : Bool) (ppid : ℕ) where
  -- the number that bars it, and what it leaves
  abbrev hand_bar : ℕ
  hand_bar = barred (shown h held ns places ms cs) (is_short_area area) HandIn

  abbrev handing : Handover
  handing = handed_over hand_bar h places area message stream unordered ppid

  pub handover-shows : length places ≡ 1024 → stream.0 < 65536 → ppid < 4294967296
      → ◌≡◌ {A = HandedIn} (record { number = handing.answer.number; chunks = handing.answer.chunks; association = shown h held ns handing.places ms cs })
      (hand_in_call (shown h held ns places ms cs) area (length message) stream unordered ppid)
  unfolding handed_over hand_in_call
  handover-shows l s p = go (eqb hand_bar 0)
    where
      go : (t : Bool)
          → (let x : Handover = pick t (sender_handover h places area message stream unordered ppid) (not_handed hand_bar places area) in
          ◌≡◌ {A = HandedIn} (record { number = x.answer.number; chunks = x.answer.chunks; association = shown h held ns x.places ms cs })
          (pick t (handed_as (shown h held ns places ms cs) (senders_handing (shown h held ns places ms cs) (length message) stream unordered ppid)) (record { number = hand_bar; chunks = 0; association = shown h held ns places ms cs })))
      go true =
          ap (λ (x : Handed). handed_as (shown h held ns places ms cs) x)
          (handed-shows rail h.sender places ms (length message) stream unordered ppid h.ends.streams_out (omega (arith, l)) (omega arith) s p)
      go false = refl

  pub area-handed : handing.area ≡ hand_in_call_area (shown h held ns places ms cs) area message stream
  unfolding handed_over hand_in_call_area
  area-handed = go (eqb hand_bar 0)
    where
      go : (t : Bool) → (pick t (sender_handover h places area message stream unordered ppid) (not_handed hand_bar places area)).area
          ≡ pick t (handed_in_area rail (shown h held ns places ms cs).sending area message stream h.ends.streams_out) area
      go true = area-shows rail h.sender places ms area message stream h.ends.streams_out
      go false = refl

-- the table stays as long as it was
pub handover-long : (n : ℕ) (h : Head) (places area message : List ℕ) (stream : StreamId) (unordered : Bool) (ppid : ℕ)
    → length (handed_over n h places area message stream unordered ppid).places ≡ length places
unfolding handed_over
handover-long n h places area message stream unordered ppid =
    pick-keeps (λ (x : Handover). length x.places ≡ length places) (eqb n 0) (sender_handover h places area message stream unordered ppid) (not_handed n places area)
    (handed-long rail h.sender places (length message) stream unordered ppid h.ends.streams_out) refl

-- ---- taking

-- the number that bars a take
module _ (a : Association) (area : List ℕ) {y : Bool} (e : y ≡ is_sound a) where
  pub takes-on : y ≡ true → 65536 ≤ length area → take_bar a area ≡ 0
  takes-on t l = rw (← e, t, le-ltb (length area) 65536 l)

  pub takes-short : y ≡ true → length area < 65536 → take_bar a area ≡ 18
  takes-short t l = rw (← e, t, lt-ltb (length area) 65536 l)

  pub takes-unsound : y ≡ false → take_bar a area ≡ 1
  takes-unsound t = rw (← e, t)

module _ (h : Head) (held next area out : List ℕ) {b : ℕ} {r : MessageReply} where
  pub delivery-by : {x : took.Answer} {hs ns os : List ℕ} → b ≡ 0
      → x ≡ (took_from circles rail (held_of rail held) (ssns_of rail next) h.keeping.point.0 (length out)).answer
      → hs ≡ words_taken circles rail held next h.keeping.point.0 (length out)
      → ns ≡ ssns_taken circles rail held next h.keeping.point.0 (length out)
      → os ≡ written circles rail (held_of rail held) (ssns_of rail next) h.keeping.point.0 area out
      → r ≡ delivered_beside (delivered_as x (bare h))
      → ◌≡◌ {A = Delivery} (record { answer = r; held = hs; next = ns; out = os }) (delivered_from b h held next area out)
  unfolding delivered_from
  delivery-by z w k l m y = rw (eq-eqb b 0 z, ← w) (λ i. record { answer = y i; held = k i; next = l i; out = m i })

  pub delivery-refused : (n : ℕ) → b ≡ n → eqb n 0 ≡ false → r ≡ delivered_beside (undelivered (bare h) n 0)
      → ◌≡◌ {A = Delivery} (record { answer = r; held = held; next = next; out = out }) (delivered_from b h held next area out)
  unfolding delivered_from
  delivery-refused n q z y = rw (q, z) (λ i. record { answer = y i; held = held; next = next; out = out })

-- an answer stands beside any record
given-beside : (x : took.Answer) (b c : Association) → ◌≡◌ {A = whole.Delivered} (record { number = (delivered_as x b).number; message = (delivered_as x b).message; association = c }) (delivered_as x c)
given-beside (Taken m) b c = refl
given-beside Nothing b c = refl
given-beside (Short n) b c = refl

-- what is shown after a take
module _ (h : Head) (held next places ms cs area out : List ℕ) where
  -- the number that bars it, and what it leaves
  abbrev barring : ℕ
  barring = take_bar (shown h held next places ms cs) area

  abbrev delivery : Delivery
  delivery = delivered_from barring h held next area out

  pub delivery-shows : length held ≡ 512 → length next ≡ 128
      → ◌≡◌ {A = whole.Delivered} (record { number = delivery.answer.number; message = delivery.answer.message; association = shown h delivery.held delivery.next places ms cs })
      (delivered (shown h held next places ms cs) area (length out))
  unfolding delivered_from delivered
  delivery-shows l m = go (eqb barring 0)
    where
      go : (t : Bool)
          → (let x : Delivery = pick t (delivered_by h held next area out) (not_delivered barring h held next out) in
          ◌≡◌ {A = whole.Delivered} (record { number = x.answer.number; message = x.answer.message; association = shown h x.held x.next places ms cs })
          (pick t (delivered_as (taking (shown h held next places ms cs) (length out)).answer (with_receiving (shown h held next places ms cs) (taking (shown h held next places ms cs) (length out)).receiving)) (undelivered (shown h held next places ms cs) barring 0)))
      go true =
          given-beside (took_from circles rail (held_of rail held) (ssns_of rail next) h.keeping.point.0 (length out)).answer (bare h)
          (shown h (delivered_by h held next area out).held (delivered_by h held next area out).next places ms cs)
          ∙ ap (λ (x : receiver.Taken). delivered_as x.answer (with_receiving (shown h held next places ms cs) x.receiving))
          (words-taken rail h.keeping held next (length out) (omega (arith, l)) (omega (arith, m)))
      go false = refl

  pub out-delivered : delivery.out ≡ delivered_out (shown h held next places ms cs) area out
  unfolding delivered_from delivered_out
  out-delivered = go (eqb barring 0)
    where
      go : (t : Bool) → (pick t (delivered_by h held next area out) (not_delivered barring h held next out)).out
          ≡ pick t (written circles rail (held_of rail held) (ssns_of rail next) h.keeping.point.0 area out) out
      go true = refl
      go false = refl

-- the tables stay as long as they were
pub delivery-long : (n : ℕ) (h : Head) (held next area out : List ℕ)
    → (length (delivered_from n h held next area out).held ≡ length held) × (length (delivered_from n h held next area out).next ≡ length next)
unfolding delivered_from
delivery-long n h held next area out =
    pick-keeps (λ (x : Delivery). (length x.held ≡ length held) × (length x.next ≡ length next)) (eqb n 0) (delivered_by h held next area out) (not_delivered n h held next out)
    (words_long circles rail held next h.keeping.point.0 (length out), ssns-taken-long circles rail held next h.keeping.point.0 (length out))
    (refl, refl)
