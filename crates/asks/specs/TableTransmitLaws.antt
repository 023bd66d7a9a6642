-- What a packet filled over head and words has to show, and that it is what `calls` says of the record shown. Assumes nothing.
use Rattle.std.specs.Prelude.{ℕ, ◌<◌, Bool, List, eqb}
use Rattle.std.proofs.Math.Path.{◌≡◌, refl, ap}
use Rattle.std.proofs.Common.{◌∙◌, arith}
use Rattle.std.proofs.Math.Bool.{true, false}
use borrow.Author.Tests.{lt-ltb, eq-eqb, ne_eqb}
use Rattle.std.proofs.Math.ListN.{length}
use Rattle.scans.specs.Scan.{pick}
use Rattle.scans.specs.Upto.{pick-keeps}
use Rattle.numbers.specs.Circle.{tsn0}
use Rattle.numbers.specs.Profile.{rail}
use Rattle.packets.specs.declared.header.Header.{Header}
use Rattle.path.specs.Sizes.{rail_sizes}
use Rattle.places.specs.declared.place.Place.{Place}
use Rattle.sending.specs.declared.choosing.Chosen.{Chosen}
use Rattle.sending.specs.declared.choosing.Load.{Load}
use Rattle.sending.specs.ChoosePartsLaws.{loaded_by}
use Rattle.sending.specs.Choose.{packet_filled}
use Rattle.tables.specs.PlaceWords.{places_of, place_at}
use Rattle.sender.specs.declared.Sender.{Sender}
use Rattle.sender.specs.Seen.{sending_shown}
use Rattle.choice.specs.Fill.{Fill, filled_in}
use Rattle.choice.specs.FillLaws.{chosen_of, filled-shows, filled-long}
use Rattle.calls.specs.declared.transmitting.Transmitted as whole
use Rattle.calls.specs.Packet.{to_peer}
use Rattle.calls.specs.Transmit.{Bundle, added, added_chosen, bundled, bundle_length, bundle_out, transmit_bar, transmitted_as, transmitted, transmitted_out}
use Rattle.flat.specs.declared.head.Head.{Head}
use Rattle.flat.specs.Shown.{shown}
use Rattle.asks.specs.TableAnswer.{with_sender}
use Rattle.asks.specs.TableTransmit.{Dispatch, dispatched_by, not_dispatched, dispatched}

-- a place chosen, with its chunk behind those before
pub turned-at : (area : List ℕ) (count : ℕ) (words : List ℕ) (t : Bundle) (k i : ℕ) {p : Place} {b : Bundle} → k < count → p ≡ place_at rail words i → b ≡ added area p i t
    → b ≡ added_chosen area count (places_of rail words) t k i
turned-at area count words t k i h e s = rw (lt-ltb k count h) (s ∙ ap (λ (x : Place). added area x i t) e)

-- the packet, by the head and the tables before it
abbrev full : Head → List ℕ → List ℕ → Fill
full h places next = filled_in rail_sizes rail h.sender places next

-- the call, by what it found
module _ (h : Head) (places next area out : List ℕ) {n b : ℕ} (q : n ≡ b) where
  pub dispatch-by : {s : Sender} {l : Load} {ws ms mid exit : List ℕ} {at m : ℕ} {k : Header} {g : Head} → n ≡ 0
      → s ≡ (full h places next).head → l ≡ (full h places next).load → ws ≡ (full h places next).words → ms ≡ (full h places next).ns
      → k ≡ to_peer h.ends
      → ◌≡◌ {A = Bundle} (record { at = at; out = mid }) (bundled area (loaded_by (sending_shown rail s ws ms) l) out)
      → (m ≡ bundle_length (record { at = at; out = mid })) × (exit ≡ bundle_out k (record { at = at; out = mid }))
      → g ≡ with_sender h s
      → ◌≡◌ {A = Dispatch} (record { answer = record { number = 0; length = m; resent = l.resent; first = l.first; last = l.last; head = g }; places = ws; next = ms; out = exit }) (dispatched b h places next area out)
  unfolding dispatched
  dispatch-by {s} {l} {ws} {ms} {mid} {exit} {at} {m} {k} {g} z a c d e f t u w =
      let bundle : ◌≡◌ {A = Bundle} (record { at = at; out = mid }) (bundled area (chosen_of rail (full h places next)) out) =
      t ∙ (λ i. bundled area (loaded_by (sending_shown rail (a i) (d i) (e i)) (c i)) out) in
      let count : m ≡ bundle_length (bundled area (chosen_of rail (full h places next)) out) = u.0 ∙ ap (λ (x : Bundle). bundle_length x) bundle in
      let bytes : exit ≡ bundle_out (to_peer h.ends) (bundled area (chosen_of rail (full h places next)) out) = u.1 ∙ (λ i. bundle_out (f i) (bundle i)) in
      let after : g ≡ with_sender h (full h places next).head = w ∙ ap (λ (x : Sender). with_sender h x) a in
      rw (← q, eq-eqb n 0 z)
      (λ i. record { answer = record { number = 0; length = count i; resent = (c i).resent; first = (c i).first; last = (c i).last; head = after i }; places = d i; next = e i; out = bytes i })

  pub dispatch-refused : (n ≡ 0 → ⊥)
      → ◌≡◌ {A = Dispatch} (record { answer = record { number = n; length = 0; resent = false; first = tsn0; last = tsn0; head = h }; places = places; next = next; out = out }) (dispatched b h places next area out)
  unfolding dispatched
  dispatch-refused z = rw (← q, ne_eqb n 0 z)

-- what is shown after a packet
module _ (h : Head) (held ns places next cs area out : List ℕ) (l : length places ≡ 1024) (m : length next ≡ 128) (t : h.sender.next_tsn.0 < 4294967296) where
  abbrev dispatch : Dispatch
  dispatch = dispatched (transmit_bar (shown h held ns places next cs) area out) h places next area out

  shows : chosen_of rail (full h places next) ≡ packet_filled rail_sizes rail (sending_shown rail h.sender places next)
  shows = filled-shows rail_sizes rail h.sender places next (omega (arith, l)) (omega (arith, m)) t

  pub dispatch-shows : ◌≡◌ {A = whole.Transmitted} (record {
    number = dispatch.answer.number;
    length = dispatch.answer.length;
    resent = dispatch.answer.resent;
    first = dispatch.answer.first;
    last = dispatch.answer.last;
    association = shown dispatch.answer.head held ns dispatch.places dispatch.next cs;
  })
      (transmitted (shown h held ns places next cs) area out)
  unfolding dispatched transmitted
  dispatch-shows = go (eqb (transmit_bar (shown h held ns places next cs) area out) 0)
    where
      go : (b : Bool)
          → (let x : Dispatch = pick b (dispatched_by h area out (full h places next)) (not_dispatched (transmit_bar (shown h held ns places next cs) area out) h places next out) in
          ◌≡◌ {A = whole.Transmitted} (record {
            number = x.answer.number;
            length = x.answer.length;
            resent = x.answer.resent;
            first = x.answer.first;
            last = x.answer.last;
            association = shown x.answer.head held ns x.places x.next cs;
          })
          (pick b (transmitted_as (shown h held ns places next cs) area out (packet_filled rail_sizes rail (sending_shown rail h.sender places next)))
          (record { number = transmit_bar (shown h held ns places next cs) area out; length = 0; resent = false; first = tsn0; last = tsn0; association = shown h held ns places next cs })))
      go true = ap (λ (x : Chosen). transmitted_as (shown h held ns places next cs) area out x) shows
      go false = refl

  pub out-dispatched : dispatch.out ≡ transmitted_out (shown h held ns places next cs) area out
  unfolding dispatched transmitted_out
  out-dispatched = go (eqb (transmit_bar (shown h held ns places next cs) area out) 0)
    where
      go : (b : Bool) → (pick b (dispatched_by h area out (full h places next)) (not_dispatched (transmit_bar (shown h held ns places next cs) area out) h places next out)).out
          ≡ pick b (bundle_out (to_peer h.ends) (bundled area (packet_filled rail_sizes rail (sending_shown rail h.sender places next)) out)) out
      go true = ap (λ (x : Chosen). bundle_out (to_peer h.ends) (bundled area x out)) shows
      go false = refl

-- the tables stay as long as they were
pub dispatch-long : (n : ℕ) (h : Head) (places next area out : List ℕ)
    → (length (dispatched n h places next area out).places ≡ length places) × (length (dispatched n h places next area out).next ≡ length next)
unfolding dispatched
dispatch-long n h places next area out =
    pick-keeps (λ (x : Dispatch). (length x.places ≡ length places) × (length x.next ≡ length next)) (eqb n 0) (dispatched_by h area out (full h places next)) (not_dispatched n h places next out)
    (filled-long rail_sizes rail h.sender places next) (refl, refl)
