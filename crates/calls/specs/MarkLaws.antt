-- What a call that fills a packet marks as sent is what it chose, and nothing else; and in a record within its bounds each chunk that is chosen has bytes. Assumes
-- nothing.
use Rattle.std.specs.Prelude.{ℕ, zero, suc, ◌*◌, ◌<◌, ◌≤◌, ◌≡◌, Bool, List, [], ◌∷◌, ◌++◌, take, drop, get_or}
use Rattle.std.proofs.Math.Path.{refl}
use Rattle.std.proofs.Common.{ap, arith, length-drop, length-take-le}
use Rattle.std.proofs.Math.Bool.{true, false}
use borrow.Author.Tests.{ltb-false, eqb-true, eqb-false}
use Rattle.std.proofs.Math.Dec.{eqb}
use Rattle.std.proofs.Math.ListN.{length}
use Rattle.scans.specs.Scan.{pick, either}
use Rattle.scans.specs.Each.{All, neither}
use Rattle.numbers.specs.Profile.{rail}
use Rattle.numbers.specs.Circle.{tsn0}
use Rattle.chunks.specs.FrameLaws.{framed-long}
use Rattle.chunks.specs.DataChunk.{data_fields, data_flags}
use Rattle.chunks.specs.DataLaws.{data_is}
use Rattle.path.specs.Sizes.{rail_sizes}
use Rattle.path.specs.PathLaws.{rail-fair}
use Rattle.places.specs.declared.place.Place.{Place}
use Rattle.holding.specs.Taking.{payload_at}
use Rattle.sending.specs.declared.choosing.Chosen.{Chosen}
use Rattle.sending.specs.Sending.{no_place}
use Rattle.sending.specs.Choose.{packet_filled}
use Rattle.sending.specs.SendingBounds.{PlaceFits}
use Rattle.sending.specs.SendingBoundsLaws.{sending-test-sound}
use Rattle.sending.specs.SendingKeptLaws.{filled-kept}
use Rattle.sending.specs.MarkLaws.{chosen_at, PlacesMarked, filled-marks}
use Rattle.states.specs.declared.call.Call.TheVariants.{Transmit}
use Rattle.association.specs.declared.ends.Association.{Association}
use Rattle.association.specs.Fresh.{with_sending}
use Rattle.association.specs.Bounds.{least_area}
use Rattle.association.specs.AssociationKeptLaws.{AssociationKept, kept-sender}
use Rattle.calls.specs.declared.transmitting.Transmitted.{Transmitted}
use Rattle.calls.specs.Answer.{is_short_area, is_short_out}
use Rattle.calls.specs.AnswerLaws.{call-let-in}
use Rattle.calls.specs.Transmit.{data_sent, chunk_bytes, transmit_bar, transmitted_as, transmitted}

-- a place that is outstanding is one of the places, and its chunk fits
fit_at : (ps : List Place) (i : ℕ) → (get_or ps i no_place).status ≡ 2 → All (PlaceFits rail) ps → (i < length ps) × PlaceFits rail (get_or ps i no_place)
fit_at [] i e w = absurd (omega (arith, e))
fit_at (p ∷ ps) zero e w = (omega arith, w.0)
fit_at (p ∷ ps) (suc i) e w = let r = fit_at ps i e w.1 in (omega (arith, r.0), r.1)

-- the bytes of a chunk that fits, from an area as long as it must be
full-bytes : (area : List ℕ) (p : Place) (i : ℕ) → least_area ≤ length area → i < 128 → 1 ≤ p.chunk.len → p.chunk.len ≤ 512 → 0 < length (chunk_bytes area p i)
unfolding chunk_bytes
full-bytes area p i l h some small =
    let payload : List ℕ = payload_at rail area i p.chunk.len in
    let n : length payload ≡ p.chunk.len = length-take-le p.chunk.len (drop (512 * i) area) (omega (arith, l, h, small, length-drop (512 * i) area)) in
    let body : List ℕ = data_fields (data_sent p.chunk) ++ payload in
    omega (arith, ap length (data_is (data_sent p.chunk) payload (omega (arith, n, small)) (λ z. omega (arith, z, n, some))), framed-long 0 (data_flags (data_sent p.chunk)) body)

all-taken : (Q : ℕ → Type 0) (n : ℕ) (is : List ℕ) → ((k : ℕ) → k < n → Q (get_or is k 0)) → All Q (take n is)
all-taken Q zero is h = tt
all-taken Q (suc n) [] h = tt
all-taken Q (suc n) (i ∷ is) h = (h 0 (omega arith), all-taken Q n is (λ k l. h (suc k) (omega (arith, l))))

module _ (a : Association) (area out : List ℕ) where
  -- the chunks that are chosen
  abbrev pub choice : Chosen
  choice = packet_filled rail_sizes rail a.sending

  abbrev no-packet : Transmitted
  no-packet = record { number = transmit_bar a area out; length = 0; resent = false; first = tsn0; last = tsn0; association = a }

  let-in-transmit : (transmitted a area out).number ≡ 0 → ((transmitted a area out).association ≡ with_sending a choice.sending) × (least_area ≤ length area)
  unfolding transmitted
  let-in-transmit = go (eqb (transmit_bar a area out) 0) refl
    where
      go : (t : Bool) → eqb (transmit_bar a area out) 0 ≡ t
          → (let r : Transmitted = pick t (transmitted_as a area out choice) no-packet in r.number ≡ 0 → (r.association ≡ with_sending a choice.sending) × (least_area ≤ length area))
      go true e z =
          let s = call-let-in a (either (is_short_area area) (is_short_out out)) Transmit (eqb-true (transmit_bar a area out) 0 e) in
          (refl, ltb-false (length area) least_area (neither (is_short_area area) (is_short_out out) s.0).0)
      go false e z = absurd (eqb-false (transmit_bar a area out) 0 e z)

  pub transmit-marks : (transmitted a area out).number ≡ 0 → ((transmitted a area out).association ≡ with_sending a choice.sending) × PlacesMarked a.sending choice
  transmit-marks z = ((let-in-transmit z).0, filled-marks rail_sizes rail a.sending)

  pub transmit-full : AssociationKept a → (transmitted a area out).number ≡ 0 → All (λ (i : ℕ). 0 < length (chunk_bytes area (get_or choice.sending.places i no_place) i)) (take choice.count choice.places)
  transmit-full k z =
      let m = filled-marks rail_sizes rail a.sending in
      let s = filled-kept rail_sizes rail rail-fair a.sending (kept-sender a k) in
      all-taken (λ (i : ℕ). 0 < length (chunk_bytes area (get_or choice.sending.places i no_place) i)) choice.count choice.places
      (λ n h. let i : ℕ = chosen_at choice n in
      let f = fit_at choice.sending.places i (m.sent n h) (sending-test-sound rail_sizes rail choice.sending s.within).fit in
      let c = f.1.cut (λ e. absurd (omega (arith, e, m.sent n h))) in
      full-bytes area (get_or choice.sending.places i no_place) i (let-in-transmit z).1 (omega (arith, f.0, s.whole.long)) c.some c.small)
