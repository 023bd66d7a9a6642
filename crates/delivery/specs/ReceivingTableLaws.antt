-- What the rules of receiving say, as equations: for one who reads the places from a table in place of a list. Assumes nothing.
use Rattle.std.specs.Prelude.{ℕ, ◌-◌, ◌*◌, ◌≡◌, Bool, true, false, not, List, set, replicate, eqb, ltb}
use Rattle.std.proofs.Math.Path.{refl}
use Rattle.numbers.specs.declared.circle.Tsn.{Tsn}
use Rattle.numbers.specs.declared.circle.Ssn.{Ssn}
use Rattle.numbers.specs.Circle.{ssn0}
use Rattle.numbers.specs.Numbering.{Numbering, Numberings}
use Rattle.numbers.specs.Profile.{Profile, is_agreed}
use Rattle.numbers.specs.Judgement.{judged}
use Rattle.numbers.specs.Keeping as keeping
use Rattle.numbers.specs.Blocks.{blocks_of}
use Rattle.scans.specs.Scan.{pick, count, either}
use Rattle.holding.specs.declared.held.Chunk.{Chunk}
use Rattle.holding.specs.declared.held.Held.{Held}
use Rattle.holding.specs.Held.{no_held, as_held, is_held_free}
use Rattle.holding.specs.Message.{chosen, is_one}
use Rattle.holding.specs.Taking.{took}
use Rattle.delivery.specs.declared.receiving.Receiving.{Receiving}
use Rattle.delivery.specs.declared.arrival.Look.{Look}
use Rattle.delivery.specs.declared.arrival.Verdict.TheVariants.{Kept, Empty, Long, Opposite, Duplicate, Wedged, Far, Stray, Clashing}
use Rattle.delivery.specs.Receiving.{fresh_receiving, low_of, taken_by, taken_into}
use Rattle.delivery.specs.Arrival.{is_opposite, is_old, is_beyond, is_repeat, is_wedged, judgement_of, verdict_of, duplicate_noted, stray_passed, kept_at_place, receiving_after, arrived, stored_by, arrival_area}
use Rattle.delivery.specs.Contradiction.{is_contradicted}
use Rattle.delivery.specs.ReceivingSack.{receiving_sack, receiving_told, acknowledged_receiving}
use Rattle.delivery.specs.LookLaws.{Looked}

pick-not : {A : Type 0} (t : Bool) (x y : A) → pick (not t) x y ≡ pick t y x
pick-not true x y = refl
pick-not false x y = refl

module _ (T : Numbering) (P : Profile) where
  pub fresh-receiving-is : (t : Tsn) → fresh_receiving T P t ≡ record { keeping = keeping.fresh_keeping T P t; held = replicate P.places no_held; next = replicate P.streams ssn0 }
  unfolding fresh_receiving
  fresh-receiving-is t = refl

  pub noted-is : (r : Receiving) (t : Tsn) → duplicate_noted P r t ≡ record { keeping = keeping.listed P r.keeping t; held = r.held; next = r.next }
  unfolding duplicate_noted
  noted-is r t = refl

  pub passed_is : (r : Receiving) (t : ℕ) → stray_passed T P r t ≡ record { keeping = keeping.marked_come T P r.keeping t; held = r.held; next = r.next }
  unfolding stray_passed
  passed_is r t = refl

  pub kept-is : (r : Receiving) (i : ℕ) (h : Held) → kept_at_place T P r i h ≡ record { keeping = keeping.marked_come T P r.keeping h.tsn.0; held = set r.held i h; next = r.next }
  unfolding kept_at_place
  kept-is r i h = refl

module _ (N : Numberings) (P : Profile) where
  pub wedged-is : (low : ℕ) (hs : List Held) (next : List Ssn) (point : ℕ) → is_wedged N P low hs next point ≡ pick (eqb low P.places) (not (is_one (chosen N P hs next point))) false
  unfolding is_wedged
  wedged-is low hs next point = refl

  -- the checks, by what a pass over the held chunks found
  pub verdict-by : (r : Receiving) (c : Chunk) (n streams : ℕ) {w : Look} → Looked N.tsn P r.keeping r.held c w
      → verdict_of N P r (as_held c n) streams
      ≡ pick (ltb n 1) Empty
      (pick (ltb P.payload n) Long
      (pick (is_opposite (judged N.tsn r.keeping.point.0 (P.places - w.low) c.tsn.0)) Opposite
      (pick (is_old (judged N.tsn r.keeping.point.0 (P.places - w.low) c.tsn.0)) Duplicate
      (pick (either (keeping.is_come N.tsn r.keeping c.tsn.0) w.held) Duplicate
      (pick (is_wedged N P w.low r.held r.next r.keeping.point.0) Wedged
      (pick (is_beyond (judged N.tsn r.keeping.point.0 (P.places - w.low) c.tsn.0)) Far
      (pick (is_agreed P c.stream.0 streams) (pick w.clash Clashing Kept) Stray)))))))
  unfolding verdict_of judgement_of low_of is_repeat
  verdict-by r c n streams k = rw (k.low, k.held, k.clash n, pick-not (is_agreed P c.stream.0 streams) Stray (pick (is_contradicted N.tsn r.held (as_held c n)) Clashing Kept))

  module _ (r : Receiving) (h : Held) (streams : ℕ) where
    pub arrived-is : arrived N P r h streams ≡ record { verdict = verdict_of N P r h streams; receiving = receiving_after N.tsn P r h (verdict_of N P r h streams) }
    unfolding arrived
    arrived-is = refl

    pub arrival-area-is : (area bytes : List ℕ) → arrival_area N P r h streams area bytes ≡ stored_by P r.held area bytes (verdict_of N P r h streams)
    unfolding arrival_area
    arrival-area-is area bytes = refl

pub taken_is : (N : Numberings) (P : Profile) (r : Receiving) (room : ℕ) → taken_into N P r room ≡ taken_by r (took N P r.held r.next r.keeping.point.0 room)
unfolding taken_into
taken_is N P r room = refl

module _ (P : Profile) (r : Receiving) where
  pub receiving-sack-is : receiving_sack P r ≡ record { point = r.keeping.point; window = P.payload * count is_held_free r.held; blocks = blocks_of P r.keeping; dups = r.keeping.dups; listed = r.keeping.listed }
  unfolding receiving_sack
  receiving-sack-is = refl

  pub acknowledged-receiving-is : acknowledged_receiving P r ≡ record { sack = receiving_sack P r; receiving = record { keeping = keeping.keeping_told P r.keeping; held = r.held; next = r.next } }
  unfolding acknowledged_receiving receiving_told
  acknowledged-receiving-is = refl
