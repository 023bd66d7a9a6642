-- A packet filled over head and words is the packet that `packet_filled` of `sending` has. Assumes nothing.
use Rattle.std.specs.Prelude.{◌≡◌, ℕ, zero, suc, ◌*◌, ◌%◌, ◌^◌, ◌<◌, ◌≤◌, Bool, true, false, List, [], length, get_or, ◌==◌, nat_eq, nat_lt, slice_index_or, slice_set}
use Rattle.std.proofs.Math.Path.{refl}
use Rattle.std.proofs.Common.{sym, ap, ◌∙◌, subst, mod-eq_of_lt, mod-lt, arith, ltb-true, ltb-false}
use Rattle.numbers.specs.declared.circle.Ssn.{Ssn}
use Rattle.numbers.specs.Circle.{ssn0}
use Rattle.numbers.specs.Numbering.{ring, line, on, on-law}
use Rattle.numbers.specs.Profile.{Profile}
use Rattle.scans.specs.Scan.{pick}
use Rattle.scans.specs.Upto.{run_while, run-keeps, pick-keeps}
use Rattle.path.specs.Sizes.{Sizes}
use Rattle.places.specs.declared.place.Chunk.{Chunk}
use Rattle.places.specs.declared.place.Place.{Place}
use Rattle.places.specs.Places.{being}
use Rattle.sending.specs.declared.choosing.Best.{Best}
use Rattle.sending.specs.declared.choosing.Chosen.{Chosen}
use Rattle.sending.specs.Choose.{best_place, goes, next_ssn, ssns_counted, numbered, Going, going, filling, packet_filled}
use Rattle.sending.specs.ChoosePartsLaws.{loaded_by}
use Rattle.sending.specs.SendingTableLaws.{goes-is, ssn-is, counted_is, numbered_is, tsn-is, sent-again, sent-first, going-is, filling-is, begun-is, filled_is}
use Rattle.tables.specs.PlaceWords.{places_of, place_at, place_put}
use Rattle.tables.specs.PlaceWordsLaws.{PlaceSmall, place-small, place-put, place-put-long}
use Rattle.tables.specs.Ssns.{ssns_of, ssn_put, ssn-in, ssn-out, ssn-put, ssn-put-long}
use Rattle.sender.specs.declared.Sender.{Sender}
use Rattle.tables.specs.OpenLaws.{by-law}
use Rattle.sender.specs.Seen.{sending_shown}
use Rattle.choice.specs.Fill.{Fill, counted_in, sent_place, sent_head, load_after, going_in, filling_in, begun_in, filled_in}

-- the packet that a fill shows
abbrev pub chosen_of : Profile → Fill → Chosen
chosen_of P f = loaded_by (sending_shown P f.head f.words f.ns) f.load

-- tables long enough, and a TSN of 32 bits
pub record FillFits (P : Profile) (f : Fill) : Type 0 where
  pub words : 8 * P.places ≤ length f.words
  pub ns : P.streams ≤ length f.ns
  pub tsn : f.head.next_tsn.0 < 4294967296

-- a step stays on the circle
on-less : (n a k : ℕ) → a < n → on (ring n) a k < n
on-less n a k h = subst (λ (x : ℕ). x < n) (sym (on-law n a k) ∙ ap (λ (x : ℕ). on (ring n) x k) (mod-eq_of_lt h)) (mod-lt (on line a k) (omega arith))

-- ---- the next SSNs

ssn-small : (P : Profile) (ns : List ℕ) (x : ℕ) → x < P.streams → (get_or (ssns_of P ns) x ssn0).0 < 65536
ssn-small P ns x h = let l : get_or ns x 0 % 65536 < 65536 = omega arith in subst (λ (s : Ssn). s.0 < 65536) (ssn-in P ns x h) l

module _ (P : Profile) (ns : List ℕ) (p : Place) where
  abbrev risen : Ssn
  risen = record { 0 = on (ring (2 ^ 16)) (get_or (ssns_of P ns) p.chunk.stream.0 ssn0).0 1 }

  counted-shows : P.streams ≤ length ns → (p.status == 3) ≡ false → ssns_of P (counted_in P ns p) ≡ ssns_counted P (ssns_of P ns) p.chunk
  unfolding counted_in
  counted-shows l e = by-law (counted_is P (ssns_of P ns) p.chunk) (rw e (go p.chunk.unordered p.chunk.end (nat_lt p.chunk.stream.0 P.streams) refl))
    where
      x : ℕ
      x = p.chunk.stream.0

      go : (a b c : Bool) → nat_lt p.chunk.stream.0 P.streams ≡ c
          → ssns_of P (pick a ns (pick b (ssn_put P ns x risen) ns)) ≡ pick a (ssns_of P ns) (pick b (pick c (slice_set (ssns_of P ns) x risen) (ssns_of P ns)) (ssns_of P ns))
      go true b c q = refl
      go false true true q =
          let h = ltb-true p.chunk.stream.0 P.streams q in
          ssn-put P ns x risen l (on-less 65536 (get_or (ssns_of P ns) x ssn0).0 1 (ssn-small P ns x h))
      go false true false q = ap (ssns_of P) (sym (ssn-out P ns x risen (ltb-false p.chunk.stream.0 P.streams q)))
      go false false c q = refl

  counted_same : nat_eq p.status 3 ≡ true → counted_in P ns p ≡ ns
  unfolding counted_in
  counted_same e = rw e

  counted-long : length (counted_in P ns p) ≡ length ns
  unfolding counted_in
  counted-long = go (p.status == 3) p.chunk.unordered p.chunk.end
    where
      go : (s a b : Bool) → length (pick s ns (pick a ns (pick b (ssn_put P ns p.chunk.stream.0 risen) ns))) ≡ length ns
      go true a b = refl
      go false true b = refl
      go false false true = ssn-put-long P ns p.chunk.stream.0 risen
      go false false false = refl

-- ---- the place

next_small : (P : Profile) (ns : List ℕ) (c : Chunk) → (next_ssn P (ssns_of P ns) c).0 < 65536
next_small P ns c = rw (ssn-is P (ssns_of P ns) c) (go c.unordered (nat_lt c.stream.0 P.streams) refl)
  where
    go : (a b : Bool) → nat_lt c.stream.0 P.streams ≡ b → (pick a ssn0 (pick b (slice_index_or (ssns_of P ns) c.stream.0 ssn0) ssn0)).0 < 65536
    go true b q = omega arith
    go false true q = ssn-small P ns c.stream.0 (ltb-true c.stream.0 P.streams q)
    go false false q = omega arith

sent-small : (P : Profile) (h : Sender) (ns : List ℕ) (p : Place) → PlaceSmall p → h.next_tsn.0 < 4294967296 → PlaceSmall (sent_place P h ns p)
unfolding sent_place
sent-small P h ns p s t = go (p.status == 3)
  where
    go : (b : Bool) → PlaceSmall (pick b (being p 2) (record { status = 2; misses = p.misses; chunk = numbered P (sending_shown P h [] ns) p.chunk }))
    go true = record { status = omega arith; misses = s.misses; tsn = s.tsn; order = s.order; stream = s.stream; ssn = s.ssn; ppid = s.ppid; len = s.len }
    go false =
        rw (numbered_is P (sending_shown P h [] ns) p.chunk)
        (record { status = omega arith; misses = s.misses; tsn = t; order = s.order; stream = s.stream; ssn = next_small P ns p.chunk; ppid = s.ppid; len = s.len })

-- the TSN that is next stays on the circle
sent-tsn : (h : Sender) (p : Place) → h.next_tsn.0 < 4294967296 → (sent_head h p).next_tsn.0 < 4294967296
unfolding sent_head
sent-tsn h p t = pick-keeps (λ (q : Sender). q.next_tsn.0 < 4294967296) (p.status == 3) _ _ t (on-less 4294967296 h.next_tsn.0 1 t)

-- ---- one place more

module _ (P : Profile) (f : Fill) (w : FillFits P f) (i : ℕ) where
  abbrev at : Place
  at = place_at P f.words i

  laid-place : places_of P (place_put P f.words i (sent_place P f.head f.ns at)) ≡ slice_set (places_of P f.words) i (sent_place P f.head f.ns at)
  laid-place = place-put P f.words i (sent_place P f.head f.ns at) w.words (sent-small P f.head f.ns at (place-small P f.words i) w.tsn)

  step-marked : nat_eq at.status 3 ≡ true → chosen_of P (filling_in P f i) ≡ filling P (chosen_of P f) i
  unfolding filling_in sent_head load_after sent_place
  step-marked e =
      by-law (filling-is P (chosen_of P f) i)
      (rw (laid-place, counted_same P f.ns at e, sent-again P (sending_shown P f.head f.words f.ns) i at e, tsn-is (sending_shown P f.head f.words f.ns) at, e))

  step-waiting : nat_eq at.status 3 ≡ false → chosen_of P (filling_in P f i) ≡ filling P (chosen_of P f) i
  unfolding filling_in sent_head load_after sent_place
  step-waiting e =
      by-law (filling-is P (chosen_of P f) i)
      (rw (laid-place, counted-shows P f.ns at w.ns e, sent-first P (sending_shown P f.head f.words f.ns) i at e, tsn-is (sending_shown P f.head f.words f.ns) at, numbered_is P (sending_shown P f.head f.words f.ns) at.chunk, numbered_is P (sending_shown P f.head [] f.ns) at.chunk, e))

  pub step-shows : chosen_of P (filling_in P f i) ≡ filling P (chosen_of P f) i
  step-shows = go (at.status == 3) refl
    where
      go : (t : Bool) → ((place_at P f.words i).status == 3) ≡ t → chosen_of P (filling_in P f i) ≡ filling P (chosen_of P f) i
      go true e = step-marked e
      go false e = step-waiting e

  pub step-fit : FillFits P (filling_in P f i)
  unfolding filling_in
  step-fit = record {
    words = rw (place-put-long P f.words i (sent_place P f.head f.ns at)) w.words;
    ns = rw (counted-long P f.ns at) w.ns;
    tsn = sent-tsn f.head at w.tsn;
  }

-- ---- the next candidate

goes_at : (P : Profile) (f : Fill) (b : Best) (p : Place) → goes (chosen_of P f) b p ≡ goes (loaded_by (sending_shown P f.head [] []) f.load) b p
goes_at P f b p = goes-is (chosen_of P f) b p ∙ sym (goes-is (loaded_by (sending_shown P f.head [] []) f.load) b p)

going-alike : (P : Profile) (f : Fill) → going (chosen_of P f) ≡ going_in P f
unfolding going_in
going-alike P f =
    let b : Best = best_place f.head.acked f.head.oldest (places_of P f.words) in
    going-is (chosen_of P f) ∙ (λ k. record { go = goes_at P f b (place_at P f.words b.place) k; place = b.place })

-- ---- the whole packet

run-alike : {F G : Type 0} (Q : F → Type 0) (m : F → G) (go : F → Bool) (step : F → F) (go' : G → Bool) (step' : G → G)
    → ((f : F) → go' (m f) ≡ go f) → ((f : F) → Q f → (m (step f) ≡ step' (m f)) × Q (step f)) → (n : ℕ) (f : F) → Q f → m (run_while go step f n) ≡ run_while go' step' (m f) n
run-alike Q m go step go' step' a k zero f q = refl
run-alike {F} {G} Q m go step go' step' a k (suc n) f q =
    at (go f) (run-alike Q m go step go' step' a k n (step f) (k f q).1 ∙ ap (λ (x : G). run_while go' step' x n) (k f q).0)
    ∙ ap (λ (b : Bool). pick b (run_while go' step' (step' (m f)) n) (m f)) (sym (a f))
  where
    at : (t : Bool) → m (run_while go step (step f) n) ≡ run_while go' step' (step' (m f)) n
        → m (pick t (run_while go step (step f) n) f) ≡ pick t (run_while go' step' (step' (m f)) n) (m f)
    at true e = e
    at false e = refl

pub filled-shows : (z : Sizes) (P : Profile) (h : Sender) (ws ns : List ℕ) → 8 * P.places ≤ length ws → P.streams ≤ length ns → h.next_tsn.0 < 4294967296
    → chosen_of P (filled_in z P h ws ns) ≡ packet_filled z P (sending_shown P h ws ns)
unfolding filled_in begun_in
filled-shows z P h ws ns a b t =
    by-law (filled_is z P (sending_shown P h ws ns))
    (run-alike (FillFits P) (chosen_of P) (λ f. (going_in P f).go) (λ f. filling_in P f (going_in P f).place) (λ f. (going f).go) (λ f. filling P f (going f).place)
    (λ f. ap (λ (x : Going). x.go) (going-alike P f))
    (λ f w. (step-shows P f w (going_in P f).place ∙ ap (λ (x : Going). filling P (chosen_of P f) x.place) (sym (going-alike P f)), step-fit P f w (going_in P f).place))
    z.bundled (begun_in z P h ws ns) (record { words = a; ns = b; tsn = t })
    ∙ ap (λ (x : Chosen). run_while (λ f. (going f).go) (λ f. filling P f (going f).place) x z.bundled) (sym (begun-is z (sending_shown P h ws ns))))

-- ---- the tables stay as long as they were

-- as long as some words and SSNs
abbrev AsLong : List ℕ → List ℕ → Fill → Type 0
AsLong ws ns f = (length f.words ≡ length ws) × (length f.ns ≡ length ns)

step-long : (P : Profile) (ws ns : List ℕ) (f : Fill) → (going_in P f).go ≡ true → AsLong ws ns f → AsLong ws ns (filling_in P f (going_in P f).place)
unfolding filling_in
step-long P ws ns f e w =
    let i = (going_in P f).place in
    (place-put-long P f.words i (sent_place P f.head f.ns (place_at P f.words i)) ∙ w.0, counted-long P f.ns (place_at P f.words i) ∙ w.1)

pub filled-long : (z : Sizes) (P : Profile) (h : Sender) (ws ns : List ℕ) → (length (filled_in z P h ws ns).words ≡ length ws) × (length (filled_in z P h ws ns).ns ≡ length ns)
unfolding filled_in begun_in
filled-long z P h ws ns =
    run-keeps (AsLong ws ns) (λ f. (going_in P f).go) (λ f. filling_in P f (going_in P f).place) (step-long P ws ns) z.bundled (begun_in z P h ws ns) (refl, refl)
