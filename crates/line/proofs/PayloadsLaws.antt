-- The payload of each held chunk lies in its place of the area, so that a take writes the bytes that the sender cut. Assumes nothing.
use Rattle.std.specs.Prelude.{ℕ, zero, suc, ◌+◌, ◌-◌, ◌*◌, ◌<◌, ◌≤◌, ◌≡◌, Bool, take as first, set, get_or, Option, Some, None}
use Rattle.std.proofs.Math.Path.{refl, ap}
use Rattle.std.proofs.Common.{sym, ◌∙◌, subst, zero-add, mul-suc, mul-le-mul_left, arith, length-append, get_or-set_same, get_or-set_other, length-take-le, drop_at}
use Rattle.std.proofs.Math.Bool.{true, false}
use mathlib.Core.List.{List, [], ◌∷◌, ◌++◌, append-nil, append_assoc}
use Rattle.std.proofs.Math.Decide.{dec_lt, ℕ_discrete}
use borrow.Author.Tests.{ltb-false}
use Rattle.std.proofs.Math.ListN.{length, drop}
use Rattle.std.proofs.lemmas.List.{drop-set-add, take-set-le}
use Rattle.std.proofs.Math.Seq.{take-append_seam}
use Rattle.std.proofs.Math.Dec.{ltb}
use Rattle.scans.specs.Scan.{pick, find_from, find-within}
use Rattle.scans.specs.Each.{All, clash}
use Rattle.numbers.specs.declared.circle.Tsn.{Tsn}
use Rattle.numbers.specs.Numbering.{line, lines}
use Rattle.numbers.specs.Profile.{Profile}
use Rattle.octets.specs.Bytes.{laid}
use Rattle.octets.specs.BytesLaws.{drop_past, laid-is, laid_more, length-laid}
use Rattle.holding.specs.declared.held.Chunk.{Chunk}
use Rattle.holding.specs.declared.held.Held.{Held}
use Rattle.holding.specs.declared.taking.Answer.TheVariants.{Taken, Short}
use Rattle.holding.specs.declared.taking.Took.{Took}
use Rattle.holding.specs.Held.{no_held, as_held, holds, is_held, is_held_free}
use Rattle.holding.specs.Message.{Choice, none, one, chosen, chunks_at}
use Rattle.holding.specs.Taking.{first_held, len_at, length_of, payload_at, copied, emptied, advanced, message_of, took_by, took, written_by, written}
use Rattle.delivery.specs.declared.receiving.Receiving.{Receiving}
use Rattle.delivery.specs.declared.arrival.Verdict.{Verdict}
use Rattle.delivery.specs.declared.arrival.Verdict.TheVariants.{Kept, Empty, Long, Opposite, Duplicate, Wedged, Far, Stray, Clashing}
use Rattle.delivery.specs.Receiving.{fresh_receiving, taken_by, taken_into}
use Rattle.delivery.specs.Arrival.{verdict_of, duplicate_noted, stray_passed, kept_in, receiving_after, arrived, payload_stored, stored_by, arrival_area, kept_at_place}
use Rattle.delivery.specs.ArrivalLaws.{kept-coming}
use Rattle.delivery.specs.ReceivingSack.{receiving_told, acknowledged_receiving}
use Rattle.line.specs.Runs.{ReceiverEvent, arrive, take, sack, ReceiverLent, event_turn, finally, Fair, chunks_handed_by, chunks_handed, Cut, bytes_from, chunks_from, Genuine}
use Rattle.line.specs.Sender.{HonestSender}
use Rattle.line.specs.CountLaws.{holds-none}
use Rattle.line.specs.ChosenLaws.{Real, Spanning, real-at, spanning-at, spanning-some}
use Rattle.line.specs.ArrivesLaws.{SoundOf}
use Rattle.line.specs.TakesLaws.{Picks, picks, taken-line-sound}
use Rattle.line.proofs.SequenceLaws.{same_at, arrive-sound, acknowledged-line-sound}

-- ---- bytes laid beside others

laid-before : (vs l : List ℕ) (b a n : ℕ) → a + n ≤ b → first n (drop a (laid l b vs)) ≡ first n (drop a l)
unfolding laid
laid-before [] l b a n h = refl
laid-before (v ∷ vs) l b a n h =
    let e : a + (b - a) ≡ b = omega arith in
    laid-before vs (set l b v) (suc b) a n (omega arith)
    ∙ (ap (λ (x : ℕ). first n (drop a (set l x v))) (sym e) ∙ (ap (first n) (drop-set-add a l (b - a) v) ∙ take-set-le n (drop a l) (b - a) v (omega arith)))

laid-here : (vs l : List ℕ) (a : ℕ) → a + length vs ≤ length l → first (length vs) (drop a (laid l a vs)) ≡ vs
laid-here vs l a h =
    ap (λ (x : List ℕ). first (length vs) (drop a x)) (laid-is vs l a h ∙ append_assoc (first a l) vs (drop (a + length vs) l))
    ∙ (ap (first (length vs)) (drop_at (first a l) (vs ++ drop (a + length vs) l) a (length-take-le a l (omega arith))) ∙ take-append_seam vs (drop (a + length vs) l))

-- ---- the payload of each held chunk lies in its place

-- the area has every place, and each held chunk has its payload there
pub record Lodged (P : Profile) (payload : ℕ → List ℕ) (area : List ℕ) (hs : List Held) : Type 0 where
  pub long : P.payload * P.places ≤ length area
  pub there : (i n : ℕ) → holds n (get_or hs i no_held) ≡ true
      → (length (payload n) ≤ P.payload) × (first (length (payload n)) (drop (P.payload * i) area) ≡ payload n)

pub lodged-fresh : (P : Profile) (payload : ℕ → List ℕ) (area : List ℕ) (t : Tsn) → P.payload * P.places ≤ length area → Lodged P payload area (fresh_receiving line P t).held
unfolding fresh_receiving
lodged-fresh P payload area t l = record { long = l; there = λ i n e. clash (sym (ap (holds n) (same_at P.places i no_held) ∙ holds-none n) ∙ e) }

module _ {P : Profile} {payload : ℕ → List ℕ} {area : List ℕ} {hs : List Held} (w : Lodged P payload area hs) where
  lodged-put : (i n : ℕ) (c : Chunk) → c.tsn.0 ≡ n → i < length hs → length hs ≡ P.places → length (payload n) ≤ P.payload
      → Lodged P payload (laid area (P.payload * i) (payload n)) (set hs i (as_held c (length (payload n))))
  lodged-put i n c number li long fits = record { long = rw (length-laid area (P.payload * i) (payload n)) w.long; there = there' }
    where
      beyond : (a b : ℕ) → a < b → P.payload * a + P.payload ≤ P.payload * b
      beyond a b l = omega (arith, mul-suc P.payload a, mul-le-mul_left P.payload l)

      x : Held
      x = as_held c (length (payload n))

      there' : (j m : ℕ) → holds m (get_or (set hs i x) j no_held) ≡ true
          → (length (payload m) ≤ P.payload) × (first (length (payload m)) (drop (P.payload * j) (laid area (P.payload * i) (payload n))) ≡ payload m)
      there' j m e = go (ℕ_discrete j i)
        where
          go : Dec (j ≡ i) → (length (payload m) ≤ P.payload) × (first (length (payload m)) (drop (P.payload * j) (laid area (P.payload * i) (payload n))) ≡ payload m)
          go (yes q) =
              let a : holds m x ≡ true = sym (ap (holds m) (get_or-set_same hs i x no_held li)) ∙ subst (λ (y : ℕ). holds m (get_or (set hs i x) y no_held) ≡ true) q e in
              let b : n ≡ m = sym number ∙ (is_held m x a).1 in
              let z : P.payload * i + length (payload n) ≤ length area = omega (arith, beyond i P.places (omega arith), w.long) in
              subst (λ (y : ℕ). (length (payload y) ≤ P.payload) × (first (length (payload y)) (drop (P.payload * j) (laid area (P.payload * i) (payload n))) ≡ payload y)) b
              (fits, ap (λ (y : ℕ). first (length (payload n)) (drop (P.payload * y) (laid area (P.payload * i) (payload n)))) q ∙ laid-here (payload n) area (P.payload * i) z)
          go (no q) = (v.0, beside (dec_lt j i) ∙ v.1)
            where
              v : (length (payload m) ≤ P.payload) × (first (length (payload m)) (drop (P.payload * j) area) ≡ payload m)
              v = w.there j m (sym (ap (holds m) (get_or-set_other hs i j x no_held q)) ∙ e)

              beside : Dec (j < i) → first (length (payload m)) (drop (P.payload * j) (laid area (P.payload * i) (payload n))) ≡ first (length (payload m)) (drop (P.payload * j) area)
              beside (yes l) = laid-before (payload n) area (P.payload * i) (P.payload * j) (length (payload m)) (omega (arith, beyond j i l, v.0))
              beside (no l) = ap (first (length (payload m))) (drop_past (payload n) area (P.payload * i) (P.payload * j) (omega (arith, beyond i j (omega arith))))

still-held : (hs : List Held) (i j m : ℕ) → holds m (get_or (set hs i no_held) j no_held) ≡ true → holds m (get_or hs j no_held) ≡ true
still-held [] i j m e = e
still-held (x ∷ hs) zero zero m e = clash (sym (holds-none m) ∙ e)
still-held (x ∷ hs) zero (suc j) m e = e
still-held (x ∷ hs) (suc i) zero m e = e
still-held (x ∷ hs) (suc i) (suc j) m e = still-held hs i j m e

lodged-emptied : (P : Profile) (payload : ℕ → List ℕ) (area : List ℕ) (is : List ℕ) (hs : List Held) → Lodged P payload area hs → Lodged P payload area (emptied hs is)
lodged-emptied P payload area [] hs w = w
lodged-emptied P payload area (i ∷ is) hs w =
    lodged-emptied P payload area is (set hs i no_held) (record { long = w.long; there = λ j m e. w.there j m (still-held hs i j m e) })

-- ---- a message that spans places

module _ {P : Profile} {base streams : ℕ} {chunk : ℕ → Chunk} (payload : ℕ → List ℕ) (send : HonestSender P base streams chunk) (hs : List Held) where
  abbrev size : ℕ → ℕ
  size n = length (payload n)

  module _ (real : All (Real base chunk size) hs) where
    is-sent : (i n : ℕ) → holds n (get_or hs i no_held) ≡ true → get_or hs i no_held ≡ as_held (chunk n) (size n)
    is-sent i n e = (real-at P base streams chunk size send hs real i n e).1

    len_is : (i n : ℕ) → holds n (get_or hs i no_held) ≡ true → len_at hs i ≡ size n
    len_is i n e = ap (λ (x : Held). x.len) (is-sent i n e)

    chunks-are : (f : ℕ) (is : List ℕ) → Spanning chunk hs f is → chunks_at hs is ≡ chunks_from chunk size f (length is)
    chunks-are f [] s = absurd s
    chunks-are f (i ∷ []) s = ap (λ (x : Held). x ∷ []) (is-sent i f s.0)
    chunks-are f (i ∷ (j ∷ is)) s =
        ap (λ (x : Held). x ∷ chunks_at hs (j ∷ is)) (is-sent i f s.0)
        ∙ ap (λ (xs : List Held). as_held (chunk f) (size f) ∷ xs) (chunks-are (suc f) (j ∷ is) s.2)

    length-are : (f : ℕ) (is : List ℕ) → Spanning chunk hs f is → length_of hs is ≡ length (bytes_from payload f (length is))
    length-are f [] s = absurd s
    length-are f (i ∷ []) s = omega (arith, len_is i f s.0, length-append (payload f) [])
    length-are f (i ∷ (j ∷ is)) s =
        omega (arith, len_is i f s.0, length-append (payload f) (bytes_from payload (suc f) (length (j ∷ is))), length-are (suc f) (j ∷ is) s.2)

    module _ (area : List ℕ) (w : Lodged P payload area hs) where
      copied-one : (f i : ℕ) (is out : List ℕ) (at : ℕ) → holds f (get_or hs i no_held) ≡ true
          → copied P area hs out at (i ∷ is) ≡ copied P area hs (laid out at (payload f)) (at + size f) is
      copied-one f i is out at e =
          ap (λ (x : ℕ). copied P area hs (laid out at (payload_at P area i x)) (at + x) is) (len_is i f e)
          ∙ ap (λ (x : List ℕ). copied P area hs (laid out at x) (at + size f) is) (w.there i f e).1

      copied-are : (f : ℕ) (is out : List ℕ) (at : ℕ) → Spanning chunk hs f is → copied P area hs out at is ≡ laid out at (bytes_from payload f (length is))
      copied-are f [] out at s = absurd s
      copied-are f (i ∷ []) out at s = copied-one f i [] out at s.0 ∙ ap (laid out at) (sym (append-nil (payload f)))
      copied-are f (i ∷ (j ∷ is)) out at s =
          copied-one f i (j ∷ is) out at s.0
          ∙ (copied-are (suc f) (j ∷ is) (laid out at (payload f)) (at + size f) s.2
          ∙ laid_more (payload f) (bytes_from payload (suc f) (length (j ∷ is))) out at)

-- ---- what a take answers

module _ {P : Profile} {base streams : ℕ} {chunk : ℕ → Chunk} (payload : ℕ → List ℕ) (send : HonestSender P base streams chunk)
    (l : ReceiverLent) {gone : ℕ → ℕ} {least : ℕ} (s : SoundOf P base chunk (λ n. length (payload n)) l.receiving gone least)
    (w : Lodged P payload l.area l.receiving.held) where
  abbrev hs : List Held
  hs = l.receiving.held

  cut_of : (is : List ℕ) (p : Picks P base chunk (λ n. length (payload n)) hs l.receiving.next is) → Cut base chunk p.at (length is)
  cut_of is p = record {
    from = p.low;
    some = spanning-some chunk hs p.at is p.span;
    begins = p.opening;
    ends = λ n a b. (spanning-at chunk hs p.at is n p.span a b).1;
  }

  pub genuine : (out : List ℕ)
      → Genuine base chunk payload out (chunks_handed lines P l.receiving (length out)) (taken_into lines P l.receiving (length out)).answer
      (written lines P hs l.receiving.next l.receiving.keeping.point.0 l.area out)
  unfolding taken_into took chunks_handed written
  genuine out = go (chosen lines P hs l.receiving.next l.receiving.keeping.point.0) refl
    where
      go : (c : Choice) → chosen lines P hs l.receiving.next l.receiving.keeping.point.0 ≡ c
          → Genuine base chunk payload out (chunks_handed_by hs (length out) c) (taken_by l.receiving (took_by line hs l.receiving.next (length out) c)).answer
          (written_by P hs l.area out c)
      go none e = (refl, refl)
      go (one k is) e = fits (ltb (length out) (length_of hs is)) refl (picks send l.receiving s k is e)
        where
          fits : (t : Bool) → ltb (length out) (length_of hs is) ≡ t → Picks P base chunk (λ n. length (payload n)) hs l.receiving.next is
              → Genuine base chunk payload out (pick t [] (chunks_at hs is))
              (taken_by l.receiving (pick t (record { answer = Short (length_of hs is); held = hs; next = l.receiving.next }) (record { answer = Taken (message_of (length_of hs is) (first_held (chunks_at hs is))); held = emptied hs is; next = advanced line l.receiving.next (first_held (chunks_at hs is)) }))).answer
              (pick t out (copied P l.area hs out 0 is))
          fits true q p = (refl, refl, record { at = p.at; count = length is; cut = cut_of is p; long = length-are payload send hs s.real p.at is p.span })
          fits false q p =
              let a : length_of hs is ≡ length (bytes_from payload p.at (length is)) = length-are payload send hs s.real p.at is p.span in
              let z : 0 + length (bytes_from payload p.at (length is)) ≤ length out = omega (arith, ltb-false (length out) (length_of hs is) q) in
              record {
                at = p.at;
                count = length is;
                cut = cut_of is p;
                told = ap (λ (n : ℕ). message_of n (first_held (chunks_at hs is))) a ∙ ap (message_of (length (bytes_from payload p.at (length is)))) p.head;
                given_is = chunks-are payload send hs s.real p.at is p.span;
                written_is =
                    copied-are payload send hs s.real l.area w p.at is out 0 p.span
                    ∙ (laid-is (bytes_from payload p.at (length is)) out 0 z
                    ∙ ap (λ (n : ℕ). bytes_from payload p.at (length is) ++ drop n out) (zero-add (length (bytes_from payload p.at (length is)))));
              }

-- ---- kept by every event

module _ {P : Profile} {base streams : ℕ} {chunk : ℕ → Chunk} (payload : ℕ → List ℕ) (send : HonestSender P base streams chunk) where
  abbrev LodgedOf : ReceiverLent → Type 0
  LodgedOf l = Lodged P payload l.area l.receiving.held

  module _ (l : ReceiverLent) (w : LodgedOf l) where
    abbrev r : Receiving
    r = l.receiving

    lodged-chunk : (n : ℕ) → base ≤ n → length r.held ≡ P.places
        → Lodged P payload (arrival_area lines P r (as_held (chunk n) (length (payload n))) streams l.area (payload n)) (arrived lines P r (as_held (chunk n) (length (payload n))) streams).receiving.held
    unfolding arrival_area arrived duplicate_noted stray_passed kept_at_place
    lodged-chunk n lb long = go (verdict_of lines P r x streams) refl
      where
        x : Held
        x = as_held (chunk n) (length (payload n))

        go : (v : Verdict) → verdict_of lines P r x streams ≡ v → Lodged P payload (stored_by P r.held l.area (payload n) v) (receiving_after line P r x v).held
        go Kept e = place (find_from is_held_free 0 r.held) refl (kept-coming lines P r x streams e).0.fits
          where
            place : (f : Option ℕ) → find_from is_held_free 0 r.held ≡ f → length (payload n) ≤ P.payload → Lodged P payload (payload_stored P l.area (payload n) f) (kept_in line P r x f).held
            place (Some i) q fits = lodged-put w i n (chunk n) (send.number n lb) (rw (zero-add (length r.held)) at (find-within is_held_free r.held 0 i q)) long fits
            place None q fits = w
        go Empty e = w
        go Long e = w
        go Opposite e = w
        go Duplicate e = w
        go Wedged e = w
        go Far e = w
        go Clashing e = w
        go Stray e = w

    pub lodged-arrive : (n : ℕ) → base ≤ n → (c : Chunk) (bytes : List ℕ) → c ≡ chunk n → bytes ≡ payload n → length r.held ≡ P.places
        → LodgedOf (event_turn lines P streams l (arrive c bytes)).lent
    lodged-arrive n lb c bytes e b long =
        subst (λ (x : Chunk). LodgedOf (event_turn lines P streams l (arrive x bytes)).lent) (sym e)
        (subst (λ (x : List ℕ). LodgedOf (event_turn lines P streams l (arrive (chunk n) x)).lent) (sym b) (lodged-chunk n lb long))

    pub lodged-take : (out : List ℕ) → LodgedOf (event_turn lines P streams l (take out)).lent
    unfolding taken_into took
    lodged-take out = go (chosen lines P r.held r.next r.keeping.point.0)
      where
        go : (c : Choice) → Lodged P payload l.area (took_by line r.held r.next (length out) c).held
        go none = w
        go (one k is) = fits (ltb (length out) (length_of r.held is))
          where
            fits : (t : Bool) → Lodged P payload l.area (pick {A = Took} t (record { answer = Short (length_of r.held is); held = r.held; next = r.next }) (record { answer = Taken (message_of (length_of r.held is) (first_held (chunks_at r.held is))); held = emptied r.held is; next = advanced line r.next (first_held (chunks_at r.held is)) })).held
            fits true = w
            fits false = lodged-emptied P payload l.area is r.held w

    pub lodged-sack : LodgedOf (event_turn lines P streams l sack).lent
    unfolding acknowledged_receiving receiving_told
    lodged-sack = w

  pub lodged-from : (h : ℕ) (es : List ReceiverEvent) (l : ReceiverLent) {gone : ℕ → ℕ} {least : ℕ} → SoundOf P base chunk (λ n. length (payload n)) l.receiving gone least
      → LodgedOf l → Fair P h base chunk payload streams l es → LodgedOf (finally lines P streams l es)
  unfolding finally
  lodged-from h [] l s w f = w
  lodged-from h (arrive c bytes ∷ es) l s w f =
      let x = f.0 in
      lodged-from h es (event_turn lines P streams l (arrive c bytes)).lent (arrive-sound payload send l.receiving s x.0 x.1 c bytes x.2 x.3)
      (lodged-arrive l w x.0 x.1 c bytes x.2 x.3 s.held-long) f.1
  lodged-from h (take out ∷ es) l s w f =
      lodged-from h es (event_turn lines P streams l (take out)).lent (taken-line-sound send l.receiving s (length out)).sound (lodged-take l w out) f
  lodged-from h (sack ∷ es) l s w f = lodged-from h es (event_turn lines P streams l sack).lent (acknowledged-line-sound l.receiving s) (lodged-sack l w) f
