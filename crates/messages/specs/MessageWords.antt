-- A message handed in over head and words: exact for any words; and the loop that lays its chunks out. Assumes nothing.
use Rattle.std.specs.Prelude.{◌≡◌, ℕ, zero, suc, ◌+◌, ◌-◌, ◌%◌, ◌^◌, ◌<◌, ◌≤◌, Bool, true, false, List, [], length, ◌==◌, Result, Ok, Err, refl}
use Rattle.std.proofs.Common.{sym, ap, ◌∙◌, subst, arith, lt-ltb, le-ltb}
use Rattle.numbers.specs.declared.circle.StreamId.{StreamId}
use Rattle.numbers.specs.declared.refusal.Refusal.{Refusal}
use Rattle.numbers.specs.Profile.{Profile}
use Rattle.numbers.specs.Refusal.{refusal_number}
use Rattle.scans.specs.Scan.{pick, count}
use Rattle.places.specs.declared.place.Place.{Place}
use Rattle.places.specs.Places.{has_status}
use Rattle.sending.specs.declared.cutting.Message.{Message}
use Rattle.sending.specs.HandIn.{chunks_of, is_refused, refusal, takes, chunk_after, waiting_at, stored_in}
use Rattle.sending.specs.SendingTableLaws.{refusal_is}
use Rattle.tables.specs.PlaceWords.{place_in, places_of, place_at, place_put}
use Rattle.tables.specs.PlaceWordsLaws.{place-in, put_other}
use Rattle.sender.specs.declared.Sender.{Sender}
use Rattle.sender.specs.Seen.{sending_shown}

-- r places from the place i on, where chunk k of n is next
abbrev pub laid_from : Profile → Message → ℕ → ℕ → ℕ → ℕ → List ℕ → List ℕ
laid_from P m n i zero k ws = ws
laid_from P m n i (suc r) k ws =
    laid_from P m n (i + 1) r (chunk_after n k (place_at P ws i))
    (pick (takes n k (place_at P ws i)) (place_put P ws i (waiting_at P m n k)) ws)

-- every chunk in the lowest free place
unfoldable pub laid_words : Profile → Message → ℕ → List ℕ → List ℕ
laid_words P m n ws = laid_from P m n 0 P.places 0 ws

-- the message, behind those that wait
abbrev pub message_behind : Profile → Sender → List ℕ → ℕ → StreamId → Bool → ℕ → Message
message_behind P h ws len stream unordered ppid = record { len = len; first = (h.oldest + count (has_status 1) (places_of P ws)) % 2 ^ 32; stream = stream; ppid = ppid; unordered = unordered }

-- the number, 0 if none, and how many chunks were cut
pub record Handing : Type 0 where
  pub number : ℕ
  pub chunks : ℕ

-- what is refused is cut into none
abbrev pub handing_of : Result ℕ Refusal → Handing
handing_of (Ok n) = record { number = 0; chunks = n }
handing_of (Err r) = record { number = refusal_number r; chunks = 0 }

unfoldable pub handing : Profile → Sender → List ℕ → ℕ → StreamId → ℕ → Handing
handing P h ws len stream streams = record {
  number = refusal P (sending_shown P h ws []) len stream streams;
  chunks = pick (refusal P (sending_shown P h ws []) len stream streams == 0) (chunks_of P len) 0;
}

-- what is refused leaves all
unfoldable pub handed_words : Profile → Sender → List ℕ → ℕ → StreamId → Bool → ℕ → ℕ → List ℕ
handed_words P h ws len stream unordered ppid streams =
    pick (refusal P (sending_shown P h ws []) len stream streams == 0) (laid_words P (message_behind P h ws len stream unordered ppid) (chunks_of P len) ws) ws

unfoldable pub handed_area : Profile → Sender → List ℕ → List ℕ → List ℕ → StreamId → ℕ → List ℕ
handed_area P h ws area message stream streams =
    pick (refusal P (sending_shown P h ws []) (length message) stream streams == 0) (stored_in P (chunks_of P (length message)) message (places_of P ws) area) area

-- ---- the call, by what is found

module _ (P : Profile) (h : Sender) (ws : List ℕ) (len : ℕ) (stream : StreamId) (streams : ℕ) where
  pub refused-19 : is_refused P len stream streams ≡ true → refusal P (sending_shown P h ws []) len stream streams ≡ 19
  refused-19 e = refusal_is P (sending_shown P h ws []) len stream streams ∙ rw e

  module _ {free n : ℕ} (e : is_refused P len stream streams ≡ false) (a : free ≡ count (has_status 0) (places_of P ws)) (b : n ≡ chunks_of P len) where
    pub refused-20 : free < n → refusal P (sending_shown P h ws []) len stream streams ≡ 20
    refused-20 l = refusal_is P (sending_shown P h ws []) len stream streams ∙ rw (e, ← a, ← b, lt-ltb free n l)

    pub refused_none : n ≤ free → refusal P (sending_shown P h ws []) len stream streams ≡ 0
    refused_none l = refusal_is P (sending_shown P h ws []) len stream streams ∙ rw (e, ← a, ← b, le-ltb free n l)

  module _ {no : ℕ} (e : refusal P (sending_shown P h ws []) len stream streams ≡ no) where
    pub handing-by : {n : ℕ} → n ≡ pick (no == 0) (chunks_of P len) 0 → ◌≡◌ {A = Handing} (record { number = no; chunks = n }) (handing P h ws len stream streams)
    unfolding handing
    handing-by a = rw (e, a)

    pub words-kept : (unordered : Bool) (ppid : ℕ) → (no == 0) ≡ false → ws ≡ handed_words P h ws len stream unordered ppid streams
    unfolding handed_words
    words-kept unordered ppid q = rw (e, q)

  pub words-laid : refusal P (sending_shown P h ws []) len stream streams ≡ 0 → (unordered : Bool) (ppid : ℕ) {waiting first n : ℕ} {vs : List ℕ} → waiting ≡ count (has_status 1) (places_of P ws)
      → first ≡ (h.oldest + waiting) % 2 ^ 32 → n ≡ chunks_of P len
      → vs ≡ laid_words P (record { len = len; first = first; stream = stream; ppid = ppid; unordered = unordered }) n ws → vs ≡ handed_words P h ws len stream unordered ppid streams
  unfolding handed_words
  words-laid e unordered ppid a b c d = rw (e, ← a, ← b, ← c) d

module _ (P : Profile) (h : Sender) (ws area message : List ℕ) (stream : StreamId) (streams : ℕ) where
  pub area-kept : {no : ℕ} → refusal P (sending_shown P h ws []) (length message) stream streams ≡ no → (no == 0) ≡ false → area ≡ handed_area P h ws area message stream streams
  unfolding handed_area
  area-kept e q = rw (e, q)

  pub area-laid : refusal P (sending_shown P h ws []) (length message) stream streams ≡ 0 → {n : ℕ} {vs : List ℕ} → n ≡ chunks_of P (length message) → vs ≡ stored_in P n message (places_of P ws) area
      → vs ≡ handed_area P h ws area message stream streams
  unfolding handed_area
  area-laid e b d = rw (e, ← b) d

-- ---- the loop

-- past i of the places, where chunk k is next; the places ahead are as they were
pub record LayingOut (P : Profile) (m : Message) (n : ℕ) (ws : List ℕ) (i k : ℕ) (now : List ℕ) : Type 0 where
  pub within : i ≤ P.places
  pub rest : laid_from P m n i (P.places - i) k now ≡ laid_words P m n ws
  pub later : (j : ℕ) → i ≤ j → place_in now j ≡ place_in ws j

pub lay-start : (P : Profile) (m : Message) (n : ℕ) (ws : List ℕ) → LayingOut P m n ws 0 0 ws
unfolding laid_words
lay-start P m n ws = record {
  within = omega arith;
  rest = let e : P.places - 0 ≡ P.places = omega arith in ap (λ (r : ℕ). laid_from P m n 0 r 0 ws) e;
  later = λ j h. refl;
}

module _ {P : Profile} {m : Message} {n : ℕ} {ws : List ℕ} {i k : ℕ} {now : List ℕ} (w : LayingOut P m n ws i k now) where
  pub lay-next : i < P.places → place_at P now i ≡ place_at P ws i
  lay-next h = sym (place-in P now i h) ∙ (w.later i (omega arith) ∙ place-in P ws i h)

  left : i < P.places → laid_from P m n i (suc (P.places - (i + 1))) k now ≡ laid_words P m n ws
  left l = let e : P.places - i ≡ suc (P.places - (i + 1)) = omega (arith, w.within) in ap (λ (r : ℕ). laid_from P m n i r k now) (sym e) ∙ w.rest

  step : i < P.places → (t : Bool) → takes n k (place_at P now i) ≡ t
      → laid_from P m n (i + 1) (P.places - (i + 1)) (pick t (k + 1) k) (pick t (place_put P now i (waiting_at P m n k)) now) ≡ laid_words P m n ws
  step l t e =
      subst (λ (b : Bool). laid_from P m n (i + 1) (P.places - (i + 1)) (pick b (k + 1) k) (pick b (place_put P now i (waiting_at P m n k)) now) ≡ laid_words P m n ws) e (left l)

  pub lay-more : {then : List ℕ} {q : Place} → i < P.places → takes n k (place_at P now i) ≡ true → q ≡ waiting_at P m n k → then ≡ place_put P now i q → LayingOut P m n ws (i + 1) (k + 1) then
  lay-more {then} {q} l t a b = record {
    within = omega arith;
    rest = rw (b, a) (step l true t);
    later = λ j h. ap (λ (v : List ℕ). place_in v j) b ∙ (put_other P now i q j (λ e. absurd (omega arith)) ∙ w.later j (omega arith));
  }

  pub lay-keep : i < P.places → takes n k (place_at P now i) ≡ false → LayingOut P m n ws (i + 1) k now
  lay-keep l t = record {
    within = omega arith;
    rest = step l false t;
    later = λ j h. w.later j (omega arith);
  }

  pub lay-end : P.places ≤ i → now ≡ laid_words P m n ws
  lay-end l = let e : P.places - i ≡ 0 = omega arith in ap (λ (r : ℕ). laid_from P m n i r k now) (sym e) ∙ w.rest
