-- A message handed in over head and words is what `handed_in` and `handed_in_area` of `sending` have. Assumes nothing.
use Rattle.std.specs.Prelude.{◌≡◌, ℕ, zero, suc, ◌+◌, ◌-◌, ◌*◌, ◌<◌, ◌≤◌, Bool, true, false, List, [], length, ◌==◌, nat_lt}
use Rattle.std.proofs.Math.Path.{refl}
use Rattle.std.proofs.Common.{sym, ◌∙◌, subst, arith, ltb-true}
use Rattle.numbers.specs.declared.circle.StreamId.{StreamId}
use Rattle.numbers.specs.Profile.{Profile}
use Rattle.scans.specs.Scan.{pick}
use Rattle.scans.specs.Upto.{smaller}
use Rattle.places.specs.declared.place.Place.{Place}
use Rattle.sending.specs.declared.cutting.Message.{Message}
use Rattle.sending.specs.declared.cutting.Handed.{Handed}
use Rattle.sending.specs.SendingTableLaws.{refusal_is, chunk-is, waiting-is, laid-out-is, waited-is, handed-is, handed-in-area-is}
use Rattle.sending.specs.Carry.{carried, Carrying, carry-start, carry-next, carry-more, carry-keep, carry-end}
use Rattle.sending.specs.HandIn.{chunks_of, refusal, takes, chunk_after, waiting_at, message_laid_out, waited, handed_in, handed_in_area}
use Rattle.tables.specs.PlaceWords.{places_of, vacant, place_at, place_put}
use Rattle.tables.specs.PlaceWordsLaws.{PlaceSmall, places-long, place-put, place-put-long}
use Rattle.sender.specs.declared.Sender.{Sender}
use Rattle.tables.specs.OpenLaws.{by-law}
use Rattle.sender.specs.Seen.{sending_shown}
use Rattle.messages.specs.MessageWords.{laid_from, laid_words, message_behind, handing, handed_words, handed_area}

smaller-below : (a b n : ℕ) → b < n → smaller a b < n
smaller-below a b n h = go (nat_lt a b) refl
  where
    go : (t : Bool) → nat_lt a b ≡ t → pick t a b < n
    go true e = let l = ltb-true a b e in omega (arith, l)
    go false e = h

waiting-small : (P : Profile) (m : Message) (n k : ℕ) → P.payload < 4096 → m.stream.0 < 65536 → m.ppid < 4294967296 → PlaceSmall (waiting_at P m n k)
waiting-small P m n k p s q =
    rw (waiting-is P m n k, chunk-is P m n k)
    (record {
      status = omega arith;
      misses = omega arith;
      tsn = omega arith;
      order = omega arith;
      stream = s;
      ssn = omega arith;
      ppid = q;
      len = smaller-below (m.len - P.payload * k) P.payload 4096 p;
    })

module _ (P : Profile) (m : Message) (n : ℕ) (ws : List ℕ) (l : 8 * P.places ≤ length ws) (p : P.payload < 4096) (s : m.stream.0 < 65536) (i32 : m.ppid < 4294967296) where
  -- the place, where chunk k is next
  abbrev Each : ℕ → Place → Place
  Each k q = pick (takes n k q) (waiting_at P m n k) q

  abbrev Done : ℕ → ℕ → List ℕ → Type 0
  Done i k now = Carrying (chunk_after n) Each 0 (places_of P ws) P.places i k (places_of P now)

  shows : (r i k : ℕ) (now : List ℕ) → i + r ≡ P.places → length now ≡ length ws → Done i k now → places_of P (laid_from P m n i r k now) ≡ carried (chunk_after n) Each 0 (places_of P ws)
  shows zero i k now e g w = carry-end w (omega arith)
  shows (suc r) i k now e g w = go (takes n k (place_at P now i)) refl (λ j v a b. shows r (i + 1) j v (omega arith) a b)
    where
      h : i < P.places
      h = omega arith

      go : (t : Bool) → takes n k (place_at P now i) ≡ t
          → ((j : ℕ) (v : List ℕ) → length v ≡ length ws → Done (i + 1) j v → places_of P (laid_from P m n (i + 1) r j v) ≡ carried (chunk_after n) Each 0 (places_of P ws))
          → places_of P (laid_from P m n (i + 1) r (pick t (k + 1) k) (pick t (place_put P now i (waiting_at P m n k)) now)) ≡ carried (chunk_after n) Each 0 (places_of P ws)
      go true q ih =
          let u = rw (carry-next w vacant h) at q in
          ih (k + 1) (place_put P now i (waiting_at P m n k)) (place-put-long P now i (waiting_at P m n k) ∙ g)
          (subst (Carrying (chunk_after n) (λ j x. pick (takes n j x) (waiting_at P m n j) x) 0 (places_of P ws) P.places (i + 1) (k + 1))
          (sym (place-put P now i (waiting_at P m n k) (omega (arith, g)) (waiting-small P m n k p s i32)))
          (carry-more w vacant (waiting_at P m n k) (k + 1) h (rw u) (rw u)))
      go false q ih =
          let u = rw (carry-next w vacant h) at q in
          ih k now g (carry-keep w vacant k h (rw u) (rw u))

  pub laid_shows : places_of P (laid_words P m n ws) ≡ message_laid_out P m n (places_of P ws)
  unfolding laid_words
  laid_shows = by-law (laid-out-is P m n (places_of P ws)) (shows P.places 0 0 ws (omega arith) refl (carry-start (places-long P ws)))

module _ (P : Profile) (h : Sender) (ws ns : List ℕ) where
  -- the next SSNs tell nothing of a refusal
  refusal-at : (len : ℕ) (stream : StreamId) (streams : ℕ) → refusal P (sending_shown P h ws ns) len stream streams ≡ refusal P (sending_shown P h ws []) len stream streams
  refusal-at len stream streams = refusal_is P (sending_shown P h ws ns) len stream streams ∙ sym (refusal_is P (sending_shown P h ws []) len stream streams)

  pub area-shows : (area message : List ℕ) (stream : StreamId) (streams : ℕ) → handed_area P h ws area message stream streams ≡ handed_in_area P (sending_shown P h ws ns) area message stream streams
  unfolding handed_area
  area-shows area message stream streams = by-law (handed-in-area-is P (sending_shown P h ws ns) area message stream streams) (rw (refusal-at (length message) stream streams))

  -- the whole call: head and words afterwards are the sending side that `handed_in` has
  pub handed-shows : (len : ℕ) (stream : StreamId) (unordered : Bool) (ppid streams : ℕ) → 8 * P.places ≤ length ws → P.payload < 4096 → stream.0 < 65536 → ppid < 4294967296
      → ◌≡◌ {A = Handed}
      (record {
        number = (handing P h ws len stream streams).number;
        chunks = (handing P h ws len stream streams).chunks;
        sending = sending_shown P h (handed_words P h ws len stream unordered ppid streams) ns;
      })
      (handed_in P (sending_shown P h ws ns) len stream unordered ppid streams)
  unfolding handing handed_words
  handed-shows len stream unordered ppid streams l p s q =
      by-law (handed-is P (sending_shown P h ws ns) len stream unordered ppid streams)
      (rw (refusal-at len stream streams) (go (refusal P (sending_shown P h ws []) len stream streams == 0)))
    where
      go : (t : Bool) → ◌≡◌ {A = Handed}
          (record {
            number = refusal P (sending_shown P h ws []) len stream streams;
            chunks = pick t (chunks_of P len) 0;
            sending = sending_shown P h (pick t (laid_words P (message_behind P h ws len stream unordered ppid) (chunks_of P len) ws) ws) ns;
          })
          (record {
            number = refusal P (sending_shown P h ws []) len stream streams;
            chunks = pick t (chunks_of P len) 0;
            sending = pick t (waited P (sending_shown P h ws ns) len stream unordered ppid) (sending_shown P h ws ns);
          })
      go true = rw (waited-is P (sending_shown P h ws ns) len stream unordered ppid, laid_shows P (message_behind P h ws len stream unordered ppid) (chunks_of P len) ws l p s q)
      go false = refl

-- ---- the table stays as long as it was

laid-long : (P : Profile) (m : Message) (n i r k : ℕ) (ws : List ℕ) → length (laid_from P m n i r k ws) ≡ length ws
laid-long P m n i zero k ws = refl
laid-long P m n i (suc r) k ws =
    laid-long P m n (i + 1) r (chunk_after n k (place_at P ws i)) (pick (takes n k (place_at P ws i)) (place_put P ws i (waiting_at P m n k)) ws) ∙ one (takes n k (place_at P ws i))
  where
    one : (t : Bool) → length (pick t (place_put P ws i (waiting_at P m n k)) ws) ≡ length ws
    one true = place-put-long P ws i (waiting_at P m n k)
    one false = refl

pub handed-long : (P : Profile) (h : Sender) (ws : List ℕ) (len : ℕ) (stream : StreamId) (unordered : Bool) (ppid streams : ℕ) → length (handed_words P h ws len stream unordered ppid streams) ≡ length ws
unfolding handed_words laid_words
handed-long P h ws len stream unordered ppid streams = go (refusal P (sending_shown P h ws []) len stream streams == 0)
  where
    go : (t : Bool) → length (pick t (laid_words P (message_behind P h ws len stream unordered ppid) (chunks_of P len) ws) ws) ≡ length ws
    go true = laid-long P (message_behind P h ws len stream unordered ppid) (chunks_of P len) 0 P.places 0 ws
    go false = refl
