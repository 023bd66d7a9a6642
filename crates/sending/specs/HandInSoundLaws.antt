-- Cutting a message keeps the bounds: its chunks wait behind those that wait already. Assumes nothing.
use Rattle.std.specs.Prelude.{◌≡◌, ℕ, suc, ◌+◌, ◌-◌, ◌*◌, ◌%◌, ◌^◌, ◌<◌, ◌≤◌, Bool, true, false, not, List, [], ◌∷◌, ◌==◌, ◌≢◌, nat_eq, nat_lt}
use Rattle.std.proofs.Common.{zero-le, sym, ◌∙◌, mul-suc, mul-le-mul_left, arith, lt-ltb, eq-eqb, ne_eqb, eqb-true, ltb-false}
use Rattle.std.proofs.Math.Path.{refl, ap}
use Rattle.std.proofs.Math.Nat.{mod-add-mod, mul-div-le}
use Rattle.std.proofs.Math.Decide.{dec_le, ℕ_discrete}
use Rattle.numbers.specs.declared.circle.Tsn.{Tsn}
use Rattle.numbers.specs.declared.circle.StreamId.{StreamId}
use Rattle.numbers.specs.Circle.{steps-are}
use Rattle.numbers.specs.Profile.{Profile, is_agreed, agreed-below}
use Rattle.scans.specs.Scan.{pick, tick, any, count}
use Rattle.scans.specs.CountsLaws.{count_most}
use Rattle.scans.specs.Each.{All, clash}
use Rattle.scans.specs.Upto.{smaller-right, pick-keeps}
use Rattle.path.specs.Sizes.{Sizes}
use Rattle.places.specs.declared.place.Place.{Place}
use Rattle.places.specs.Places.{has_status, is_sent}
use Rattle.places.specs.PlacesLaws.{unsent}
use Rattle.sending.specs.declared.sending.Sending.{Sending}
use Rattle.sending.specs.declared.cutting.Message.{Message}
use Rattle.sending.specs.Carry.{carried}
use Rattle.sending.specs.HandIn.{chunks_of, is_refused, refusal, part_len, chunk_at, waiting_at, takes, chunk_after, message_laid_out, waited, handed_in}
use Rattle.sending.specs.HandInLaws.{takes-so}
use Rattle.sending.specs.SendingBounds.{key_of, has_key, PlaceFits, Successive, SendingSound}
use Rattle.sending.specs.SendingLaws.{waited-sums}
use Rattle.sending.specs.AcknowledgeLaws.{key-unsent}
use Rattle.sending.specs.ChooseSoundLaws.{SendingTyped, key-waits, key-none}

-- ---- a map that carries a value

module _ {A B : Type 0} (f : B → A → B) (g : B → A → A) where
  carry-any : (h : A → Bool) → ((b : B) (x : A) → h (g b x) ≡ h x) → (b : B) (xs : List A) → any h (carried f g b xs) ≡ any h xs
  carry-any h k b [] = refl
  carry-any h k b (x ∷ xs) = rw (k b x, carry-any h k (f b x) xs)

  carry-count : (h : A → Bool) → ((b : B) (x : A) → h (g b x) ≡ h x) → (b : B) (xs : List A) → count h (carried f g b xs) ≡ count h xs
  carry-count h k b [] = refl
  carry-count h k b (x ∷ xs) = rw (k b x, carry-count h k (f b x) xs)

  carry-imp : (h : A → Bool) → ((b : B) (x : A) → h x ≡ true → h (g b x) ≡ true) → (b : B) (xs : List A) → any h xs ≡ true → any h (carried f g b xs) ≡ true
  carry-imp h k b [] e = e
  carry-imp h k b (x ∷ xs) e = go (h x) refl (h (g b x)) refl (carry-imp h k (f b x) xs)
    where
      go : (t : Bool) → h x ≡ t → (u : Bool) → h (g b x) ≡ u → (any h xs ≡ true → any h (carried f g (f b x) xs) ≡ true) → pick u true (any h (carried f g (f b x) xs)) ≡ true
      go t p true q ih = refl
      go true p false q ih = clash (sym q ∙ k b x p)
      go false p false q ih = ih (rw p at e)

  pub carry-all : (Q : A → Type 0) → ((b : B) (x : A) → Q x → Q (g b x)) → (b : B) (xs : List A) → All Q xs → All Q (carried f g b xs)
  carry-all Q k b [] w = tt
  carry-all Q k b (x ∷ xs) w = (k b x w.0, carry-all Q k (f b x) xs w.1)

-- ---- the chunks

module _ (P : Profile) (m : Message) (n : ℕ) where
  abbrev taken : ℕ → Place → Place
  taken k p = pick (takes n k p) (waiting_at P m n k) p

  pub waiting-status : (k : ℕ) → (waiting_at P m n k).status ≡ 1
  unfolding waiting_at
  waiting-status k = refl

  waiting-order : (k : ℕ) → (waiting_at P m n k).chunk.order ≡ (m.first + k) % 2 ^ 32
  unfolding waiting_at chunk_at
  waiting-order k = refl

  pub takes-not : (k : ℕ) (p : Place) → (p.status ≢ 0) → takes n k p ≡ false
  unfolding takes
  takes-not k p h = rw (ne_eqb p.status 0 h)

  pub takes-yes : (k : ℕ) (p : Place) → p.status ≡ 0 → k < n → takes n k p ≡ true
  unfolding takes
  takes-yes k p e h = rw (eq-eqb p.status 0 e) (lt-ltb k n h)

  taken-sent : (k : ℕ) (p : Place) → is_sent (taken k p) ≡ is_sent p
  taken-sent k p = go (takes n k p) refl
    where
      go : (t : Bool) → takes n k p ≡ t → is_sent (pick t (waiting_at P m n k) p) ≡ is_sent p
      go true e =
          unsent (waiting_at P m n k) (omega (arith, waiting-status k))
          ∙ sym (unsent p (omega (arith, eqb-true p.status 0 (takes-so n k p e).0)))
      go false e = refl

  taken-key : (a : Tsn) (o k : ℕ) (p : Place) → key_of true a o (taken k p) ≡ key_of true a o p
  taken-key a o k p = go (takes n k p) refl
    where
      go : (t : Bool) → takes n k p ≡ t → key_of true a o (pick t (waiting_at P m n k) p) ≡ key_of true a o p
      go true e =
          key-unsent a o (waiting_at P m n k) (unsent (waiting_at P m n k) (omega (arith, waiting-status k)))
          ∙ sym (key-unsent a o p (unsent p (omega (arith, eqb-true p.status 0 (takes-so n k p e).0))))
      go false e = refl

  -- what waits stays
  taken-waits : (a : Tsn) (o j k : ℕ) → 0 < j → (p : Place) → has_key false a o j p ≡ true → has_key false a o j (taken k p) ≡ true
  taken-waits a o j k h p e = go (ℕ_discrete p.status 1)
    where
      go : Dec (p.status ≡ 1) → has_key false a o j (taken k p) ≡ true
      go (yes q) = rw (takes-not k p (λ x. omega arith)) e
      go (no q) = absurd (omega (arith, key-none a o p q, eqb-true (key_of false a o p) j e, h))

  -- no more wait than waited and were cut
  few-more : (k : ℕ) (ps : List Place) → count (has_status 1) (carried (chunk_after n) taken k ps) ≤ count (has_status 1) ps + (n - k)
  few-more k [] = zero-le
  few-more k (p ∷ ps) = go (takes n k p) refl (few-more (k + 1) ps) (few-more k ps)
    where
      go : (t : Bool) → takes n k p ≡ t
          → count (has_status 1) (carried (chunk_after n) taken (k + 1) ps) ≤ count (has_status 1) ps + (n - (k + 1))
          → count (has_status 1) (carried (chunk_after n) taken k ps) ≤ count (has_status 1) ps + (n - k)
          → count (has_status 1) (pick t (waiting_at P m n k) p ∷ carried (chunk_after n) taken (pick t (k + 1) k) ps) ≤ tick (p.status == 1) (count (has_status 1) ps) + (n - k)
      go true e x y =
          let w = takes-so n k p e in
          let z : nat_eq p.status 1 ≡ false = ne_eqb p.status 1 (λ q. omega (arith, eqb-true p.status 0 w.0)) in
          rw (waiting-status k, z) (omega (arith, w.1, x))
      go false e x y = at (p.status == 1)
        where
          at : (b : Bool) → tick b (count (has_status 1) (carried (chunk_after n) taken k ps)) ≤ tick b (count (has_status 1) ps) + (n - k)
          at true = omega (arith, y)
          at false = y

  module _ (a : Tsn) (o waits : ℕ) (keys : (k : ℕ) → k < n → key_of false a o (waiting_at P m n k) ≡ waits + k + 1) where
    -- each chunk is there, where the free places suffice
    new-there : (c k : ℕ) (ps : List Place) → k ≤ c → c < n → n ≤ k + count (has_status 0) ps → any (has_key false a o (waits + c + 1)) (carried (chunk_after n) taken k ps) ≡ true
    new-there c k [] h l r = absurd (omega arith)
    new-there c k (p ∷ ps) h l r = go (ℕ_discrete p.status 0) (ℕ_discrete k c) (new-there c (k + 1) ps) (new-there c k ps)
      where
        both : (t : Bool) → any (has_key false a o (waits + c + 1)) (carried (chunk_after n) taken k ps) ≡ true → pick t true (any (has_key false a o (waits + c + 1)) (carried (chunk_after n) taken k ps)) ≡ true
        both true e = refl
        both false e = e

        next : (t : Bool) → any (has_key false a o (waits + c + 1)) (carried (chunk_after n) taken (k + 1) ps) ≡ true → pick t true (any (has_key false a o (waits + c + 1)) (carried (chunk_after n) taken (k + 1) ps)) ≡ true
        next true e = refl
        next false e = e

        go : Dec (p.status ≡ 0) → Dec (k ≡ c)
            → (k + 1 ≤ c → c < n → n ≤ k + 1 + count (has_status 0) ps → any (has_key false a o (waits + c + 1)) (carried (chunk_after n) taken (k + 1) ps) ≡ true)
            → (k ≤ c → c < n → n ≤ k + count (has_status 0) ps → any (has_key false a o (waits + c + 1)) (carried (chunk_after n) taken k ps) ≡ true)
            → any (has_key false a o (waits + c + 1)) (carried (chunk_after n) taken k (p ∷ ps)) ≡ true
        go (yes e) (yes q) x y =
            let s : has_key false a o (waits + c + 1) (waiting_at P m n k) ≡ true = eq-eqb (key_of false a o (waiting_at P m n k)) (waits + c + 1) (omega (arith, keys k (omega arith), q)) in
            rw (takes-yes k p e (omega arith), s)
        go (yes e) (no q) x y =
            let s : n ≤ k + suc (count (has_status 0) ps) = rw (eq-eqb p.status 0 e) at r in
            rw (takes-yes k p e (omega arith)) (next (has_key false a o (waits + c + 1) (waiting_at P m n k)) (x (omega arith) l (omega arith)))
        go (no e) q x y =
            let s : n ≤ k + count (has_status 0) ps = rw (ne_eqb p.status 0 e) at r in
            rw (takes-not k p e) (both (has_key false a o (waits + c + 1) p) (y h l s))

  taken-fit : ((k : ℕ) → k < n → PlaceFits P (waiting_at P m n k)) → (k : ℕ) (p : Place) → PlaceFits P p → PlaceFits P (taken k p)
  taken-fit f k p w = go (takes n k p) refl
    where
      go : (t : Bool) → takes n k p ≡ t → PlaceFits P (pick t (waiting_at P m n k) p)
      go true e = f k (takes-so n k p e).1
      go false e = w

-- ---- "chunks of 512 and a last of 1 to 512"

begins : (x p l : ℕ) → 0 < p → x + p ≤ l + (p - 1) → x < l
begins x p l h e = omega arith

-- each chunk has a byte to begin with
pub begins-within : (P : Profile) (len k : ℕ) → 0 < P.payload → k < chunks_of P len → P.payload * k < len
begins-within P len k h l = begins (P.payload * k) P.payload len h (room (mul-le-mul_left P.payload l) (mul-div-le (len + (P.payload - 1)) P.payload))
  where
    room : P.payload * suc k ≤ P.payload * chunks_of P len → P.payload * chunks_of P len ≤ len + (P.payload - 1) → P.payload * k + P.payload ≤ len + (P.payload - 1)
    room a b = go (P.payload * suc k) (P.payload * chunks_of P len) (P.payload * k + P.payload) (mul-suc P.payload k) a b
      where
        go : (x y u : ℕ) → x ≡ u → x ≤ y → y ≤ len + (P.payload - 1) → u ≤ len + (P.payload - 1)
        go x y u e a b = omega arith

part-some : (P : Profile) (len k : ℕ) → 0 < P.payload → k < chunks_of P len → 1 ≤ part_len P len k
part-some P len k h l = pick-keeps (λ (x : ℕ). 1 ≤ x) (nat_lt (len - P.payload * k) P.payload) _ _ (less (P.payload * k) (begins-within P len k h l)) h
  where
    less : (x : ℕ) → x < len → 1 ≤ len - x
    less x e = omega arith

waiting-fit : (P : Profile) (m : Message) (n k : ℕ) → 0 < P.payload → k < chunks_of P m.len → m.stream.0 < P.streams → PlaceFits P (waiting_at P m n k)
unfolding waiting_at chunk_at
waiting-fit P m n k h l s = record {
  status = omega arith;
  misses = omega arith;
  cut = λ e. record { some = part-some P m.len k h l; small = smaller-right (m.len - P.payload * k) P.payload; stream = s };
}

-- ---- the call

not-refused : (P : Profile) (len : ℕ) (stream : StreamId) (streams : ℕ) → is_refused P len stream streams ≡ false → stream.0 < P.streams
unfolding is_refused
not-refused P len stream streams e = go (nat_lt len 1) (nat_lt (P.places * P.payload) len) (is_agreed P stream.0 streams) refl e
  where
    go : (a b c : Bool) → is_agreed P stream.0 streams ≡ c → pick a true (pick b true (not c)) ≡ false → stream.0 < P.streams
    go true b c q e = clash (sym e)
    go false true c q e = clash (sym e)
    go false false true q e = agreed-below P stream.0 streams q
    go false false false q e = clash (sym e)

-- what is taken is on a stream that there is, and the free places suffice
pub taken-whole : (P : Profile) (s : Sending) (len : ℕ) (stream : StreamId) (streams : ℕ) → refusal P s len stream streams ≡ 0
    → (stream.0 < P.streams) × (chunks_of P len ≤ count (has_status 0) s.places)
unfolding refusal
taken-whole P s len stream streams e = go (is_refused P len stream streams) (nat_lt (count (has_status 0) s.places) (chunks_of P len)) refl refl e
  where
    go : (a b : Bool) → is_refused P len stream streams ≡ a → nat_lt (count (has_status 0) s.places) (chunks_of P len) ≡ b → pick {A = ℕ} a 19 (pick b 20 0) ≡ 0
        → (stream.0 < P.streams) × (chunks_of P len ≤ count (has_status 0) s.places)
    go true b p q e = let x : ◌≡◌ {A = ℕ} 19 0 = e in absurd (omega arith)
    go false true p q e = let x : ◌≡◌ {A = ℕ} 20 0 = e in absurd (omega arith)
    go false false p q e = (not-refused P len stream streams p, ltb-false (count (has_status 0) s.places) (chunks_of P len) q)

module _ (z : Sizes) (P : Profile) (paid : 0 < P.payload) (s : Sending) (w : SendingSound z P s) (t : SendingTyped s) (len : ℕ) (stream : StreamId) (unordered : Bool) (ppid streams : ℕ) where
  abbrev waits : ℕ
  waits = count (has_status 1) s.places

  abbrev cutting : Message
  cutting = record { len = len; first = (s.oldest + count (has_status 1) s.places) % 2 ^ 32; stream = stream; ppid = ppid; unordered = unordered }

  abbrev many : ℕ
  many = chunks_of P len

  abbrev result : List Place
  result = carried (chunk_after (chunks_of P len)) (taken P cutting (chunks_of P len)) 0 s.places

  module _ (h : stream.0 < P.streams) (r : chunks_of P len ≤ count (has_status 0) s.places) where
    -- the chunk k waits behind the others
    waiting-key : (k : ℕ) → k < many → key_of false s.acked s.oldest (waiting_at P cutting many k) ≡ waits + k + 1
    waiting-key k l =
        let d : waits + k < 2 ^ 32 = omega (arith, l, r, count_most (has_status 0) s.places, count_most (has_status 1) s.places, t.few) in
        let e : (waits + k + s.oldest) % 2 ^ 32 ≡ (waiting_at P cutting many k).chunk.order
        = ap (λ (x : ℕ). x % 2 ^ 32) (omega arith) ∙ (sym (mod-add-mod (s.oldest + waits) (2 ^ 32) k) ∙ sym (waiting-order P cutting many k)) in
        key-waits s.acked s.oldest (waiting_at P cutting many k) (waiting-status P cutting many k) ∙ ap (λ (x : ℕ). x + 1) (steps-are t.oldest d e)

    result-waiting : Successive false s.acked s.oldest result (count (has_status 1) result)
    result-waiting = record { many = refl; each = λ j a b. at j a b (dec_le j waits) }
      where
        at : (j : ℕ) → 0 < j → j ≤ count (has_status 1) result → Dec (j ≤ waits) → any (has_key false s.acked s.oldest j) result ≡ true
        at j a b (yes l) = carry-imp (chunk_after many) (taken P cutting many) (has_key false s.acked s.oldest j) (λ k p. taken-waits P cutting many s.acked s.oldest j k a p) 0 s.places (w.waiting.each j a l)
        at j a b (no l) =
            let c : waits + (j - waits - 1) + 1 ≡ j = omega arith in
            rw c at (new-there P cutting many s.acked s.oldest waits waiting-key (j - waits - 1) 0 s.places zero-le (omega (arith, few-more P cutting many 0 s.places, b, l)) (omega (arith, r)))

    pub waited-sound : SendingSound z P (waited P s len stream unordered ppid)
    unfolding waited message_laid_out
    waited-sound = record {
      path = w.path;
      booked = w.booked;
      summed = waited-sums P s len stream unordered ppid w.summed;
      fit = carry-all (chunk_after many) (taken P cutting many) (PlaceFits P) (taken-fit P cutting many (λ k l. waiting-fit P cutting many k paid l h)) 0 s.places w.fit;
      ahead = w.ahead;
      sent = record {
        many = carry-count (chunk_after many) (taken P cutting many) is_sent (taken-sent P cutting many) 0 s.places ∙ w.sent.many;
        each = λ j a b. carry-any (chunk_after many) (taken P cutting many) (has_key true s.acked s.oldest j) (λ k p. ap (λ (x : ℕ). nat_eq x j) (taken-key P cutting many s.acked s.oldest k p)) 0 s.places ∙ w.sent.each j a b;
      };
      waiting = result-waiting;
    }

  pub handed-sound : SendingSound z P (handed_in P s len stream unordered ppid streams).sending
  unfolding handed_in
  handed-sound = go (refusal P s len stream streams == 0) refl
    where
      go : (b : Bool) → (refusal P s len stream streams == 0) ≡ b → SendingSound z P (pick b (waited P s len stream unordered ppid) s)
      go true e = let v = taken-whole P s len stream streams (eqb-true (refusal P s len stream streams) 0 e) in waited-sound v.0 v.1
      go false e = w
