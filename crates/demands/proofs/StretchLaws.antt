-- A stretch, on any numberings: of what is heard, what reaches the receiving side is a run of the receiver, and the rest is told between its answers.
-- Assumes nothing.
use Rattle.std.specs.Prelude.{ℕ, ◌^◌, ◌≡◌, length}
use Rattle.std.proofs.Math.Path.{refl, ap}
use mathlib.Core.List.{List, [], ◌∷◌, map}
use Rattle.scans.specs.Each.{All}
use Rattle.numbers.specs.Numbering.{Numberings, lines}
use Rattle.numbers.specs.Profile.{rail}
use Rattle.numbers.specs.KeepingLineLaws.{reduce_tsn}
use Rattle.holding.specs.declared.held.Chunk.{Chunk}
use Rattle.holding.specs.declared.taking.Answer.{Answer as Taking}
use Rattle.holding.specs.declared.taking.Answer.TheVariants.{Taken, Nothing, Short}
use Rattle.delivery.specs.Receiving.{taken_into}
use Rattle.line.specs.Runs.{ReceiverEvent, arrive, take, sack, event_turn, finally, reduce_event, Fair}
use Rattle.line.specs.Reduce.{reduce_taken}
use Rattle.line.specs.Demand.{HostSaw, number, gave, seen, receiver_over, reduce_seen, GivenMessage, given_by, given, told, state_after}
use Rattle.calls.specs.Acknowledging.{sack_values, no_sack}
use Rattle.demands.specs.News.{News, numbered, untaken, sacked, given_in}
use Rattle.demands.specs.Heard.{Heard, asks, not-read, take-barred, sack-barred, begins, Side, side_by, heard_taken_as, news_by, side_goes_on, said_on}
use Rattle.demands.specs.Stretch.{reduce_news, Fairly, as_line}

-- no fresh start
abbrev pub Stays : Heard → Type 0
Stays (asks e) = Unit
Stays not-read = Unit
Stays (take-barred n out) = Unit
Stays (sack-barred n) = Unit
Stays (begins t n) = ⊥

-- what reaches the receiving side
unfoldable pub events_in : List Heard → List ReceiverEvent
events_in [] = []
events_in (asks e ∷ hs) = e ∷ events_in hs
events_in (not-read ∷ hs) = events_in hs
events_in (take-barred n out ∷ hs) = events_in hs
events_in (sack-barred n ∷ hs) = events_in hs
events_in (begins t n ∷ hs) = events_in hs

-- what is told of what the receiver's host sees
abbrev shown : HostSaw → News
shown (number n) = numbered n
shown (gave out t now) = heard_taken_as out t now
shown (told s) = sacked 0 (sack_values s)

-- with what is told of the rest
unfoldable pub woven : List Heard → List HostSaw → List News
woven [] zs = []
woven (asks e ∷ hs) [] = []
woven (asks e ∷ hs) (z ∷ zs) = shown z ∷ woven hs zs
woven (not-read ∷ hs) zs = numbered 7 ∷ woven hs zs
woven (take-barred n out ∷ hs) zs = untaken n 0 out ∷ woven hs zs
woven (sack-barred n ∷ hs) zs = sacked n no_sack ∷ woven hs zs
woven (begins t n ∷ hs) zs = woven hs zs

taken-given : (lent : List ℕ) (x : Taking) (now : List ℕ) (ts : List News) (gs : List GivenMessage) → given_in ts ≡ gs → given_in (heard_taken_as lent x now ∷ ts) ≡ given_by lent x now gs
unfolding given_in
taken-given lent (Taken m) now ts gs e = ap (λ (xs : List GivenMessage). record { lent = lent; message = m; output = now } ∷ xs) e
taken-given lent Nothing now ts gs e = e
taken-given lent (Short n) now ts gs e = e

module _ (N : Numberings) where
  pub said-woven : (hs : List Heard) → All Stays hs → (k : Side) → said_on N k hs ≡ woven hs (seen (receiver_over N rail) k.streams k.lent (events_in hs))
  unfolding said_on events_in seen woven
  said-woven [] w k = refl
  said-woven (asks (arrive c bytes) ∷ hs) w k = ap (λ (ts : List News). news_by [] (event_turn N rail k.streams k.lent (arrive c bytes)).answer ∷ ts) (said-woven hs w.1 (side_by N k (asks (arrive c bytes))))
  said-woven (asks (take out) ∷ hs) w k = ap (λ (ts : List News). news_by out (event_turn N rail k.streams k.lent (take out)).answer ∷ ts) (said-woven hs w.1 (side_by N k (asks (take out))))
  said-woven (asks sack ∷ hs) w k = ap (λ (ts : List News). news_by [] (event_turn N rail k.streams k.lent sack).answer ∷ ts) (said-woven hs w.1 (side_by N k (asks sack)))
  said-woven (not-read ∷ hs) w k = ap (λ (ts : List News). numbered 7 ∷ ts) (said-woven hs w.1 k)
  said-woven (take-barred n out ∷ hs) w k = ap (λ (ts : List News). untaken n 0 out ∷ ts) (said-woven hs w.1 k)
  said-woven (sack-barred n ∷ hs) w k = ap (λ (ts : List News). sacked n no_sack ∷ ts) (said-woven hs w.1 k)
  said-woven (begins t n ∷ hs) w k = absurd w.0

  pub goes-finally : (hs : List Heard) → All Stays hs → (k : Side) → side_goes_on N k hs ≡ record { lent = finally N rail k.streams k.lent (events_in hs); streams = k.streams }
  unfolding side_goes_on events_in finally
  goes-finally [] w k = refl
  goes-finally (asks e ∷ hs) w k = goes-finally hs w.1 (side_by N k (asks e))
  goes-finally (not-read ∷ hs) w k = goes-finally hs w.1 k
  goes-finally (take-barred n out ∷ hs) w k = goes-finally hs w.1 k
  goes-finally (sack-barred n ∷ hs) w k = goes-finally hs w.1 k
  goes-finally (begins t n ∷ hs) w k = absurd w.0

  pub goes_after : (hs : List Heard) → All Stays hs → (k : Side) → side_goes_on N k hs ≡ record { lent = state_after (receiver_over N rail) k.streams k.lent (events_in hs); streams = k.streams }
  unfolding side_goes_on events_in state_after
  goes_after [] w k = refl
  goes_after (asks (arrive c bytes) ∷ hs) w k = goes_after hs w.1 (side_by N k (asks (arrive c bytes)))
  goes_after (asks (take out) ∷ hs) w k = goes_after hs w.1 (side_by N k (asks (take out)))
  goes_after (asks sack ∷ hs) w k = goes_after hs w.1 (side_by N k (asks sack))
  goes_after (not-read ∷ hs) w k = goes_after hs w.1 k
  goes_after (take-barred n out ∷ hs) w k = goes_after hs w.1 k
  goes_after (sack-barred n ∷ hs) w k = goes_after hs w.1 k
  goes_after (begins t n ∷ hs) w k = absurd w.0

  pub said-given : (hs : List Heard) → All Stays hs → (k : Side) → given_in (said_on N k hs) ≡ given (seen (receiver_over N rail) k.streams k.lent (events_in hs))
  unfolding said_on events_in seen given_in
  said-given [] w k = refl
  said-given (asks (arrive c bytes) ∷ hs) w k = said-given hs w.1 (side_by N k (asks (arrive c bytes)))
  said-given (asks (take out) ∷ hs) w k =
      taken-given out (taken_into N rail k.lent.receiving (length out)).answer _ (said_on N (side_by N k (asks (take out))) hs) _ (said-given hs w.1 (side_by N k (asks (take out))))
  said-given (asks sack ∷ hs) w k = said-given hs w.1 (side_by N k (asks sack))
  said-given (not-read ∷ hs) w k = said-given hs w.1 k
  said-given (take-barred n out ∷ hs) w k = said-given hs w.1 k
  said-given (sack-barred n ∷ hs) w k = said-given hs w.1 k
  said-given (begins t n ∷ hs) w k = absurd w.0

-- ---- brought back onto the circles

abbrev TSNs : ℕ
TSNs = 2 ^ 32

abbrev SSNs : ℕ
SSNs = 2 ^ 16

-- of the line's, as the circles of n and m have it
abbrev pub reduce_heard : ℕ → ℕ → Heard → Heard
reduce_heard n m (asks e) = asks (reduce_event n m e)
reduce_heard n m not-read = not-read
reduce_heard n m (take-barred k out) = take-barred k out
reduce_heard n m (sack-barred k) = sack-barred k
reduce_heard n m (begins t k) = begins (reduce_tsn n t) k

shown-taken : (lent : List ℕ) (x : Taking) (now : List ℕ) → heard_taken_as lent (reduce_taken SSNs x) now ≡ reduce_news TSNs SSNs (heard_taken_as lent x now)
shown-taken lent (Taken m) now = refl
shown-taken lent Nothing now = refl
shown-taken lent (Short n) now = refl

shown-reduced : (z : HostSaw) → shown (reduce_seen TSNs SSNs z) ≡ reduce_news TSNs SSNs (shown z)
shown-reduced (number n) = refl
shown-reduced (gave out t now) = shown-taken out t now
shown-reduced (told s) = refl

pub woven-reduced : (hs : List Heard) (zs : List HostSaw) → woven (map (reduce_heard TSNs SSNs) hs) (map (reduce_seen TSNs SSNs) zs) ≡ map (reduce_news TSNs SSNs) (woven hs zs)
unfolding woven
woven-reduced [] zs = refl
woven-reduced (asks e ∷ hs) [] = refl
woven-reduced (asks e ∷ hs) (z ∷ zs) = λ i. shown-reduced z i ∷ woven-reduced hs zs i
woven-reduced (not-read ∷ hs) zs = ap (λ (ts : List News). numbered 7 ∷ ts) (woven-reduced hs zs)
woven-reduced (take-barred n out ∷ hs) zs = ap (λ (ts : List News). untaken n 0 out ∷ ts) (woven-reduced hs zs)
woven-reduced (sack-barred n ∷ hs) zs = ap (λ (ts : List News). sacked n no_sack ∷ ts) (woven-reduced hs zs)
woven-reduced (begins t n ∷ hs) zs = woven-reduced hs zs

pub events-reduced : (hs : List Heard) → events_in (map (reduce_heard TSNs SSNs) hs) ≡ map (reduce_event TSNs SSNs) (events_in hs)
unfolding events_in
events-reduced [] = refl
events-reduced (asks e ∷ hs) = ap (λ (es : List ReceiverEvent). reduce_event TSNs SSNs e ∷ es) (events-reduced hs)
events-reduced (not-read ∷ hs) = events-reduced hs
events-reduced (take-barred n out ∷ hs) = events-reduced hs
events-reduced (sack-barred n ∷ hs) = events-reduced hs
events-reduced (begins t n ∷ hs) = events-reduced hs

pub stays-reduced : (hs : List Heard) → All Stays hs → All Stays (map (reduce_heard TSNs SSNs) hs)
stays-reduced [] w = tt
stays-reduced (asks e ∷ hs) w = (tt, stays-reduced hs w.1)
stays-reduced (not-read ∷ hs) w = (tt, stays-reduced hs w.1)
stays-reduced (take-barred n out ∷ hs) w = (tt, stays-reduced hs w.1)
stays-reduced (sack-barred n ∷ hs) w = (tt, stays-reduced hs w.1)
stays-reduced (begins t n ∷ hs) w = absurd w.0

-- ---- what arrives is a fair run of the line

module _ (first : ℕ) (chunk : ℕ → Chunk) (payload : ℕ → List ℕ) where
  abbrev lined : (k : Side) (hs : List Heard) → Fairly first chunk payload k hs → List Heard
  lined = as_line first chunk payload

  pub lined-reduced : (hs : List Heard) (k : Side) (f : Fairly first chunk payload k hs) → hs ≡ map (reduce_heard TSNs SSNs) (lined k hs f)
  lined-reduced [] k f = refl
  lined-reduced (asks (arrive c bytes) ∷ hs) k f =
      λ i. asks (arrive (f.0.same i) (f.0.whole i)) ∷ lined-reduced hs (side_by lines k (asks (arrive (chunk f.0.number) (payload f.0.number)))) f.1 i
  lined-reduced (asks (take out) ∷ hs) k f = ap (λ (gs : List Heard). asks (take out) ∷ gs) (lined-reduced hs (side_by lines k (asks (take out))) f)
  lined-reduced (asks sack ∷ hs) k f = ap (λ (gs : List Heard). asks sack ∷ gs) (lined-reduced hs (side_by lines k (asks sack)) f)
  lined-reduced (not-read ∷ hs) k f = ap (λ (gs : List Heard). not-read ∷ gs) (lined-reduced hs k f)
  lined-reduced (take-barred n out ∷ hs) k f = ap (λ (gs : List Heard). take-barred n out ∷ gs) (lined-reduced hs k f)
  lined-reduced (sack-barred n ∷ hs) k f = ap (λ (gs : List Heard). sack-barred n ∷ gs) (lined-reduced hs k f)
  lined-reduced (begins t n ∷ hs) k f = absurd f

  pub lined-stays : (hs : List Heard) (k : Side) (f : Fairly first chunk payload k hs) → All Stays (lined k hs f)
  lined-stays [] k f = tt
  lined-stays (asks (arrive c bytes) ∷ hs) k f = (tt, lined-stays hs (side_by lines k (asks (arrive (chunk f.0.number) (payload f.0.number)))) f.1)
  lined-stays (asks (take out) ∷ hs) k f = (tt, lined-stays hs (side_by lines k (asks (take out))) f)
  lined-stays (asks sack ∷ hs) k f = (tt, lined-stays hs (side_by lines k (asks sack)) f)
  lined-stays (not-read ∷ hs) k f = (tt, lined-stays hs k f)
  lined-stays (take-barred n out ∷ hs) k f = (tt, lined-stays hs k f)
  lined-stays (sack-barred n ∷ hs) k f = (tt, lined-stays hs k f)
  lined-stays (begins t n ∷ hs) k f = absurd f

  pub lined-fair : (hs : List Heard) (k : Side) (f : Fairly first chunk payload k hs) → Fair rail (2 ^ 31) first chunk payload k.streams k.lent (events_in (lined k hs f))
  unfolding events_in
  lined-fair [] k f = tt
  lined-fair (asks (arrive c bytes) ∷ hs) k f =
      let x = f.0 in
      ((x.number, x.from, refl, refl, x.near), lined-fair hs (side_by lines k (asks (arrive (chunk x.number) (payload x.number)))) f.1)
  lined-fair (asks (take out) ∷ hs) k f = lined-fair hs (side_by lines k (asks (take out))) f
  lined-fair (asks sack ∷ hs) k f = lined-fair hs (side_by lines k (asks sack)) f
  lined-fair (not-read ∷ hs) k f = lined-fair hs k f
  lined-fair (take-barred n out ∷ hs) k f = lined-fair hs k f
  lined-fair (sack-barred n ∷ hs) k f = lined-fair hs k f
  lined-fair (begins t n ∷ hs) k f = absurd f
