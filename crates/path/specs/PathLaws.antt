-- The bounds of a path as facts, that the computed test says the same, and that whatever happens to a path keeps it within them: over any
-- sizes that can be kept to, and so in both books. Assumes nothing.
use Prim.Native.Nat.{ℕ, zero, suc, ◌+◌, ◌-◌, ◌*◌, ◌/◌, ◌≤◌}
use Rattle.std.specs.Prelude.{◌≡◌, refl, Bool, true, false, ltb, leb}
use Rattle.std.proofs.Common.{ap}
use native.Mathlib.Omega.{arith}
use borrow.Author.Tests.{lt-ltb, le-ltb, le-leb, leb-true, ltb-false}
use Rattle.scans.specs.Scan.{pick, either}
use Rattle.scans.specs.Each.{after-so, after-not}
use Rattle.scans.specs.Upto.{smaller, larger, smaller-left, smaller-right, larger-most, larger-right, pick-keeps, pick_less}
use Rattle.numbers.specs.declared.circle.Tsn.{Tsn}
use Rattle.path.specs.declared.control.Control.{Control}
use Rattle.path.specs.declared.clock.Clock.{Clock}
use Rattle.path.specs.declared.path.Path.{Path}
use Rattle.path.specs.Sizes.{Sizes, SizesFair, rail_sizes, book_sizes, is_older, sizes_of}
use Rattle.path.specs.Control.{is_control_within, halved, collapsed, grown_slow, grown_steady, grown_old, grown_open, grown, fresh_control}
use Rattle.path.specs.Clock as clock
use Rattle.path.specs.Path.{is_path_within, fresh_path, grew, is_free_of_recovery, struck_by, rested_by, recovery_ended, is_reached, path_expired, sampled_by, backed_off, path_heard, is_over}

-- ---- the bounds

pub record Controlled (z : Sizes) (k : Control) : Type 0 where
  pub open-to : k.cwnd ≤ z.top
  pub slow-to : k.ssthresh ≤ z.top
  pub «part-to» : k.partial ≤ z.top

pub record Clocked (z : Sizes) (k : Clock) : Type 0 where
  pub least : z.«rto-least» ≤ k.rto
  pub most : k.rto ≤ z.«rto-most»
  pub smooth : k.srtt ≤ z.«rto-most»
  pub varied : k.rttvar ≤ z.«rto-most»

pub record PathWithin (z : Sizes) (p : Path) : Type 0 where
  pub controlled : Controlled z p.control
  pub clocked : Clocked z p.clock
  pub tried : p.tries ≤ z.tries

-- ---- the test says the same

module _ (z : Sizes) where
  controlled-so : (k : Control) → is_control_within z k ≡ true → Controlled z k
  unfolding is_control_within
  controlled-so k e =
      let a = after-not (ltb z.top k.cwnd) _ e in
      let b = after-not (ltb z.top k.ssthresh) _ a.1 in
      record {
        open-to = ltb-false z.top k.cwnd a.0;
        slow-to = ltb-false z.top k.ssthresh b.0;
        «part-to» = leb-true k.partial z.top b.1;
      }

  so-controlled : (k : Control) → Controlled z k → is_control_within z k ≡ true
  unfolding is_control_within
  so-controlled k w = rw (le-ltb z.top k.cwnd w.open-to, le-ltb z.top k.ssthresh w.slow-to) (le-leb k.partial z.top w.«part-to»)

  clocked-so : (k : Clock) → clock.is_clock_within z k ≡ true → Clocked z k
  unfolding clock.is_clock_within
  clocked-so k e =
      let a = after-not (ltb k.rto z.«rto-least») _ e in
      let b = after-not (ltb z.«rto-most» k.rto) _ a.1 in
      let d = after-not (ltb z.«rto-most» k.srtt) _ b.1 in
      record {
        least = ltb-false k.rto z.«rto-least» a.0;
        most = ltb-false z.«rto-most» k.rto b.0;
        smooth = ltb-false z.«rto-most» k.srtt d.0;
        varied = leb-true k.rttvar z.«rto-most» d.1;
      }

  so-clocked : (k : Clock) → Clocked z k → clock.is_clock_within z k ≡ true
  unfolding clock.is_clock_within
  so-clocked k w =
      rw (le-ltb k.rto z.«rto-least» w.least, le-ltb z.«rto-most» k.rto w.most, le-ltb z.«rto-most» k.srtt w.smooth)
      (le-leb k.rttvar z.«rto-most» w.varied)

  pub within-so : (p : Path) → is_path_within z p ≡ true → PathWithin z p
  unfolding is_path_within
  within-so p e =
      let a = after-so (is_control_within z p.control) _ e in
      let b = after-so (clock.is_clock_within z p.clock) _ a.1 in
      record {
        controlled = controlled-so p.control a.0;
        clocked = clocked-so p.clock b.0;
        tried = leb-true p.tries z.tries b.1;
      }

  pub so-within : (p : Path) → PathWithin z p → is_path_within z p ≡ true
  unfolding is_path_within
  so-within p w = rw (so-controlled p.control w.controlled, so-clocked p.clock w.clocked) (le-leb p.tries z.tries w.tried)

-- ---- whatever happens keeps them

module _ (z : Sizes) (f : SizesFair z) where
  halved-keeps : (k : Control) → Controlled z k → Controlled z (halved z k)
  unfolding halved
  halved-keeps k w =
      let t : larger (k.cwnd / 2) z.floor ≤ z.top = larger-most (k.cwnd / 2) z.floor z.top (omega arith) f.floored in
      record { open-to = t; slow-to = t; «part-to» = omega arith }

  collapsed-keeps : (k : Control) → Controlled z k → Controlled z (collapsed z k)
  unfolding collapsed
  collapsed-keeps k w = record { open-to = f.unit; slow-to = (halved-keeps k w).slow-to; «part-to» = pick-keeps (λ (x : ℕ). x ≤ z.top) z.old k.partial 0 w.«part-to» (omega arith) }

  slow-keeps : (k : Control) (newly : ℕ) → Controlled z k → Controlled z (grown_slow z k newly)
  unfolding grown_slow
  slow-keeps k newly w = record { open-to = smaller-right (k.cwnd + smaller newly z.pmdcs) z.top; slow-to = w.slow-to; «part-to» = w.«part-to» }

  steady_keeps : (k : Control) (newly flight : ℕ) → Controlled z k → Controlled z (grown_steady z k newly flight)
  unfolding grown_steady
  steady_keeps k newly flight w =
      let sum : ℕ = smaller (k.partial + newly) z.top in
      let most : sum ≤ z.top = smaller-right (k.partial + newly) z.top in
      let part : smaller sum k.cwnd ≤ sum = smaller-left sum k.cwnd in
      pick-keeps (Controlled z) (ltb flight k.cwnd) _ _
      (record { open-to = w.open-to; slow-to = w.slow-to; «part-to» = omega arith })
      (pick-keeps (Controlled z) (ltb sum k.cwnd) _ _
      (record { open-to = w.open-to; slow-to = w.slow-to; «part-to» = most })
      (record { open-to = smaller-right (k.cwnd + z.pmdcs) z.top; slow-to = w.slow-to; «part-to» = omega arith }))

  old-keeps : (k : Control) (newly flight : ℕ) (moved : Bool) → Controlled z k → Controlled z (grown_old z k newly flight moved)
  unfolding grown_old
  old-keeps k newly flight moved w =
      let sum : ℕ = smaller (k.partial + newly) z.top in
      let most : sum ≤ z.top = smaller-right (k.partial + newly) z.top in
      pick-keeps (Controlled z) moved _ _
      (pick-keeps (Controlled z) (either (ltb flight k.cwnd) (ltb sum k.cwnd)) _ _
      (record { open-to = w.open-to; slow-to = w.slow-to; «part-to» = most })
      (record { open-to = smaller-right (k.cwnd + z.pmdcs) z.top; slow-to = w.slow-to; «part-to» = omega arith }))
      w

  open-keeps : (k : Control) (newly flight : ℕ) (moved : Bool) → Controlled z k → Controlled z (grown_open z k newly flight moved)
  unfolding grown_open
  open-keeps k newly flight moved w = pick-keeps (Controlled z) z.old _ _ (old-keeps k newly flight moved w) (steady_keeps k newly flight w)

  grown-keeps : (k : Control) (newly flight : ℕ) (moved free : Bool) → Controlled z k → Controlled z (grown z k newly flight moved free)
  unfolding grown
  grown-keeps k newly flight moved free w =
      pick-keeps (Controlled z) (ltb k.ssthresh k.cwnd) _ _ (open-keeps k newly flight moved w)
      (pick-keeps (Controlled z) (ltb flight k.cwnd) _ _ w (pick-keeps (Controlled z) free _ _ (slow-keeps k newly w) w))

  timed-keeps : (s v : ℕ) → s ≤ z.«rto-most» → v ≤ z.«rto-most» → Clocked z (clock.timed z s v)
  unfolding clock.timed
  timed-keeps s v hs hv =
      let sum : ℕ = s + 4 * larger v 1 in
      let most : smaller sum z.«rto-most» ≤ z.«rto-most» = smaller-right sum z.«rto-most» in
      record {
        least = larger-right (smaller sum z.«rto-most») z.«rto-least»;
        most = larger-most (smaller sum z.«rto-most») z.«rto-least» z.«rto-most» most (omega arith);
        smooth = hs;
        varied = larger-most v 1 z.«rto-most» hv f.timed;
      }

  sampled-keeps : (k : Clock) (sample : ℕ) → Clocked z k → Clocked z (clock.clock_sampled z k sample)
  unfolding clock.clock_sampled
  sampled-keeps k sample w =
      let r : ℕ = smaller sample z.«rto-most» in
      let most : r ≤ z.«rto-most» = smaller-right sample z.«rto-most» in
      let near : clock.apart k.srtt r ≤ z.«rto-most» = pick-keeps (λ (x : ℕ). x ≤ z.«rto-most») (ltb k.srtt r) (r - k.srtt) (k.srtt - r) (omega arith) (omega arith) in
      pick-keeps (Clocked z) k.sampled _ _
      (timed-keeps ((7 * k.srtt + r) / 8) ((3 * k.rttvar + clock.apart k.srtt r) / 4) (omega arith) (omega arith))
      (timed-keeps r (r / 2) most (omega arith))

  doubled-keeps : (k : Clock) → Clocked z k → Clocked z (clock.clock_doubled z k)
  unfolding clock.clock_doubled
  doubled-keeps k w = record {
    least = pick_less (λ x. z.«rto-least» ≤ x) (2 * k.rto) z.«rto-most» _ _ (λ h. omega arith) (λ h. omega arith);
    most = smaller-right (2 * k.rto) z.«rto-most»;
    smooth = w.smooth;
    varied = w.varied;
  }

  pub fresh-within : PathWithin z (fresh_path z)
  unfolding fresh_path fresh_control clock.fresh_clock
  fresh-within = record {
    controlled = record { open-to = f.begun; slow-to = omega arith; «part-to» = omega arith };
    clocked = record { least = f.«from»; most = f.«to»; smooth = omega arith; varied = omega arith };
    tried = omega arith;
  }

  pub grew-keeps : (p : Path) (newly : ℕ) (moved : Bool) → PathWithin z p → PathWithin z (grew z p newly moved)
  unfolding grew
  grew-keeps p newly moved w = record {
    controlled = grown-keeps p.control newly p.flight moved (is_free_of_recovery p moved) w.controlled;
    clocked = w.clocked;
    tried = pick-keeps (λ (x : ℕ). x ≤ z.tries) (ltb 0 newly) 0 p.tries (omega arith) w.tried;
  }

  pub struck-keeps : (p : Path) (struck : Bool) (last : Tsn) → PathWithin z p → PathWithin z (struck_by z p struck last)
  unfolding struck_by
  struck-keeps p struck last w =
      pick-keeps (PathWithin z) (is_free_of_recovery p struck) _ _ (record { controlled = halved-keeps p.control w.controlled; clocked = w.clocked; tried = w.tried }) w

  pub rested-keeps : (p : Path) (left : Bool) → PathWithin z p → PathWithin z (rested_by p left)
  unfolding rested_by
  rested-keeps p left w =
      let k : Controlled z p.control = w.controlled in
      pick-keeps (PathWithin z) left _ _ w (record { controlled = record { open-to = k.open-to; slow-to = k.slow-to; «part-to» = omega arith }; clocked = w.clocked; tried = w.tried })

  pub ended-keeps : (p : Path) (point : Tsn) → PathWithin z p → PathWithin z (recovery_ended p point)
  unfolding recovery_ended
  ended-keeps p point w =
      pick-keeps (PathWithin z) (is_reached p point) _ _ (record { controlled = w.controlled; clocked = w.clocked; tried = w.tried }) w

  pub expired-keeps : (p : Path) → PathWithin z p → PathWithin z (path_expired z p)
  unfolding path_expired
  expired-keeps p w = record {
    controlled = collapsed-keeps p.control w.controlled;
    clocked = doubled-keeps p.clock w.clocked;
    tried = pick_less (λ x. x ≤ z.tries) p.tries z.tries _ _ (λ h. omega arith) (λ h. w.tried);
  }

  pub sampled-within : (p : Path) (sample : ℕ) → PathWithin z p → PathWithin z (sampled_by z p sample)
  unfolding sampled_by
  sampled-within p sample w = record { controlled = w.controlled; clocked = sampled-keeps p.clock sample w.clocked; tried = w.tried }

  pub backed-within : (p : Path) → PathWithin z p → PathWithin z (backed_off z p)
  unfolding backed_off
  backed-within p w = record { controlled = w.controlled; clocked = doubled-keeps p.clock w.clocked; tried = w.tried }

pub heard-within : (z : Sizes) (p : Path) → PathWithin z p → PathWithin z (path_heard p)
unfolding path_heard
heard-within z p w = record { controlled = w.controlled; clocked = w.clocked; tried = omega arith }

-- ---- the two books

-- whatever the mode, the sizes can be kept to
pub book-fair : (m : ℕ) → SizesFair (sizes_of m)
book-fair m = record {
  unit = pick-keeps (λ (x : ℕ). x ≤ 1048576) (is_older m) 576 528 (omega arith) (omega arith);
  begun = pick-keeps (λ (x : ℕ). x ≤ 1048576) (is_older m) book_sizes.start rail_sizes.start (omega arith) (omega arith);
  floored = pick-keeps (λ (x : ℕ). x ≤ 1048576) (is_older m) book_sizes.floor rail_sizes.floor (omega arith) (omega arith);
  timed = omega arith;
  «from» = pick-keeps (λ (x : ℕ). 1000 ≤ x) (is_older m) 3000 1000 (omega arith) (omega arith);
  «to» = pick-keeps (λ (x : ℕ). x ≤ 60000) (is_older m) 3000 1000 (omega arith) (omega arith);
}

pub rail-fair : SizesFair rail_sizes
rail-fair = book-fair 0

-- mode 0 is the present book and mode 1 the older one, in every size
pub mode-rail : sizes_of 0 ≡ rail_sizes
mode-rail = refl

pub mode-book : sizes_of 1 ≡ book_sizes
mode-book = refl

-- mode 0 has the growth and the T3 of the present book: neither asks for `moved` above ssthresh, nor leaves partial bytes
pub rail-open : (k : Control) (newly flight : ℕ) (moved : Bool) → grown_open rail_sizes k newly flight moved ≡ grown_steady rail_sizes k newly flight
unfolding grown_open
rail-open k newly flight moved = refl

pub rail-collapsed : (k : Control) → collapsed rail_sizes k ≡ record { cwnd = 528; ssthresh = (halved rail_sizes k).ssthresh; partial = 0 }
unfolding collapsed
rail-collapsed k = refl

-- what does not depend on the book: the bounds, a sample, RTO doubled, and whether T3's tries are spent
pub path-same-within : (m : ℕ) (p : Path) → is_path_within (sizes_of m) p ≡ is_path_within rail_sizes p
unfolding is_path_within is_control_within clock.is_clock_within
path-same-within m p = refl

pub path-same-sampled : (m : ℕ) (p : Path) (sample : ℕ) → sampled_by (sizes_of m) p sample ≡ sampled_by rail_sizes p sample
unfolding sampled_by clock.clock_sampled clock.timed
path-same-sampled m p sample = refl

pub same-backed : (m : ℕ) (p : Path) → backed_off (sizes_of m) p ≡ backed_off rail_sizes p
unfolding backed_off clock.clock_doubled
same-backed m p = refl

pub same_over : (m : ℕ) (p : Path) → is_over (sizes_of m) p ≡ is_over rail_sizes p
unfolding is_over
same_over m p = refl

-- RFC 4960, section 7.2: in the older book what does not move the point grows neither cwnd nor partial bytes
pub unmoved-grown : (k : Control) (newly flight : ℕ) → grown book_sizes k newly flight false false ≡ k
unfolding grown grown_open grown_old
unmoved-grown k newly flight = go (ltb k.ssthresh k.cwnd) (ltb flight k.cwnd)
  where
    go : (s t : Bool) → pick s k (pick t k k) ≡ k
    go true t = refl
    go false true = refl
    go false false = refl

pub unmoved-grew : (p : Path) (newly : ℕ) → (grew book_sizes p newly false).control ≡ p.control
unfolding grew
unmoved-grew p newly = unmoved-grown p.control newly p.flight

-- and its T3 leaves the partial bytes, as its section 7.2.3 names ssthresh and cwnd alone
pub old-collapsed : (k : Control) → (collapsed book_sizes k).partial ≡ k.partial
unfolding collapsed
old-collapsed k = refl

-- ---- what leaves flight alone

pub fresh-flight : (z : Sizes) → (fresh_path z).flight ≡ 0
unfolding fresh_path
fresh-flight z = refl

pub sampled-flight : (z : Sizes) (p : Path) (sample : ℕ) → (sampled_by z p sample).flight ≡ p.flight
unfolding sampled_by
sampled-flight z p sample = refl

pub backed-flight : (z : Sizes) (p : Path) → (backed_off z p).flight ≡ p.flight
unfolding backed_off
backed-flight z p = refl

pub heard-flight : (p : Path) → (path_heard p).flight ≡ p.flight
unfolding path_heard
heard-flight p = refl

-- ---- what leaves cwnd, ssthresh and partial bytes alone

pub struck-none : (z : Sizes) (p : Path) (last : Tsn) → struck_by z p false last ≡ p
unfolding struck_by
struck-none z p last = refl

pub rested-left : (p : Path) → rested_by p true ≡ p
unfolding rested_by
rested-left p = refl

pub ended-control : (p : Path) (point : Tsn) → (recovery_ended p point).control ≡ p.control
unfolding recovery_ended
ended-control p point = pick-keeps (λ (q : Path). q.control ≡ p.control) (is_reached p point) _ _ refl refl

pub heard-control : (p : Path) → (path_heard p).control ≡ p.control
unfolding path_heard
heard-control p = refl

-- ---- the count of tries

-- what ends it
pub grew-tries : (z : Sizes) (p : Path) (newly : ℕ) (moved : Bool) → (grew z p newly moved).tries ≡ pick (ltb 0 newly) 0 p.tries
unfolding grew
grew-tries z p newly moved = refl

pub heard-tries : (p : Path) → (path_heard p).tries ≡ 0
unfolding path_heard
heard-tries p = refl

-- what leaves it alone
pub struck-tries : (z : Sizes) (p : Path) (struck : Bool) (last : Tsn) → (struck_by z p struck last).tries ≡ p.tries
unfolding struck_by
struck-tries z p struck last = pick-keeps (λ (q : Path). q.tries ≡ p.tries) (is_free_of_recovery p struck) _ _ refl refl

pub rested-tries : (p : Path) (left : Bool) → (rested_by p left).tries ≡ p.tries
unfolding rested_by
rested-tries p left = pick-keeps (λ (q : Path). q.tries ≡ p.tries) left _ _ refl refl

pub ended-tries : (p : Path) (point : Tsn) → (recovery_ended p point).tries ≡ p.tries
unfolding recovery_ended
ended-tries p point = pick-keeps (λ (q : Path). q.tries ≡ p.tries) (is_reached p point) _ _ refl refl

-- what counts: n expiries of T3 in a row
abbrev pub silent : Sizes → ℕ → Path → Path
silent z zero p = p
silent z (suc n) p = path_expired z (silent z n p)

expired-tries : (z : Sizes) (p : Path) (n : ℕ) → p.tries ≡ n → suc n ≤ z.tries → (path_expired z p).tries ≡ suc n
unfolding path_expired
expired-tries z p n e l = rw (e, lt-ltb n z.tries (omega arith)) (omega arith)

pub silent-tries : (z : Sizes) (p : Path) (n : ℕ) → p.tries ≡ 0 → n ≤ z.tries → (silent z n p).tries ≡ n
silent-tries z p zero e l = e
silent-tries z p (suc n) e l = expired-tries z (silent z n p) n (silent-tries z p n e (omega arith)) l

-- "Tries: .. 10 for T2 and T3; the next expiry closes": where the peer is silent the eleventh does, and none before it
pub silent-over : (z : Sizes) (p : Path) (n : ℕ) → p.tries ≡ 0 → n ≤ z.tries → is_over z (silent z n p) ≡ leb z.tries n
unfolding is_over
silent-over z p n e l = ap (leb z.tries) (silent-tries z p n e l)
