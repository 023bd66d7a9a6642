-- What T3 over head and words has to show, and that it is what `calls` says of the record shown. Assumes nothing.
use Rattle.std.specs.Prelude.{ℕ, ◌≡◌, ◌⊎◌, Bool, List, [], eqb, length}
use Rattle.std.proofs.Math.Path.{refl, ap}
use Rattle.std.proofs.Common.{sym, ◌∙◌, subst, inl, inr, ⊎_elim, arith}
use Rattle.std.proofs.Math.Bool.{true, false}
use borrow.Author.Tests.{eq-eqb, ne_eqb}
use Rattle.scans.specs.Scan.{pick}
use Rattle.scans.specs.Upto.{pick-keeps}
use Rattle.scans.specs.Each.{clash}
use Rattle.numbers.specs.Profile.{rail}
use Rattle.path.specs.Sizes.{Sizes, sizes_of}
use Rattle.path.specs.Path as way
use Rattle.sending.specs.declared.sending.Sending.{Sending}
use Rattle.sending.specs.declared.expiring.Expiry.{Expiry}
use Rattle.sending.specs.Sending.{has_outstanding}
use Rattle.sending.specs.Expiry.{overdue, sending_expired}
use Rattle.sending.specs.SendingTableLaws.{expired-is}
use Rattle.tables.specs.PlaceWords.{places_of}
use Rattle.sender.specs.Seen.{sending_shown}
use Rattle.acks.specs.Acks.{Expired, expired_head, expired_words}
use Rattle.acks.specs.AcksLaws.{expired-shows, expired-long}
use Rattle.states.specs.declared.state.State.{State}
use Rattle.states.specs.declared.state.State.TheVariants.{Closed, CookieWait, CookieEchoed, Established, ShutdownPending, ShutdownSent, ShutdownReceived, ShutdownAckSent}
use Rattle.states.specs.declared.call.Call.TheVariants.{ThirdTimer}
use Rattle.association.specs.declared.ends.Association.{Association}
use Rattle.association.specs.Fresh.{with_sending}
use Rattle.calls.specs.Answer.{Plan, barred, refusing, quietly, closing_plan, answer_of, QuietlyDone}
use Rattle.calls.specs.Timers.{repeating, expiring_third, overdue_plan}
use Rattle.flat.specs.declared.head.Head.{Head}
use Rattle.flat.specs.Shown.{shown}
use Rattle.asks.specs.TableAnswer.{Reply, answer_in, with_sender, refused_with, told_with, over_with}
use Rattle.asks.specs.TableTimers.{Lapse, lapsed_by, lapsed}

-- the call, by what it found
module _ (h : Head) (places : List ℕ) {n b : ℕ} {r : Reply} (q : n ≡ b) where
  pub lapse-by : {exit : List ℕ} {e : Expired} → n ≡ 0 → e ≡ expired_head (sizes_of h.sender.mode) rail h.sender places → exit ≡ expired_words (sizes_of h.sender.mode) rail h.sender places
      → r ≡ lapsed_by h e → ◌≡◌ {A = Lapse} (record { answer = r; places = exit }) (lapsed b h places)
  unfolding lapsed
  lapse-by z w x y = rw (← q, eq-eqb n 0 z, ← w) (λ i. record { answer = y i; places = x i })

  pub lapse-refused : (n ≡ 0 → ⊥) → r ≡ refused_with h n → ◌≡◌ {A = Lapse} (record { answer = r; places = places }) (lapsed b h places)
  unfolding lapsed
  lapse-refused z y = rw (← q, ne_eqb n 0 z) (λ i. record { answer = y i; places = places })

-- an expiry that marks nothing leaves all
marks-none : (z : Sizes) (s : Sending) → ((eqb (sending_expired z s).number 0 ≡ false) ⊎ ((sending_expired z s).over ≡ true)) → (sending_expired z s).sending ≡ s
marks-none z s e = rw (expired-is z s) (go (has_outstanding s) (way.is_over z s.path) (rw (expired-is z s) at e))
  where
    go : (x y : Bool)
        → (let e : Expiry = pick x (pick y (record { number = 0; over = true; sending = s }) (record { number = 0; over = false; sending = overdue z s })) (record { number = 7; over = false; sending = s }) in
        ((eqb e.number 0 ≡ false) ⊎ (e.over ≡ true)) → e.sending ≡ s)
    go true true h = refl
    go true false h = ⊎_elim (λ (k : true ≡ false). clash (sym k)) (λ (k : false ≡ true). clash k) h
    go false y h = refl

-- what is shown after T3
module _ (h : Head) (held ns places ms cs : List ℕ) (l : length places ≡ 1024) where
  abbrev after : Expired
  after = expired_head (sizes_of h.sender.mode) rail h.sender places

  abbrev words : List ℕ
  words = expired_words (sizes_of h.sender.mode) rail h.sender places

  shows : ◌≡◌ {A = Expiry} (record { number = after.number; over = after.over; sending = sending_shown rail after.head words ms }) (sending_expired (sizes_of h.sender.mode) (sending_shown rail h.sender places ms))
  shows = expired-shows (sizes_of h.sender.mode) rail h.sender places ms (omega (arith, l))

  same-places : ((eqb after.number 0 ≡ false) ⊎ (after.over ≡ true)) → places_of rail words ≡ places_of rail places
  same-places e =
      ap (λ (x : Expiry). x.sending.places) shows ∙ ap (λ (x : Sending). x.places) (marks-none (sizes_of h.sender.mode) (sending_shown rail h.sender places ms) (subst (λ (x : Expiry). (eqb x.number 0 ≡ false) ⊎ (x.over ≡ true)) shows e))

  lapse-shows : answer_in (lapsed_by h after) held ns words ms cs ≡ answer_of (overdue_plan (shown h held ns places ms cs) (sending_expired (sizes_of h.sender.mode) (sending_shown rail h.sender places ms))) []
  unfolding answer_of
  lapse-shows = go (eqb after.number 0) after.over refl refl ∙ ap (λ (x : Expiry). answer_of (overdue_plan (shown h held ns places ms cs) x) []) shows
    where
      with-places : (r : Reply) → places_of rail words ≡ places_of rail places → answer_in r held ns words ms cs ≡ answer_in r held ns places ms cs
      with-places r e = rw e

      go : (x y : Bool) → eqb after.number 0 ≡ x → after.over ≡ y
          → answer_in (pick x (pick y (over_with h) (told_with (with_sender h after.head) 0)) (refused_with h after.number)) held ns words ms cs
          ≡ answer_of (pick x (pick y (closing_plan (shown h held ns places ms cs)) (quietly (with_sending (shown h held ns places ms cs) (sending_shown rail after.head words ms)))) (refusing (shown h held ns places ms cs) after.number)) []
      go true true e f = with-places (over_with h) (same-places (inr f))
      go true false e f = refl
      go false y e f = with-places (refused_with h after.number) (same-places (inl e))

  pub lapsed-shows : (let x : Lapse = lapsed (barred (shown h held ns places ms cs) false ThirdTimer) h places in
      QuietlyDone (expiring_third (shown h held ns places ms cs)) (answer_in x.answer held ns x.places ms cs))
  unfolding lapsed expiring_third answer_of
  lapsed-shows = go (eqb (barred (shown h held ns places ms cs) false ThirdTimer) 0)
    where
      go : (t : Bool)
          → (let x : Lapse = pick t (record { answer = lapsed_by h after; places = words }) (record { answer = refused_with h (barred (shown h held ns places ms cs) false ThirdTimer); places = places }) in
          QuietlyDone (pick t (overdue_plan (shown h held ns places ms cs) (sending_expired (sizes_of h.sender.mode) (sending_shown rail h.sender places ms))) (refusing (shown h held ns places ms cs) (barred (shown h held ns places ms cs) false ThirdTimer)))
          (answer_in x.answer held ns x.places ms cs))
      go true = record { answer = lapse-shows }
      go false = record { answer = refl }

-- the table stays as long as it was
pub lapsed-long : (n : ℕ) (h : Head) (places : List ℕ) → length (lapsed n h places).places ≡ length places
unfolding lapsed
lapsed-long n h places =
    pick-keeps (λ (x : Lapse). length x.places ≡ length places) (eqb n 0)
    (record { answer = lapsed_by h (expired_head (sizes_of h.sender.mode) rail h.sender places); places = expired_words (sizes_of h.sender.mode) rail h.sender places })
    (record { answer = refused_with h n; places = places })
    (expired-long (sizes_of h.sender.mode) rail h.sender places) refl

-- a state that waits for nothing asks for nothing again
pub asks-nothing : (s : State) (a : Association) → ((n : ℕ) → s ≡ CookieWait n → ⊥) → ((n : ℕ) → s ≡ CookieEchoed n → ⊥) → ((n : ℕ) → s ≡ ShutdownSent n → ⊥) → ((n : ℕ) → s ≡ ShutdownAckSent n → ⊥)
    → ◌≡◌ {A = Plan} (repeating s a) (quietly a)
asks-nothing Closed a w e t k = refl
asks-nothing (CookieWait n) a w e t k = absurd (w n refl)
asks-nothing (CookieEchoed n) a w e t k = absurd (e n refl)
asks-nothing Established a w e t k = refl
asks-nothing ShutdownPending a w e t k = refl
asks-nothing (ShutdownSent n) a w e t k = absurd (t n refl)
asks-nothing ShutdownReceived a w e t k = refl
asks-nothing (ShutdownAckSent n) a w e t k = absurd (k n refl)
