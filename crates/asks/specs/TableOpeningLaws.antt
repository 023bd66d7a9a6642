-- What our own INIT over head and tables has to show. Assumes nothing.
use Rattle.std.specs.Prelude.{ℕ, ◌≡◌, List, eqb, length, replicate}
use Rattle.std.proofs.Common.{sym, ◌∙◌}
use Rattle.std.proofs.Math.Path.{ap}
use borrow.Author.Tests.{ne_eqb}
use Rattle.std.proofs.lemmas.List.{length-replicate}
use Rattle.scans.specs.Upto.{smaller, pick-keeps}
use Rattle.numbers.specs.declared.circle.Tsn.{Tsn}
use Rattle.states.specs.declared.state.State.TheVariants.{CookieWait}
use Rattle.states.specs.declared.call.Call.TheVariants.{Associate}
use Rattle.association.specs.declared.ends.Association.{Association}
use Rattle.association.specs.Bounds.{earlier}
use Rattle.calls.specs.Packet.{Sent, head_to_peer}
use Rattle.calls.specs.PacketLaws.{sent-as}
use Rattle.calls.specs.Answer.{is_short_out, barred, CallDone}
use Rattle.calls.specs.AnswerLaws.{told-as, done-sent, done_refused, done-so}
use Rattle.calls.specs.Opening.{init_bytes, wanting, associate_refusal, associating}
use Rattle.flat.specs.declared.head.Head.{Head}
use Rattle.flat.specs.Shown.{shown, bare, association_head}
use Rattle.flat.specs.ShownLaws.{started-shows}
use Rattle.asks.specs.TableAnswer.{Reply, answer_in, refused_with, told_with}
use Rattle.asks.specs.TableAnswerLaws.{refused-in, told_in}
use Rattle.asks.specs.TableOpening.{Tables, zero_tables, tables_after}

-- tables as long as a record's
pub record TablesLong (t : Tables) : Type 0 where
  pub held : length t.held ≡ 512
  pub next : length t.next ≡ 128
  pub places : length t.places ≡ 1024
  pub next_out : length t.next_out ≡ 128
  pub kept : length t.kept ≡ 256

-- stay so
pub tables-whole : (n : ℕ) (t : Tables) → TablesLong t → TablesLong (tables_after n t)
unfolding tables_after
tables-whole n t w =
    pick-keeps TablesLong (eqb n 0) zero_tables t
    (record { held = length-replicate {A = ℕ} 512 0; next = length-replicate {A = ℕ} 128 0; places = length-replicate {A = ℕ} 1024 0; next_out = length-replicate {A = ℕ} 128 0; kept = length-replicate {A = ℕ} 256 0 })
    w

-- two outcomes are one
pub tables-one : (t : Tables) {m n : ℕ} {u v : Tables} → m ≡ n → u ≡ tables_after m t → v ≡ tables_after n t → u ≡ v
tables-one t e x y = x ∙ (ap (λ (k : ℕ). tables_after k t) e ∙ sym y)

module _ (h : Head) (held next places next_out kept : List ℕ) (tag : ℕ) (tsn : Tsn) (port streams : ℕ) where
  -- a fresh head with tables of zeros
  begun : {g : Head} {hs is ps os ks : List ℕ} → g ≡ association_head (wanting (bare h) tag tsn port streams)
      → hs ≡ replicate 512 0 → is ≡ replicate 128 0 → ps ≡ replicate 1024 0 → os ≡ replicate 128 0 → ks ≡ replicate 256 0
      → shown g hs is ps os ks ≡ wanting (shown h held next places next_out kept) tag tsn port streams
  unfolding wanting
  begun e a b c d k =
      (λ i. shown (e i) (a i) (b i) (c i) (d i) (k i))
      ∙ started-shows (CookieWait 0)
      (record { local_port = h.ends.local_port; peer_port = port; my_tag = tag; peer_tag = 0; streams_in = 128; streams_out = smaller streams 128; options = 0 })
      tsn
      0
      (record { 0 = 1 })
      h.sender.mode

  module _ (out : List ℕ) {n : ℕ}
      (q : n ≡ earlier (barred (shown h held next places next_out kept) (is_short_out out) Associate) (associate_refusal h.ends.local_port tag port streams)) where
    pub opening-done : {g : Head} {r : Reply} {hs is ps os ks exit : List ℕ} {m : ℕ} → n ≡ 0 → g ≡ association_head (wanting (bare h) tag tsn port streams)
        → hs ≡ replicate 512 0 → is ≡ replicate 128 0 → ps ≡ replicate 1024 0 → os ≡ replicate 128 0 → ks ≡ replicate 256 0
        → Sent (head_to_peer g.ends 0) (init_bytes (bare g)) out m exit → r ≡ told_with g m
        → (CallDone (associating (shown h held next places next_out kept) tag tsn port streams out) out (answer_in r hs is ps os ks) exit)
        × (◌≡◌ {A = Tables} (record { held = hs; next = is; places = ps; next_out = os; kept = ks }) (tables_after r.number (record { held = held; next = next; places = places; next_out = next_out; kept = kept })))
    unfolding associating tables_after
    opening-done {g} {r} {hs} {is} {ps} {os} {ks} z e a b c d k s t =
        let o : shown g hs is ps os ks ≡ wanting (shown h held next places next_out kept) tag tsn port streams = begun e a b c d k in (
          done-so (shown h held next places next_out kept) _ q z
              (done-sent (wanting (shown h held next places next_out kept) tag tsn port streams) (sent-as (ap (λ (x : Association). head_to_peer x.ends 0) o) (ap (λ (x : Association). init_bytes x) o) s) (told-as o (told_in g hs is ps os ks t))),
          (λ i. record { held = a i; next = b i; places = c i; next_out = d i; kept = k i })
              ∙ ap (λ (x : Reply). tables_after x.number (record { held = held; next = next; places = places; next_out = next_out; kept = kept })) (sym t),
        )

    pub opening-refused : {r : Reply} → (n ≡ 0 → ⊥) → r ≡ refused_with h n
        → (CallDone (associating (shown h held next places next_out kept) tag tsn port streams out) out (answer_in r held next places next_out kept) out)
        × (◌≡◌ {A = Tables} (record { held = held; next = next; places = places; next_out = next_out; kept = kept }) (tables_after r.number (record { held = held; next = next; places = places; next_out = next_out; kept = kept })))
    unfolding associating tables_after
    opening-refused {r} z t = (
      done_refused (shown h held next places next_out kept) _ q z (refused-in h held next places next_out kept t),
      rw (ap (λ (x : Reply). x.number) t, ne_eqb n 0 z),
    )
