-- What is answered over a head, whatever its tables, is what `calls` answers over the record that they show. Assumes nothing.
use Rattle.std.specs.Prelude.{ℕ, ◌≡◌}
use Rattle.std.proofs.Math.Path.{ap}
use Rattle.std.proofs.Common.{◌∙◌}
use mathlib.Core.List.{List, []}
use Rattle.numbers.specs.Profile.{rail}
use Rattle.path.specs.Sizes.{rail_sizes}
use Rattle.sending.specs.Sending.{sending_sampled}
use Rattle.sending.specs.SendingTableLaws.{doubled-is, sampled-is}
use Rattle.sender.specs.declared.Sender.{Sender}
use Rattle.sender.specs.Seen.{sending_shown, sender_head}
use Rattle.states.specs.declared.state.State.{State}
use Rattle.association.specs.Fresh.{with_state, with_sending}
use Rattle.calls.specs.AnswerLaws.{Refused, LengthTold, Over}
use Rattle.calls.specs.Timers.{association_backed_off}
use Rattle.flat.specs.declared.head.Head.{Head}
use Rattle.flat.specs.Shown.{shown, bare, association_head}
use Rattle.asks.specs.TableAnswer.{Reply, answer_in, with_sender, refused_with, told_with, over_with}

module _ (h : Head) (held next places next_out kept : List ℕ) where
  module _ {r : Reply} where
    pub refused-in : {n : ℕ} → r ≡ refused_with h n → Refused (shown h held next places next_out kept) n (answer_in r held next places next_out kept)
    refused-in e = record { is = ap (λ (x : Reply). answer_in x held next places next_out kept) e }

    pub over-in : r ≡ over_with h → Over (shown h held next places next_out kept) (answer_in r held next places next_out kept)
    over-in e = record { is = ap (λ (x : Reply). answer_in x held next places next_out kept) e }

    pub told_in : {n : ℕ} → r ≡ told_with h n → LengthTold (shown h held next places next_out kept) n (answer_in r held next places next_out kept)
    told_in e = record { is = ap (λ (x : Reply). answer_in x held next places next_out kept) e }

  module _ {g : Head} where
    -- another state
    pub moved_in : (s : State) → g ≡ association_head (with_state (bare h) s) → shown g held next places next_out kept ≡ with_state (shown h held next places next_out kept) s
    moved_in s e = ap (λ (x : Head). shown x held next places next_out kept) e

    -- one try more
    pub backed-in : (s : State) → g ≡ association_head (association_backed_off (bare h) s) → shown g held next places next_out kept ≡ association_backed_off (shown h held next places next_out kept) s
    unfolding association_backed_off
    backed-in s e =
        ap (λ (x : Head). shown x held next places next_out kept) e
        ∙ rw (doubled-is rail_sizes (sending_shown rail h.sender [] []), doubled-is rail_sizes (sending_shown rail h.sender places next_out))

    -- a round trip measured
    pub sampled-in : (sample : ℕ) {s : Sender} → s ≡ sender_head (sending_sampled rail_sizes (sending_shown rail h.sender [] []) sample) → g ≡ with_sender h s
        → shown g held next places next_out kept ≡ with_sending (shown h held next places next_out kept) (sending_sampled rail_sizes (sending_shown rail h.sender places next_out) sample)
    sampled-in sample {s} q e =
        ap (λ (x : Head). shown x held next places next_out kept) e
        ∙ (ap (λ (x : Sender). shown (with_sender h x) held next places next_out kept) q
        ∙ rw (sampled-is rail_sizes (sending_shown rail h.sender [] []) sample, sampled-is rail_sizes (sending_shown rail h.sender places next_out) sample))
