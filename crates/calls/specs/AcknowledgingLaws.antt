-- What the call that builds a SACK has to show. Assumes nothing.
use Rattle.std.specs.Prelude.{ℕ, ◌≡◌, List}
use Rattle.std.proofs.Math.Path.{ap}
use Rattle.std.proofs.Common.{◌∙◌}
use borrow.Author.Tests.{eq-eqb}
use Rattle.numbers.specs.Profile.{rail}
use Rattle.chunks.specs.declared.sack.Sack.{Sack}
use Rattle.chunks.specs.SackChunk.{sack_bytes}
use Rattle.delivery.specs.declared.acknowledging.Acknowledged as told
use Rattle.delivery.specs.ReceivingSack.{acknowledged_receiving}
use Rattle.states.specs.declared.call.Call.TheVariants.{Acknowledge}
use Rattle.association.specs.declared.ends.Association.{Association}
use Rattle.association.specs.Fresh.{with_receiving}
use Rattle.calls.specs.declared.acknowledging.Acknowledged.{Acknowledged}
use Rattle.calls.specs.Packet.{to_peer, Sent, sent_length, sent_one}
use Rattle.calls.specs.Answer.{is_short_out, barred}
use Rattle.calls.specs.Acknowledging.{sack_values, acknowledged_call, acknowledged_out}

module _ (a : Association) {out exit : List ℕ} {n m : ℕ} {values : Sack} {k : told.Acknowledged} {b : Association} where
  pub sack-done : n ≡ barred a (is_short_out out) Acknowledge → n ≡ 0 → k ≡ acknowledged_receiving rail a.receiving → values ≡ sack_values k.sack
      → Sent (to_peer a.ends) (sack_bytes rail values) out m exit → b ≡ with_receiving a k.receiving
      → (◌≡◌ {A = Acknowledged} (record { number = 0; length = m; sack = values; association = b }) (acknowledged_call a out)) × (exit ≡ acknowledged_out a out)
  unfolding acknowledged_call acknowledged_out
  sack-done e z q v s w =
      let l : m ≡ sent_length (sack_bytes rail (sack_values k.sack)) out = s.count ∙ ap (λ (x : Sack). sent_length (sack_bytes rail x) out) v in
      let o : exit ≡ sent_one (to_peer a.ends) (sack_bytes rail (sack_values k.sack)) out = s.bytes ∙ ap (λ (x : Sack). sent_one (to_peer a.ends) (sack_bytes rail x) out) v in
      (rw (← e, eq-eqb n 0 z, ← q) (λ i. record { number = 0; length = l i; sack = v i; association = w i }), rw (← e, eq-eqb n 0 z, ← q) o)
