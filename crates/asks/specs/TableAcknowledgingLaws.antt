-- What the call that builds a SACK over head and tables has to show. Assumes nothing.
use Rattle.std.specs.Prelude.{ℕ, ◌≡◌, List}
use Rattle.std.proofs.Common.{ap, ◌∙◌}
use Rattle.numbers.specs.Profile.{rail}
use Rattle.delivery.specs.declared.acknowledging.Acknowledged as whole
use Rattle.delivery.specs.ReceivingSack as receiving
use Rattle.reception.specs.declared.acknowledging.Acknowledged.{Acknowledged}
use Rattle.reception.specs.Reception.{receiving_shown, sacked}
use Rattle.reception.specs.ReceptionLaws.{words-sacked}
use Rattle.flat.specs.declared.head.Head.{Head}
use Rattle.flat.specs.Shown.{shown}

-- what is said, and the receiving side shown after it
pub sacked-in : (h : Head) (held next : List ℕ) {k : Acknowledged} → k ≡ sacked rail h.keeping held
    → ◌≡◌ {A = whole.Acknowledged} (record { sack = k.sack; receiving = receiving_shown rail k.keeping held next }) (receiving.acknowledged_receiving rail (receiving_shown rail h.keeping held next))
sacked-in h held next e =
    ap (λ (x : Acknowledged). record { sack = x.sack; receiving = receiving_shown rail x.keeping held next }) e ∙ words-sacked rail h.keeping held next
