-- Tables of zeros show a record that begins. Assumes nothing.
use Rattle.std.specs.Prelude.{ℕ, ◌^◌, ◌≡◌, replicate}
use Rattle.std.proofs.Common.{◌∙◌}
use Rattle.numbers.specs.declared.circle.Tsn.{Tsn}
use Rattle.numbers.specs.Numbering.{ring}
use Rattle.numbers.specs.Profile.{rail}
use Rattle.path.specs.Sizes.{sizes_of}
use Rattle.delivery.specs.ReceivingTableLaws.{fresh-receiving-is}
use Rattle.sending.specs.Sending.{fresh_sending}
use Rattle.reception.specs.ReceptionLaws.{fresh-receiving-shown}
use Rattle.sender.specs.SeenLaws.{fresh-sending-shown}
use Rattle.states.specs.declared.state.State.{State}
use Rattle.association.specs.declared.ends.Ends.{Ends}
use Rattle.association.specs.Fresh.{no_cookie, started, closed_at}
use Rattle.flat.specs.Shown.{association_head, shows, head_over_zeros}

pub started-shows : (s : State) (e : Ends) (ours : Tsn) (window : ℕ) (theirs : Tsn) (mode : ℕ) → shows (head_over_zeros (association_head (started s e ours window theirs mode))) ≡ started s e ours window theirs mode
started-shows s e ours window theirs mode =
    (λ p. shows (head_over_zeros (association_head (record { state = s; ends = e; cookie = no_cookie; receiving = fresh-receiving-is (ring (2 ^ 32)) rail theirs p; sending = fresh_sending (sizes_of mode) rail ours window mode }))))
    ∙ (λ p. record {
      state = s;
      ends = e;
      cookie = no_cookie;
      receiving = fresh-receiving-shown (ring (2 ^ 32)) rail theirs 512 128 p;
      sending = fresh-sending-shown (sizes_of mode) rail ours window mode 1024 128 p;
    })

pub closed-shows : (port mode : ℕ) → shows (head_over_zeros (association_head (closed_at port mode))) ≡ closed_at port mode
closed-shows port mode = started-shows _ _ (record { 0 = 1 }) 0 _ mode
