-- What bears on the head alone, against the definitions of the sending side. Assumes nothing.
use Rattle.std.specs.Prelude.{ℕ, ◌≡◌, List, replicate}
use Rattle.numbers.specs.declared.circle.Tsn.{Tsn}
use Rattle.numbers.specs.Profile.{Profile}
use Rattle.path.specs.Sizes.{Sizes}
use Rattle.tables.specs.ZerosLaws.{places-zeros, ssns-zeros}
use Rattle.sending.specs.Sending.{fresh_sending, sending_sampled, sending_backed_off, sending_heard}
use Rattle.sending.specs.SendingTableLaws.{fresh-sending-is, sampled-is, doubled-is, heard-is}
use Rattle.sender.specs.declared.Sender.{Sender}
use Rattle.sender.specs.Seen.{sending_shown, sender_head}

-- tables of zeros show a sending side that begins
pub fresh-sending-shown : (z : Sizes) (P : Profile) (t : Tsn) (window mode m n : ℕ) → sending_shown P (sender_head (fresh_sending z P t window mode)) (replicate m 0) (replicate n 0) ≡ fresh_sending z P t window mode
fresh-sending-shown z P t window mode m n = rw (fresh-sending-is z P t window mode, places-zeros P m, ssns-zeros P n)

-- the tables stay
module _ (P : Profile) (h : Sender) (ws ns : List ℕ) where
  pub sampled-seen : (z : Sizes) (sample : ℕ) → sending_sampled z (sending_shown P h ws ns) sample ≡ sending_shown P (sender_head (sending_sampled z (sending_shown P h ws ns) sample)) ws ns
  sampled-seen z sample = rw (sampled-is z (sending_shown P h ws ns) sample)

  pub doubled-seen : (z : Sizes) → sending_backed_off z (sending_shown P h ws ns) ≡ sending_shown P (sender_head (sending_backed_off z (sending_shown P h ws ns))) ws ns
  doubled-seen z = rw (doubled-is z (sending_shown P h ws ns))

  pub heard-seen : sending_heard (sending_shown P h ws ns) ≡ sending_shown P (sender_head (sending_heard (sending_shown P h ws ns))) ws ns
  heard-seen = rw (heard-is (sending_shown P h ws ns))
