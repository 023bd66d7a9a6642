-- Each call takes a record that passes the bounds' test to one that passes it. Assumes nothing.
use Rattle.std.specs.Prelude.{◌≡◌, ℕ, ◌^◌, ◌<◌, ◌≤◌, Bool, true}
use Rattle.std.proofs.Common.{sym, ◌∙◌, arith}
use Rattle.numbers.specs.declared.circle.Tsn.{Tsn}
use Rattle.numbers.specs.declared.circle.StreamId.{StreamId}
use Rattle.numbers.specs.Profile.{Profile}
use Rattle.path.specs.Sizes.{Sizes, SizesFair, rail_sizes, sizes_of}
use Rattle.sending.specs.declared.sending.Sending.{Sending}
use Rattle.sending.specs.Sending.{fresh_sending, sending_sampled, sending_backed_off, sending_heard}
use Rattle.sending.specs.HandIn.{handed_in}
use Rattle.sending.specs.Choose.{packet_filled}
use Rattle.sending.specs.Expiry.{sending_expired}
use Rattle.sending.specs.SendingBounds.{is_sending_within, SendingSound}
use Rattle.sending.specs.SendingBoundsLaws.{sending-test-sound, sending-sound-test, same-within}
use Rattle.sending.specs.SoundLaws.{fresh-sending-sound, sampled-sound, doubled-sound, heard-sound, expired-sound}
use Rattle.sending.specs.ChooseSoundLaws.{filled-sound}
use Rattle.sending.specs.HandInSoundLaws.{handed-sound}
use Rattle.sending.specs.TypedLaws.{SendingWhole, fresh-whole, sampled-whole, doubled-whole, heard-whole, expired-whole, filled-whole, handed-whole}

-- a record as its types have it, that passes the test
pub record SendingKept (z : Sizes) (P : Profile) (s : Sending) : Type 0 where
  pub whole : SendingWhole P s
  pub within : is_sending_within z P s ≡ true

-- kept in one book is kept in the other
pub kept-book : (m : ℕ) (P : Profile) (s : Sending) → SendingKept rail_sizes P s → SendingKept (sizes_of m) P s
kept-book m P s k = record { whole = k.whole; within = same-within m P s ∙ k.within }

pub kept-rail : (m : ℕ) (P : Profile) (s : Sending) → SendingKept (sizes_of m) P s → SendingKept rail_sizes P s
kept-rail m P s k = record { whole = k.whole; within = sym (same-within m P s) ∙ k.within }

module _ (z : Sizes) (P : Profile) where
  pub whole-kept : (s : Sending) → SendingWhole P s → SendingSound z P s → SendingKept z P s
  whole-kept s w v = record { whole = w; within = sending-sound-test z P s (omega (arith, w.long)) v }

  module _ (f : SizesFair z) where
    pub fresh_kept : (t : Tsn) (window m : ℕ) → m ≤ 1 → P.places < 2 ^ 30 → t.0 < 2 ^ 32 → SendingKept z P (fresh_sending z P t window m)
    fresh_kept t window m b few h = whole-kept (fresh_sending z P t window m) (fresh-whole z P t window m few h) (fresh-sending-sound z P f t window m b h)

    module _ (s : Sending) (k : SendingKept z P s) where
      pub sound : SendingSound z P s
      sound = sending-test-sound z P s k.within

      pub expired-kept : SendingKept z P (sending_expired z s).sending
      expired-kept = whole-kept (sending_expired z s).sending (expired-whole P s k.whole z) (expired-sound z P f s sound)

      pub sampled-kept : (sample : ℕ) → SendingKept z P (sending_sampled z s sample)
      sampled-kept sample = whole-kept (sending_sampled z s sample) (sampled-whole P s k.whole z sample) (sampled-sound z P f s sound sample)

      pub doubled-kept : SendingKept z P (sending_backed_off z s)
      doubled-kept = whole-kept (sending_backed_off z s) (doubled-whole P s k.whole z) (doubled-sound z P f s sound)

      pub heard-kept : SendingKept z P (sending_heard s)
      heard-kept = whole-kept (sending_heard s) (heard-whole P s k.whole) (heard-sound z P f s sound)

      pub filled-kept : SendingKept z P (packet_filled z P s).sending
      filled-kept = whole-kept (packet_filled z P s).sending (filled-whole z P s sound k.whole) (filled-sound z P s sound k.whole.typed)

      pub handed-kept : 0 < P.payload → (len : ℕ) (stream : StreamId) (unordered : Bool) (ppid streams : ℕ) → SendingKept z P (handed_in P s len stream unordered ppid streams).sending
      handed-kept paid len stream unordered ppid streams =
          whole-kept (handed_in P s len stream unordered ppid streams).sending (handed-whole P s k.whole len stream unordered ppid streams)
          (handed-sound z P paid s sound k.whole.typed len stream unordered ppid streams)
