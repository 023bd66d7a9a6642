-- What the sender of one chunk has to show. Assumes nothing.
use Rattle.std.specs.Prelude.{ℕ, ◌+◌, ◌-◌, ◌≤◌, ◌≡◌, length, take, drop}
use Rattle.std.proofs.Math.Path.{ap}
use Rattle.std.proofs.Common.{◌∙◌}
use mathlib.Core.List.{List, ◌++◌}
use Rattle.octets.specs.BytesLaws.{part-is}
use Rattle.octets.specs.Writing.{Wrote, wrote_count, bytes_wrote_at}
use Rattle.octets.specs.WritingLaws.{wrote-part, wrote-few}
use Rattle.packets.specs.declared.header.Header.{Header}
use Rattle.packets.specs.Header.{seal_count, seal_bytes}
use Rattle.calls.specs.Packet.{sent_length, sent_one, Sent}

-- a writer at work behind the header's 12 bytes
module _ (xs : List ℕ) {bs ys : List ℕ} {r : ℕ} (h : 12 ≤ length xs) (w : Wrote (take (length xs - 12) (drop 12 xs)) bs r ys) where
  pub one-small : r ≤ 65532
  one-small = wrote-few w

  one-count : r ≡ wrote_count (drop 12 xs) bs
  one-count = w.count ∙ ap (λ (l : List ℕ). wrote_count l bs) (part-is xs 12)

  pub sent-one : {j k : Header} {cs mid exit : List ℕ} {n : ℕ} → bs ≡ cs → j ≡ k → mid ≡ take 12 xs ++ (ys ++ drop (length xs - 12) (drop 12 xs))
      → (n ≡ seal_count (12 + r) mid) × (exit ≡ seal_bytes j (12 + r) mid) → Sent k cs xs n exit
  unfolding sent_length sent_one
  sent-one {j} {k} {cs} {mid} {exit} {n} b q m s =
      let e : mid ≡ bytes_wrote_at xs 12 cs = m ∙ wrote-part 12 xs h w ∙ ap (λ (l : List ℕ). bytes_wrote_at xs 12 l) b in
      let t : r ≡ wrote_count (drop 12 xs) cs = one-count ∙ ap (λ (l : List ℕ). wrote_count (drop 12 xs) l) b in
      record {
        count = s.0 ∙ (λ i. seal_count (12 + t i) (e i));
        bytes = s.1 ∙ (λ i. seal_bytes (q i) (12 + t i) (e i));
      }

pub sent-as : {h k : Header} {bs cs out exit : List ℕ} {n : ℕ} → h ≡ k → bs ≡ cs → Sent h bs out n exit → Sent k cs out n exit
sent-as {h} {k} {bs} {cs} {out} q b s = record {
  count = s.count ∙ ap (λ (l : List ℕ). sent_length l out) b;
  bytes = s.bytes ∙ (λ i. sent_one (q i) (b i) out);
}
