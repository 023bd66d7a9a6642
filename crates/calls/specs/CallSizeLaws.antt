-- "sent packet at most 548": what `transmit` answers, and that it writes no byte behind. Assumes nothing.
use Rattle.std.specs.Prelude.{ℕ, ◌+◌, ◌*◌, ◌≤◌, ◌≡◌, Bool, true, false, ltb, eqb, length, take, get_or}
use Rattle.std.proofs.Math.Path.{refl}
use Rattle.std.proofs.Common.{ap, ◌∙◌, arith, length-take}
use mathlib.Core.List.{List, [], ◌∷◌}
use Rattle.std.proofs.Math.ListN.{drop}
use Rattle.scans.specs.Scan.{pick, fold_from}
use Rattle.scans.specs.Upto.{pick-keeps}
use Rattle.numbers.specs.Profile.{rail}
use Rattle.octets.specs.BytesLaws.{drop_past}
use Rattle.octets.specs.WritingLaws.{WroteAt, stayed, written, wrote_at}
use Rattle.packets.specs.HeaderLaws.{seal-most, seal-past}
use Rattle.chunks.specs.DataLaws.{data-size}
use Rattle.path.specs.Sizes.{rail_sizes}
use Rattle.places.specs.declared.place.Place.{Place}
use Rattle.sending.specs.declared.choosing.Chosen.{Chosen}
use Rattle.sending.specs.Sending.{no_place}
use Rattle.sending.specs.Choose.{size_of, packet_filled}
use Rattle.sending.specs.SendingSizeLaws.{size_at, sizes_from, filled-fits}
use Rattle.association.specs.declared.ends.Association.{Association}
use Rattle.calls.specs.declared.transmitting.Transmitted.{Transmitted}
use Rattle.calls.specs.Packet.{to_peer}
use Rattle.calls.specs.Transmit.{data_sent, chunk_bytes, Bundle, added, added_chosen, bundled, bundle_length, bundle_out, transmit_bar, transmitted, transmitted_out}

-- ---- one chunk

pub chunk-most : (area : List ℕ) (p : Place) (i : ℕ) → length (chunk_bytes area p i) ≤ size_of p
unfolding chunk_bytes
chunk-most area p i =
    let b : List ℕ = take p.chunk.len (drop (512 * i) area) in
    let l : length b ≤ p.chunk.len = omega (arith, length-take p.chunk.len (drop (512 * i) area)) in
    omega (arith, data-size (data_sent p.chunk) b)

-- t ends by m, and what stands from m on is what stood there
record Ends (m : ℕ) (out : List ℕ) (t : Bundle) : Type 0 where
  by : t.at ≤ m
  rest : drop m t.out ≡ drop m out

added-ends : (m : ℕ) (out area : List ℕ) (p : Place) (i : ℕ) (t : Bundle) → t.at + size_of p ≤ m → Ends m out t → ((added area p i t).at ≤ t.at + size_of p) × Ends m out (added area p i t)
unfolding added
added-ends m out area p i t h w = go (wrote_at t.out t.at (chunk_bytes area p i))
  where
    go : {n : ℕ} {x : List ℕ} → WroteAt t.out t.at (chunk_bytes area p i) n x → (t.at + n ≤ t.at + size_of p) × Ends m out (record { at = t.at + n; out = x })
    go (stayed z e) = (omega arith, record { by = omega arith; rest = ap (λ (l : List ℕ). drop m l) e ∙ w.rest })
    go (written l c e) =
        let k = chunk-most area p i in
        (omega arith, record { by = omega arith; rest = ap (λ (l : List ℕ). drop m l) e ∙ (drop_past (chunk_bytes area p i) t.out t.at m (omega arith) ∙ w.rest) })

-- ---- the packet

bundle-ends : (m : ℕ) (out area : List ℕ) (n : ℕ) (ps : List Place) (is : List ℕ) (j : ℕ) (t : Bundle) → t.at + sizes_from ps n j is ≤ m → Ends m out t
    → Ends m out (fold_from (added_chosen area n ps) t j is)
bundle-ends m out area n ps [] j t h w = w
bundle-ends m out area n ps (i ∷ is) j t h w = go (ltb j n) h (bundle-ends m out area n ps is (j + 1))
  where
    go : (b : Bool) → t.at + (pick b (size_at ps i) 0 + sizes_from ps n (j + 1) is) ≤ m
        → ((u : Bundle) → u.at + sizes_from ps n (j + 1) is ≤ m → Ends m out u → Ends m out (fold_from (added_chosen area n ps) u (j + 1) is))
        → Ends m out (fold_from (added_chosen area n ps) (pick b (added area (get_or ps i no_place) i t) t) (j + 1) is)
    go true h ih =
        let a = added-ends m out area (get_or ps i no_place) i t (omega arith) w in
        ih (added area (get_or ps i no_place) i t) (omega (arith, a.0)) a.1
    go false h ih = ih t (omega arith) w

bundled-ends : (m : ℕ) (area : List ℕ) (f : Chosen) (out : List ℕ) → 12 + sizes_from f.sending.places f.count 0 f.places ≤ m → Ends m out (bundled area f out)
unfolding bundled
bundled-ends m area f out h = bundle-ends m out area f.count f.sending.places f.places 0 (record { at = 12; out = out }) h (record { by = omega arith; rest = refl })

module _ (a : Association) (area out : List ℕ) where
  packet-ends : Ends 548 out (bundled area (packet_filled rail_sizes rail a.sending) out)
  packet-ends = bundled-ends 548 area (packet_filled rail_sizes rail a.sending) out (omega (arith, filled-fits rail_sizes rail a.sending))

  pub packet-short : (bundled area (packet_filled rail_sizes rail a.sending) out).at ≤ 548
  packet-short = packet-ends.by

  length_most : (b : Bundle) → b.at ≤ 548 → bundle_length b ≤ 548
  unfolding bundle_length
  length_most b h = pick-keeps (λ (n : ℕ). n ≤ 548) (ltb 12 b.at) _ 0 (omega (arith, seal-most b.at b.out)) (omega arith)

  out-rest : (b : Bundle) → Ends 548 out b → drop 548 (bundle_out (to_peer a.ends) b) ≡ drop 548 out
  unfolding bundle_out
  out-rest b w =
      pick-keeps (λ (x : List ℕ). drop 548 x ≡ drop 548 out) (ltb 12 b.at) _ _ (seal-past (to_peer a.ends) b.at b.out 548 w.by ∙ w.rest) w.rest

  pub transmit-most : (transmitted a area out).length ≤ 548
  unfolding transmitted
  transmit-most = pick-keeps (λ (x : Transmitted). x.length ≤ 548) (eqb (transmit_bar a area out) 0) _ _ (length_most _ packet-ends.by) (omega arith)

  pub transmit-rest : drop 548 (transmitted_out a area out) ≡ drop 548 out
  unfolding transmitted_out
  transmit-rest = pick-keeps (λ (x : List ℕ). drop 548 x ≡ drop 548 out) (eqb (transmit_bar a area out) 0) _ out (out-rest _ packet-ends) refl
