-- "Read both ways, with one meaning": an INIT or INIT ACK that is accepted is accepted too where its length counts the padding of its
-- last parameter, and all that is read of it is the same. Assumes nothing.
use Rattle.std.specs.Prelude.{ℕ, ◌≤◌, ◌≡◌, true, List, length}
use Rattle.std.proofs.Common.{sym, ◌∙◌}
use Rattle.octets.specs.Bytes.{u8, u16, up4}
use Rattle.octets.specs.Padding.{counting, AllInside}
use Rattle.packets.specs.ShapeLaws.{Accepted}
use Rattle.packets.specs.BodyLaws.{is_initial}
use Rattle.packets.specs.Shape.{params}
use Rattle.packets.specs.PacketPaddingLaws.{params_are, initial-long, initial-inside, accepted-counting}
use Rattle.parameters.specs.Parameter.{params_of}
use Rattle.parameters.specs.ParameterPaddingLaws.{InitAlike, params-from, counting-alike}

module _ (s : List ℕ) (a : Accepted s) (i : is_initial (u8 s 0) ≡ true) (h : up4 (u16 s 2) ≤ length s) where
  pub both_ways : Accepted (counting s) × InitAlike s (counting s)
  both_ways =
      let p : params s ≡ params_of s = params_are s ∙ sym (params-from s (initial-long s a i) a.within) in
      let w : AllInside (params_of s) = rw p at (initial-inside s a i) in
      (accepted-counting s a i h, counting-alike s (initial-long s a i) h w)
