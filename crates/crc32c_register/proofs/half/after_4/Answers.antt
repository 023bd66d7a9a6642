use Rattle.std.proofs.Common.{ℕ, ◌/◌, ◌%◌, refl, sym, ap, ◌∙◌, arith}
use Rattle.std.specs.Int.Bits.{bit_xor}
use Rattle.crc32c_register.specs.RegisterLaws.{bits-split}
use Rattle.crc32c_register.specs.TablesLaws.{listed-entry}
use Rattle.crc32c_register.proofs.half.after_4.Goals as goal

pub returns : goal.returns
returns c =
    let x = c.args.c in
    ap (λ (r : ℕ). bit_xor r (x / 16)) (listed-entry 16 4 refl (x % 16) (omega arith)) ∙ sym (bits-split 4 x)
