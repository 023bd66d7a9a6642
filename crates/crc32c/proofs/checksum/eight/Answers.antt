use Rattle.std.proofs.Common.{◌≡◌, ℕ, ◌∙◌, length, get_or, arith, rules}
use Rattle.std.specs.Int.Bits.{bit_xor}
use Rattle.crc32c_register.specs.Register.{word}
use Rattle.crc32c_register.specs.RegisterLaws.{crc-words, crc-next8, crc-end}
use Rattle.crc32c.proofs.checksum.eight.Goals as goal

pub returns : goal.returns
returns c =
    let s = c.args.bytes.now in
    let long : length s ≡ 8 = search rules in
    let b : ℕ → ℕ = λ k. get_or s k 0 in
    let later : c.from_le_bytes-later.result ≡ word (b 4) (b 5) (b 6) (b 7) = search rules in
    let sooner : c.from_le_bytes-sooner.result ≡ word (b 0) (b 1) (b 2) (b 3) = search rules in
    let v : ℕ = bit_xor c.four_looks.result c.four_looks-2.result in
    crc-end v s 8 (omega arith)
    ∙ crc-next8 c.args.c v s 0 (omega arith)
    (rw (c.four_looks.ensures, c.four_looks-2.ensures, later, sooner)
    (crc-words c.args.c (b 0) (b 1) (b 2) (b 3) (b 4) (b 5) (b 6) (b 7) (search rules) (search rules) (search rules) (search rules) (search rules) (search rules)))
