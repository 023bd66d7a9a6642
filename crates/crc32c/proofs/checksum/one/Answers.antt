use Rattle.std.proofs.Common.{ap, ◌∙◌}
use Rattle.crc32c_register.specs.Register.{bits}
use Rattle.crc32c_register.specs.RegisterLaws.{crc-halves}
use Rattle.crc32c.proofs.checksum.one.Goals as goal

pub returns : goal.returns
returns c =
    c.after_4-2.ensures ∙ ap (bits 4) c.after_4.ensures ∙ (rw c.from.ensures (crc-halves c.args.c c.args.b))
