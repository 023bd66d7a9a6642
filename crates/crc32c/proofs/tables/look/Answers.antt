use Rattle.std.proofs.Common.{refl, arith}
use Rattle.crc32c_register.specs.TablesLaws.{tabled-entry}
use Rattle.crc32c.proofs.tables.look.Goals as goal

pub returns : goal.returns
returns c = tabled-entry 256 8 8 refl c.args.table _ c.requires (omega arith)
