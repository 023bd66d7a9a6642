use Rattle.std.proofs.Common.{arith}
use Rattle.octets.specs.WritingLaws.{wrote-long}
use Rattle.chunks.specs.Cause.{caused}
use Rattle.chunks.specs.FrameLaws.{framed-long}
use Rattle.chunks.proofs.cause.write_caused.Goals as goal

pub returns-then-info-gt-MOST : goal.returns-then-info-gt-MOST
returns-then-info-gt-MOST c = wrote-long (framed-long c.args.kind c.args.flags (caused c.args.code c.args.info.now)) (omega arith)
