use Rattle.arriving.specs.ReplyLaws.{complete-is}
use Rattle.landing.proofs.reply.write_complete.Goals as goal

pub returns : goal.returns
returns c = complete-is c.args.scratch.now c.args.reflected c.requires c.write_shutdown_complete.ensures
