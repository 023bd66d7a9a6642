use Rattle.sending.specs.SendingTableLaws.{heard-is}
use Rattle.sender.proofs.Sender.heard.Goals as goal

pub returns : goal.returns
returns c = rw (c.heard-self.ensures, heard-is _)
