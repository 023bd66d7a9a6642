use Rattle.std.proofs.Common.{◌≡◌, ◌/◌, ◌∙◌}
use Rattle.scans.specs.Upto.{larger}
use Rattle.path.specs.Sizes.{sizes_of}
use Rattle.path.specs.Control.{halved}
use Rattle.scans.specs.Upto.{max-larger}
use Rattle.path.proofs.control.Control.halved.Goals as goal

pub returns : goal.returns
unfolding halved
returns c = let e : c.max-half.result ≡ larger (c.args.self.cwnd / 2) (sizes_of c.args.mode).floor = rw c.of.ensures at (c.max-half.ensures ∙ max-larger _ _) in rw e
