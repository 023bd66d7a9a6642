use Rattle.std.proofs.Common.{◌≡◌, ◌-◌, ◌≤◌, false, length, take}
use Rattle.octets.specs.WalkLaws.{ItemsFolding}
use Rattle.parameters.specs.Report.{gather_one}
use Rattle.parameters.proofs.report.gather.Given as goal

abbrev pub invariant-loop-at : goal.invariant-loop-at
invariant-loop-at l = record {
  within : l.n ≤ length l.buf;
  long : length l.buf ≡ length l.initial.buf;
  folding : ItemsFolding (gather_one (length l.initial.buf) l.wrapped) l.b (record { bytes = take l.initial.n l.initial.buf; done = false }) 0 (record { bytes = take l.n l.buf; done = false }) l.at;
}

abbrev pub decreases-loop-at : goal.decreases-loop-at
decreases-loop-at l = length l.b - l.at
