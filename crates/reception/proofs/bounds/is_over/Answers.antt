use Prim.Native.Nat.{◌-◌, ◌≤◌}
use mathlib.Core.Path.{◌≡◌, ap, ◌∙◌}
use native.Mathlib.Omega.{arith}
use borrow.Author.Rules.{rules}
use lib.ListN.{length, drop}
use Rattle.std.proofs.Common.{length-drop, take_all}
use Rattle.numbers.specs.Come.{highest}
use Rattle.scans.specs.Scan.{any}
use Rattle.reception.specs.ReadLaws.{itself, any-highest, over-room}
use Rattle.reception.proofs.bounds.is_over.Goals as goal

pub returns : goal.returns
returns c =
    let n : length c.args.come.now ≡ 128 = search (rules, c.well_formed) in
    let l : length (drop (128 - c.args.low) c.args.come.now) ≤ 128 - (128 - c.args.low) = omega (arith, length-drop (128 - c.args.low) c.args.come.now, n) in
    c.has_come.ensures ∙ (ap (any itself) (take_all (128 - (128 - c.args.low)) (drop (128 - c.args.low) c.args.come.now) l) ∙ (any-highest c.args.come.now (128 - c.args.low) ∙ over-room 128 c.args.low (highest c.args.come.now) c.requires))
