use mathlib.Core.Path.{◌≡◌}
use Prim.Native.Nat.{◌*◌, ◌≤◌, ◌<◌}
use native.Mathlib.Omega.{arith}
use lib.ListN.{length}
use Rattle.numbers.specs.Profile.{rail}
use Rattle.path.specs.Sizes.{rail_sizes}
use Rattle.choice.specs.FillLaws.{filled-shows}
use borrow.Author.Rules.{rules}
use Rattle.outgoing.proofs.choose.Goals as goal

pub returns : goal.returns
returns c = let r = c.args.r in let e = c.choose-filled.ensures in let l : length r.places ≡ 1024 = search (rules, c.well_formed) in let n : length r.next ≡ 128 = search (rules, c.well_formed) in let m : 8 * 128 ≤ length r.places = omega (arith, l) in let o : 128 ≤ length r.next = omega (arith, n) in let t : r.head.next_tsn.0 < 4294967296 = search (rules, c.well_formed) in (rw (e.head_value.0, e.head_value.1, e.t_after.0, e.t_after.1), rw (e.head_value.0, e.head_value.1, e.t_after.0, e.t_after.1) (filled-shows rail_sizes rail r.head r.places r.next m o t))
