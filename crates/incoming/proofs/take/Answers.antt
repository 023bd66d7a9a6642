use mathlib.Core.Path.{◌≡◌}
use Prim.Native.Nat.{◌*◌, ◌≤◌}
use native.Mathlib.Omega.{arith}
use lib.ListN.{length}
use Rattle.numbers.specs.Profile.{rail}
use Rattle.reception.specs.ReceptionLaws.{words-taken}
use borrow.Author.Rules.{rules}
use Rattle.incoming.proofs.take.Goals as goal

pub returns : goal.returns
returns c = let r = c.args.r in let e = c.take-answer.ensures in let l : length r.held ≡ 512 = search (rules, c.well_formed) in let n : length r.next ≡ 128 = search (rules, c.well_formed) in let m : 4 * 128 ≤ length r.held = omega (arith, l) in let o : 128 ≤ length r.next = omega (arith, n) in (rw (e.0, e.1, e.2), rw (e.0, e.1, e.2) (words-taken rail r.keeping r.held r.next _ m o), e.3)
