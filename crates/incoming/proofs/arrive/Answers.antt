use mathlib.Core.Path.{◌≡◌}
use Prim.Native.Nat.{◌*◌, ◌≤◌}
use native.Mathlib.Omega.{arith}
use lib.ListN.{length}
use Rattle.numbers.specs.Numbering.{circles}
use Rattle.numbers.specs.Profile.{rail}
use Rattle.holding.specs.Held.{as_held}
use Rattle.reception.specs.ReceptionLaws.{Fitting, words-arrived}
use borrow.Author.Rules.{rules}
use Rattle.incoming.proofs.arrive.Goals as goal

pub returns : goal.returns
returns c = let r = c.args.r in let k = c.args.c in let e = c.arrive-came.ensures in let l : length r.held ≡ 512 = search (rules, c.well_formed) in let m : 4 * 128 ≤ length r.held = omega (arith, l) in let f : Fitting (as_held k (length c.args.payload.now)) = record { tsn = search (rules, c.well_formed.1.1.0); stream = search (rules, c.well_formed.1.1.0); ssn = search (rules, c.well_formed.1.1.0); ppid = search (rules, c.well_formed.1.1.0) } in (rw (e.0, e.1), rw (e.0, e.1) (words-arrived circles rail r.keeping r.held r.next (as_held k (length c.args.payload.now)) c.args.streams m (omega arith) f), e.2)
