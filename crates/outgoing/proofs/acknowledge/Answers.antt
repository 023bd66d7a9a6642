use mathlib.Core.Path.{◌≡◌}
use Prim.Native.Nat.{◌*◌, ◌≤◌}
use native.Mathlib.Omega.{arith}
use lib.ListN.{length}
use Rattle.numbers.specs.Profile.{rail}
use Rattle.path.specs.Sizes.{sizes_of}
use Rattle.sending.specs.Acknowledge.{whole_sack}
use Rattle.acks.specs.AcksLaws.{acked-shows}
use borrow.Author.Rules.{rules}
use Rattle.outgoing.proofs.acknowledge.Goals as goal

pub returns-in-Ok : goal.returns-in-Ok
returns-in-Ok c = let r = c.args.r in let e = c.acknowledge.ensures in let l : length r.places ≡ 1024 = search rules in let m : 8 * 128 ≤ length r.places = omega (arith, l) in let w = acked-shows (sizes_of r.head.mode) rail r.head r.places r.next m (whole_sack c.args.point c.args.window c.args.blocks) in let v = rw c.in-Ok.is at e.value in (rw (← v, e.t_after), rw e.t_after (rw (← v) at w))

pub returns-in-Err : goal.returns-in-Err
returns-in-Err c = let r = c.args.r in let e = c.acknowledge.ensures in let l : length r.places ≡ 1024 = search rules in let m : 8 * 128 ≤ length r.places = omega (arith, l) in let w = acked-shows (sizes_of r.head.mode) rail r.head r.places r.next m (whole_sack c.args.point c.args.window c.args.blocks) in let v = rw c.in-Err.is at e.value in (rw (c.number-number.ensures, ← v, e.t_after), rw (c.number-number.ensures, e.t_after) (rw (← v) at w))
