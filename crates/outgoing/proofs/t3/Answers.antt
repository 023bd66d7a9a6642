use mathlib.Core.Path.{◌≡◌}
use Rattle.std.specs.Prelude.{Some, None, Ok, Err}
use Prim.Native.Nat.{◌*◌, ◌≤◌}
use native.Mathlib.Omega.{arith}
use lib.ListN.{length}
use Rattle.numbers.specs.Profile.{rail}
use Rattle.path.specs.Sizes.{sizes_of}
use Rattle.acks.specs.AcksLaws.{expired-shows}
use borrow.Author.Rules.{rules}
use Rattle.outgoing.proofs.t3.Goals as goal

pub returns-in-Ok-Some : goal.returns-in-Ok-Some
returns-in-Ok-Some c = let r = c.args.r in let e = c.t3.ensures in let q : c.t3.result ≡ Ok (Some c.in-Ok-Some.after) = cc in let v = rw q at e.value in let l : length r.places ≡ 1024 = search rules in let m : 8 * 128 ≤ length r.places = omega (arith, l) in (rw (← v, e.t_after), rw (e.t_after) (rw (← v) at (expired-shows (sizes_of r.head.mode) rail r.head r.places r.next m)))

pub returns-in-Ok-None : goal.returns-in-Ok-None
returns-in-Ok-None c = let r = c.args.r in let e = c.t3.ensures in let q : c.t3.result ≡ Ok None = cc in let v = rw q at e.value in let l : length r.places ≡ 1024 = search rules in let m : 8 * 128 ≤ length r.places = omega (arith, l) in (rw (← v, e.t_after), rw (e.t_after) (rw (← v) at (expired-shows (sizes_of r.head.mode) rail r.head r.places r.next m)))

pub returns-in-Err : goal.returns-in-Err
returns-in-Err c = let r = c.args.r in let e = c.t3.ensures in let q : c.t3.result ≡ Err c.in-Err.refusal = cc in let v = rw q at e.value in let l : length r.places ≡ 1024 = search rules in let m : 8 * 128 ≤ length r.places = omega (arith, l) in (rw (c.number.ensures, ← v, e.t_after), rw (c.number.ensures, e.t_after) (rw (← v) at (expired-shows (sizes_of r.head.mode) rail r.head r.places r.next m)))
