use mathlib.Core.Path.{◌≡◌}
use Prim.Native.Nat.{◌*◌, ◌≤◌, ◌<◌}
use native.Mathlib.Omega.{arith}
use lib.ListN.{length}
use Rattle.numbers.specs.Profile.{rail}
use Rattle.messages.specs.MessageWordsLaws.{handed-shows, area-shows}
use borrow.Author.Rules.{rules}
use Rattle.outgoing.proofs.hand_in.Goals as goal

pub returns-in-Ok : goal.returns-in-Ok
returns-in-Ok c = let a = c.args in let r = a.r in let e = c.hand_in-answer.ensures in let v = rw c.in-Ok.is at e.value in let l : length r.places ≡ 1024 = search (rules, c.well_formed) in let m : 8 * 128 ≤ length r.places = omega (arith, l) in let s : a.stream.0 < 65536 = search (rules, c.well_formed) in let p : a.ppid < 4294967296 = search (rules, c.well_formed) in (rw (← v, e.t_after), rw e.t_after (rw (← v) at (handed-shows rail r.head r.places r.next (length a.message.now) a.stream a.unordered a.ppid a.streams m (omega arith) s p)), rw e.area_after (area-shows rail r.head r.places r.next _ _ a.stream a.streams))

pub returns-in-Err : goal.returns-in-Err
returns-in-Err c = let a = c.args in let r = a.r in let e = c.hand_in-answer.ensures in let v = rw c.in-Err.is at e.value in let l : length r.places ≡ 1024 = search (rules, c.well_formed) in let m : 8 * 128 ≤ length r.places = omega (arith, l) in let s : a.stream.0 < 65536 = search (rules, c.well_formed) in let p : a.ppid < 4294967296 = search (rules, c.well_formed) in (rw (c.number.ensures, ← v, e.t_after), rw (c.number.ensures, e.t_after) (rw (← v) at (handed-shows rail r.head r.places r.next (length a.message.now) a.stream a.unordered a.ppid a.streams m (omega arith) s p)), rw e.area_after (area-shows rail r.head r.places r.next _ _ a.stream a.streams))
