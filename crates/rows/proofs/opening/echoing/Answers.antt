use Prim.Native.Nat.{◌^◌}
use Rattle.std.proofs.Common.{arith, ◌≡◌}
use Rattle.std.proofs.lemmas.Grind.{common_steps}
use Rattle.scans.specs.Upto.{smaller}
use Rattle.numbers.specs.Numbering.{ring}
use Rattle.numbers.specs.Profile.{rail}
use Rattle.delivery.specs.ReceivingTableLaws.{fresh-receiving-is}
use Rattle.steps.specs.Opening.{echoing}
use Rattle.rows.proofs.opening.echoing.Goals as goal

pub returns : goal.returns
unfolding echoing
returns c =
    let ins : c.min.result ≡ smaller 128 c.args.v.outs = grind (arith, common_steps) in
    let outs : c.min-2.result ≡ smaller c.args.head.ends.streams_out c.args.v.ins = grind (arith, common_steps) in
    rw (ins, outs, c.fresh.ensures, fresh-receiving-is (ring (2 ^ 32)) rail _)
