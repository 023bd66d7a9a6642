use Rattle.std.proofs.Common.{◌∙◌, ◌-◌, ap, false, get_or, length, arith, take_all}
use Rattle.scans.specs.Scan.{bit_le}
use Rattle.numbers.specs.Word.{word_of, flags-gather-none, gather-fits, flags-gather-more, flags-gather-end}
use Rattle.numbers.proofs.keeping.gathered.Goals as goal

pub loop-i-init : goal.loop-i-init
loop-i-init c = flags-gather-none _ 0 _ (omega arith)

pub overflow_mul-w : goal.overflow_mul-w
overflow_mul-w c = omega (arith, gather-fits c.loop-i.invariant 63 (omega arith))

pub overflow_add-w : goal.overflow_add-w
overflow_add-w c = omega (arith, gather-fits c.loop-i.invariant 63 (omega arith), bit_le (get_or c.args.come.now (c.loop-i.i - 1) false))

pub loop-i-preserved : goal.loop-i-preserved
loop-i-preserved c = rw c.from.ensures (flags-gather-more c.loop-i.invariant c.loop-i-test.true (c.loop-i.i - 1) (omega arith))

pub returns : goal.returns
returns c =
    let s = c.args.come.now in
    flags-gather-end c.loop-i.invariant (omega arith) ∙ ap word_of (take_all (length s) s (omega arith))
