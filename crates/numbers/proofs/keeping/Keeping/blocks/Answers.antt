use Rattle.std.proofs.Common.{◌≡◌, Bool, List, take, drop, refl, ap, ◌∙◌, arith, rules}
use Rattle.numbers.specs.Blocks.{runs, blocks_laid_out, blocks_of}
use Rattle.numbers.specs.Word.{word_of, flags_long, flags_joined, read-start, read-yes, read_no, read_next}
use Rattle.numbers.specs.SweepLaws.{sweep-none, sweep-count, sweep-yes, sweep-idle, sweep-no, sweep-done, sweep-end}
use Rattle.numbers.proofs.keeping.Keeping.blocks.Goals as goal
use Rattle.numbers.proofs.keeping.Keeping.blocks.Goals.{then-come, else-come+then-row-gt0, else-come+else-row-gt0}

laid : {xs ys : List Bool} → xs ≡ ys → blocks_laid_out 128 (runs xs) ≡ blocks_laid_out 128 (runs ys)
laid e = ap (λ (l : List Bool). blocks_laid_out 128 (runs l)) e

pub loop-i-init : goal.loop-i-init
unfolding blocks_laid_out
loop-i-init c = rw c.none-blocks.ensures (sweep-none _ 128 (flags_long 128 _), read-start 128 _ _ (search rules))

pub close-requires : goal.close-requires
close-requires c = (c.if-row-gt0.true, omega arith, omega arith, sweep-count c.loop-i.invariant.0 refl c.if-row-gt0.true)

pub loop-i-preserved : goal.loop-i-preserved
loop-i-preserved c =
    let s = c.loop-i.invariant.0 in
    let r = c.loop-i.invariant.1 in
    let h = c.loop-i-test.true in
    elim c.if-come.branch [
      | then-come w ↦ rw (w.blocks-is, w.row-is) (sweep-yes s h (read-yes r h w.if-come.true), read_next r h)
      | else-come+then-row-gt0 w ↦ rw (w.blocks-is, w.row-is, w.close.ensures) (sweep-no s w.if-row-gt0.true h (read_no r h w.if-come.false), read_next r h)
      | else-come+else-row-gt0 w ↦ rw (w.blocks-is, w.row-is) (sweep-idle s (omega arith) h (read_no r h w.if-come.false), read_next r h)
    ]

pub close-requires-then-row-gt0-2 : goal.close-requires-then-row-gt0-2
close-requires-then-row-gt0-2 c = (c.if-row-gt0-2.true, omega arith, omega arith, sweep-count c.loop-i.invariant.0 refl c.if-row-gt0-2.true)

pub returns-then-row-gt0-2 : goal.returns-then-row-gt0-2
unfolding blocks_of
returns-then-row-gt0-2 c =
    let near : c.gathered-near.result ≡ word_of (take 64 c.args.self.come) = search rules in
    let far : c.gathered-far.result ≡ word_of (take 64 (drop 64 c.args.self.come)) = search rules in
    let e : c.loop-i.i ≡ 128 = omega arith in
    c.close-then-row-gt0-2.ensures
    ∙ (rw e at (sweep-end c.loop-i.invariant.0 refl c.if-row-gt0-2.true c.loop-i-test.false))
    ∙ laid (flags_joined 64 64 c.args.self.come (search rules) near far)

pub returns-else-row-gt0-2 : goal.returns-else-row-gt0-2
unfolding blocks_of
returns-else-row-gt0-2 c =
    let near : c.gathered-near.result ≡ word_of (take 64 c.args.self.come) = search rules in
    let far : c.gathered-far.result ≡ word_of (take 64 (drop 64 c.args.self.come)) = search rules in
    sweep-done c.loop-i.invariant.0 (omega arith) c.loop-i-test.false
    ∙ laid (flags_joined 64 64 c.args.self.come (search rules) near far)
