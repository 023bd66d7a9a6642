use mathlib.Core.Path.{refl, sym, ap, ◌∙◌}
use native.Mathlib.Omega.{arith}
use lib.ListN.{length-set}
use Rattle.numbers.specs.Profile.{rail}
use Rattle.scans.specs.Scan.{find-within}
use Rattle.holding.specs.Message.{continues}
use Rattle.holding.specs.MessageLaws.{gather-start, run-gather-end, run-gather-more, run-gather-none}
use Rattle.tables.specs.HeldWords.{held_of}
use Rattle.tables.specs.HeldWordsLaws.{held-long}
use Rattle.taking.specs.TakeWordsLaws.{gather-whole}
use Rattle.taking.proofs.choosing.gather.Goals as goal

pub loop-n-init : goal.loop-n-init
loop-n-init c = (gather-start _ _ _ _ _ _ (held-long rail _) c.requires.1, c.requires.0)

pub returns-then-chunk : goal.returns-then-chunk
returns-then-chunk c = record { few = omega (arith, c.loop-n-test.true); long = length-set c.loop-n.at c.loop-n.n c.loop-n.here ∙ c.loop-n.invariant.0.room; run = gather-whole c.loop-n.invariant.0 c.loop-n-test.true c.if-chunk.true }

pub returns-in_default : goal.returns-in_default
returns-in_default c = record { few = tt; long = length-set c.loop-n.at c.loop-n.n c.loop-n.here ∙ c.loop-n.invariant.0.room; run = run-gather-none c.loop-n.invariant.0 (ap (λ t. t.0) c.after-t.ensures) c.in_default.ensures c.loop-n-test.true c.if-chunk.false refl }

pub loop-n-preserved : goal.loop-n-preserved
loop-n-preserved c = (rw c.held_at-chunk.ensures (run-gather-more c.loop-n.invariant.0 (ap (λ t. t.0) c.after-t.ensures) c.in-Some.ensures refl c.loop-n-test.true c.if-chunk.false refl), omega (arith, find-within (continues c.args.first c.after-t.result.0) (held_of rail c.args.words.now) 0 c.in-Some.next (sym c.in-Some.ensures), held-long rail c.args.words.now))

pub returns : goal.returns
returns c = record { few = tt; long = c.loop-n.invariant.0.room; run = run-gather-end c.loop-n.invariant.0 c.loop-n-test.false }
