use Rattle.std.proofs.Common.{arith, lt-ltb, le-ltb}
use Rattle.landing.specs.Verdicts.{count_after, words_noted}
use Rattle.landing.specs.VerdictsLaws.{copied-laid}
use Rattle.landing.proofs.verdict.note.Goals as goal

pub returns-then-count-ge-CHUNKS : goal.returns-then-count-ge-CHUNKS
unfolding count_after words_noted
returns-then-count-ge-CHUNKS c = (rw (le-ltb _ _ c.if-count-ge-CHUNKS.true), rw (le-ltb _ _ c.if-count-ge-CHUNKS.true))

pub returns : goal.returns
unfolding count_after words_noted
returns c =
    (rw (lt-ltb _ _ c.if-count-ge-CHUNKS.false), rw (lt-ltb _ _ c.if-count-ge-CHUNKS.false, c.copy_from_slice.ensures.after, c.from.ensures, c.from-2.ensures, c.from-3.ensures, c.from-4.ensures) (copied-laid _ _ _ _ (omega arith) (omega arith)))
