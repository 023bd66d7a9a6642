use Rattle.pages.specs.ReadingLaws.{words-start, words-more, words-end}
use Rattle.pages.proofs.reading.past_words.Goals as goal

pub loop-i-init : goal.loop-i-init
loop-i-init c = words-start _ _

pub loop-i-preserved : goal.loop-i-preserved
loop-i-preserved c = words-more c.loop-i.invariant c.loop-i-test.true c.rest-left.ensures

pub returns : goal.returns
returns c = words-end c.loop-i.invariant c.loop-i-test.false _ c.min-i-end.ensures
