use borrow.Author.Rules.{rules}
use mathlib.Core.Path.{refl}
use Rattle.octets.specs.WalkLaws.{folding-end}
use Rattle.rows.specs.Lending.{standing}
use Rattle.landing.specs.TableWalk.{turn_over, head_walk_begun, table_walked_over}
use Rattle.landing.specs.TableWalkLaws.{folding-onward}
use Rattle.landing.proofs.walk.walk_over.Goals as goal

pub loop-at-preserved : goal.loop-at-preserved
loop-at-preserved c = (search (rules, c.loop-at.invariant.0, c.turn-w.ensures.same), c.turn-w.ensures.left.1, search (rules, c.loop-at.invariant.2), folding-onward c.args.b _ _ (turn_over c.loop-at.w (standing c.loop-at.tables) c.loop-at.verdicts c.loop-at.scratch) c.loop-at.at c.loop-at.invariant.3 c.loop-at-test.true refl c.size-at.ensures.0 _ c.turn-w.ensures.left.0)

pub returns-clause-left : goal.returns-clause-left
unfolding head_walk_begun table_walked_over
returns-clause-left c = (folding-end c.loop-at.invariant.3 c.loop-at-test.false, c.loop-at.invariant.1)
