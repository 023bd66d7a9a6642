use mathlib.Core.Path.{ap}
use native.Mathlib.Omega.{arith}
use Rattle.landing.specs.declared.walk.Walk.{Walk}
use Rattle.landing.specs.TableWalkLaws.{table-turn-unread, table-written-within, table-turn-read}
use Rattle.landing.proofs.walk.turn.Goals as goal

pub returns-then-w-clause-left : goal.returns-then-w-clause-left
returns-then-w-clause-left c = (table-turn-unread c.args.at c.args.b _ _ c.args.w _ _ _ c.if-w.true c.unread.ensures c.note-count.ensures.0 c.note-count.ensures.1, omega (arith, c.requires))

pub take_in-requires : goal.take_in-requires
take_in-requires c = table-written-within c.args.at c.args.b _ _ c.args.w _ c.args.verdicts.now _ c.step-d.ensures.left c.requires

pub returns-clause-left : goal.returns-clause-left
returns-clause-left c = (table-turn-read c.args.at c.args.b _ _ c.args.w _ _ _ c.step-d.ensures.left c.if-w.false c.verdict_of.ensures c.note-count-2.ensures.0 c.note-count-2.ensures.1 c.take_in.ensures, omega (arith, table-written-within c.args.at c.args.b _ _ c.args.w _ c.args.verdicts.now _ c.step-d.ensures.left c.requires, ap (λ (x : Walk). x.used) c.take_in.ensures))
