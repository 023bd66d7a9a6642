use mathlib.Core.Path.{ap}
use Rattle.landing.specs.Landing.{After}
use Rattle.happening.specs.TableHappening.{lent_table_buffers, lands}
use Rattle.happening.proofs.running.packet.Goals as goal

pub returns-in-Ok : goal.returns-in-Ok
returns-in-Ok c = λ sent. rw (c.of_landed.ensures, c.with_head.ensures) (ap (λ (x : After). lands x (lent_table_buffers c.args.received.now sent c.args.verdicts.now c.args.input.now c.args.cookie.now c.args.out.now)) c.in-Ok.ensures)

pub returns-in-Err : goal.returns-in-Err
returns-in-Err c = λ sent. rw c.refused.ensures (ap (λ (x : After). lands x (lent_table_buffers c.args.received.now sent c.args.verdicts.now c.args.input.now c.args.cookie.now c.args.out.now)) c.in-Err.ensures)
