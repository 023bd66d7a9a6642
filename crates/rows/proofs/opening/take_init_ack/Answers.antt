use mathlib.Core.Path.{refl, sym, ◌∙◌}
use Rattle.states.specs.declared.state.State.TheVariants.{Closed}
use Rattle.association.specs.Fresh.{with_state}
use Rattle.steps.specs.declared.verdict.Named.TheVariants.{NoCall}
use Rattle.steps.specs.Verdict.{refused}
use Rattle.steps.specs.VerdictLaws.{part_bytes, cookie-short}
use Rattle.steps.specs.Opening.{take_init_ack}
use Rattle.flat.specs.Shown.{bare}
use Rattle.rows.specs.TableRows.{is_taken}
use Rattle.rows.specs.TableRowsLaws.{answered-told, row-quiet-told}
use Rattle.rows.proofs.opening.take_init_ack.Goals as goal

pub returns-then-is_poor : goal.returns-then-is_poor
unfolding take_init_ack is_taken
returns-then-is_poor c = rw (← c.read_init-v.ensures, ← c.is_poor.ensures, c.if-is_poor.true) (let t = row-quiet-told c.args.space.now (refused (bare c.args.head) 8 NoCall) refl c.refused.ensures in (t.0, refl, refl, refl, t.1))

pub returns-then-is_odd : goal.returns-then-is_odd
unfolding take_init_ack is_taken
returns-then-is_odd c = rw (← c.read_init-v.ensures, ← c.is_poor.ensures, c.if-is_poor.false, ← c.cookie-p.ensures.0, ← c.is_odd.ensures, c.if-is_odd.true) (let t = row-quiet-told c.args.space.now (refused (bare c.args.head) 8 NoCall) refl c.refused-then-is_odd.ensures in (t.0, refl, refl, refl, t.1))

pub returns-then-has_host_name : goal.returns-then-has_host_name
unfolding take_init_ack is_taken
returns-then-has_host_name c = rw (← c.read_init-v.ensures, ← c.is_poor.ensures, c.if-is_poor.false, ← c.cookie-p.ensures.0, ← c.is_odd.ensures, c.if-is_odd.false, ← c.has_host_name.ensures, c.if-has_host_name.true, ← c.host_name-h.ensures.0, ← part_bytes c.host_name-h.result c.args.s.now) (let t = answered-told (with_state (bare c.args.head) Closed) c.write_abort_address-n.ensures c.moved.ensures c.answering.ensures in (t.0, refl, refl, refl, t.1))

pub echo_back-requires : goal.echo_back-requires
unfolding take_init_ack is_taken
echo_back-requires c = cookie-short c.cookie-p.result c.args.s.now (sym c.is_odd.ensures ∙ c.if-is_odd.false)

pub returns : goal.returns
unfolding take_init_ack is_taken
returns c = rw (← c.read_init-v.ensures, ← c.is_poor.ensures, c.if-is_poor.false, ← c.cookie-p.ensures.0, ← c.is_odd.ensures, c.if-is_odd.false, ← c.has_host_name.ensures, c.if-has_host_name.false, ← part_bytes c.cookie-p.result c.args.s.now) c.echo_back.ensures
