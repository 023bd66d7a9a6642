use Rattle.octets.specs.WritingLaws.{wrote-within, wrote-both}
use Rattle.chunks.specs.CookieLaws.{echo-within}
use Rattle.parameters.specs.ReportLaws.{error-within}
use Rattle.steps.specs.VerdictLaws.{echo-short, few}
use Rattle.rows.specs.TableRowsLaws.{echoed-told}
use borrow.Author.Rules.{rules}
use Rattle.rows.proofs.opening.echo_back.Goals as goal

pub slice_bounds-write_error_parameters-count : goal.slice_bounds-write_error_parameters-count
slice_bounds-write_error_parameters-count c = search (rules, wrote-within c.write_cookie_echo-n.ensures)

pub slice_bounds-write_error_parameters-start : goal.slice_bounds-write_error_parameters-start
slice_bounds-write_error_parameters-start c = search (rules, wrote-within c.write_cookie_echo-n.ensures)

pub overflow_add-n : goal.overflow_add-n
overflow_add-n c = search (rules, few c.write_cookie_echo-n.ensures (echo-within _), few c.write_error_parameters-m.ensures (error-within _))

pub returns : goal.returns
returns c = let t = echoed-told c.args.head c.args.v c.args.cookie.now c.args.s.now (wrote-both (echo-short _ _) c.write_cookie_echo-n.ensures c.write_error_parameters-m.ensures) c.keep-len.ensures.0 c.echoing-after.ensures c.accepted.ensures in (t.0, c.clear.ensures, c.clear-2.ensures, c.keep-len.ensures.1, t.1)
