use mathlib.Core.Path.{refl}
use mathlib.Core.List.{[]}
use mathlib.Core.Bool.{true, false}
use Rattle.steps.specs.declared.verdict.Fate.TheVariants.{Skipped, SkippedAndReported, Stopped, StoppedAndReported}
use Rattle.steps.specs.Unknown.{step_passed_over, chunk_report}
use Rattle.flat.specs.Shown.{bare}
use Rattle.rows.specs.TableRowsLaws.{row-written-told, row-quiet-told}
use Rattle.rows.proofs.unknown.tell_unknown.Goals as goal

pub returns-in-Stop : goal.returns-in-Stop
returns-in-Stop c = rw c.in-Stop.is (row-quiet-told c.args.space.now (step_passed_over (bare c.args.head) Stopped true []) refl c.passed_over.ensures)

pub returns-in-StopAndReport : goal.returns-in-StopAndReport
returns-in-StopAndReport c = rw c.in-StopAndReport.is (row-written-told (step_passed_over (bare c.args.head) StoppedAndReported true (chunk_report c.args.s.now)) c.write_error_chunk-n.ensures c.passed_over-in-StopAndReport.ensures)

pub returns-in-Skip : goal.returns-in-Skip
returns-in-Skip c = rw c.in-Skip.is (row-quiet-told c.args.space.now (step_passed_over (bare c.args.head) Skipped false []) refl c.passed_over-in-Skip.ensures)

pub returns-in-SkipAndReport : goal.returns-in-SkipAndReport
returns-in-SkipAndReport c = rw c.in-SkipAndReport.is (row-written-told (step_passed_over (bare c.args.head) SkippedAndReported false (chunk_report c.args.s.now)) c.write_error_chunk-n-in-SkipAndReport.ensures c.passed_over-in-SkipAndReport.ensures)
