use Rattle.std.proofs.Common.{◌≡◌, ◌+◌, ◌∙◌, arith, length}
use Rattle.octets.specs.Bytes.{up4}
use Rattle.chunks.specs.FrameLaws.{multiple-up4}
use Rattle.parameters.specs.Report.{report}
use Rattle.parameters.specs.ReportLaws.{append-none, append-all}
use Rattle.parameters.proofs.report.append.Goals as goal

pub returns-then-buf-next_multiple_of : goal.returns-then-buf-next_multiple_of
returns-then-buf-next_multiple_of c =
    let a : c.next_multiple_of-at.result ≡ up4 c.args.n = c.next_multiple_of-at.ensures.value ∙ multiple-up4 c.args.n in
    let t : c.next_multiple_of.result ≡ up4 (up4 c.args.n + length (report c.args.wrapped c.args.p.now)) =
    c.next_multiple_of.ensures.value ∙ multiple-up4 _ ∙ (λ i. up4 (a i + c.report_len.ensures.0 i)) in
    append-none c.args.buf.now c.args.n c.args.wrapped c.args.p.now (omega arith) (rw (← t) c.if-buf-next_multiple_of.true)

pub returns : goal.returns
returns c =
    let a : c.next_multiple_of-at.result ≡ up4 c.args.n = c.next_multiple_of-at.ensures.value ∙ multiple-up4 c.args.n in
    let t : c.next_multiple_of.result ≡ up4 (up4 c.args.n + length (report c.args.wrapped c.args.p.now)) =
    c.next_multiple_of.ensures.value ∙ multiple-up4 _ ∙ (λ i. up4 (a i + c.report_len.ensures.0 i)) in
    rw (a, c.report_len.ensures.0)
    (append-all c.args.buf.now c.args.n c.args.wrapped c.args.p.now (omega arith) (rw (← t) c.if-buf-next_multiple_of.false) c.pad.ensures (rw a at c.put_report.ensures))
