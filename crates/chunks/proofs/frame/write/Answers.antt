use Rattle.std.proofs.Common.{◌∙◌, sym, refl, arith}
use Rattle.octets.specs.WritingLaws.{wrote-long, wrote-short, wrote-all}
use Rattle.chunks.specs.FrameLaws.{framed-rows, framed-laid, multiple-up4}
use Rattle.chunks.proofs.frame.write.Goals as goal
use Rattle.chunks.proofs.frame.write.Goals.{then-size-gt-MOST-via-then-size-gt-MOST, then-size-gt-MOST-via-else-size-gt-MOST+then-out-size}

pub returns-then-rows-gt-ROWS : goal.returns-then-rows-gt-ROWS
returns-then-rows-gt-ROWS c = wrote-long (framed-rows c.args.kind c.args.flags c.args.rows.now c.args.tail.now) (omega arith)

pub returns-then-size-gt-MOST : goal.returns-then-size-gt-MOST
returns-then-size-gt-MOST c =
    let e = framed-rows c.args.kind c.args.flags c.args.rows.now c.args.tail.now ∙ sym (multiple-up4 _) ∙ sym c.next_multiple_of-size.ensures.value in
    elim c.then-size-gt-MOST.branch [ then-size-gt-MOST-via-then-size-gt-MOST w ↦ wrote-long e w.if-size-gt-MOST.true | then-size-gt-MOST-via-else-size-gt-MOST+then-out-size w ↦ wrote-short e w.if-size-gt-MOST.false w.if-out-size.true ]

pub returns : goal.returns
returns c =
    let e = framed-rows c.args.kind c.args.flags c.args.rows.now c.args.tail.now ∙ sym (multiple-up4 _) ∙ sym c.next_multiple_of-size.ensures.value in
    wrote-all e c.if-size-gt-MOST.false c.if-out-size.false
    (framed-laid c.args.kind c.args.flags c.args.rows.now c.args.tail.now _ _ refl c.put_head.ensures c.put_rows.ensures c.put_all.ensures c.pad.ensures)
