use Rattle.std.proofs.Common.{rules, refl, sym, ap, ◌∙◌, true}
use Rattle.octets.specs.WalkLaws.{folding-one, folding-end}
use Rattle.parameters.specs.Parameter.{treated}
use Rattle.parameters.specs.ReportLaws.{gather-known, gather-unknown, gather-stop, collected}
use Rattle.parameters.proofs.report.gather.Goals as goal
use Rattle.parameters.proofs.report.gather.Goals.{in-Some+else-is_last, in_default}

pub returns-then-is_last : goal.returns-then-is_last
returns-then-is_last c =
    collected {g = record { n = c.add-n.result; done = true }} c.add-n.ensures.within
    (gather-stop _ _ c.loop-at.invariant.folding c.loop-at-test.true refl
    (gather-unknown _ c.loop-at.invariant.long (c.in-Some.ensures ∙ ap treated c.get16.ensures) c.end.ensures.0 c.add-n.ensures (sym c.if-is_last.true ∙ c.is_last.ensures)))

pub loop-at-preserved : goal.loop-at-preserved
loop-at-preserved c = elim c.match-treatment_of.branch [
  | in-Some+else-is_last w ↦ record {
    within = rw (w.n-is, w.buf-is) w.add-n.ensures.within;
    long = search rules;
    folding = rw (w.n-is, w.buf-is)
        (folding-one c.loop-at.invariant.folding c.loop-at-test.true refl
        (gather-unknown _ c.loop-at.invariant.long (w.in-Some.ensures ∙ ap treated c.get16.ensures) w.end.ensures.0 w.add-n.ensures (sym w.if-is_last.false ∙ w.is_last.ensures))
        c.size-at.ensures.0);
  }
  | in_default w ↦ record {
    within = rw (w.n-is, w.buf-is) c.loop-at.invariant.within;
    long = search rules;
    folding = rw (w.n-is, w.buf-is)
        (folding-one c.loop-at.invariant.folding c.loop-at-test.true refl (gather-known _ _ _ _ (w.in_default.ensures ∙ ap treated c.get16.ensures)) c.size-at.ensures.0);
  }
]

pub returns : goal.returns
returns c = collected c.loop-at.invariant.within (folding-end c.loop-at.invariant.folding c.loop-at-test.false)
