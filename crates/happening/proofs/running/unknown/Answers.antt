use Rattle.events.specs.Happening.{unknown_number}
use Rattle.happening.proofs.running.unknown.Goals as goal
use Rattle.happening.proofs.running.unknown.Goals.{then-is_sound, else-is_sound}

pub returns : goal.returns
unfolding unknown_number
returns c = λ received sent verdicts input cookie out.
    elim c.if-is_sound.branch [
      | then-is_sound w ↦ rw (← c.is_sound.ensures c.args.a.next_in c.args.a.next_out c.args.a.cookie, w.if-is_sound.true, c.refused.ensures, w.refusal-is)
      | else-is_sound w ↦ rw (← c.is_sound.ensures c.args.a.next_in c.args.a.next_out c.args.a.cookie, w.if-is_sound.false, c.refused.ensures, w.refusal-is)
    ]
