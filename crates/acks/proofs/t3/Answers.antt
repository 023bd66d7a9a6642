use Rattle.path.specs.PathLaws.{same_over}
use Rattle.acks.specs.Acks.{expired_head, expired_words}
use Rattle.acks.proofs.t3.Goals as goal

pub returns-then-not-has_outstanding : goal.returns-then-not-has_outstanding
unfolding expired_head expired_words
returns-then-not-has_outstanding c = let e = c.if-not-has_outstanding.true in record { value = rw (← c.has_outstanding.ensures, e); t_after = rw (← c.has_outstanding.ensures, e) }

pub returns-then-is_over : goal.returns-then-is_over
unfolding expired_head expired_words
returns-then-is_over c = let e = c.if-not-has_outstanding.false in record { value = rw (← c.has_outstanding.ensures, e, same_over _ _, ← c.is_over.ensures, c.if-is_over.true); t_after = rw (← c.has_outstanding.ensures, e, same_over _ _, ← c.is_over.ensures, c.if-is_over.true) }

pub returns : goal.returns
unfolding expired_head expired_words
returns c = let e = c.if-not-has_outstanding.false in record { value = rw (← c.has_outstanding.ensures, e, same_over _ _, ← c.is_over.ensures, c.if-is_over.false, c.overdue.ensures.value); t_after = rw (← c.has_outstanding.ensures, e, same_over _ _, ← c.is_over.ensures, c.if-is_over.false) c.overdue.ensures.t_after }
