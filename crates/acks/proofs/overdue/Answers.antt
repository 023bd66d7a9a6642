use Rattle.acks.specs.Acks.{overdue_head, overdue_words}
use Rattle.acks.proofs.overdue.Goals as goal

pub returns : goal.returns
unfolding overdue_head overdue_words
returns c = record { value = rw (c.expired-s.ensures, c.marked_all-s.ensures.value); t_after = c.marked_all-s.ensures.t_after }
