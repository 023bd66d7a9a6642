use Rattle.numbers.specs.Profile.{rail}
use Rattle.path.specs.Sizes.{sizes_of}
use Rattle.acks.specs.Acks.{accepted-words, accepted-head}
use Rattle.acks.proofs.accepted.Goals as goal

pub returns : goal.returns
returns c = let s = c.args.s in let ws = c.args.t.now in let k = c.args.k in let a = c.taken_in-took.ensures.newly_after.1 in let b = c.taken_in-took.ensures.t_after in let l = c.limit-limit.ensures in record { value = accepted-head (sizes_of s.mode) rail s ws k a b l c.taken_in-took.ensures.newly_after.0 c.missed_all-missing.ensures.value c.after.ensures c.is_moved.ensures c.answered_by-answered.ensures c.path_after-s.ensures; t_after = accepted-words (sizes_of s.mode) rail s ws k a b l c.missed_all-missing.ensures.t_after }
