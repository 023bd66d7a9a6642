use Rattle.face.proofs.acknowledging.said.Goals as goal

pub returns-in-Ok-clause-lists : goal.returns-in-Ok-clause-lists
returns-in-Ok-clause-lists c = λ out. rw c.in-Ok.is (c.list.ensures out)

pub returns-in-Err-clause-lists : goal.returns-in-Err-clause-lists
returns-in-Err-clause-lists c = λ out. rw c.in-Err.is (c.unsaid.ensures out)
