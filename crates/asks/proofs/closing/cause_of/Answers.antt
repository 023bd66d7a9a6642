use Rattle.asks.proofs.closing.cause_of.Goals as goal

pub returns-in-NoData : goal.returns-in-NoData
returns-in-NoData c = rw c.in-NoData.is
