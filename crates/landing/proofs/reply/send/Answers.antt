use Rattle.std.proofs.Common.{sym, ◌∙◌, eqb-true}
use Rattle.std.proofs.lemmas.Bool.{eqb-false}
use Rattle.arriving.specs.Reply.{reply_length, sent_out}
use Rattle.arriving.specs.ReplyLaws.{laid_none, chunkless, chunked}
use Rattle.landing.proofs.reply.send.Goals as goal

pub returns-then-is_empty : goal.returns-then-is_empty
unfolding reply_length sent_out
returns-then-is_empty c =
    let e = eqb-true _ 0 (sym c.is_empty.ensures ∙ c.if-is_empty.true) in (rw (chunkless e), rw (chunkless e, laid_none _ _ e))

pub returns : goal.returns
unfolding reply_length sent_out
returns c =
    let n = eqb-false _ 0 (sym c.is_empty.ensures ∙ c.if-is_empty.false) in
    (rw (chunked n, ← c.put_all.ensures) c.seal.ensures.0, rw (chunked n, ← c.put_all.ensures) c.seal.ensures.1)
