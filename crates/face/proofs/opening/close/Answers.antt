use Rattle.face.proofs.opening.close.Goals as goal

pub returns : goal.returns
returns c = rw (c.done.ensures.0, c.done.ensures.1, c.pack.ensures, c.closed-head.ensures, c.clear.ensures, c.clear-2.ensures, c.clear-3.ensures, c.clear-4.ensures, c.clear_cookie.ensures)
