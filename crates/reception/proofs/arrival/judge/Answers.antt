use borrow.Author.Tests.{lt-ltb, le-ltb}
use Rattle.numbers.specs.Numbering.{circles}
use Rattle.numbers.specs.Profile.{rail}
use Rattle.tables.specs.OpenLaws.{by-law}
use Rattle.delivery.specs.ReceivingTableLaws.{verdict-by}
use Rattle.reception.specs.Reception.{receiving_shown}
use Rattle.reception.proofs.arrival.judge.Goals.{then-is_old-via-then-is_old, then-is_old-via-else-is_old+then-is_repeat}
use Rattle.reception.proofs.arrival.judge.Goals as goal

pub returns-then-len-lt1 : goal.returns-then-len-lt1
returns-then-len-lt1 c = by-law (verdict-by circles rail (receiving_shown rail c.args.keeping c.args.words.now c.args.next.now) c.args.c c.args.len c.args.streams c.requires) (rw (lt-ltb _ _ c.if-len-lt1.true))

pub returns-then-len-gt-PAYLOAD : goal.returns-then-len-gt-PAYLOAD
returns-then-len-gt-PAYLOAD c = by-law (verdict-by circles rail (receiving_shown rail c.args.keeping c.args.words.now c.args.next.now) c.args.c c.args.len c.args.streams c.requires) (rw (le-ltb _ _ c.if-len-lt1.false, lt-ltb _ _ c.if-len-gt-PAYLOAD.true))

pub returns-then-is_opposite : goal.returns-then-is_opposite
returns-then-is_opposite c = by-law (verdict-by circles rail (receiving_shown rail c.args.keeping c.args.words.now c.args.next.now) c.args.c c.args.len c.args.streams c.requires) (rw (le-ltb _ _ c.if-len-lt1.false, le-ltb _ _ c.if-len-gt-PAYLOAD.false, ← c.judge-j.ensures, ← c.is_opposite.ensures, c.if-is_opposite.true))

pub returns-then-is_old : goal.returns-then-is_old
returns-then-is_old c = elim c.then-is_old.branch [ then-is_old-via-then-is_old w ↦ by-law (verdict-by circles rail (receiving_shown rail c.args.keeping c.args.words.now c.args.next.now) c.args.c c.args.len c.args.streams c.requires) (rw (le-ltb _ _ c.if-len-lt1.false, le-ltb _ _ c.if-len-gt-PAYLOAD.false, ← c.judge-j.ensures, ← c.is_opposite.ensures, c.if-is_opposite.false, ← c.is_old.ensures, w.if-is_old.true)) | then-is_old-via-else-is_old+then-is_repeat w ↦ by-law (verdict-by circles rail (receiving_shown rail c.args.keeping c.args.words.now c.args.next.now) c.args.c c.args.len c.args.streams c.requires) (rw (le-ltb _ _ c.if-len-lt1.false, le-ltb _ _ c.if-len-gt-PAYLOAD.false, ← c.judge-j.ensures, ← c.is_opposite.ensures, c.if-is_opposite.false, ← c.is_old.ensures, w.if-is_old.false, ← w.is_repeat.ensures, w.if-is_repeat.true)) ]

pub returns-then-is_wedged : goal.returns-then-is_wedged
returns-then-is_wedged c = by-law (verdict-by circles rail (receiving_shown rail c.args.keeping c.args.words.now c.args.next.now) c.args.c c.args.len c.args.streams c.requires) (rw (le-ltb _ _ c.if-len-lt1.false, le-ltb _ _ c.if-len-gt-PAYLOAD.false, ← c.judge-j.ensures, ← c.is_opposite.ensures, c.if-is_opposite.false, ← c.is_old.ensures, c.if-is_old.false, ← c.is_repeat.ensures, c.if-is_repeat.false, ← c.is_wedged.ensures, c.if-is_wedged.true))

pub returns-then-is_beyond : goal.returns-then-is_beyond
returns-then-is_beyond c = by-law (verdict-by circles rail (receiving_shown rail c.args.keeping c.args.words.now c.args.next.now) c.args.c c.args.len c.args.streams c.requires) (rw (le-ltb _ _ c.if-len-lt1.false, le-ltb _ _ c.if-len-gt-PAYLOAD.false, ← c.judge-j.ensures, ← c.is_opposite.ensures, c.if-is_opposite.false, ← c.is_old.ensures, c.if-is_old.false, ← c.is_repeat.ensures, c.if-is_repeat.false, ← c.is_wedged.ensures, c.if-is_wedged.false, ← c.is_beyond.ensures, c.if-is_beyond.true))

pub returns-then-not-is_agreed : goal.returns-then-not-is_agreed
returns-then-not-is_agreed c = by-law (verdict-by circles rail (receiving_shown rail c.args.keeping c.args.words.now c.args.next.now) c.args.c c.args.len c.args.streams c.requires) (rw (le-ltb _ _ c.if-len-lt1.false, le-ltb _ _ c.if-len-gt-PAYLOAD.false, ← c.judge-j.ensures, ← c.is_opposite.ensures, c.if-is_opposite.false, ← c.is_old.ensures, c.if-is_old.false, ← c.is_repeat.ensures, c.if-is_repeat.false, ← c.is_wedged.ensures, c.if-is_wedged.false, ← c.is_beyond.ensures, c.if-is_beyond.false, ← c.is_agreed.ensures, c.if-not-is_agreed.true))

pub returns-then-w : goal.returns-then-w
returns-then-w c = by-law (verdict-by circles rail (receiving_shown rail c.args.keeping c.args.words.now c.args.next.now) c.args.c c.args.len c.args.streams c.requires) (rw (le-ltb _ _ c.if-len-lt1.false, le-ltb _ _ c.if-len-gt-PAYLOAD.false, ← c.judge-j.ensures, ← c.is_opposite.ensures, c.if-is_opposite.false, ← c.is_old.ensures, c.if-is_old.false, ← c.is_repeat.ensures, c.if-is_repeat.false, ← c.is_wedged.ensures, c.if-is_wedged.false, ← c.is_beyond.ensures, c.if-is_beyond.false, ← c.is_agreed.ensures, c.if-not-is_agreed.false, c.if-w.true))

pub returns : goal.returns
returns c = by-law (verdict-by circles rail (receiving_shown rail c.args.keeping c.args.words.now c.args.next.now) c.args.c c.args.len c.args.streams c.requires) (rw (le-ltb _ _ c.if-len-lt1.false, le-ltb _ _ c.if-len-gt-PAYLOAD.false, ← c.judge-j.ensures, ← c.is_opposite.ensures, c.if-is_opposite.false, ← c.is_old.ensures, c.if-is_old.false, ← c.is_repeat.ensures, c.if-is_repeat.false, ← c.is_wedged.ensures, c.if-is_wedged.false, ← c.is_beyond.ensures, c.if-is_beyond.false, ← c.is_agreed.ensures, c.if-not-is_agreed.false, c.if-w.false))
