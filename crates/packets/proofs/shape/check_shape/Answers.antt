use Rattle.std.proofs.Common.{arith, lt-ltb, le-ltb}
use Rattle.octets.specs.BytesLaws.{part-is}
use Rattle.packets.specs.Shape.{shape_number}
use Rattle.packets.specs.ShapeLaws.{shape-none}
use Rattle.packets.proofs.shape.check_shape.Goals as goal
use Rattle.packets.proofs.shape.check_shape.Goals.{else-is_bundled-via-then-is_bundled+else-first_item-s-2, else-is_bundled-via-else-is_bundled}

pub returns-then-s-lt12 : goal.returns-then-s-lt12
returns-then-s-lt12 c = shape-none c.args.s.now (omega arith)

pub returns-then-first_item-s : goal.returns-then-first_item-s
unfolding shape_number
returns-then-first_item-s c = rw (← c.first_item.ensures.0, lt-ltb _ _ c.if-first_item-s.true)

pub returns-then-first_item-s-2 : goal.returns-then-first_item-s-2
unfolding shape_number
returns-then-first_item-s-2 c = rw (← c.first_item.ensures.0, le-ltb _ _ c.if-first_item-s.false, ← part-is c.args.s.now 12, ← c.size.ensures.0, lt-ltb _ _ c.if-is_bundled.true, ← c.first_item-then-is_bundled.ensures.0, lt-ltb _ _ c.if-first_item-s-2.true)

pub returns : goal.returns
unfolding shape_number
returns c =
    rw (← c.first_item.ensures.0, le-ltb _ _ c.if-first_item-s.false, ← part-is c.args.s.now 12, ← c.size.ensures.0)
    (elim c.else-is_bundled.branch [
      | else-is_bundled-via-then-is_bundled+else-first_item-s-2 w ↦ rw (lt-ltb _ _ w.if-is_bundled.true, ← w.first_item-then-is_bundled.ensures.0, le-ltb _ _ w.if-first_item-s-2.false)
      | else-is_bundled-via-else-is_bundled w ↦ rw (le-ltb _ _ w.if-is_bundled.false)
    ])
