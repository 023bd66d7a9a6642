use Rattle.flat.specs.Shown.{shown}
use mathlib.Core.Path.{refl}
use Rattle.asks.specs.TableMessagesLaws.{takes-on, takes-short, takes-unsound, delivery-by, delivery-refused}
use Rattle.asks.proofs.delivering.take.Goals as goal

pub returns-then-not-is_sound : goal.returns-then-not-is_sound
returns-then-not-is_sound c = λ ms cs. delivery-refused c.args.head c.args.held.now c.args.next_in.now c.args.area.now c.args.out.now 1 (takes-unsound (shown c.args.head c.args.held.now c.args.next_in.now c.args.places.now ms cs) c.args.area.now (c.is_sound.ensures c.args.next_in.now ms cs) c.if-not-is_sound.true) refl refl

pub returns-then-area-lt-AREA : goal.returns-then-area-lt-AREA
returns-then-area-lt-AREA c = λ ms cs. delivery-refused c.args.head c.args.held.now c.args.next_in.now c.args.area.now c.args.out.now 18 (takes-short (shown c.args.head c.args.held.now c.args.next_in.now c.args.places.now ms cs) c.args.area.now (c.is_sound.ensures c.args.next_in.now ms cs) c.if-not-is_sound.false c.if-area-lt-AREA.true) refl refl

pub returns : goal.returns
returns c = λ ms cs. delivery-by c.args.head c.args.held.now c.args.next_in.now c.args.area.now c.args.out.now (takes-on (shown c.args.head c.args.held.now c.args.next_in.now c.args.places.now ms cs) c.args.area.now (c.is_sound.ensures c.args.next_in.now ms cs) c.if-not-is_sound.false c.if-area-lt-AREA.false) c.take.ensures.0 c.take.ensures.1 c.take.ensures.2 c.take.ensures.3 (c.answered.ensures c.args.head)
