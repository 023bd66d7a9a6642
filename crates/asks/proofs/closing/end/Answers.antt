use mathlib.Core.Path.{refl, ap}
use Rattle.chunks.specs.Frame.{framed}
use Rattle.chunks.specs.Cause.{caused, cause_code, information}
use Rattle.chunks.specs.declared.cause.Cause.{Cause}
use Rattle.states.specs.declared.state.State.TheVariants.{Closed}
use Rattle.calls.specs.PacketLaws.{sent-as}
use Rattle.calls.specs.AnswerLaws.{told-as, done-sent, done-quiet}
use Rattle.asks.specs.TableAnswerLaws.{told_in, moved_in}
use Rattle.asks.proofs.closing.end.Goals as goal
use Rattle.asks.proofs.closing.end.Goals.{then-knows_peer, else-knows_peer}

pub returns : goal.returns
returns c = λ held ns places ms cs.
    elim c.if-knows_peer.branch [
      | then-knows_peer w ↦ let told = rw w.length-is at c.told.ensures in rw (← c.knows_peer.ensures, w.if-knows_peer.true, w.out-is) (done-sent _ (sent-as refl (ap (λ (k : Cause). framed 6 0 (caused (cause_code k) (information k))) w.cause_of.ensures) w.send_abort-length.ensures) (told-as (moved_in c.args.head held ns places ms cs Closed c.moved.ensures) (told_in _ held ns places ms cs told)))
      | else-knows_peer w ↦ let told = rw w.length-is at c.told.ensures in rw (← c.knows_peer.ensures, w.if-knows_peer.false, w.out-is) (done-quiet _ (told-as (moved_in c.args.head held ns places ms cs Closed c.moved.ensures) (told_in _ held ns places ms cs told)))
    ]
