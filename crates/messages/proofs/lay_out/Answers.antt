use Rattle.std.proofs.Common.{◌-◌, length, sym, refl, ap, ◌∙◌, arith}
use Rattle.numbers.specs.Profile.{rail}
use Rattle.scans.specs.Scan.{fold_more, fold_end}
use Rattle.octets.specs.BytesLaws.{length-laid}
use Rattle.sending.specs.HandIn.{takes, Storing}
use Rattle.sending.specs.HandInLaws.{takes-so}
use Rattle.sending.specs.SendingTableLaws.{stored_is}
use Rattle.tables.specs.OpenLaws.{by-law}
use Rattle.tables.specs.PlaceWords.{vacant}
use Rattle.tables.specs.PlaceWordsLaws.{places-long}
use Rattle.messages.specs.MessageWords.{lay-start, lay-next, lay-more, lay-keep, lay-end}
use Rattle.messages.proofs.lay_out.Goals as goal
use Rattle.messages.proofs.lay_out.Goals.{then-takes, else-takes}

pub loop-i-init : goal.loop-i-init
loop-i-init c = (lay-start _ _ _ _, record { long = places-long rail _; rest = refl }, refl, omega arith)

pub store-requires : goal.store-requires
store-requires c = let t = takes-so _ _ _ (sym c.takes.ensures ∙ c.if-takes.true) in omega arith

pub waiting_at-requires : goal.waiting_at-requires
waiting_at-requires c = let t = takes-so _ _ _ (sym c.takes.ensures ∙ c.if-takes.true) in omega arith

pub loop-i-preserved : goal.loop-i-preserved
loop-i-preserved c =
    let w = c.loop-i.invariant in
    let h = c.loop-i-test.true in
    let e = c.place_at-p.ensures in
    elim c.if-takes.branch [
      | then-takes v ↦ let t = sym c.takes.ensures ∙ v.if-takes.true in let a = rw e at t in let b = rw (lay-next w.0 h) at a in rw (v.t-is, v.area-is, v.k-is) (lay-more w.0 h a v.waiting_at.ensures v.put_place.ensures, fold_more w.1 vacant _ h (rw (b, v.store.ensures)), ap length v.store.ensures ∙ length-laid _ _ _ ∙ w.2, omega (arith, takes-so _ _ _ t))
      | else-takes v ↦ let t = sym c.takes.ensures ∙ v.if-takes.false in let a = rw e at t in let b = rw (lay-next w.0 h) at a in rw (v.t-is, v.area-is, v.k-is) (lay-keep w.0 h a, fold_more w.1 vacant _ h (rw b), w.2, w.3)
    ]

pub shape_of-area : goal.shape_of-area
shape_of-area c = c.loop-i.invariant.2

pub returns : goal.returns
returns c = record { t_after = lay-end c.loop-i.invariant.0 c.loop-i-test.false; area_after = by-law (stored_is _ _ _ _ _) (ap (λ (s : Storing). s.area) (fold_end c.loop-i.invariant.1 c.loop-i-test.false)) }
