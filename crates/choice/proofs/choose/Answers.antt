use Rattle.std.proofs.Common.{sym, refl, ap, ◌∙◌, arith}
use Rattle.scans.specs.Upto.{run-start, run_more, run-stop, run_end}
use Rattle.numbers.specs.Profile.{rail}
use Rattle.path.specs.Sizes.{rail_sizes}
use Rattle.sending.specs.Choose.{Going}
use Rattle.choice.specs.Fill.{Fill, fill_of, filling_in, goes-best, fill_step, filled-by}
use Rattle.choice.proofs.choose.Goals as goal

pub loop-n-init : goal.loop-n-init
loop-n-init c = (run-start _ _ _ 26, refl, omega (arith, c.tallied-w.ensures.1), omega (arith, c.tallied-w.ensures.2))

pub loaded-l-requires : goal.loaded-l-requires
loaded-l-requires c = (c.best_of-b.ensures.1, omega arith, omega arith)

pub sent_head-s-requires : goal.sent_head-s-requires
sent_head-s-requires c = omega (arith, c.loop-n.invariant.2, c.loop-n-test.true)

pub loop-n-preserved : goal.loop-n-preserved
loop-n-preserved c = let s = c.loop-n.s in let t = c.loop-n.t in let ns = c.loop-n.ns in let l = c.loop-n.l in let b = c.best_of-b.result in let g = goes-best rail s t ns l b c.best_of-b.ensures.0 c.place_at-p.ensures in (run_more c.loop-n.invariant.0 _ c.loop-n-test.true (ap (λ (x : Going). x.go) g ∙ (sym c.goes.ensures ∙ c.if-not-goes.false)) (fill_step rail s t ns l b.place c.place_at-p.ensures c.sent_head-s.ensures.0 c.sent_place-q.ensures c.put_place.ensures c.count_on.ensures c.loaded-l.ensures.0 ∙ ap (λ (x : Going). filling_in rail (fill_of s t ns l) x.place) (sym g)), omega (arith, c.loaded-l.ensures.1, c.loop-n.invariant.1), omega (arith, c.sent_head-s.ensures.1, c.loop-n.invariant.2), omega (arith, c.loaded-l.ensures.2, c.loop-n.invariant.3))

pub returns-then-not-goes : goal.returns-then-not-goes
returns-then-not-goes c = let s = c.loop-n.s in let t = c.loop-n.t in let ns = c.loop-n.ns in let l = c.loop-n.l in let b = c.best_of-b.result in let g = goes-best rail s t ns l b c.best_of-b.ensures.0 c.place_at-p.ensures in let e = filled-by rail_sizes rail c.args.s c.args.t.now c.args.ns.now c.tallied-w.ensures.0 (run-stop c.loop-n.invariant.0 c.loop-n-test.true (ap (λ (x : Going). x.go) g ∙ (sym c.goes.ensures ∙ c.if-not-goes.true))) in record { head_value = (ap (λ (f : Fill). f.head) e, ap (λ (f : Fill). f.load) e); t_after = (ap (λ (f : Fill). f.words) e, ap (λ (f : Fill). f.ns) e) }

pub returns : goal.returns
returns c = let e = filled-by rail_sizes rail c.args.s c.args.t.now c.args.ns.now c.tallied-w.ensures.0 (run_end c.loop-n.invariant.0 c.loop-n-test.false) in record { head_value = (ap (λ (f : Fill). f.head) e, ap (λ (f : Fill). f.load) e); t_after = (ap (λ (f : Fill). f.words) e, ap (λ (f : Fill). f.ns) e) }
