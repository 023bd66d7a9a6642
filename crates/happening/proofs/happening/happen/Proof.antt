-- `happen` keeps the promise of `run_coded`, over a record that is lent: by the walk that `lending` has, once for every such function, so that its laws speak of code that is compiled.
use mathlib.Core.Path.{refl}
use mathlib.Core.List.{[], ◌∷◌}
use mir.Syntax.{w8, w32}
use denote.Builtin.{Array, u32}
use Rattle.lending.specs.LentWalk.{Valued, Outcome}
use Rattle.lending.specs.Lent.{uint, struct, outcome, by_value, shared, lent_slice, lent_one, others, lent-meets}
use Rattle.flat.specs.contracts.head.Association
use Rattle.flat.proofs.head.Association.TheLaws as Association'
use Rattle.happening.specs.contracts.told.Ran
use Rattle.happening.proofs.told.Ran.TheLaws as Ran'
use Rattle.happening.specs.contracts.told.Told
use Rattle.happening.proofs.told.Told.TheLaws as Told'
use Rattle.happening.proofs.running.run_coded.Symbol as step_def
use Rattle.happening.proofs.running.run_coded.Met as step_thm
use Rattle.happening.specs.contracts.happening.happen as f
use Rattle.happening.proofs.happening.happen.Statement.{statement}
use Rattle.happening.proofs.happening.happen.Code as code

abbrev kept : Valued Association.the_row
kept = struct Association.the_type Association'.the_laws Association'.the_plain Association'.mir refl

abbrev told : Valued Told.the_row
told = struct Told.the_type Told'.the_laws Told'.the_plain Told'.mir refl

abbrev ended : Outcome kept told Ran.the_row
ended = outcome kept told Ran.the_type Ran'.the_laws (λ x. x.told) (λ x. x.association) (Ran.struct).name refl (λ x. refl) (λ x p. (p.0, p.1.0))

pub happen_spec : {M : Type 1} → statement M
happen_spec 𝓤 𝓛 𝓜 𝓡 wired =
    lent-meets ended (others (f.signature).params) (f.ended).kept.1
    (by_value (uint w8), (shared 1 tt w32, (lent_slice 2 tt w8, (lent_slice 3 tt w8, (lent_one 4 tt (Array u32 tt 1460), (shared 5 tt w8, (shared 6 tt w8, (lent_slice 7 tt w8, tt))))))))
    𝓛 𝓜 𝓡 (λ κs a. (f.clauses 𝓛 𝓜.mem 𝓡.returns κs a).ensures tt) 𝓡.env f.Key.name step_def.name code.function (code.unfolded 𝓤 𝓛.H 𝓜 𝓡 wired) refl (𝓡.env step_def.name) refl
    (λ κs qs a vss. step_thm.met 𝓤 𝓛 𝓜 𝓡 (code.calls-happening::running::run_coded 𝓡.env wired) ((κs.1, qs.1, tt, (a.0.now, a.1), (kept.val a.0.now ∷ [], vss)), tt))
