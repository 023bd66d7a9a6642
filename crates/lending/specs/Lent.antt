-- A function over a lent record meets its contract where the function that it calls meets the same by value: `lent-meets`, over the two contracts' signatures. The rest is what it is told of the types: of the record, the answer and the outcome (`Valued`, `Outcome`), and of each other parameter (`Pass`).
-- Assumes nothing.
use Rattle.std.specs.Prelude.{◌≡◌, refl, ℕ, suc, [], ◌∷◌, List, ◌++◌, length}
use Rattle.std.proofs.Common.{ap, sym, subst}
use seplogic.Ra.Ura.{Ura}
use mir.Syntax as S
use mir.Syntax.{named}
use mir.Val.{Val, vint, vbool, vptr}
use base.Logic.{SProp, ent, sep, emp, via, comm∗, emp∗, fst∗}
use Rattle.std.specs.Borrow.{fsep}
use prog.Model.{Model}
use prog.Routine.{Routine, Env}
use prog.Wp.{Calls, Loops, Tables, Closed, WpFn}
use types.Logic.{Logic, sem}
use sound.WpLaws.{FmC, fm_of}
use contract.Lifetimes.{Lfts, Shares, toks}
use contract.Monad.{Fun}
use contract.Running.{Running, tables, tables_of}
use denote.RattleType.{RattleType, Denots, Valss, flat, owns}
use denote.Laws.{Is, Ises, Are, Spells, valss, Tells, Tellss}
use denote.Exit.{yes}
use denote.Plain.{UInt, uint_Tells, uint_Lawful, uint_Makes, Boolean, bool_Tells, bool_Lawful, bool_Makes}
use denote.Ref.{mut_vals, mut_Tells, shr_Tells, at_last}
use denote.Memory.{pointee}
use denote.Slice.{slice_ty, slice_val, shr_slice_Tells, mut_slice_Tells}
use denote.Steps.{said}
use denote.Struct.Laws as LL
use denote.Struct.Struct.{AreAll, Plains}
use denote.Struct.Declared.{Declared, fields, row}
use denote.Signature.{Slot, Signature, AllWithin, meet_at, plain, mut_ref_to, shr_ref_to, mut_slice_of, shr_slice_of, types_at}
use denote.Triple.Entry.{Args, on_entry}
use denote.Triple.End.{Kepts, Fins, outs, lasts_of}
use denote.Triple.Clauses.{Ended, AtExit, closing}
use denote.Triple.Spec.{Spec, Meets, triple_of}
use denote.Triple.Table.{entered}
use Rattle.lending.specs.Params.{ParamKind, copied, relent, reref, Mach, val_of, MachFits, Machs, vals_of, MachsFit}
use Rattle.lending.specs.LentWalk.{Valued, Outcome, two_ty, two_val, val-fits, lent_code, Left, LeavesClosed, lent-walk-closed}

-- ---- the types
abbrev pub uint : (w : S.Width) → Valued (UInt w)
uint w = record {
  ty = S.ty_int w;
  mir = refl;
  val = vint w;
  tells = uint_Tells w;
  lawful = λ 𝓛. uint_Lawful 𝓛 w;
  makes = λ 𝓛. uint_Makes 𝓛 w;
}

abbrev pub flag : Valued Boolean
flag = record {
  ty = S.ty_bool;
  mir = refl;
  val = vbool;
  tells = bool_Tells;
  lawful = bool_Lawful;
  makes = bool_Makes;
}

-- a declared struct, whose MIR type is τ
abbrev pub struct : (D : Declared) (L : LL.Laws D) → Plains (fields D) → (τ : S.Ty) → (row D).mir ≡ τ ∷ [] → Valued (row D)
struct D L pl τ e = record {
  ty = τ;
  mir = e;
  val = LL.val D L;
  tells = LL.tells D L;
  lawful = LL.lawful D L;
  makes = λ 𝓛. LL.makes D pl 𝓛;
}

-- a declared struct of two fields, the answer and the record: by `refl`, and by the two fields' relations
module _ {T R : RattleType} (t : Valued T) (r : Valued R) (D : Declared) (L : LL.Laws D) (told : D.D → R.Denot) (kept : D.D → T.Denot) where
  abbrev pub outcome : (ν : S.Sym) → (row D).mir ≡ two_ty ν r.ty t.ty ∷ [] → ((x : D.D) → LL.val D L x ≡ two_val (r.val (told x)) (t.val (kept x)))
      → ((x : D.D) → AreAll (fields D) (D.to x) (valss (fields D) (LL.spells D.parts L) (D.to x)) → Is R (told x) (r.val (told x) ∷ []) × Is T (kept x) (t.val (kept x) ∷ [])) → Outcome t r (row D)
  outcome ν e v p = record {
    name = ν;
    told = told;
    kept = kept;
    mir = e;
    lawful = LL.lawful D L;
    tells = λ x vs is. subst (λ (u : Val). vs ≡ u ∷ []) (v x) (LL.tells D L x vs is);
    parts = λ x vs is. p x (LL.owed D L x vs is);
  }

-- ---- the parameters beside the record, as a signature has them: how each goes on, and the machine value that it has
pub record Pass {n : ℕ} (s : Slot n) : Type 2 where
  pub kind : ParamKind
  pub mach : (κs : Lfts n) → (s.row κs).Denot → Mach kind
  pub tells : (κs : Lfts n) → Tells (s.row κs) (Is (s.row κs)) (λ x. val_of kind (mach κs x) ∷ [])
  pub fits : {M : Type 1} {𝓤 : Ura M} (𝓛 : Logic 𝓤) → (κs : Lfts n) (x : (s.row κs).Denot) → Is (s.row κs) x (val_of kind (mach κs x) ∷ []) → MachFits kind (mach κs x)

-- a number, a bool or a struct
abbrev pub by_value : {n : ℕ} {R : RattleType} → Valued R → Pass {n = n} (plain (λ _. R))
by_value r = record {
  kind = copied r.ty;
  mach = λ κs. r.val;
  tells = λ κs. r.tells;
  fits = λ 𝓛 κs. val-fits 𝓛 r;
}

-- a `&` slice and a `&mut` slice of integers, at the function's lifetime j
abbrev pub shared : {n : ℕ} (j : ℕ) (ok : AllWithin n (j ∷ [])) (w : S.Width) → Pass {n = n} (shr_slice_of (j ∷ []) ok (plain (λ _. UInt w)))
shared {n} j ok w = record {
  kind = copied (slice_ty (S.ty_ref (named j) S.imm (S.ty_int w)));
  mach = λ κs x. slice_val x.ref_ptr (length x.now);
  tells = λ κs. shr_slice_Tells (named j) (meet_at n (j ∷ []) ok κs) (UInt w);
  fits = λ 𝓛 κs x is. (tt, (tt, (record { fits = is.0.1.0 }, tt)));
}

abbrev pub lent_slice : {n : ℕ} (j : ℕ) (ok : AllWithin n (j ∷ [])) (w : S.Width) → Pass {n = n} (mut_slice_of (j ∷ []) ok (plain (λ _. UInt w)))
lent_slice {n} j ok w = record {
  kind = relent w j;
  mach = λ κs x. (x.ref_ptr, length x.now);
  tells = λ κs. mut_slice_Tells (named j) (meet_at n (j ∷ []) ok κs) (UInt w);
  fits = λ 𝓛 κs x is. (tt, (tt, (record { fits = is.0.1.0 }, tt)));
}

-- a `&` and a `&mut` to one value, as to an array, at the function's lifetime j
abbrev pub shared-one : {n : ℕ} (j : ℕ) (ok : AllWithin n (j ∷ [])) (R : RattleType) → Pass {n = n} (shr_ref_to (j ∷ []) ok (plain (λ _. R)))
shared-one {n} j ok R = record {
  kind = copied (S.ty_ref (named j) S.imm (pointee R.written));
  mach = λ κs x. vptr x.ref_ptr.0 x.ref_ptr.1;
  tells = λ κs. shr_Tells (named j) (meet_at n (j ∷ []) ok κs) R;
  fits = λ 𝓛 κs x is. (tt, tt);
}

abbrev pub lent_one : {n : ℕ} (j : ℕ) (ok : AllWithin n (j ∷ [])) (R : RattleType) → Pass {n = n} (mut_ref_to (j ∷ []) ok (plain (λ _. R)))
lent_one {n} j ok R = record {
  kind = reref (pointee R.written) j;
  mach = λ κs x. x.ref_ptr;
  tells = λ κs. mut_Tells (named j) (meet_at n (j ∷ []) ok κs) R;
  fits = λ 𝓛 κs x is. (tt, tt);
}

module _ {n : ℕ} where
  -- the slots behind the record's
  abbrev pub others : List (Slot n) → List (Slot n)
  others [] = []
  others (s ∷ ss) = ss

  -- the same of a list of slots
  abbrev pub SlotsPass : List (Slot n) → Type 2
  SlotsPass [] = Unit {2}
  SlotsPass (s ∷ ss) = Pass s × SlotsPass ss

  abbrev pub slot_kinds : (ss : List (Slot n)) → SlotsPass ss → List ParamKind
  slot_kinds [] ps = []
  slot_kinds (s ∷ ss) ps = ps.0.kind ∷ slot_kinds ss ps.1

  module _ (κs : Lfts n) where
    abbrev pub machs : (ss : List (Slot n)) (ps : SlotsPass ss) → Denots (types_at ss κs) → Machs (slot_kinds ss ps)
    machs [] ps x = tt
    machs (s ∷ ss) ps x = (ps.0.mach κs x.0, machs ss ps.1 x.1)

    -- the machine values as `said` asks for them, that the relations tell them, and that each may stand in a cell
    abbrev pub spells : (ss : List (Slot n)) → SlotsPass ss → Spells (types_at ss κs)
    spells [] ps = tt
    spells (s ∷ ss) ps = ((λ x. val_of ps.0.kind (ps.0.mach κs x) ∷ []), spells ss ps.1)

    pub all_told : (ss : List (Slot n)) (ps : SlotsPass ss) → Tellss (types_at ss κs) (Ises (types_at ss κs)) (spells ss ps)
    all_told [] ps = tt
    all_told (s ∷ ss) ps = (ps.0.tells κs, all_told ss ps.1)

    pub all_fit : {M : Type 1} {𝓤 : Ura M} (𝓛 : Logic 𝓤) → (ss : List (Slot n)) (ps : SlotsPass ss) (x : Denots (types_at ss κs)) → Are (types_at ss κs) (Ises (types_at ss κs)) x (valss (types_at ss κs) (spells ss ps) x) → MachsFit (slot_kinds ss ps) (machs ss ps x)
    all_fit 𝓛 [] ps x are = tt
    all_fit 𝓛 (s ∷ ss) ps x are = (ps.0.fits 𝓛 κs x.0 are.0, all_fit 𝓛 ss ps.1 x.1 are.1)

    -- in a row they are what the code passes on
    pub all-flat : (ss : List (Slot n)) (ps : SlotsPass ss) (x : Denots (types_at ss κs)) → vals_of (slot_kinds ss ps) (machs ss ps x) ≡ flat (types_at ss κs) (valss (types_at ss κs) (spells ss ps) x)
    all-flat [] ps x = refl
    all-flat (s ∷ ss) ps x = ap (λ (vs : List Val). val_of ps.0.kind (ps.0.mach κs x.0) ∷ vs) (all-flat ss ps.1 x.1)

-- ---- the contract: of the reference and of what stands behind it, with an `ensures` Q and no `requires`
module _ (T R : RattleType) {n : ℕ} (ss : List (Slot (suc n))) where
  abbrev signature : Signature
  signature = record { lifetimes = suc n; outlives = []; params = mut_ref_to (0 ∷ []) tt (plain (λ _. T)) ∷ ss; result = plain (λ _. R) }

  module _ (ls : Kepts ss) where
    abbrev ended : Ended
    ended = record { signature = signature; kept = (yes, ls) }

    -- of the arguments, the answer and the parameters at exit
    abbrev Ensures : {M : Type 1} → Ura M → Type 2
    Ensures 𝓤 = (κs : Lfts (suc n)) → Args signature κs → R.Denot → AtExit ended κs → SProp 𝓤

    abbrev promise : {M : Type 1} {𝓤 : Ura M} (𝓛 : Logic 𝓤) → Ensures 𝓤 → Spec 𝓤 signature
    promise {𝓤 = 𝓤} 𝓛 Q = closing 𝓛 ended (λ κs a. record { ghost = Unit {0}; requires = λ _. emp 𝓤; ensures = λ _. Q κs a })

module _ {T R O : RattleType} {t : Valued T} {r : Valued R} (o : Outcome t r O) {n : ℕ} (ss : List (Slot (suc n))) (ls : Kepts ss)
    {M : Type 1} {𝓤 : Ura M} (𝓛 : Logic 𝓤) (Q : Ensures T R ss ls 𝓤) where
  open 𝓛 use {H}

  module _ (κs : Lfts (suc n)) (qs : Shares (suc n)) (a : Args (signature T R ss) κs) where
    -- Q of the answer, the record and the other last values
    abbrev Said : R.Denot → T.Denot → Fins κs ss ls a.1 → SProp 𝓤
    Said y h z = Q κs a y (at_last a.0 h, outs κs ss ls a.1 z)

    -- the tokens of the other lifetimes
    abbrev Tokens : SProp 𝓤
    Tokens = toks 𝓛 n κs.1 qs.1

    -- what `step` is brought where the function is passed a, the record in the place of the reference, and what it leaves
    abbrev Brought : Valss (types_at ss κs) → SProp 𝓤
    Brought vss = sep 𝓤 Tokens (sem 𝓛 (fsep (T.own_val a.0.now (t.val a.0.now ∷ [])) (owns (types_at ss κs) a.1 vss)))

    abbrev Stepped : Val → SProp 𝓤
    Stepped = Left o 𝓛 Tokens (Fins κs ss ls a.1) (lasts_of κs ss ls a.1) Said

    -- what the function leaves
    abbrev Done : Val → SProp 𝓤
    Done = LeavesClosed o 𝓛 Tokens (Fins κs ss ls a.1) (lasts_of κs ss ls a.1) Said a.0.ref_ptr.0 a.0.ref_ptr.1 a.0.ghost_name κs.0 qs.0

  -- a run of `step` meets by value what the function is to meet
  abbrev pub Steps : Fun 𝓤 → Type 1
  Steps run = (κs : Lfts (suc n)) (qs : Shares (suc n)) (a : Args (signature T R ss) κs) (vss : Valss (types_at ss κs)) → ent 𝓤 (sep 𝓤 (Brought κs qs a vss) (emp 𝓤)) (run (t.val a.0.now ∷ flat (types_at ss κs) vss) (Stepped κs qs a))

  module _ (ps : SlotsPass ss) (C : Calls 𝓤 H) (Λ : Loops 𝓤 H) (fm : FmC 𝓤 H 𝓛.laws C) (key : S.Callee) (steps : Steps (C key)) where
    -- the function's MIR, and the other parameters' machine values
    abbrev runs-code : Fun 𝓤
    runs-code = WpFn 𝓤 H C Λ (lent_code o (slot_kinds ss ps) (suc n) key)

    abbrev spelt-out : (κs : Lfts (suc n)) → Args (signature T R ss) κs → Valss (types_at ss κs)
    spelt-out κs a = valss (types_at ss κs) (spells κs ss ps) a.1

    -- the walk, at each choice of lifetimes, shares and arguments
    walk_at : (κs : Lfts (suc n)) (qs : Shares (suc n)) (a : Args (signature T R ss) κs) → Are (types_at ss κs) (Ises (types_at ss κs)) a.1 (spelt-out κs a)
        → ent 𝓤 (on_entry 𝓛 (signature T R ss) κs qs a (mut_vals a.0, spelt-out κs a)) (runs-code (mut_vals a.0 ++ flat (types_at ss κs) (spelt-out κs a)) (Done κs qs a))
    walk_at κs qs a are =
        let P : SProp 𝓤 = Brought κs qs a (spelt-out κs a) in
        subst (λ (us : List Val). ent 𝓤 (on_entry 𝓛 (signature T R ss) κs qs a (mut_vals a.0, spelt-out κs a)) (runs-code (mut_vals a.0 ++ us) (Done κs qs a))) (all-flat κs ss ps a.1)
        (lent-walk-closed o 𝓛 (Tokens κs qs a) (Fins κs ss ls a.1) (lasts_of κs ss ls a.1) (Said κs qs a) κs.0 qs.0 a.0.ref_ptr.0 a.0.ref_ptr.1 a.0.ghost_name (slot_kinds ss ps) (machs κs ss ps a.1) a.0.now C Λ
        (owns (types_at ss κs) a.1 (spelt-out κs a)) (all_fit κs 𝓛 ss ps a.1 are) fm (suc n) key
        (subst (λ (us : List Val). ent 𝓤 P (C key (t.val a.0.now ∷ us) (Stepped κs qs a))) (sym (all-flat κs ss ps a.1))
        (via 𝓤 (sep 𝓤 P (emp 𝓤)) (via 𝓤 (sep 𝓤 (emp 𝓤) P) (emp∗ 𝓤 P) (comm∗ 𝓤 (emp 𝓤) P)) (steps κs qs a (spelt-out κs a)))))

    -- at the machine values that the types tell
    meets : Meets 𝓛 (signature T R ss) runs-code (promise T R ss ls 𝓛 Q)
    meets y =
        let κs : Lfts (suc n) = y.0.0 in
        via 𝓤 (on_entry 𝓛 (signature T R ss) κs y.0.1 y.0.3 y.0.4) (fst∗ 𝓤 _ (emp 𝓤))
        (said 𝓛 (signature T R ss) κs y.0.1 (mut_vals, spells κs ss ps) (mut_Tells (named 0) κs.0 T, all_told κs ss ps) y.0.3
        (λ vss. runs-code (flat (types_at (signature T R ss).params κs) vss) (Done κs y.0.1 y.0.3)) y.0.4 (λ are. walk_at κs y.0.1 y.0.3 are.1))

-- ---- the theorem. In the environment γ the function is `own`, of the MIR fn, and `key` is `step`
module _ {T R O : RattleType} {t : Valued T} {r : Valued R} (o : Outcome t r O) {n : ℕ} (ss : List (Slot (suc n))) (ls : Kepts ss) (ps : SlotsPass ss)
    {M : Type 1} {𝓤 : Ura M} (𝓛 : Logic 𝓤) (𝓜 : Model 𝓤 𝓛.H) (𝓡 : Running 𝓤 𝓛.H 𝓜) (Q : Ensures T R ss ls 𝓤) where
  open 𝓛 use {H}

  pub lent-meets : (γ : Env) (own key : S.Callee) (fn : S.Fn) → Closed 𝓤 H (tables 𝓤 H 𝓜 𝓡 γ).C (tables 𝓤 H 𝓜 𝓡 γ).Λ own fn → lent_code o (slot_kinds ss ps) (suc n) key ≡ fn → (step : Routine) → γ key ≡ step
      → Steps o ss ls 𝓛 Q (𝓡.run step) → Meets 𝓛 (signature T R ss) (𝓡.run (γ own)) (promise T R ss ls 𝓛 Q)
  unfolding tables_of
  lent-meets γ own key fn closed is step calls steps =
      let 𝓣 : Tables 𝓤 H = tables_of 𝓤 H 𝓜 (tables 𝓤 H 𝓜 𝓡 γ) in
      entered 𝓤 H (triple_of 𝓛 (signature T R ss) (promise T R ss ls 𝓛 Q)) (tables 𝓤 H 𝓜 𝓡 γ).C (tables 𝓤 H 𝓜 𝓡 γ).Λ own fn closed
      (subst (λ (g : S.Fn). Meets 𝓛 (signature T R ss) (WpFn 𝓤 H 𝓣.C 𝓣.Λ g) (promise T R ss ls 𝓛 Q)) is
      (meets o ss ls 𝓛 Q ps 𝓣.C 𝓣.Λ (fm_of 𝓤 H 𝓛.laws 𝓣) key (subst (λ (s : Routine). Steps o ss ls 𝓛 Q (𝓡.run s)) (sym calls) steps)))
