-- A function over a lent record: `fn f(a: &mut Rec, ..) -> Ans { let o = step(*a, ..); *a = o.kept; o.told }`. A walk of its MIR, once for every such function: the record's borrow is opened, the whole record is copied out, `step` is called on the copy and the other parameters,
-- the record that it returns is stored, by way of a local, and the borrow is closed. Nothing of the record's fields is said, and of `step` no more than that it meets its contract. Each other `&mut` goes to it at its own lifetime, share and name, for good.
-- The declared types stand under variables here, so no step spells one out, which is what costs.
-- Assumes `Logic`.
use Rattle.std.specs.Prelude.{◌≡◌, refl, ℕ, suc, [], ◌∷◌, List, ◌++◌, map, T as Tᵇ}
use Rattle.std.proofs.Common.{ap, sym, subst}
use seplogic.Ra.Ura.{Ura}
use base.Fraction.{full_share}
use mir.Syntax as S
use mir.Syntax.{named}
use mir.Raw.{raw as raw_ty}
use mir.Val.{Val, WT, has_ty, vptr, vstruct, vcons, vnil}
use base.Logic.{SProp, ent, sep, ex, id⊢}
use base.Fml.{GName, Lft, Share, Fml, ftrue, fsep, flft, fobs, fauth, fres, fbor, fobor, fat, froom, fdies}
use prog.Wp.{Heap, Calls, Loops, WpFn}
use types.Logic.{Logic, sem}
use types.Kit.{Sq, Item, prop, lands, at_ret, ‵, raw, ◌⊛◌, some, later, ◌$◌, ◌∵◌, !, qed, move, use1, split, join, pick, rewrite, fsplit, fsplit3, fjoin, drop, frame, show, suffices, updating, now, await, done}
use types.Run.{look, look_raw, init, store_raw, forget, stop, hop, fld, load, of_opd, and_then, assigns, land, returns, enter, params1, pass1}
use types.Part.{whole, sub, look_in}
use types.SemTy.{Body}
use sound.WpLaws.{FmC}
use Rattle.std.specs.Borrow.{RattleType}
use denote.Laws.{Is, Tells, Makes, Typed, Lawful, shows}
use denote.Memory.{mem, cell_at, pointee}
use denote.Ref.{MutRef}
use denote.Steps.{only, opens, closes, owned, peeks}
use denote.Struct.Steps.{spelt}
use denote.Triple.Call.{calls_from}
use Rattle.lending.specs.Params.{ParamKind, Machs, vals_of, MachsFit, handed_types, lents, here, past, lend_again, operands, CellBlocks, front_blocks, back, env_of, At, at_all, at_front, at_back, Rooms, ParamsHeld, Relent, from_at, allocated, freed, stored, rooms-apart, rooms-together, lent_again, operands-read, operands-behind, held-room, relent-room}

-- ---- a type of one machine value that owns only facts
pub record Valued (R : RattleType) : Type 2 where
  pub ty : S.Ty
  pub mir : R.mir ≡ ty ∷ []
  pub val : R.Denot → Val
  pub tells : Tells R (Is R) (λ x. val x ∷ [])
  pub lawful : {M : Type 1} {𝓤 : Ura M} (𝓛 : Logic 𝓤) → Lawful 𝓛 R
  pub makes : {M : Type 1} {𝓤 : Ura M} (𝓛 : Logic 𝓤) → Makes 𝓛 R (Is R)

-- a struct of two such: what is told, and behind it the record that is kept
abbrev pub two_ty : S.Sym → S.Ty → S.Ty → S.Ty
two_ty ν σ τ = S.ty_struct ν (S.tcons σ (S.tcons τ S.tnil))

abbrev pub two_val : Val → Val → Val
two_val u v = vstruct (vcons u (vcons v vnil))

-- the outcome O of a step, at a record T and an answer R
pub record Outcome {T R : RattleType} (t : Valued T) (r : Valued R) (O : RattleType) : Type 2 where
  pub name : S.Sym
  pub told : O.Denot → R.Denot
  pub kept : O.Denot → T.Denot
  pub mir : O.mir ≡ two_ty name r.ty t.ty ∷ []
  pub lawful : {M : Type 1} {𝓤 : Ura M} (𝓛 : Logic 𝓤) → Lawful 𝓛 O
  pub tells : Tells O (Is O) (λ x. two_val (r.val (told x)) (t.val (kept x)) ∷ [])
  pub parts : (x : O.Denot) (vs : List Val) → Is O x vs → Is R (told x) (r.val (told x) ∷ []) × Is T (kept x) (t.val (kept x) ∷ [])

-- a value may stand in a cell of its type
pub fits_in : {M : Type 1} {𝓤 : Ura M} (𝓛 : Logic 𝓤) (R : RattleType) → Lawful 𝓛 R → (τ : S.Ty) → R.mir ≡ τ ∷ [] → (x : R.Denot) (v : Val) → Is R x (v ∷ []) → Tᵇ (has_ty τ v) × WT v
fits_in 𝓛 R law τ e x v is = (subst (λ (τs : List S.Ty). Typed τs (v ∷ [])) e (law.typed x (v ∷ []) is)).0

pub val-fits : {M : Type 1} {𝓤 : Ura M} (𝓛 : Logic 𝓤) → {R : RattleType} (r : Valued R) (x : R.Denot) → Is R x (r.val x ∷ []) → Tᵇ (has_ty r.ty (r.val x)) × WT (r.val x)
val-fits 𝓛 {R} r x = fits_in 𝓛 R (r.lawful 𝓛) r.ty r.mir x (r.val x)

module _ {T R O : RattleType} {t : Valued T} {r : Valued R} (o : Outcome t r O) where
  -- the outcome's MIR type
  abbrev out-ty : S.Ty
  out-ty = two_ty o.name r.ty t.ty

  -- ---- the code
  module _ (ks : List ParamKind) where
    -- the locals: the answer, the reference, the other parameters; the outcome, the copy, the slices that are lent again, and the record to store
    abbrev behind : List S.Ty
    behind = out-ty ∷ t.ty ∷ (lents ks ++ (t.ty ∷ []))

    abbrev locals : List S.Ty
    locals = r.ty ∷ S.ty_ref (named 0) S.mut (pointee T.written) ∷ (handed_types ks ++ behind)

    -- the outcome's number; the copy's is the next, and behind it are those of the slices, and that of the record to store
    abbrev at-o : ℕ
    at-o = past (handed_types ks) 2

    abbrev at_x : ℕ
    at_x = past (lents ks) (suc (suc at-o))

    -- behind the reference
    abbrev lent-record : S.Place
    lent-record = S.place 1 (S.deref t.ty ∷ [])

    -- the store of the record, and the answer
    abbrev storing : S.Body
    storing = S.seq (S.assign (S.place at_x []) (S.rv_opd (S.copy (S.place at-o (S.field 1 ∷ []))))) (S.seq (S.assign lent-record (S.rv_opd (S.copy (S.place at_x [])))) (S.seq (S.assign (S.place 0 []) (S.rv_opd (S.copy (S.place at-o (S.field 0 ∷ []))))) S.return))

    abbrev pub lent_code : ℕ → S.Callee → S.Fn
    lent_code n key = record {
      lifetimes = n;
      outlives = [];
      ty_params = [];
      givens = 0;
      params = past (handed_types ks) 1;
      locals = map here locals;
      body = S.seq (S.assign (S.place (suc at-o) []) (S.rv_opd (S.copy lent-record)))
          (lend_again 2 (suc (suc at-o)) ks (S.seq (S.call key (S.copy (S.place (suc at-o) []) ∷ operands 2 (suc (suc at-o)) ks) (S.place at-o [])) storing));
    }

    -- the blocks of the other parameters, and of the locals behind them
    abbrev those : CellBlocks locals → CellBlocks (handed_types ks)
    those bs = front_blocks (handed_types ks) behind bs.1.1

    abbrev rest : CellBlocks locals → CellBlocks behind
    rest bs = back (handed_types ks) behind bs.1.1

    -- of those, the blocks of the slices, and of the record to store
    abbrev slices : CellBlocks locals → CellBlocks (lents ks)
    slices bs = front_blocks (lents ks) (t.ty ∷ []) (rest bs).1.1

    abbrev last : CellBlocks locals → CellBlocks (t.ty ∷ [])
    last bs = back (lents ks) (t.ty ∷ []) (rest bs).1.1

    -- and where the environment has them
    module _ {M : Type 1} (𝓤 : Ura M) (H : Heap 𝓤) (bs : CellBlocks locals) where
      near : At 𝓤 H (env_of locals bs) 2 (handed_types ks) (those bs)
      near = at_front 𝓤 H (env_of locals bs) 2 (handed_types ks) behind bs.1.1 (at_all 𝓤 H locals bs).1.1

      far : At 𝓤 H (env_of locals bs) at-o behind (rest bs)
      far = at_back 𝓤 H (env_of locals bs) 2 (handed_types ks) behind bs.1.1 (at_all 𝓤 H locals bs).1.1

      far-slices : At 𝓤 H (env_of locals bs) (suc (suc at-o)) (lents ks) (slices bs)
      far-slices = at_front 𝓤 H (env_of locals bs) (suc (suc at-o)) (lents ks) (t.ty ∷ []) (rest bs).1.1 far.1.1

      far-last : At 𝓤 H (env_of locals bs) at_x (t.ty ∷ []) (last bs)
      far-last = at_back 𝓤 H (env_of locals bs) (suc (suc at-o)) (lents ks) (t.ty ∷ []) (rest bs).1.1 far.1.1

  module _ {M : Type 1} {𝓤 : Ura M} (𝓛 : Logic 𝓤) (Tok : SProp 𝓤) (Z : Type 0) (Lasts : Z → Fml) (Q : R.Denot → T.Denot → Z → SProp 𝓤) where
    -- ---- what is left, beside the tokens of the other lifetimes: Q of the answer, the record and the other last values z, of which `Lasts z` says that they are the last ones
    -- by `step`, at the machine value w
    open 𝓛 use {H, A}

    abbrev pub Left : Val → SProp 𝓤
    Left w = H.⇛ (ex 𝓤 (λ (x : O.Denot). sep 𝓤 (sep 𝓤 Tok (sem 𝓛 (O.own_val x (w ∷ [])))) (ex 𝓤 (λ (zs : Unit {0} × Z). sep 𝓤 (sem 𝓛 (fsep ftrue (Lasts zs.1))) (Q (o.told x) (o.kept x) zs.1)))))

    -- by the function, over a record that is lent under the name γ, at the machine value v
    abbrev pub Ends : GName → R.Denot → SProp 𝓤
    Ends γ y = ex 𝓤 (λ (ws : T.Denot × Z). sep 𝓤 (sem 𝓛 (fsep (fres γ (T.coded.code ws.0)) (Lasts ws.1))) (Q y ws.0 ws.1))

    abbrev pub LentAnswers : GName → Lft → Share → Val → R.Denot → SProp 𝓤
    LentAnswers γ κ q v y = sep 𝓤 (sep 𝓤 (sep 𝓤 (A.lft κ q) Tok) (sem 𝓛 (R.own_val y (v ∷ [])))) (Ends γ y)

    abbrev pub Leaves : GName → Lft → Share → Val → SProp 𝓤
    Leaves γ κ q v = H.⇛ (ex 𝓤 (LentAnswers γ κ q v))

    -- the same, and the record's borrow at (b, d) is handed back, closed: what a contract says of a `&mut` at exit
    module _ (b d : ℕ) where
      abbrev pub EndsClosed : GName → Lft → R.Denot → SProp 𝓤
      EndsClosed γ κ y = ex 𝓤 (λ (ws : T.Denot × Z). sep 𝓤 (sem 𝓛 (fsep (fsep (fres γ (T.coded.code ws.0)) (fbor κ (Body (mem T) b d γ))) (Lasts ws.1))) (Q y ws.0 ws.1))

      abbrev pub AnswersClosed : GName → Lft → Share → Val → R.Denot → SProp 𝓤
      AnswersClosed γ κ q v y = sep 𝓤 (sep 𝓤 (sep 𝓤 (A.lft κ q) Tok) (sem 𝓛 (R.own_val y (v ∷ [])))) (EndsClosed γ κ y)

      abbrev pub LeavesClosed : GName → Lft → Share → Val → SProp 𝓤
      LeavesClosed γ κ q v = H.⇛ (ex 𝓤 (AnswersClosed γ κ q v))

      pub closed-leaves : (γ : GName) (κ : Lft) (q : Share) (v : Val) → ent 𝓤 (LeavesClosed γ κ q v) (Leaves γ κ q v)
      closed-leaves γ κ q v =
          qed 𝓛 (raw (LeavesClosed γ κ q v) ∷ []) ∵ updating ! $
          use1 𝓛 (later (some (λ (y : R.Denot). raw (sep 𝓤 (sep 𝓤 (A.lft κ q) Tok) (sem 𝓛 (R.own_val y (v ∷ [])))) ⊛ some (λ (ws : T.Denot × Z). ‵ (fsep (fsep (fres γ (T.coded.code ws.0)) (fbor κ (Body (mem T) b d γ))) (Lasts ws.1)) ⊛ raw (Q y ws.0 ws.1))))) (id⊢ 𝓤 _) $
          await ! tt $ pick ! (λ y. split ! $ move ! (1 ∷ []) $ pick ! (λ ws. split ! $ fsplit ! $ fsplit ! $ move ! (1 ∷ []) $ drop ! $ fjoin ! $ now ! $ show ! (LentAnswers γ κ q v) y $ move ! (2 ∷ []) $ frame ! $
          show ! (λ (zs : T.Denot × Z). sep 𝓤 (sem 𝓛 (fsep (fres γ (T.coded.code zs.0)) (Lasts zs.1))) (Q y zs.0 zs.1)) ws $ frame ! $ done !))

    module _ (κ : Lft) (q : Share) (b d : ℕ) (γ : GName) where
      -- the borrow is closed: its last value is settled, and all is handed back, the borrow too
      exits : (x : O.Denot) (z : Z) → Is R (o.told x) (r.val (o.told x) ∷ [])
          → Sq 𝓛 (‵ (fobs γ (T.coded.code (o.kept x))) ∷ ‵ (fbor κ (Body (mem T) b d γ)) ∷ ‵ (flft κ q) ∷ raw Tok ∷ ‵ (Lasts z) ∷ raw (Q (o.told x) (o.kept x) z) ∷ []) (prop (LeavesClosed b d γ κ q (r.val (o.told x))))
      exits x z is =
          updating ! $ now ! $ use1 𝓛 (‵ (fres γ (T.coded.code (o.kept x)))) (𝓛.names.obs-res γ (T.coded.code (o.kept x))) $ show ! (AnswersClosed b d γ κ q (r.val (o.told x))) (o.told x) $
          owned ! R (Is R) (r.makes 𝓛) (o.told x) (r.val (o.told x) ∷ []) is $ move ! (3 ∷ 4 ∷ []) $ join ! $ move ! (0 ∷ 1 ∷ []) $ join ! $ frame ! $
          show ! (λ (ws : T.Denot × Z). sep 𝓤 (sem 𝓛 (fsep (fsep (fres γ (T.coded.code ws.0)) (fbor κ (Body (mem T) b d γ))) (Lasts ws.1))) (Q (o.told x) ws.0 ws.1)) (o.kept x, z) $ fjoin ! $ fjoin ! $ frame ! $ done !

      module _ (ks : List ParamKind) (ms : Machs ks) (h : T.Denot) (C : Calls 𝓤 H) (Λ : Loops 𝓤 H) where
        -- what stands while `step` runs: the parameters, the slices that are lent again, the record behind its open borrow, the copy, room for the outcome, the reference, room for the answer, and room for the record to store
        abbrev Waiting : CellBlocks (locals ks) → List (Item 𝓤)
        Waiting bs =
            ParamsHeld 𝓤 ks (those ks bs) ms ∷ Relent 𝓤 ks (slices ks bs) ms ∷ ‵ (fat full_share (raw_ty t.ty) b d (t.val h)) ∷ ‵ (fobor κ q (Body (mem T) b d γ)) ∷ ‵ (fobs γ (T.coded.code h)) ∷ ‵ (fauth γ (T.coded.code h))
            ∷ ‵ (fat full_share t.ty (rest ks bs).1.0 0 (t.val h)) ∷ ‵ (fdies t.ty (rest ks bs).1.0) ∷ (‵ (froom out-ty (rest ks bs).0 0) ⊛ ‵ (fdies out-ty (rest ks bs).0))
            ∷ ‵ (fat full_share (S.ty_ref (named 0) S.mut (pointee T.written)) bs.1.0 0 (vptr b d)) ∷ ‵ (fdies (S.ty_ref (named 0) S.mut (pointee T.written)) bs.1.0) ∷ (‵ (froom r.ty bs.0 0) ⊛ ‵ (fdies r.ty bs.0)) ∷ Rooms 𝓤 (t.ty ∷ []) (last ks bs) ∷ []

        -- from the return of `step` at the machine value w on, to what follows from all that is handed back
        landed : (K : Val → SProp 𝓤) → ((v : Val) → ent 𝓤 (LeavesClosed b d γ κ q v) (K v)) → (bs : CellBlocks (locals ks)) (w : Val)
            → Sq 𝓛 (raw (Left w) ∷ Waiting bs) (lands C Λ (env_of (locals ks) bs) (S.place (at-o ks) []) w (storing ks) (at_ret (env_of (locals ks) bs) K))
        landed K from-closed bs w =
            let at_rest = far ks 𝓤 H bs in
            let at-end = far-last ks 𝓤 H bs in
            use1 𝓛 (later (some (λ (x : O.Denot). (raw Tok ⊛ ‵ (O.own_val x (w ∷ []))) ⊛ some (λ (zs : Unit {0} × Z). ‵ (fsep ftrue (Lasts zs.1)) ⊛ raw (Q (o.told x) (o.kept x) zs.1))))) (id⊢ 𝓤 _) $ await ! tt $ pick ! (λ x.
            split ! $ move ! (1 ∷ []) $ pick ! (λ zs. split ! $ fsplit ! $ drop ! $ move ! (2 ∷ []) $ split ! $ move ! (1 ∷ []) $ peeks ! O (Is O) (shows 𝓛 O) x (w ∷ []) (λ is.
            let is-told = (o.parts x (w ∷ []) is).0 in
            let is-kept = (o.parts x (w ∷ []) is).1 in
            drop ! $ move ! (11 ∷ []) $ split ! $ land ! (from_at at_rest.0 (stop !)) (init ! 0 {τ = out-ty} {v = w} refl (fits_in 𝓛 O (o.lawful 𝓛) out-ty o.mir x w is)) $
            rewrite ! 0 (λ (u : Val). ‵ (fat full_share out-ty (rest ks bs).0 0 u)) (ap only (o.tells x (w ∷ []) is)) refl $
            move ! (16 ∷ []) $ split ! $ split ! $ assigns ! (of_opd ! (load ! (from_at at_rest.0 (fld ! refl (stop !))) (look_in ! 3 (sub ! 1 refl (whole !))))) (from_at at-end.0 (stop !))
            (init ! 0 {τ = t.ty} {v = t.val (o.kept x)} refl (val-fits 𝓛 t (o.kept x) is-kept)) $ move ! (3 ∷ 4 ∷ 5 ∷ 6 ∷ 7 ∷ 8 ∷ 9 ∷ 10 ∷ 11 ∷ 12 ∷ 13 ∷ 14 ∷ 15 ∷ 16 ∷ 17 ∷ 18 ∷ []) $
            assigns ! (of_opd ! (load ! (from_at at-end.0 (stop !)) (look ! 16 refl))) (from_at refl (hop ! (look ! 13 refl) (stop !)))
            (store_raw ! 7 {τ = t.ty} {v = t.val (o.kept x)} refl (val-fits 𝓛 t (o.kept x) is-kept)) $ move ! (15 ∷ []) $ split ! $
            assigns ! (of_opd ! (load ! (from_at at_rest.0 (fld ! refl (stop !))) (look_in ! 2 (sub ! 0 refl (whole !))))) (from_at refl (stop !))
            (init ! 0 {τ = r.ty} {v = r.val (o.told x)} refl (val-fits 𝓛 r (o.told x) is-told)) $
            owned ! T (Is T) (t.makes 𝓛) (o.kept x) (t.val (o.kept x) ∷ []) is-kept $ move ! (10 ∷ 0 ∷ 11 ∷ 12 ∷ 13 ∷ []) $
            rewrite ! 0 (λ (τs : List S.Ty). ‵ (cell_at full_share τs (t.val (o.kept x) ∷ []) b d)) (sym t.mir) refl $ closes ! tt T (o.kept x) (t.val (o.kept x) ∷ []) b d $
            returns ! (look ! 3 refl) $ forget ! 3 refl $ forget ! 5 refl $ forget ! 12 refl $ forget ! 14 refl $ forget ! 16 refl $ move ! (11 ∷ []) $ relent-room ks (slices ks bs) ms (
            move ! (16 ∷ 17 ∷ 18 ∷ []) $ join ! $ join ! $ move ! (1 ∷ 0 ∷ []) $ rooms-together (lents ks) (t.ty ∷ []) (rest ks bs).1.1 (
            move ! (12 ∷ 13 ∷ 0 ∷ []) $ join ! $ join ! $ move ! (6 ∷ 7 ∷ 0 ∷ []) $ join ! $ join ! $ move ! (9 ∷ 0 ∷ []) $ held-room ks (behind ks) bs.1.1 ms (
            move ! (9 ∷ 10 ∷ 0 ∷ []) $ join ! $ join ! $ move ! (4 ∷ 5 ∷ 0 ∷ []) $ join ! $ join ! $ freed (locals ks) bs (suffices ! (LeavesClosed b d γ κ q (r.val (o.told x))) (from-closed (r.val (o.told x))) $ exits x zs.1 is-told)))))))

        -- what `step` is passed, beside what the other parameters own: the record
        abbrev Passed : Fml → Fml
        Passed Owns = fsep (T.own_val h (t.val h ∷ [])) Owns

        -- and the function: the reference
        abbrev Reached : Fml → Fml
        Reached Owns = fsep ((MutRef (named 0) κ T).own_val (record { ref_ptr = (b, d); ghost_name = γ; now = h }) (vptr b d ∷ [])) Owns

        -- from the entry on
        walk-to : (K : Val → SProp 𝓤) → ((v : Val) → ent 𝓤 (LeavesClosed b d γ κ q v) (K v)) → (Owns : Fml) → MachsFit ks ms → FmC 𝓤 H 𝓛.laws C → (n : ℕ) (key : S.Callee) → ent 𝓤 (sep 𝓤 Tok (sem 𝓛 (Passed Owns))) (C key (t.val h ∷ vals_of ks ms) Left)
            → ent 𝓤 (sep 𝓤 (sep 𝓤 (A.lft κ q) Tok) (sem 𝓛 (Reached Owns))) (WpFn 𝓤 H C Λ (lent_code ks n key) (vptr b d ∷ vals_of ks ms) K)
        walk-to K from-closed Owns fits fm n key met =
            qed 𝓛 ((‵ (flft κ q) ⊛ raw Tok) ∷ ‵ (Reached Owns) ∷ []) ∵ enter ! C Λ (lent_code ks n key) (vptr b d ∷ vals_of ks ms) _ $ allocated (locals ks) (λ bs.
            let E : List (S.Ty × ℕ) = env_of (locals ks) bs in
            let at-those = near ks 𝓤 H bs in
            let at_rest = far ks 𝓤 H bs in
            let at-slices = far-slices ks 𝓤 H bs in
            split ! $ move ! (1 ∷ []) $ split ! $ split ! $ params1 ! $ pass1 ! (init ! 0 refl (tt, tt)) $ move ! (2 ∷ []) $ stored ks (behind ks) bs.1.1 ms fits (
            move ! (1 ∷ []) $ split ! $ move ! (1 ∷ []) $ split ! $ move ! (1 ∷ []) $ rooms-apart (lents ks) (t.ty ∷ []) (rest ks bs).1.1 (
            move ! (2 ∷ 0 ∷ 3 ∷ 4 ∷ 5 ∷ 6 ∷ 7 ∷ 8 ∷ 9 ∷ []) $ split ! $ move ! (9 ∷ []) $ fsplit ! $ fsplit3 ! $ drop ! $ move ! (11 ∷ []) $ split ! $ move ! (2 ∷ 3 ∷ 0 ∷ []) $
            opens ! tt T {h = h} b d (λ vs. spelt ! T (Is T) (shows 𝓛 T) (λ x. t.val x ∷ []) t.tells full_share h vs b d $
            move ! (1 ∷ []) $ peeks ! T (Is T) (shows 𝓛 T) h (t.val h ∷ []) (λ is. move ! (1 ∷ 0 ∷ []) $ rewrite ! 0 (λ (τs : List S.Ty). ‵ (cell_at full_share τs (t.val h ∷ []) b d)) t.mir refl $
            assigns ! (of_opd ! (load ! (from_at refl (hop ! (look ! 12 refl) (stop !))) (look_raw ! 0 {τ = t.ty} refl))) (from_at at_rest.1.0 (stop !)) (init ! 7 refl (val-fits 𝓛 t h is)) $
            move ! (11 ∷ 9 ∷ []) $ lent_again E ks 2 (suc (suc (at-o ks))) (those ks bs) (slices ks bs) ms at-those at-slices fits (
            move ! (3 ∷ 8 ∷ []) $ fjoin ! $ move ! (7 ∷ 0 ∷ []) $ join ! $ calls_from ! fm (raw Tok ⊛ ‵ (Passed Owns)) (t.val h ∷ vals_of ks ms) Left met
            (and_then ! (load ! (from_at at_rest.1.0 (stop !)) (look ! 7 refl)) (operands-behind (operands-read E ks 2 (suc (suc (at-o ks))) (those ks bs) (slices ks bs) ms at-those at-slices _))) (landed K from-closed bs)))))))

        -- where `step` leaves what it must, so does the function
        pub lent-walk : (Owns : Fml) → MachsFit ks ms → FmC 𝓤 H 𝓛.laws C → (n : ℕ) (key : S.Callee) → ent 𝓤 (sep 𝓤 Tok (sem 𝓛 (Passed Owns))) (C key (t.val h ∷ vals_of ks ms) Left)
            → ent 𝓤 (sep 𝓤 (sep 𝓤 (A.lft κ q) Tok) (sem 𝓛 (Reached Owns))) (WpFn 𝓤 H C Λ (lent_code ks n key) (vptr b d ∷ vals_of ks ms) (Leaves γ κ q))
        lent-walk = walk-to (Leaves γ κ q) (closed-leaves b d γ κ q)

        -- and it hands the borrow back
        pub lent-walk-closed : (Owns : Fml) → MachsFit ks ms → FmC 𝓤 H 𝓛.laws C → (n : ℕ) (key : S.Callee) → ent 𝓤 (sep 𝓤 Tok (sem 𝓛 (Passed Owns))) (C key (t.val h ∷ vals_of ks ms) Left)
            → ent 𝓤 (sep 𝓤 (sep 𝓤 (A.lft κ q) Tok) (sem 𝓛 (Reached Owns))) (WpFn 𝓤 H C Λ (lent_code ks n key) (vptr b d ∷ vals_of ks ms) (LeavesClosed b d γ κ q))
        lent-walk-closed = walk-to (LeavesClosed b d γ κ q) (λ v. id⊢ 𝓤 (LeavesClosed b d γ κ q v))
