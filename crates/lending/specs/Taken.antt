-- The caller's side: `fn g(mut a: Rec, ..) -> Out { let told = f(&mut a, ..); Out { told, kept: a } }`, which lends a record of its own to a function over a lent record. A walk of its MIR, once for every such function: the record is stored in a local, the local is lent for a
-- lifetime that is made for the call, `f` is called on it and the other parameters, the lifetime is ended, and the record comes back as `f` left it. Of `f` no more is known than that it meets its contract.
-- Assumes `Logic`.
use Rattle.std.specs.Prelude.{◌≡◌}
use Rattle.std.proofs.Math.Path.{refl}
use Rattle.std.proofs.Common.{ap, sym, subst}
use Prim.Native.Nat.{ℕ, zero, suc}
use mathlib.Core.List.{[], ◌∷◌, List, ◌++◌, map}
use seplogic.Ra.Ura.{Ura}
use base.Fraction.{full_share}
use mir.Syntax as S
use mir.Syntax.{named}
use mir.Raw.{raw as raw_ty}
use mir.Val.{Val, vptr}
use base.Logic.{SProp, ent, sep, emp, ex, guard, id⊢, via, fst∗}
use base.Fml.{GName, Fml, ftrue, fsep, flft, flent, fres, fat, froom, fdies}
use prog.Wp.{Heap, Env, Calls, Loops, WpFn}
use types.Logic.{Logic, sem}
use types.Kit.{Sq, Item, Goal, prop, lands, at_ret, allocs, ‵, raw, ◌⊛◌, some, later, given, ◌$◌, ◌∵◌, !, qed, move, use1, use3, split, join, pick, learn, check, rewrite, fsplit, fjoin, fpick, fpack, drop, frame, show, updating, now, await, done}
use types.Tokens.{lft_new, lft_end}
use types.Run.{look, init, forget, stop, load, addr, of_opd, and_then, no_more, assigns, land, returns, enter, params1, pass1, alloc1}
use types.Part.{agg}
use types.SemTy.{Body}
use sound.WpLaws.{FmC, fm→mono_c}
use contract.Lifetimes.{Lfts, Shares, toks}
use denote.RattleType.{RattleType, Valss, flat, owns}
use denote.Laws.{Is, Makes, shows, valss}
use denote.Memory.{mem, cell_at, part_at, part_of, pointee}
use denote.Ref.{MutRef}
use denote.Lend.{lends_ref, ref_back}
use denote.Steps.{only, owned, peeks, nothing, said}
use denote.Struct.Steps.{spelt}
use denote.Signature.{Slot, Signature, plain, types_at}
use denote.Triple.Entry.{Args, on_entry}
use denote.Triple.Call.{calls_from}
use Rattle.lending.specs.Params.{ParamKind, Machs, vals_of, MachsFit, handed_types, lents, here, past, lend_again, operands, CellBlocks, front_blocks, back, env_of, At, at_all, at_front, at_back, Rooms, ParamsHeld, Relent, from_at, allocated, freed, stored, rooms-apart, rooms-together, lent_again, operands-read, operands-behind, held-room, relent-room}
use Rattle.lending.specs.LentWalk.{Valued, Outcome, two_ty, two_val, fits_in, val-fits, Left, Leaves, LeavesClosed, closed-leaves}
use Rattle.lending.specs.Lent.{SlotsPass, slot_kinds, machs, spells, all_told, all_fit, all-flat}

-- an outcome is made of an answer and a record
pub record Joins {T R O : RattleType} {t : Valued T} {r : Valued R} (o : Outcome t r O) : Type 2 where
  pub make : R.Denot → T.Denot → O.Denot
  pub told : (y : R.Denot) (h : T.Denot) → y ≡ o.told (make y h)
  pub kept : (y : R.Denot) (h : T.Denot) → h ≡ o.kept (make y h)
  pub made : (y : R.Denot) (h : T.Denot) → Is R y (r.val y ∷ []) → Is T h (t.val h ∷ []) → Is O (make y h) (two_val (r.val y) (t.val h) ∷ [])
  pub makes : {M : Type 1} {𝓤 : Ura M} (𝓛 : Logic 𝓤) → Makes 𝓛 O (Is O)

module _ {M : Type 1} {𝓤 : Ura M} {𝓛 : Logic 𝓤} where
  -- a function's locals are allocated, of which one has its address taken
  open 𝓛 use {H}

  allocated-slot : (τs : List S.Ty) (σ : S.Ty) (σs : List S.Ty) {Γ : List (Item 𝓤)} {Kt : Env 𝓤 H → Goal 𝓤 H} → ((bs : CellBlocks (τs ++ (σ ∷ σs))) → Sq 𝓛 (Rooms 𝓤 (τs ++ (σ ∷ σs)) bs ∷ Γ) (Kt (env_of (τs ++ (σ ∷ σs)) bs)))
      → Sq 𝓛 Γ (allocs (map here τs ++ (S.local σ S.memory_slot ∷ map here σs)) Kt)
  allocated-slot [] σ σs {Γ} {Kt} k = alloc1 ! (λ b. allocated σs {Kt = λ E. Kt ((σ, b) ∷ E)} (λ bs. move ! (1 ∷ 2 ∷ 0 ∷ []) $ join ! $ join ! $ k (b, bs)))
  allocated-slot (τ ∷ τs) σ σs {Γ} {Kt} k = alloc1 ! (λ b. allocated-slot τs σ σs {Kt = λ E. Kt ((τ, b) ∷ E)} (λ bs. move ! (1 ∷ 2 ∷ 0 ∷ []) $ join ! $ join ! $ k (b, bs)))

module _ {T R O : RattleType} {t : Valued T} {r : Valued R} (o : Outcome t r O) (j : Joins o) where
  abbrev out-ty : S.Ty
  out-ty = two_ty o.name r.ty t.ty

  -- ---- the code
  module _ (ks : List ParamKind) where
    abbrev ref-ty : S.Ty
    ref-ty = S.ty_ref S.erased S.mut (pointee T.written)

    -- the locals: the outcome, the record, the other parameters; the record in memory, the answer, the reference, the slices that are lent again, the record that came back
    abbrev lasting : List S.Ty
    lasting = r.ty ∷ ref-ty ∷ (lents ks ++ (t.ty ∷ []))

    abbrev behind : List S.Ty
    behind = t.ty ∷ lasting

    abbrev locals : List S.Ty
    locals = out-ty ∷ t.ty ∷ (handed_types ks ++ behind)

    -- the number of the record in memory; of the slices; of the record that came back
    abbrev at-m : ℕ
    at-m = past (handed_types ks) 2

    abbrev at-s : ℕ
    at-s = suc (suc (suc at-m))

    abbrev at_x : ℕ
    at_x = past (lents ks) at-s

    abbrev joining : S.Body
    joining = S.seq (S.assign (S.place at_x []) (S.rv_opd (S.copy (S.place at-m [])))) (S.seq (S.assign (S.place 0 []) (S.aggregate (S.copy (S.place (suc at-m) []) ∷ S.copy (S.place at_x []) ∷ []))) S.return)

    abbrev pub taking_fn : ℕ → S.Callee → S.Fn
    taking_fn n key = record {
      lifetimes = n;
      outlives = [];
      ty_params = [];
      givens = 0;
      params = past (handed_types ks) 1;
      locals = map here (out-ty ∷ t.ty ∷ handed_types ks) ++ (S.local t.ty S.memory_slot ∷ map here lasting);
      body = S.seq (S.assign (S.place at-m []) (S.rv_opd (S.copy (S.place 1 [])))) (S.seq (S.assign (S.place (suc (suc at-m)) []) (S.addr_of (S.place at-m [])))
          (lend_again 2 at-s ks (S.seq (S.call key (S.copy (S.place (suc (suc at-m)) []) ∷ operands 2 at-s ks) (S.place (suc at-m) [])) joining)));
    }

    abbrev those : CellBlocks locals → CellBlocks (handed_types ks)
    those bs = front_blocks (handed_types ks) behind bs.1.1

    abbrev rest : CellBlocks locals → CellBlocks behind
    rest bs = back (handed_types ks) behind bs.1.1

    abbrev slices : CellBlocks locals → CellBlocks (lents ks)
    slices bs = front_blocks (lents ks) (t.ty ∷ []) (rest bs).1.1.1

    abbrev last : CellBlocks locals → CellBlocks (t.ty ∷ [])
    last bs = back (lents ks) (t.ty ∷ []) (rest bs).1.1.1

    module _ {M : Type 1} (𝓤 : Ura M) (H : Heap 𝓤) (bs : CellBlocks locals) where
      near : At 𝓤 H (env_of locals bs) 2 (handed_types ks) (those bs)
      near = at_front 𝓤 H (env_of locals bs) 2 (handed_types ks) behind bs.1.1 (at_all 𝓤 H locals bs).1.1

      far : At 𝓤 H (env_of locals bs) at-m behind (rest bs)
      far = at_back 𝓤 H (env_of locals bs) 2 (handed_types ks) behind bs.1.1 (at_all 𝓤 H locals bs).1.1

      far-slices : At 𝓤 H (env_of locals bs) at-s (lents ks) (slices bs)
      far-slices = at_front 𝓤 H (env_of locals bs) at-s (lents ks) (t.ty ∷ []) (rest bs).1.1.1 far.1.1.1

      far-last : At 𝓤 H (env_of locals bs) at_x (t.ty ∷ []) (last bs)
      far-last = at_back 𝓤 H (env_of locals bs) at-s (lents ks) (t.ty ∷ []) (rest bs).1.1.1 far.1.1.1

  module _ {M : Type 1} {𝓤 : Ura M} (𝓛 : Logic 𝓤) (Tok : SProp 𝓤) (Z : Type 0) (Lasts : Z → Fml) (Q : R.Denot → T.Denot → Z → SProp 𝓤) where
    -- a record in a local lies in memory, and what lies in memory is a record in a local
    open 𝓛 use {H, A}

    lie : (h : T.Denot) (b : ℕ) → Is T h (t.val h ∷ []) → ent 𝓤 (sem 𝓛 (fat full_share t.ty b zero (t.val h))) (sem 𝓛 (part_at T full_share h b zero))
    unfolding part_of
    lie h b is =
        qed 𝓛 (‵ (fat full_share t.ty b zero (t.val h)) ∷ []) ∵ use1 𝓛 (‵ (fat full_share (raw_ty t.ty) b zero (t.val h))) (𝓛.laws.at_raw full_share t.ty b zero (t.val h)) $
        rewrite ! 0 (λ (τs : List S.Ty). ‵ (cell_at full_share τs (t.val h ∷ []) b zero)) (sym t.mir) refl $ owned ! T (Is T) (t.makes 𝓛) h (t.val h ∷ []) is $ move ! (1 ∷ 0 ∷ []) $ fjoin ! $
        fpack ! (List Val) (λ us. fsep (cell_at full_share T.mir us b zero) (T.own_val h us)) (t.val h ∷ []) $ done !

    rise : (h : T.Denot) (b : ℕ) → ent 𝓤 (sem 𝓛 (part_at T full_share h b zero)) (guard 𝓤 (Is T h (t.val h ∷ [])) (sem 𝓛 (fat full_share t.ty b zero (t.val h))))
    unfolding part_of
    rise h b =
        qed 𝓛 (‵ (part_at T full_share h b zero) ∷ []) ∵ fpick ! (λ vs. fsplit ! $ spelt ! T (Is T) (shows 𝓛 T) (λ x. t.val x ∷ []) t.tells full_share h vs b zero $ move ! (1 ∷ []) $
        peeks ! T (Is T) (shows 𝓛 T) h (t.val h ∷ []) (λ is. drop ! $ rewrite ! 0 (λ (τs : List S.Ty). ‵ (cell_at full_share τs (t.val h ∷ []) b zero)) t.mir refl $
        use1 𝓛 (‵ (fat full_share t.ty b zero (t.val h))) (𝓛.laws.raw_at full_share t.ty b zero (t.val h)) $ check ! is $ done !))

    -- what is left: the outcome, and what was said of the answer, the record and the other last values
    exits : (y : R.Denot) (h : T.Denot) (z : Z) → Is O (j.make y h) (two_val (r.val y) (t.val h) ∷ []) → Sq 𝓛 (raw Tok ∷ ‵ (Lasts z) ∷ raw (Q y h z) ∷ []) (prop (Left o 𝓛 Tok Z Lasts Q (two_val (r.val y) (t.val h))))
    exits y h z is =
        rewrite ! 2 (λ (u : R.Denot). raw (Q u h z)) (j.told y h) refl $ rewrite ! 2 (λ (u : T.Denot). raw (Q (o.told (j.make y h)) u z)) (j.kept y h) refl $ updating ! $ now ! $
        show ! (λ (x : O.Denot). sep 𝓤 (sep 𝓤 Tok (sem 𝓛 (O.own_val x (two_val (r.val y) (t.val h) ∷ [])))) (ex 𝓤 (λ (zs : Unit {0} × Z). sep 𝓤 (sem 𝓛 (fsep ftrue (Lasts zs.1))) (Q (o.told x) (o.kept x) zs.1)))) (j.make y h) $
        owned ! O (Is O) (j.makes 𝓛) (j.make y h) (two_val (r.val y) (t.val h) ∷ []) is $ move ! (1 ∷ 0 ∷ []) $ join ! $ frame ! $
        show ! (λ (zs : Unit {0} × Z). sep 𝓤 (sem 𝓛 (fsep ftrue (Lasts zs.1))) (Q (o.told (j.make y h)) (o.kept (j.make y h)) zs.1)) (tt, z) $ nothing ! $ fjoin ! $ frame ! $ done !

    module _ (ks : List ParamKind) (ms : Machs ks) (C : Calls 𝓤 H) (Λ : Loops 𝓤 H) where
      -- what stands while the function runs: the parameters, the slices that are lent again, the lender's part of the record, room for the record that comes back, the reference, room for the answer, the right to free the record's local, the parameter, and room for the outcome
      abbrev Waiting : (bs : CellBlocks (locals ks)) (α : ℕ) (γ : GName) (h : T.Denot) → List (Item 𝓤)
      Waiting bs α γ h =
          ParamsHeld 𝓤 ks (those ks bs) ms ∷ Relent 𝓤 ks (slices ks bs) ms ∷ ‵ (flent (α ∷ []) (Body (mem T) (rest ks bs).0 zero γ)) ∷ Rooms 𝓤 (t.ty ∷ []) (last ks bs)
          ∷ ‵ (fat full_share (ref-ty ks) (rest ks bs).1.1.0 zero (vptr (rest ks bs).0 zero)) ∷ ‵ (fdies (ref-ty ks) (rest ks bs).1.1.0)
          ∷ (‵ (froom r.ty (rest ks bs).1.0 zero) ⊛ ‵ (fdies r.ty (rest ks bs).1.0)) ∷ ‵ (fdies t.ty (rest ks bs).0)
          ∷ ‵ (fat full_share t.ty bs.1.0 zero (t.val h)) ∷ ‵ (fdies t.ty bs.1.0) ∷ (‵ (froom out-ty bs.0 zero) ⊛ ‵ (fdies out-ty bs.0)) ∷ []

      landed : (bs : CellBlocks (locals ks)) (α : ℕ) (γ : GName) (h : T.Denot) (v : Val)
          → Sq 𝓛 (raw (Leaves o 𝓛 Tok Z Lasts Q γ (α ∷ []) full_share v) ∷ Waiting bs α γ h) (lands C Λ (env_of (locals ks) bs) (S.place (suc (at-m ks)) []) v (joining ks) (at_ret (env_of (locals ks) bs) (Left o 𝓛 Tok Z Lasts Q)))
      landed bs α γ h v =
          let at_rest = far ks 𝓤 H bs in
          let at-end = far-last ks 𝓤 H bs in
          let m : ℕ = (rest ks bs).0 in
          use1 𝓛 (later (some (λ (y : R.Denot). ((‵ (flft (α ∷ []) full_share) ⊛ raw Tok) ⊛ ‵ (R.own_val y (v ∷ []))) ⊛ some (λ (ws : T.Denot × Z). ‵ (fsep (fres γ (T.coded.code ws.0)) (Lasts ws.1)) ⊛ raw (Q y ws.0 ws.1))))) (id⊢ 𝓤 _) $
          await ! tt $ pick ! (λ y. split ! $ move ! (1 ∷ []) $ pick ! (λ ws. split ! $ fsplit ! $ move ! (3 ∷ []) $ split ! $ split ! $ move ! (2 ∷ []) $ peeks ! R (Is R) (shows 𝓛 R) y (v ∷ []) (λ is-v. drop ! $
          let is-r : Is R y (r.val y ∷ []) = subst (λ (us : List Val). Is R y us) (r.tells y (v ∷ []) is-v) is-v in
          move ! (11 ∷ []) $ split ! $ land ! (from_at at_rest.1.0 (stop !)) (init ! 0 {τ = r.ty} {v = v} refl (fits_in 𝓛 R (r.lawful 𝓛) r.ty r.mir y v is-v)) $
          rewrite ! 0 (λ (u : Val). ‵ (fat full_share r.ty (rest ks bs).1.0 zero u)) (ap only (r.tells y (v ∷ []) is-v)) refl $
          move ! (2 ∷ []) $ lft_end ! tt $ move ! (0 ∷ 9 ∷ 4 ∷ []) $ use3 𝓛 (later (‵ (part_at T full_share ws.0 m zero))) (ref_back 𝓛 T (α ∷ []) γ ws.0 m zero) $ await ! tt $
          use1 𝓛 (given (Is T ws.0 (t.val ws.0 ∷ [])) (‵ (fat full_share t.ty m zero (t.val ws.0)))) (rise ws.0 m) $ learn ! (λ is-t.
          let is-o : Is O (j.make y ws.0) (two_val (r.val y) (t.val ws.0) ∷ []) = j.made y ws.0 is-r is-t in
          move ! (8 ∷ []) $ split ! $ split ! $
          assigns ! (of_opd ! (load ! (from_at at_rest.0 (stop !)) (look ! 3 refl))) (from_at at-end.0 (stop !)) (init ! 0 {τ = t.ty} {v = t.val ws.0} refl (val-fits 𝓛 t ws.0 is-t)) $
          move ! (16 ∷ []) $ split ! $
          assigns ! (agg ! (and_then ! (load ! (from_at at_rest.1.0 (stop !)) (look ! 6 refl)) (and_then ! (load ! (from_at at-end.0 (stop !)) (look ! 2 refl)) (no_more !)))) (from_at refl (stop !))
          (init ! 0 {τ = out-ty} {v = two_val (r.val y) (t.val ws.0)} refl (fits_in 𝓛 O (o.lawful 𝓛) out-ty o.mir (j.make y ws.0) (two_val (r.val y) (t.val ws.0)) is-o)) $
          returns ! (look ! 0 refl) $ forget ! 0 refl $ forget ! 2 refl $ forget ! 5 refl $ forget ! 6 refl $ forget ! 13 refl $ forget ! 16 refl $ move ! (12 ∷ []) $ relent-room ks (slices ks bs) ms (
          move ! (3 ∷ 4 ∷ 5 ∷ []) $ join ! $ join ! $ move ! (1 ∷ 0 ∷ []) $ rooms-together (lents ks) (t.ty ∷ []) (rest ks bs).1.1.1 (
          move ! (10 ∷ 11 ∷ 0 ∷ []) $ join ! $ join ! $ move ! (4 ∷ 5 ∷ 0 ∷ []) $ join ! $ join ! $ move ! (3 ∷ 8 ∷ 0 ∷ []) $ join ! $ join ! $ move ! (6 ∷ 0 ∷ []) $ held-room ks (behind ks) bs.1.1 ms (
          move ! (6 ∷ 7 ∷ 0 ∷ []) $ join ! $ join ! $ move ! (1 ∷ 2 ∷ 0 ∷ []) $ join ! $ join ! $ freed (locals ks) bs (exits y ws.0 ws.1 is-o))))))))

      -- what the function is passed, beside what the other parameters own: a reference to the local; and the caller: the record
      abbrev Reached : ℕ → GName → ℕ → T.Denot → Fml → Fml
      Reached α γ b h Owns = fsep ((MutRef (named 0) (α ∷ []) T).own_val (record { ref_ptr = (b, zero); ghost_name = γ; now = h }) (vptr b zero ∷ [])) Owns

      pub takes-lent : (h : T.Denot) (Owns : Fml) → MachsFit ks ms → FmC 𝓤 H 𝓛.laws C → (n : ℕ) (key : S.Callee)
          → ((α : ℕ) (γ : GName) (b : ℕ) → ent 𝓤 (sep 𝓤 (sep 𝓤 (A.lft (α ∷ []) full_share) Tok) (sem 𝓛 (Reached α γ b h Owns))) (C key (vptr b zero ∷ vals_of ks ms) (Leaves o 𝓛 Tok Z Lasts Q γ (α ∷ []) full_share)))
          → ent 𝓤 (sep 𝓤 Tok (sem 𝓛 (fsep (T.own_val h (t.val h ∷ [])) Owns))) (WpFn 𝓤 H C Λ (taking_fn ks n key) (t.val h ∷ vals_of ks ms) (Left o 𝓛 Tok Z Lasts Q))
      takes-lent h Owns fits fm n key met =
          qed 𝓛 (raw Tok ∷ ‵ (fsep (T.own_val h (t.val h ∷ [])) Owns) ∷ []) ∵ move ! (1 ∷ []) $ fsplit ! $ peeks ! T (Is T) (shows 𝓛 T) h (t.val h ∷ []) (λ is. drop ! $
          enter ! C Λ (taking_fn ks n key) (t.val h ∷ vals_of ks ms) _ $ allocated-slot (out-ty ∷ t.ty ∷ handed_types ks) t.ty (lasting ks) (λ bs.
          let E : List (S.Ty × ℕ) = env_of (locals ks) bs in
          let at-those = near ks 𝓤 H bs in
          let at_rest = far ks 𝓤 H bs in
          let at-slices = far-slices ks 𝓤 H bs in
          let m : ℕ = (rest ks bs).0 in
          split ! $ move ! (1 ∷ []) $ split ! $ split ! $ params1 ! $ pass1 ! (init ! 0 refl (val-fits 𝓛 t h is)) $ move ! (2 ∷ []) $ stored ks (behind ks) bs.1.1 ms fits (
          move ! (1 ∷ []) $ split ! $ split ! $ move ! (2 ∷ []) $ split ! $ move ! (1 ∷ []) $ split ! $ split ! $ move ! (2 ∷ []) $ rooms-apart (lents ks) (t.ty ∷ []) (rest ks bs).1.1.1 (
          assigns ! (of_opd ! (load ! (from_at refl (stop !)) (look ! 8 refl))) (from_at at_rest.0 (stop !)) (init ! 5 {τ = t.ty} {v = t.val h} refl (val-fits 𝓛 t h is)) $
          assigns ! (addr ! (from_at at_rest.0 (stop !))) (from_at at_rest.1.1.0 (stop !)) (init ! 2 refl (tt, tt)) $
          move ! (7 ∷ 0 ∷ []) $ lent_again E ks 2 (at-s ks) (those ks bs) (slices ks bs) ms at-those at-slices fits (
          move ! (6 ∷ []) $ use1 𝓛 (‵ (part_at T full_share h m zero)) (lie h m is) $ lft_new ! tt (λ α. move ! (1 ∷ []) $
          use1 𝓛 (later (some (λ (γ : GName). ‵ ((MutRef (named 0) (α ∷ []) T).own_val (record { ref_ptr = (m, zero); ghost_name = γ; now = h }) (vptr m zero ∷ [])) ⊛ ‵ (flent (α ∷ []) (Body (mem T) m zero γ))))) (lends_ref 𝓛 T (named 0) (α ∷ []) h m zero) $
          await ! tt $ pick ! (λ γ. split ! $ move ! (0 ∷ 13 ∷ []) $ fjoin ! $ move ! (2 ∷ 13 ∷ 0 ∷ []) $ join ! $ join ! $ move ! (0 ∷ 2 ∷ 3 ∷ []) $
          calls_from ! fm ((‵ (flft (α ∷ []) full_share) ⊛ raw Tok) ⊛ ‵ (Reached α γ m h Owns)) (vptr m zero ∷ vals_of ks ms) (Leaves o 𝓛 Tok Z Lasts Q γ (α ∷ []) full_share) (met α γ m)
          (and_then ! (load ! (from_at at_rest.1.1.0 (stop !)) (look ! 5 refl)) (operands-behind (operands-read E ks 2 (at-s ks) (those ks bs) (slices ks bs) ms at-those at-slices _))) (landed bs α γ h))))))))

-- ---- the same by a signature: where `f`, at the key, meets its contract over a reference, at whatever lifetime and name it is lent
module _ {T R O : RattleType} {t : Valued T} {r : Valued R} (o : Outcome t r O) (j : Joins o) {n : ℕ} (ss : List (Slot n)) (ps : SlotsPass ss)
    {M : Type 1} {𝓤 : Ura M} (𝓛 : Logic 𝓤) (C : Calls 𝓤 𝓛.H) (Λ : Loops 𝓤 𝓛.H) (fm : FmC 𝓤 𝓛.H 𝓛.laws C) (key : S.Callee) where
  open 𝓛 use {H, A}

  abbrev signature : Signature
  signature = record { lifetimes = n; outlives = []; params = plain (λ _. T) ∷ ss; result = plain (λ _. O) }

  module _ (κs : Lfts n) (qs : Shares n) (a : Args signature κs) (Z : Type 0) (Lasts : Z → Fml) (Q : R.Denot → T.Denot → Z → SProp 𝓤) where
    abbrev Tokens : SProp 𝓤
    Tokens = toks 𝓛 n κs qs

    -- `f` does, of what is lent for α under γ at b
    abbrev pub Known : Type 1
    Known = (α : ℕ) (γ : GName) (b : ℕ) (vss : Valss (types_at ss κs))
        → ent 𝓤 (sep 𝓤 (sep 𝓤 (A.lft (α ∷ []) full_share) Tokens) (sem 𝓛 (fsep ((MutRef (named 0) (α ∷ []) T).own_val (record { ref_ptr = (b, zero); ghost_name = γ; now = a.0 }) (vptr b zero ∷ [])) (owns (types_at ss κs) a.1 vss))))
        (C key (vptr b zero ∷ flat (types_at ss κs) vss) (Leaves o 𝓛 Tokens Z Lasts Q γ (α ∷ []) full_share))

    -- `f` hands the borrow back too, closed, as its contract says
    abbrev pub KnownClosed : Type 1
    KnownClosed = (α : ℕ) (γ : GName) (b : ℕ) (vss : Valss (types_at ss κs))
        → ent 𝓤 (sep 𝓤 (sep 𝓤 (A.lft (α ∷ []) full_share) Tokens) (sem 𝓛 (fsep ((MutRef (named 0) (α ∷ []) T).own_val (record { ref_ptr = (b, zero); ghost_name = γ; now = a.0 }) (vptr b zero ∷ [])) (owns (types_at ss κs) a.1 vss))))
        (C key (vptr b zero ∷ flat (types_at ss κs) vss) (LeavesClosed o 𝓛 Tokens Z Lasts Q b zero γ (α ∷ []) full_share))

    pub known-closed : KnownClosed → Known
    known-closed h α γ b vss =
        via 𝓤 (C key (vptr b zero ∷ flat (types_at ss κs) vss) (LeavesClosed o 𝓛 Tokens Z Lasts Q b zero γ (α ∷ []) full_share)) (h α γ b vss)
        (fm→mono_c 𝓤 H 𝓛.laws C fm key (vptr b zero ∷ flat (types_at ss κs) vss) _ _ (closed-leaves o 𝓛 Tokens Z Lasts Q b zero γ (α ∷ []) full_share))

    pub taken_at : (vss : Valss (types_at signature.params κs)) → Known
        → ent 𝓤 (sep 𝓤 (on_entry 𝓛 signature κs qs a vss) (emp 𝓤)) (WpFn 𝓤 H C Λ (taking_fn o j (slot_kinds ss ps) n key) (flat (types_at signature.params κs) vss) (Left o 𝓛 Tokens Z Lasts Q))
    taken_at vss known =
        let us : Valss (types_at ss κs) = valss (types_at ss κs) (spells κs ss ps) a.1 in
        via 𝓤 (on_entry 𝓛 signature κs qs a vss) (fst∗ 𝓤 _ (emp 𝓤))
        (said 𝓛 signature κs qs ((λ x. t.val x ∷ []), spells κs ss ps) (t.tells, all_told κs ss ps) a
        (λ vs. WpFn 𝓤 H C Λ (taking_fn o j (slot_kinds ss ps) n key) (flat (types_at signature.params κs) vs) (Left o 𝓛 Tokens Z Lasts Q)) vss
        (λ are. subst (λ (vs : List Val). ent 𝓤 (on_entry 𝓛 signature κs qs a (t.val a.0 ∷ [], us)) (WpFn 𝓤 H C Λ (taking_fn o j (slot_kinds ss ps) n key) (t.val a.0 ∷ vs) (Left o 𝓛 Tokens Z Lasts Q))) (all-flat κs ss ps a.1)
        (takes-lent o j 𝓛 Tokens Z Lasts Q (slot_kinds ss ps) (machs κs ss ps a.1) C Λ a.0 (owns (types_at ss κs) a.1 us) (all_fit κs 𝓛 ss ps a.1 are.1) fm n key
        (λ α γ b. subst (λ (vs : List Val). ent 𝓤 (sep 𝓤 (sep 𝓤 (A.lft (α ∷ []) full_share) Tokens) (sem 𝓛 (fsep ((MutRef (named 0) (α ∷ []) T).own_val (record { ref_ptr = (b, zero); ghost_name = γ; now = a.0 }) (vptr b zero ∷ [])) (owns (types_at ss κs) a.1 us))))
        (C key (vptr b zero ∷ vs) (Leaves o 𝓛 Tokens Z Lasts Q γ (α ∷ []) full_share))) (sym (all-flat κs ss ps a.1)) (known α γ b us)))))
