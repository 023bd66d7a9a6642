-- How the parameters beside a lent record go on from a function to the one that it calls, for a list of any length. A number, a bool, a struct, a `&` slice and a `&` to an array are copied. A `&mut` slice is lent again, by two statements and over two locals of its own; a `&mut` to an array by one, over one.
-- Each rule is an induction over that list, at any context Γ behind what the parameters have in memory: a walk names no position of a parameter.
-- Assumes `Logic`.
use Rattle.std.specs.Prelude.{◌≡◌, refl, ℕ, zero, suc, [], ◌∷◌, List, ◌++◌, map, get_or, T as Tᵇ}
use Rattle.std.proofs.Common.{sym, subst}
use seplogic.Ra.Ura.{Ura}
use base.Fraction.{full_share}
use mir.Syntax as S
use mir.Syntax.{named}
use mir.Val.{Val, WT, has_ty, vptr}
use base.Logic.{ent, via}
use base.Fml.{ftrue, froom, fat, fdies}
use prog.Wp.{Heap, Env, Spot, no_local, Calls, Loops}
use types.Logic.{Logic}
use types.Kit.{Go, Sq, Item, Post, Goal, runs, allocs, passes, frees, ‵, ◌⊛◌, ⋆, ◌$◌, ◌∵◌, !, qed, move, drop, split, join, done}
use types.Run.{Walks, Finds, Opds, look, init, forget, stop, hop, fld, from, load, addr, and_then, no_more, assigns, alloc1, alloc0, pass1, pass0, free1, free0}
use types.Part.{agg, whole, sub, look_in}
use denote.Slice.{slice_ty, slice_val}
use denote.Steps.{nothing}

-- ---- a parameter, as the code has it: it is copied as it stands, of a type; or it is a `&mut` slice of integers of a width, at a lifetime of the function; or a `&mut` to one value of a type, as an array, at a lifetime of the function
pub data ParamKind : Type 0 where
  copied : S.Ty → ParamKind
  relent : S.Width → ℕ → ParamKind
  reref : S.Ty → ℕ → ParamKind

abbrev pub type_of : ParamKind → S.Ty
type_of (copied τ) = τ
type_of (relent w j) = slice_ty (S.ty_ref (named j) S.mut (S.ty_int w))
type_of (reref τ j) = S.ty_ref (named j) S.mut τ

-- what stands in the place of its machine value: of a slice, where it points and its count
abbrev pub Mach : ParamKind → Type 0
Mach (copied τ) = Val
Mach (relent w j) = (ℕ × ℕ) × ℕ
Mach (reref τ j) = ℕ × ℕ

abbrev pub val_of : (k : ParamKind) → Mach k → Val
val_of (copied τ) v = v
val_of (relent w j) m = slice_val m.0 m.1
val_of (reref τ j) m = vptr m.0 m.1

-- its value may stand in a cell of its type
abbrev pub MachFits : (k : ParamKind) → Mach k → Type 0
MachFits k m = Tᵇ (has_ty (type_of k) (val_of k m)) × WT (val_of k m)

-- the same of a list
abbrev pub Machs : List ParamKind → Type 0
Machs [] = Unit {0}
Machs (k ∷ ks) = Mach k × Machs ks

abbrev pub vals_of : (ks : List ParamKind) → Machs ks → List Val
vals_of [] ms = []
vals_of (k ∷ ks) ms = val_of k ms.0 ∷ vals_of ks ms.1

abbrev pub MachsFit : (ks : List ParamKind) → Machs ks → Type 0
MachsFit [] ms = Unit {0}
MachsFit (k ∷ ks) ms = MachFits k ms.0 × MachsFit ks ms.1

-- ---- the locals: one for each parameter, and of a slice that is lent again one for its pointer and one for the new slice
abbrev pub handed_types : List ParamKind → List S.Ty
handed_types ks = map type_of ks

-- the type of its pointer: the lifetime of a local's own loan has no name
abbrev lent_ptr : S.Width → S.Ty
lent_ptr w = S.ty_ref S.erased S.mut (S.ty_int w)

-- of a `&mut` to one value that is lent again
abbrev lent_ref : S.Ty → S.Ty
lent_ref τ = S.ty_ref S.erased S.mut τ

abbrev pub lents : List ParamKind → List S.Ty
lents [] = []
lents (copied τ ∷ ks) = lents ks
lents (relent w j ∷ ks) = lent_ptr w ∷ slice_ty (lent_ptr w) ∷ lents ks
lents (reref τ j ∷ ks) = lent_ref τ ∷ lents ks

-- a local
abbrev pub here : S.Ty → S.Local
here τ = S.local τ S.value_local

-- the number of the first local behind those of a list that starts at i
abbrev pub past : {X : Type 0} → List X → ℕ → ℕ
past [] i = i
past (x ∷ xs) i = past xs (suc i)

-- ---- the code. The parameters' locals start at i, those of the slices that are lent again at t
abbrev pub lend_again : ℕ → ℕ → List ParamKind → S.Body → S.Body
lend_again i t [] rest = rest
lend_again i t (copied τ ∷ ks) rest = lend_again (suc i) t ks rest
lend_again i t (relent w j ∷ ks) rest =
    S.seq (S.assign (S.place t []) (S.addr_of (S.place i (S.field 0 ∷ S.deref (S.ty_int w) ∷ []))))
    (S.seq (S.assign (S.place (suc t) []) (S.aggregate (S.copy (S.place t []) ∷ S.copy (S.place i (S.field 1 ∷ [])) ∷ [])))
    (lend_again (suc i) (suc (suc t)) ks rest))
lend_again i t (reref τ j ∷ ks) rest = S.seq (S.assign (S.place t []) (S.addr_of (S.place i (S.deref τ ∷ [])))) (lend_again (suc i) (suc t) ks rest)

-- the call's operands: a slice that is lent again in the place of the one that was passed
abbrev pub operands : ℕ → ℕ → List ParamKind → List S.Opd
operands i t [] = []
operands i t (copied τ ∷ ks) = S.copy (S.place i []) ∷ operands (suc i) t ks
operands i t (relent w j ∷ ks) = S.copy (S.place (suc t) []) ∷ operands (suc i) (suc (suc t)) ks
operands i t (reref τ j ∷ ks) = S.copy (S.place t []) ∷ operands (suc i) (suc t) ks

-- ---- the blocks of locals, one for each type, and where an environment has them
abbrev pub CellBlocks : List S.Ty → Type 0
CellBlocks [] = Unit {0}
CellBlocks (τ ∷ τs) = ℕ × CellBlocks τs

-- of a list in two parts
abbrev pub front_blocks : (τs σs : List S.Ty) → CellBlocks (τs ++ σs) → CellBlocks τs
front_blocks [] σs bs = tt
front_blocks (τ ∷ τs) σs bs = (bs.0, front_blocks τs σs bs.1)

abbrev pub back : (τs σs : List S.Ty) → CellBlocks (τs ++ σs) → CellBlocks σs
back [] σs bs = bs
back (τ ∷ τs) σs bs = back τs σs bs.1

-- the environment in which a function's code runs
abbrev pub env_of : (τs : List S.Ty) → CellBlocks τs → List (S.Ty × ℕ)
env_of [] bs = []
env_of (τ ∷ τs) bs = (τ, bs.0) ∷ env_of τs bs.1

module _ {M : Type 1} (𝓤 : Ura M) (H : Heap 𝓤) where
  -- from the number i on
  abbrev pub At : Env 𝓤 H → ℕ → (τs : List S.Ty) → CellBlocks τs → Type 0
  At E i [] bs = Unit {0}
  At E i (τ ∷ τs) bs = (get_or E i (no_local 𝓤 H) ≡ (τ, bs.0)) × At E (suc i) τs bs.1

  at_next : (E : Env 𝓤 H) (e : S.Ty × ℕ) (i : ℕ) (τs : List S.Ty) (bs : CellBlocks τs) → At E i τs bs → At (e ∷ E) (suc i) τs bs
  at_next E e i [] bs h = tt
  at_next E e i (τ ∷ τs) bs h = (h.0, at_next E e (suc i) τs bs.1 h.1)

  -- each local stands at its own number, and so in each of two parts
  pub at_all : (τs : List S.Ty) (bs : CellBlocks τs) → At (env_of τs bs) 0 τs bs
  at_all [] bs = tt
  at_all (τ ∷ τs) bs = (refl, at_next (env_of τs bs.1) (τ, bs.0) 0 τs bs.1 (at_all τs bs.1))

  pub at_front : (E : Env 𝓤 H) (i : ℕ) (τs σs : List S.Ty) (bs : CellBlocks (τs ++ σs)) → At E i (τs ++ σs) bs → At E i τs (front_blocks τs σs bs)
  at_front E i [] σs bs h = tt
  at_front E i (τ ∷ τs) σs bs h = (h.0, at_front E (suc i) τs σs bs.1 h.1)

  pub at_back : (E : Env 𝓤 H) (i : ℕ) (τs σs : List S.Ty) (bs : CellBlocks (τs ++ σs)) → At E i (τs ++ σs) bs → At E (past τs i) σs (back τs σs bs)
  at_back E i [] σs bs h = h
  at_back E i (τ ∷ τs) σs bs h = at_back E (suc i) τs σs bs.1 h.1

-- ---- what the locals have in memory, each beside the right to free it: room, or a value
module _ {M : Type 1} (𝓤 : Ura M) where
  abbrev Cell : S.Ty → ℕ → Val → Item 𝓤
  Cell τ b v = ‵ (fat full_share τ b zero v) ⊛ ‵ (fdies τ b)

  abbrev pub Rooms : (τs : List S.Ty) → CellBlocks τs → Item 𝓤
  Rooms [] bs = ‵ ftrue
  Rooms (τ ∷ τs) bs = (‵ (froom τ bs.0 zero) ⊛ ‵ (fdies τ bs.0)) ⊛ Rooms τs bs.1

  -- the parameters
  abbrev pub ParamsHeld : (ks : List ParamKind) → CellBlocks (handed_types ks) → Machs ks → Item 𝓤
  ParamsHeld [] bs ms = ‵ ftrue
  ParamsHeld (k ∷ ks) bs ms = Cell (type_of k) bs.0 (val_of k ms.0) ⊛ ParamsHeld ks bs.1 ms.1

  -- the slices that are lent again
  abbrev pub Relent : (ks : List ParamKind) → CellBlocks (lents ks) → Machs ks → Item 𝓤
  Relent [] bs ms = ‵ ftrue
  Relent (copied τ ∷ ks) bs ms = Relent ks bs ms.1
  Relent (relent w j ∷ ks) bs ms = Cell (lent_ptr w) bs.0 (vptr ms.0.0.0 ms.0.0.1) ⊛ (Cell (slice_ty (lent_ptr w)) bs.1.0 (val_of (relent w j) ms.0) ⊛ Relent ks bs.1.1 ms.1)
  Relent (reref τ j ∷ ks) bs ms = Cell (lent_ref τ) bs.0 (vptr ms.0.0 ms.0.1) ⊛ Relent ks bs.1 ms.1

module _ {M : Type 1} {𝓤 : Ura M} {𝓛 : Logic 𝓤} where
  -- a place that starts at a local of which the environment is known
  open 𝓛 use {H}

  pub from_at : {Γ : List (Item 𝓤)} {E : Env 𝓤 H} {i : ℕ} {st : List S.Step} {τ : S.Ty} {b : ℕ} {sp : Spot 𝓤 H} → get_or E i (no_local 𝓤 H) ≡ (τ, b) → Walks (Go {0}) 𝓛 Γ E (τ, b, zero) st sp → Finds (Go {0}) 𝓛 Γ E (S.place i st) sp
  from_at {Γ} {E} {i} {st} {sp = sp} e w = from ! (subst (λ (p : S.Ty × ℕ). Walks (Go {0}) 𝓛 Γ E (p.0, p.1, zero) st sp) (sym e) w)

  -- operands, read in the context put another way
  opds-by : {Γ Γ' : List (Item 𝓤)} {E : Env 𝓤 H} {xs : List S.Opd} {vs : List Val} → ent 𝓤 (⋆ 𝓛 Γ) (⋆ 𝓛 Γ') → ent 𝓤 (⋆ 𝓛 Γ') (⋆ 𝓛 Γ) → Opds (Go {0}) 𝓛 Γ' E xs vs → Opds (Go {0}) 𝓛 Γ E xs vs
  opds-by {Γ} {Γ'} to fro os = record { go = λ Kt h. via 𝓤 (⋆ 𝓛 Γ') to (os.go Kt (via 𝓤 (⋆ 𝓛 Γ) fro h)) }

  -- a function's locals are allocated, its parameters stored, its locals freed
  pub allocated : (τs : List S.Ty) {Γ : List (Item 𝓤)} {Kt : Env 𝓤 H → Goal 𝓤 H} → ((bs : CellBlocks τs) → Sq 𝓛 (Rooms 𝓤 τs bs ∷ Γ) (Kt (env_of τs bs))) → Sq 𝓛 Γ (allocs (map here τs) Kt)
  allocated [] k = alloc0 ! $ nothing ! $ k tt
  allocated (τ ∷ τs) {Γ} {Kt} k = alloc1 ! (λ b. allocated τs {Kt = λ E. Kt ((τ, b) ∷ E)} (λ bs. move ! (1 ∷ 2 ∷ 0 ∷ []) $ join ! $ join ! $ k (b, bs)))

  pub freed : (τs : List S.Ty) (bs : CellBlocks τs) {Γ : List (Item 𝓤)} {G : Goal 𝓤 H} → Sq 𝓛 Γ G → Sq 𝓛 (Rooms 𝓤 τs bs ∷ Γ) (frees (env_of τs bs) G)
  freed [] bs k = free0 ! $ drop ! $ k
  freed (τ ∷ τs) bs k = split ! $ split ! $ free1 ! $ freed τs bs.1 k

  pub stored : (ks : List ParamKind) (σs : List S.Ty) (bs : CellBlocks (handed_types ks ++ σs)) (ms : Machs ks) → MachsFit ks ms → {Γ : List (Item 𝓤)} {G : Goal 𝓤 H}
      → Sq 𝓛 (ParamsHeld 𝓤 ks (front_blocks (handed_types ks) σs bs) ms ∷ Rooms 𝓤 σs (back (handed_types ks) σs bs) ∷ Γ) G → Sq 𝓛 (Rooms 𝓤 (handed_types ks ++ σs) bs ∷ Γ) (passes (env_of (handed_types ks ++ σs) bs) (vals_of ks ms) G)
  stored [] σs bs ms fits k = pass0 ! $ nothing ! $ k
  stored (κ ∷ ks) σs bs ms fits k = split ! $ split ! $ pass1 ! (init ! 0 refl fits.0) $ move ! (2 ∷ []) $ stored ks σs bs.1 ms.1 fits.1 (move ! (2 ∷ 3 ∷ 0 ∷ []) $ join ! $ join ! $ k)

  -- rooms of a list in two parts
  pub rooms-apart : (τs σs : List S.Ty) (bs : CellBlocks (τs ++ σs)) {Γ : List (Item 𝓤)} {G : Goal 𝓤 H} → Sq 𝓛 (Rooms 𝓤 τs (front_blocks τs σs bs) ∷ Rooms 𝓤 σs (back τs σs bs) ∷ Γ) G → Sq 𝓛 (Rooms 𝓤 (τs ++ σs) bs ∷ Γ) G
  rooms-apart [] σs bs k = nothing ! $ k
  rooms-apart (τ ∷ τs) σs bs k = split ! $ move ! (1 ∷ []) $ rooms-apart τs σs bs.1 (move ! (2 ∷ 0 ∷ []) $ join ! $ k)

  pub rooms-together : (τs σs : List S.Ty) (bs : CellBlocks (τs ++ σs)) {Γ : List (Item 𝓤)} {G : Goal 𝓤 H} → Sq 𝓛 (Rooms 𝓤 (τs ++ σs) bs ∷ Γ) G → Sq 𝓛 (Rooms 𝓤 τs (front_blocks τs σs bs) ∷ Rooms 𝓤 σs (back τs σs bs) ∷ Γ) G
  rooms-together [] σs bs k = drop ! $ k
  rooms-together (τ ∷ τs) σs bs k = split ! $ move ! (1 ∷ 2 ∷ []) $ rooms-together τs σs bs.1 (move ! (1 ∷ 0 ∷ []) $ join ! $ k)

  -- the slices are lent again
  module _ {C : Calls 𝓤 H} {Λ : Loops 𝓤 H} {q : Post 𝓤 H} (E : Env 𝓤 H) where
    pub lent_again : (ks : List ParamKind) (i t : ℕ) (bs : CellBlocks (handed_types ks)) (cs : CellBlocks (lents ks)) (ms : Machs ks) → At 𝓤 H E i (handed_types ks) bs → At 𝓤 H E t (lents ks) cs → MachsFit ks ms → {rest : S.Body} {Γ : List (Item 𝓤)}
        → Sq 𝓛 (ParamsHeld 𝓤 ks bs ms ∷ Relent 𝓤 ks cs ms ∷ Γ) (runs C Λ E rest q) → Sq 𝓛 (ParamsHeld 𝓤 ks bs ms ∷ Rooms 𝓤 (lents ks) cs ∷ Γ) (runs C Λ E (lend_again i t ks rest) q)
    lent_again [] i t bs cs ms ib tc fits k = k
    lent_again (copied τ ∷ ks) i t bs cs ms ib tc fits k =
        split ! $ move ! (1 ∷ 2 ∷ []) $ lent_again ks (suc i) t bs.1 cs ms.1 ib.1 tc fits.1 (move ! (2 ∷ 0 ∷ []) $ join ! $ k)
    -- [the slice's room; its right to be freed; the rest's rooms; the pointer's room and right; the parameter's cell and right; the rest's cells]
    lent_again (relent w j ∷ ks) i t bs cs ms ib tc fits k =
        split ! $ split ! $ move ! (3 ∷ []) $ split ! $ split ! $ move ! (2 ∷ []) $ split ! $ split ! $
        assigns ! (addr ! (from_at ib.0 (fld ! refl (hop ! (look_in ! 5 (sub ! 0 refl (whole !))) (stop !))))) (from_at tc.0 (stop !)) (init ! 3 refl (tt, tt)) $
        assigns ! (agg ! (and_then ! (load ! (from_at tc.0 (stop !)) (look ! 3 refl)) (and_then ! (load ! (from_at ib.0 (fld ! refl (stop !))) (look_in ! 5 (sub ! 1 refl (whole !)))) (no_more !)))) (from_at tc.1.0 (stop !)) (init ! 0 refl fits.0) $
        move ! (7 ∷ 2 ∷ []) $ lent_again ks (suc i) (suc (suc t)) bs.1 cs.1.1 ms.1 ib.1 tc.1.1 fits.1
        (move ! (2 ∷ 3 ∷ 1 ∷ []) $ join ! $ join ! $ move ! (2 ∷ 3 ∷ 0 ∷ []) $ join ! $ join ! $ move ! (2 ∷ 3 ∷ 1 ∷ []) $ join ! $ join ! $ k)
    -- [the pointer's room and right; the rest's rooms; the parameter's cell and right; the rest's cells]
    lent_again (reref τ j ∷ ks) i t bs cs ms ib tc fits k =
        split ! $ split ! $ move ! (3 ∷ []) $ split ! $ split ! $
        assigns ! (addr ! (from_at ib.0 (hop ! (look ! 3 refl) (stop !)))) (from_at tc.0 (stop !)) (init ! 0 refl (tt, tt)) $
        move ! (5 ∷ 2 ∷ []) $ lent_again ks (suc i) (suc t) bs.1 cs.1 ms.1 ib.1 tc.1 fits.1
        (move ! (2 ∷ 3 ∷ 1 ∷ []) $ join ! $ join ! $ move ! (2 ∷ 3 ∷ 1 ∷ []) $ join ! $ join ! $ k)

  -- the operands of the call
  pub operands-read : (E : Env 𝓤 H) (ks : List ParamKind) (i t : ℕ) (bs : CellBlocks (handed_types ks)) (cs : CellBlocks (lents ks)) (ms : Machs ks) → At 𝓤 H E i (handed_types ks) bs → At 𝓤 H E t (lents ks) cs → (Γ : List (Item 𝓤))
      → Opds (Go {0}) 𝓛 (ParamsHeld 𝓤 ks bs ms ∷ Relent 𝓤 ks cs ms ∷ Γ) E (operands i t ks) (vals_of ks ms)
  operands-read E [] i t bs cs ms ib tc Γ = no_more !
  operands-read E (copied τ ∷ ks) i t bs cs ms ib tc Γ =
      let Δ : List (Item 𝓤) = ‵ (fat full_share τ bs.0 zero ms.0) ∷ ‵ (fdies τ bs.0) ∷ Γ in
      opds-by (qed 𝓛 (ParamsHeld 𝓤 (copied τ ∷ ks) bs ms ∷ Relent 𝓤 ks cs ms.1 ∷ Γ) ∵ split ! $ split ! $ move ! (2 ∷ 3 ∷ []) $ done !)
      (qed 𝓛 (ParamsHeld 𝓤 ks bs.1 ms.1 ∷ Relent 𝓤 ks cs ms.1 ∷ Δ) ∵ move ! (2 ∷ 3 ∷ 0 ∷ []) $ join ! $ join ! $ done !)
      (and_then ! (load ! (from_at ib.0 (stop !)) (look ! 2 refl)) (operands-read E ks (suc i) t bs.1 cs ms.1 ib.1 tc Δ))
  operands-read E (relent w j ∷ ks) i t bs cs ms ib tc Γ =
      let slice : Val = val_of (relent w j) ms.0 in
      let Δ : List (Item 𝓤) = ‵ (fat full_share (slice_ty (lent_ptr w)) cs.1.0 zero slice) ∷ ‵ (fdies (slice_ty (lent_ptr w)) cs.1.0) ∷ Cell 𝓤 (lent_ptr w) cs.0 (vptr ms.0.0.0 ms.0.0.1) ∷ Cell 𝓤 (type_of (relent w j)) bs.0 slice ∷ Γ in
      opds-by (qed 𝓛 (ParamsHeld 𝓤 (relent w j ∷ ks) bs ms ∷ Relent 𝓤 (relent w j ∷ ks) cs ms ∷ Γ) ∵ split ! $ move ! (2 ∷ []) $ split ! $ move ! (1 ∷ []) $ split ! $ split ! $ move ! (5 ∷ 2 ∷ []) $ done !)
      (qed 𝓛 (ParamsHeld 𝓤 ks bs.1 ms.1 ∷ Relent 𝓤 ks cs.1.1 ms.1 ∷ Δ) ∵ move ! (2 ∷ 3 ∷ 1 ∷ []) $ join ! $ join ! $ move ! (2 ∷ 0 ∷ []) $ join ! $ move ! (2 ∷ 1 ∷ 0 ∷ []) $ join ! $ done !)
      (and_then ! (load ! (from_at tc.1.0 (stop !)) (look ! 2 refl)) (operands-read E ks (suc i) (suc (suc t)) bs.1 cs.1.1 ms.1 ib.1 tc.1.1 Δ))
  operands-read E (reref τ j ∷ ks) i t bs cs ms ib tc Γ =
      let at : Val = vptr ms.0.0 ms.0.1 in
      let Δ : List (Item 𝓤) = ‵ (fat full_share (lent_ref τ) cs.0 zero at) ∷ ‵ (fdies (lent_ref τ) cs.0) ∷ Cell 𝓤 (type_of (reref τ j)) bs.0 at ∷ Γ in
      opds-by (qed 𝓛 (ParamsHeld 𝓤 (reref τ j ∷ ks) bs ms ∷ Relent 𝓤 (reref τ j ∷ ks) cs ms ∷ Γ) ∵ split ! $ move ! (2 ∷ []) $ split ! $ split ! $ move ! (4 ∷ 2 ∷ []) $ done !)
      (qed 𝓛 (ParamsHeld 𝓤 ks bs.1 ms.1 ∷ Relent 𝓤 ks cs.1 ms.1 ∷ Δ) ∵ move ! (2 ∷ 3 ∷ 1 ∷ []) $ join ! $ join ! $ move ! (2 ∷ 1 ∷ 0 ∷ []) $ join ! $ done !)
      (and_then ! (load ! (from_at tc.0 (stop !)) (look ! 2 refl)) (operands-read E ks (suc i) (suc t) bs.1 cs.1 ms.1 ib.1 tc.1 Δ))

  -- the same behind what the callee is brought
  pub operands-behind : {i a b : Item 𝓤} {Γ : List (Item 𝓤)} {E : Env 𝓤 H} {xs : List S.Opd} {vs : List Val} → Opds (Go {0}) 𝓛 (a ∷ b ∷ i ∷ Γ) E xs vs → Opds (Go {0}) 𝓛 (i ∷ a ∷ b ∷ Γ) E xs vs
  operands-behind {i} {a} {b} {Γ} os = opds-by (qed 𝓛 (i ∷ a ∷ b ∷ Γ) ∵ move ! (1 ∷ 2 ∷ []) $ done !) (qed 𝓛 (a ∷ b ∷ i ∷ Γ) ∵ move ! (2 ∷ []) $ done !) os

  -- a cell is room again, whatever it holds
  pub held-room : (ks : List ParamKind) (σs : List S.Ty) (bs : CellBlocks (handed_types ks ++ σs)) (ms : Machs ks) {Γ : List (Item 𝓤)} {G : Goal 𝓤 H}
      → Sq 𝓛 (Rooms 𝓤 (handed_types ks ++ σs) bs ∷ Γ) G → Sq 𝓛 (ParamsHeld 𝓤 ks (front_blocks (handed_types ks) σs bs) ms ∷ Rooms 𝓤 σs (back (handed_types ks) σs bs) ∷ Γ) G
  held-room [] σs bs ms k = drop ! $ k
  held-room (κ ∷ ks) σs bs ms k = split ! $ split ! $ forget ! 0 refl $ move ! (2 ∷ 3 ∷ []) $ held-room ks σs bs.1 ms.1 (move ! (1 ∷ 2 ∷ 0 ∷ []) $ join ! $ join ! $ k)

  pub relent-room : (ks : List ParamKind) (cs : CellBlocks (lents ks)) (ms : Machs ks) {Γ : List (Item 𝓤)} {G : Goal 𝓤 H} → Sq 𝓛 (Rooms 𝓤 (lents ks) cs ∷ Γ) G → Sq 𝓛 (Relent 𝓤 ks cs ms ∷ Γ) G
  relent-room [] cs ms k = k
  relent-room (copied τ ∷ ks) cs ms k = relent-room ks cs ms.1 k
  relent-room (relent w j ∷ ks) cs ms k =
      split ! $ split ! $ forget ! 0 refl $ move ! (2 ∷ []) $ split ! $ split ! $ forget ! 0 refl $ move ! (2 ∷ []) $ relent-room ks cs.1.1 ms.1
      (move ! (1 ∷ 2 ∷ 0 ∷ []) $ join ! $ join ! $ move ! (1 ∷ 2 ∷ 0 ∷ []) $ join ! $ join ! $ k)
  relent-room (reref τ j ∷ ks) cs ms k =
      split ! $ split ! $ forget ! 0 refl $ move ! (2 ∷ []) $ relent-room ks cs.1 ms.1 (move ! (1 ∷ 2 ∷ 0 ∷ []) $ join ! $ join ! $ k)
