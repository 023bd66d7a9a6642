-- The laws of a head that comes back (02, T-08). Assumes nothing.
use Rattle.std.specs.Prelude.{ℕ, ◌^◌, ◌≡◌, Bool, true, false, List, eqb, length}
use Rattle.std.proofs.Math.Path.{refl}
use Rattle.std.proofs.Common.{sym, ap, subst}
use native.Mathlib.Omega.{arith}
use Rattle.scans.specs.Scan.{pick}
use Rattle.scans.specs.Each.{clash}
use Rattle.scans.specs.Upto.{pick-keeps}
use Rattle.numbers.specs.Numbering.{ring}
use Rattle.numbers.specs.Profile.{rail}
use Rattle.octets.specs.Bytes.{u8}
use Rattle.chunks.specs.declared.kind.Kind.TheVariants as kinds
use Rattle.chunks.specs.Kind.{kind_of}
use Rattle.chunks.specs.InitChunk.{init_of}
use Rattle.parameters.specs.Parameter.{is_there, NAME}
use Rattle.delivery.specs.Receiving.{fresh_receiving}
use Rattle.states.specs.declared.state.State.{State}
use Rattle.states.specs.declared.rows.Met.{Met}
use Rattle.states.specs.Calls.{knows_peer}
use Rattle.states.specs.Rows.{cells, row_of}
use Rattle.states.specs.declared.rows.Row.{Row}
use Rattle.states.specs.RowsLaws.{each-state, row-is-cell}
use Rattle.association.specs.declared.ends.Ends.{Ends}
use Rattle.association.specs.declared.ends.Association.{Association}
use Rattle.association.specs.Fresh.{started}
use Rattle.states.specs.declared.state.State.TheVariants.{Established}
use Rattle.steps.specs.declared.chunk.Beside.{Beside}
use Rattle.steps.specs.declared.lent.Lent.{Lent}
use Rattle.steps.specs.declared.lent.Made.{Made}
use Rattle.steps.specs.declared.lent.Echoed.TheVariants.{Stale, Good}
use Rattle.steps.specs.declared.meeting.Action.{Action}
use Rattle.steps.specs.declared.meeting.Action.TheVariants.{Restart, Retag, Late, Again, Outside}
use Rattle.steps.specs.Verdict.{Step, fate_number}
use Rattle.steps.specs.Lent.{is_made, heeded}
use Rattle.steps.specs.Opening.{is_poor, is_poor_lent, answer_init, ends_of_made, established}
use Rattle.steps.specs.Meeting.{offered, repeat_ack, is_untied, is_tied, action_of, starts_anew, with_peer_tag, acts}
use Rattle.steps.specs.Steps.{row_step, met_by, step_of}
use Rattle.steps.specs.Table12.{tag_mark, peer_mark, tie_mark, marks, table12, looked_up, tags_found}

-- ---- the table

-- the nested tests say what the RFC's own picture says, for every record and every cookie
pub table-12 : (s : State) (e : Ends) (m : Made) → looked_up table12 (tags_found s e m) ≡ action_of s e m
unfolding action_of
table-12 s e m =
    go (eqb m.my_tag e.my_tag) (knows_peer s) (eqb m.peer_tag e.peer_tag)
    (eqb m.my_tie 0) (eqb m.my_tie e.my_tag) (eqb m.peer_tie 0) (eqb m.peer_tie e.peer_tag)
  where
    go : (mine known theirs noTie tie noPeerTie peer_tie : Bool)
        → looked_up table12 (marks (tag_mark mine) (peer_mark known theirs) (tie_mark noTie tie) (tie_mark noPeerTie peer_tie))
        ≡ pick mine (pick known (pick theirs Again Retag) Retag)
        (pick known (pick theirs (pick (pick noTie noPeerTie false) Late Outside) (pick (pick (pick noTie false tie) (pick noPeerTie false peer_tie) false) Restart Outside)) Outside)
    go true true true a b c d = refl
    go true true false a b c d = refl
    go true false t a b c d = refl
    go false false t a b c d = refl
    go false true true true b true d = refl
    go false true true true b false true = refl
    go false true true true b false false = refl
    go false true true false true c d = refl
    go false true true false false c d = refl
    go false true false true b c d = refl
    go false true false false false c d = refl
    go false true false false true true d = refl
    go false true false false true false true = refl
    go false true false false true false false = refl

-- ---- a stale cookie

abbrev is_again : Action → Bool
is_again Again = true
is_again Restart = false
is_again Retag = false
is_again Late = false
is_again Outside = false

-- it counts as good exactly where the action is D
pub stale-again : (s : State) (e : Ends) (m : Made) → is_made m ≡ true → heeded s e (Stale m) ≡ pick (is_again (action_of s e m)) (Good m) (Stale m)
unfolding action_of
stale-again s e m h = rw h (go (eqb m.my_tag e.my_tag) (knows_peer s) (eqb m.peer_tag e.peer_tag) (is_untied m) (is_tied e m))
  where
    go : (mine known theirs untied tied : Bool)
        → pick (pick known (pick mine theirs false) false) (Good m) (Stale m)
        ≡ pick (is_again (pick mine (pick known (pick theirs Again Retag) Retag) (pick known (pick theirs (pick untied Late Outside) (pick tied Restart Outside)) Outside))) (Good m) (Stale m)
    go true true true u t = refl
    go true true false u t = refl
    go true false p u t = refl
    go false false p u t = refl
    go false true true true t = refl
    go false true true false t = refl
    go false true false u true = refl
    go false true false u false = refl

-- ---- a restart

-- a restart's cookie has another tag of ours
pub restart-tag : (s : State) (e : Ends) (m : Made) → action_of s e m ≡ Restart → eqb m.my_tag e.my_tag ≡ false
unfolding action_of
restart-tag s e m = go (eqb m.my_tag e.my_tag) (knows_peer s) (eqb m.peer_tag e.peer_tag) _
  where
    is_restart : Action → Bool
    is_restart Restart = true
    is_restart Retag = false
    is_restart Again = false
    is_restart Late = false
    is_restart Outside = false

    go : (mine known theirs : Bool) (other : Action) → pick mine (pick known (pick theirs Again Retag) Retag) other ≡ Restart → mine ≡ false
    go false k t o q = refl
    go true true true o q = clash (ap is_restart q)
    go true true false o q = clash (ap is_restart q)
    go true false t o q = clash (ap is_restart q)

module _ (room : ℕ) (a : Association) (source : ℕ) (m : Made) where
  -- where a good echo starts, nothing of the record is left but our port and the book that we keep to
  pub start-fresh : (x : Action) → starts_anew x a.state ≡ true
      → (acts room a source m x).association ≡ started Established (ends_of_made m a.ends.local_port source) m.my_tsn m.window m.peer_tsn a.sending.mode
  unfolding acts established
  start-fresh x q = rw q refl

  -- so after a restart all that was received is gone
  pub restart-fresh : starts_anew Restart a.state ≡ true → (acts room a source m Restart).association.receiving ≡ fresh_receiving (ring (2 ^ 32)) rail m.peer_tsn
  restart-fresh q = ap (λ (b : Association). b.receiving) (start-fresh Restart q)

  -- elsewhere what was received stays: B changes the peer's tag, all else nothing
  abbrev stayed : Action → Association
  stayed Retag = with_peer_tag a m.peer_tag
  stayed Restart = a
  stayed Again = a
  stayed Late = a
  stayed Outside = a

  pub echo-stays : (x : Action) → starts_anew x a.state ≡ false → (acts room a source m x).association ≡ stayed x
  unfolding acts
  echo-stays Restart q = rw q refl
  echo-stays Retag q = rw q refl
  echo-stays Again q = rw q refl
  echo-stays Late q = rw q refl
  echo-stays Outside q = rw q refl

-- ---- an INIT

module _ (room : ℕ) (a : Association) (cookie s : List ℕ) where
  abbrev Met7 : Step → Type 0
  Met7 x = fate_number x.fate ≡ 7

  -- it is answered, or refused 8, and leaves the record
  abbrev Answered : Step → Type 0
  Answered x = (Met7 x → ⊥) × (x.association ≡ a)

  either-answered : (t : Bool) (x y : Step) → Answered x → Answered y → Answered (pick t x y)
  either-answered = pick-keeps Answered

  answered : (l : Lent) → Answered (answer_init a l cookie s)
  unfolding answer_init
  answered l =
      either-answered (is_poor_lent l (length cookie)) _ _ (λ q. omega arith, refl)
      (either-answered (is_poor (init_of s)) _ _ (λ q. omega arith, refl)
      (either-answered (is_there NAME s) _ _ (λ q. omega arith, refl) (λ q. omega arith, refl)))

  repeated : Answered (repeat_ack a s)
  unfolding repeat_ack
  repeated = either-answered (is_poor (init_of s)) _ _ (λ q. omega arith, refl) (λ q. omega arith, refl)

  row-answered : (b : Beside) (m : Met) (st : State) → Answered (row_step room a b cookie s (row_of kinds.Init m st))
  row-answered b m st =
      let l = offered a b.lent in
      subst (λ (r : Row). Answered (row_step room a b cookie s r)) (sym (row-is-cell kinds.Init m st))
      (each-state (λ t. Answered (row_step room a b cookie s (cells kinds.Init m t)))
      (answered l) (λ n. answered l) (λ n. answered l) (answered l) (answered l) (λ n. answered l) (answered l) (λ n. repeated) st)

  -- "INIT is no longer answered 7 in any state" (02, T-08), and no INIT changes a record
  pub init-never-7 : (b : Beside) → kind_of (u8 s 0) ≡ kinds.Init → (fate_number (step_of room a b cookie s).fate ≡ 7 → ⊥) × ((step_of room a b cookie s).association ≡ a)
  unfolding step_of
  init-never-7 b k = rw k (row-answered b (met_by a b) a.state)
