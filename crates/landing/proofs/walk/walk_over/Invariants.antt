use mathlib.Core.Path.{◌≡◌}
use Prim.Native.Nat.{ℕ, ◌-◌, ◌≤◌}
use mathlib.Core.List.{List}
use lib.ListN.{length}
use Rattle.octets.specs.WalkLaws.{ItemsFolding}
use Rattle.rows.specs.Lending.{standing, AreSame}
use Rattle.landing.specs.TableWalk.{TableTurn, turn_over, turned_in}
use Rattle.landing.proofs.walk.walk_over.Given as goal

abbrev pub invariant-loop-at : goal.invariant-loop-at
invariant-loop-at l = AreSame l.initial.tables l.tables × (l.w.used ≤ 1460) × (length l.scratch ≡ length l.initial.scratch) × ItemsFolding (λ (u : TableTurn) (s : List ℕ). turned_in (length l.packet - length s) l.b l.cookie s u) l.packet (turn_over l.initial.w (standing l.initial.tables) l.initial.verdicts l.initial.scratch) 12 (turn_over l.w (standing l.tables) l.verdicts l.scratch) l.at

abbrev pub decreases-loop-at : goal.decreases-loop-at
decreases-loop-at l = length l.packet - l.at
