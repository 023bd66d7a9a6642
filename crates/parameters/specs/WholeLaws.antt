-- Cause 8 carries all that is to be reported of an INIT ACK that a packet can hold: more room would add nothing. Assumes nothing.
use Rattle.std.specs.Prelude.{ℕ, ◌+◌, ◌%◌, ◌<◌, ◌≤◌, ◌≡◌, refl, true, Option, Some, None, length, take, drop}
use Rattle.std.proofs.Math.Path.{sym, ap}
use Rattle.std.proofs.Common.{◌∙◌, arith, le-ltb, length-drop, length-take-le}
use Rattle.std.proofs.Math.Bool.{false}
use mathlib.Core.List.{List, []}
use Rattle.std.proofs.Math.Decide.{dec_lt}
use Rattle.scans.specs.Scan.{pick}
use Rattle.scans.specs.Upto.{pick-keeps}
use Rattle.octets.specs.Bytes.{u16, up4}
use Rattle.octets.specs.Walk.{size}
use Rattle.octets.specs.WalkLaws.{size_is, size-least, size-four, over-alike}
use Rattle.chunks.specs.Frame.{chunk_end, behind}
use Rattle.chunks.specs.BackLaws.{ended-within}
use Rattle.chunks.specs.declared.kind.Handling.{Handling}
use Rattle.chunks.specs.declared.kind.Handling.TheVariants.{Stop, StopAndReport, Skip, SkipAndReport}
use Rattle.parameters.specs.Parameter.{treated}
use Rattle.parameters.specs.ReportLaws.{behind-long, judged-keeps}
use Rattle.parameters.specs.Report.{fitted, Gathered, acted, parameter_judged, gather_one, gather_all, ROOM}

-- what fits is put behind, whatever the room
fitted-is : (room : ℕ) (acc q : List ℕ) → up4 (length (behind acc q)) ≤ room → fitted room acc q ≡ behind acc q
unfolding fitted
fitted-is room acc q h = rw (le-ltb room (up4 (length (behind acc q))) h)

acted-same : (room rome : ℕ) (acc p : List ℕ) (h : Handling) → fitted room acc p ≡ fitted rome acc p → acted room false acc p h ≡ acted rome false acc p h
acted-same room rome acc p Stop e = refl
acted-same room rome acc p StopAndReport e = ap (λ (x : List ℕ). record { bytes = x; done = true }) e
acted-same room rome acc p Skip e = refl
acted-same room rome acc p SkipAndReport e = ap (λ (x : List ℕ). record { bytes = x; done = false }) e

judged-same : (room rome : ℕ) (acc p : List ℕ) (t : Option Handling) → fitted room acc p ≡ fitted rome acc p → parameter_judged room false acc p t ≡ parameter_judged rome false acc p t
judged-same room rome acc p None e = refl
judged-same room rome acc p (Some h) e = acted-same room rome acc p h e

-- what is gathered ends no later than place `at`, padding counted; the parameter there, with what follows it, is t
module _ (g : Gathered) (at : ℕ) (t : List ℕ) (f : at % 4 ≡ 0) (near : up4 (length g.bytes) ≤ at) (k : at + length t ≤ ROOM) where
  one-long : length (behind g.bytes (take (chunk_end t) t)) ≡ up4 (length g.bytes) + chunk_end t
  one-long = behind-long g.bytes (take (chunk_end t) t) ∙ ap (λ (n : ℕ). up4 (length g.bytes) + n) (length-take-le (chunk_end t) t (ended-within t).1)

  room_for : up4 (length (behind g.bytes (take (chunk_end t) t))) ≤ ROOM
  room_for = omega (arith, one-long, (ended-within t).1)

  next-far : up4 (length (behind g.bytes (take (chunk_end t) t))) ≤ at + size t
  next-far = go (dec_lt (u16 t 2) 4)
    where
      go : Dec (u16 t 2 < 4) → up4 (length (behind g.bytes (take (chunk_end t) t))) ≤ at + size t
      go (yes x) = omega (arith, one-long, (ended-within t).0, size-least t)
      go (no x) = omega (arith, one-long, (ended-within t).0, size_is t (omega arith))

  step_same : (room : ℕ) → ROOM ≤ room → gather_one room false g t ≡ gather_one ROOM false g t
  unfolding gather_one
  step_same room h =
      ap (pick g.done g)
      (judged-same room ROOM g.bytes (take (chunk_end t) t) (treated (u16 t 0)) (fitted-is room g.bytes (take (chunk_end t) t) (omega (arith, room_for)) ∙ sym (fitted-is ROOM g.bytes (take (chunk_end t) t) room_for)))

  step-near : up4 (length (gather_one ROOM false g t).bytes) ≤ at + size t
  unfolding gather_one
  step-near =
      pick-keeps (λ (x : Gathered). up4 (length x.bytes) ≤ at + size t) g.done g (parameter_judged ROOM false g.bytes (take (chunk_end t) t) (treated (u16 t 0))) (omega arith)
      (judged-keeps (λ (x : List ℕ). up4 (length x) ≤ at + size t) ROOM false g.bytes (take (chunk_end t) t) (treated (u16 t 0)) (omega arith)
      (rw (fitted-is ROOM g.bytes (take (chunk_end t) t) room_for) next-far))

pub room-enough : (room : ℕ) → ROOM ≤ room → (b : List ℕ) → length b ≤ ROOM → gather_all room false [] b ≡ gather_all ROOM false [] b
unfolding gather_all
room-enough room h b l =
    ap (λ (x : Gathered). x.bytes)
    (over-alike Near (gather_one room false) (gather_one ROOM false) b step (record { bytes = []; done = false }) 0 (refl, omega arith))
  where
    Near : Gathered → ℕ → Type 0
    Near g at = (at % 4 ≡ 0) × (up4 (length g.bytes) ≤ at)

    step : (g : Gathered) (at : ℕ) → at < length b → Near g at
        → (gather_one room false g (drop at b) ≡ gather_one ROOM false g (drop at b)) × Near (gather_one ROOM false g (drop at b)) (at + size (drop at b))
    step g at k (f, near) =
        let m : at + length (drop at b) ≤ ROOM = omega (arith, length-drop at b) in
        (step_same g at (drop at b) f near m room h, (omega (arith, size-four (drop at b)), step-near g at (drop at b) f near m))
