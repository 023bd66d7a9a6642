-- C1 to C13 of 01 as one table, and the one theorem: the definitions answer as the table says. Assumes nothing.
use Rattle.std.specs.Prelude.{ℕ, ◌≡◌, refl, List, [], ◌∷◌, map}
use Rattle.scans.specs.Each.{All}
use Rattle.numbers.specs.declared.circle.Distance.TheVariants.{Ahead, Behind, Opposite}
use Rattle.numbers.specs.Circle.{on_circle}
use Rattle.numbers.specs.Numbering.{on, before, far}
use Rattle.numbers.specs.Judgement.{judged}
use Rattle.numbers.specs.Keeping.{fresh_keeping, offset_of, is_come, keeping_settled, marked_come, listed}
use Rattle.numbers.specs.Blocks.{GapBlock, runs, blocks_laid_out, blocks_of}
use Rattle.numbers.specs.BlocksLaws.{block_list}
use Rattle.holding.specs.Held.{holds}
use Rattle.delivery.specs.Receiving.{fresh_receiving, is_low, low_of}
use Rattle.delivery.specs.Contradiction.{contradicts, contradicts_next, clashes, is_contradicted}
use Rattle.delivery.specs.Arrival.{is_repeat, is_wedged, judgement_of, verdict_of, duplicate_noted, stray_passed, kept_at_place, arrived}
use Rattle.delivery.specs.ReceivingSack.{receiving_sack}
use Rattle.path.specs.Control.{fresh_control, halved, collapsed}
use Rattle.path.specs.Clock.{fresh_clock, timed, clock_sampled, clock_doubled}
use Rattle.path.specs.Path.{fresh_path, sampled_by, path_expired}
use Rattle.cases.specs.Case.{CaseGiven, distance, arrivals, samples, expiry, CaseAnswer, apart, left, waits, allows, Case, case_answered}

-- what is given, and what is to be answered; a single block
abbrev row : CaseGiven → CaseAnswer → Case
row g a = record { given = g; expected = a }

abbrev block : ℕ → ℕ → List GapBlock
block a b = record { from = a; to = b } ∷ []

-- the number answered, the point, the blocks, how many are held
abbrev leaves : ℕ → ℕ → List GapBlock → ℕ → CaseAnswer
leaves number point blocks held = left (record { number = number; point = point; blocks = blocks; held = held })

-- C1 to C13, each with 01's own sentence
abbrev pub table : List Case
table =
    -- "C1: from 4,294,967,295 to 0: +1. C2: from 0 to 4,294,967,295: -1."
    row (distance 32 4294967295 0) (apart (Ahead 1))
    ∷ row (distance 32 0 4294967295) (apart (Behind 1))
    -- "C3: 0 to 2,147,483,647: +2,147,483,647. C4: 0 to 2,147,483,648: opposite. C5: 0 to 2,147,483,649: -2,147,483,647."
    ∷ row (distance 32 0 2147483647) (apart (Ahead 2147483647))
    ∷ row (distance 32 0 2147483648) (apart Opposite)
    ∷ row (distance 32 0 2147483649) (apart (Behind 2147483647))
    -- "C6: 16 bits, 65,535 to 0: +1. C7: 16 bits, 0 to 32,768: opposite."
    ∷ row (distance 16 65535 0) (apart (Ahead 1))
    ∷ row (distance 16 0 32768) (apart Opposite)
    -- "C8: point 4,294,967,294, TSN 0 arrives: point stays, one block 2 to 2. C9: then 4,294,967,295: point 0, no block."
    ∷ row (arrivals 4294967294 (0 ∷ [])) (leaves 0 4294967294 (block 2 2) 1)
    ∷ row (arrivals 4294967294 (0 ∷ 4294967295 ∷ [])) (leaves 0 0 [] 2)
    -- "C10: fresh, d = 128 held. C11: fresh, d = 129 refused 13."
    ∷ row (arrivals 0 (128 ∷ [])) (leaves 0 0 (block 128 128) 1)
    ∷ row (arrivals 0 (129 ∷ [])) (leaves 13 0 [] 0)
    -- "C12: samples 3,000 then 1,000: RTO 9,000 then 9,250. C13: cwnd 6,000, T3: ssthresh 3,000, cwnd 528."
    ∷ row (samples (3000 ∷ 1000 ∷ [])) (waits (9000 ∷ 9250 ∷ []))
    ∷ row (expiry 6000) (allows 3000 528)
    ∷ []

-- both sides computed
pub cases-hold : map (λ (c : Case). case_answered c.given) table ≡ map (λ (c : Case). c.expected) table
unfolding on_circle on before far judged fresh_keeping offset_of is_come keeping_settled marked_come listed runs blocks_laid_out blocks_of block_list holds fresh_receiving is_low low_of is_repeat is_wedged judgement_of contradicts contradicts_next clashes is_contradicted verdict_of duplicate_noted stray_passed kept_at_place arrived receiving_sack fresh_control halved collapsed fresh_clock timed clock_sampled clock_doubled fresh_path sampled_by path_expired
cases-hold = refl

module _ {A B : Type 0} (f g : A → B) where
  -- lists of answers that are equal are equal one by one
  one_by_one : (xs : List A) → map f xs ≡ map g xs → All (λ (x : A). f x ≡ g x) xs
  one_by_one [] e = tt
  one_by_one (x ∷ xs) e = (cc, one_by_one xs cc)

-- computed again, so that a wrong row fails each of the two by itself
pub each_holds : All (λ (c : Case). case_answered c.given ≡ c.expected) table
unfolding on_circle on before far judged fresh_keeping offset_of is_come keeping_settled marked_come listed runs blocks_laid_out blocks_of block_list holds fresh_receiving is_low low_of is_repeat is_wedged judgement_of contradicts contradicts_next clashes is_contradicted verdict_of duplicate_noted stray_passed kept_at_place arrived receiving_sack fresh_control halved collapsed fresh_clock timed clock_sampled clock_doubled fresh_path sampled_by path_expired
each_holds = one_by_one (λ (c : Case). case_answered c.given) (λ (c : Case). c.expected) table refl
