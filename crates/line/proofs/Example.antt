-- The premises can be met, and the answers vary: a sender of messages of one chunk each, two ordered ones and then unordered ones, and a run that
-- goes over the end of the circle of TSNs, with what the circle receiver answers to it: C8 and C9, 18 with the length needed, 17, and 11 for a chunk
-- that comes again after it was taken above a hole. Assumes nothing.
use Rattle.std.specs.Prelude.{ℕ, zero, suc, ◌+◌, ◌-◌, ◌^◌, ◌<◌, ◌≤◌, ◌≡◌, refl, Bool, true, false, List, [], ◌∷◌, ◌++◌, map, replicate, leb}
use Rattle.std.proofs.Common.{sym, ◌∙◌, arith}
use mir.Val.{bool_byte as bit}
use Rattle.std.proofs.Math.Decide.{dec_lt}
use borrow.Author.Tests.{le-ltb, lt-ltb, lt-leb, leb-false}
use Rattle.scans.specs.Scan.{pick}
use Rattle.scans.specs.Each.{clash}
use Rattle.numbers.specs.declared.circle.Tsn.{Tsn}
use Rattle.numbers.specs.declared.keeping.Blocks.{Blocks}
use Rattle.numbers.specs.Circle.{on_circle}
use Rattle.numbers.specs.Numbering.{ring, line, circles, lines, on, before, far, key}
use Rattle.numbers.specs.Profile.{Profile, rail, is_agreed}
use Rattle.numbers.specs.Judgement.{judged}
use Rattle.numbers.specs.Keeping.{offset_of, is_come, keeping_settled, marked_come, listed, fresh_keeping, keeping_told}
use Rattle.numbers.specs.Blocks.{runs, blocks_laid_out, blocks_of}
use Rattle.octets.specs.Bytes.{laid}
use Rattle.holding.specs.declared.held.Chunk.{Chunk}
use Rattle.holding.specs.declared.taking.Message.{Message}
use Rattle.holding.specs.declared.taking.Answer.TheVariants.{Taken, Nothing, Short}
use Rattle.holding.specs.Held.{as_held, holds}
use Rattle.holding.specs.Message.{is_of_one, continues, follow, is_left_end, is_due_at, is_expected, opens, better_message, chosen}
use Rattle.holding.specs.Taking.{advanced, took, written}
use Rattle.delivery.specs.declared.arrival.Verdict.TheVariants.{Kept, Duplicate}
use Rattle.delivery.specs.declared.acknowledging.Sack.{Sack}
use Rattle.delivery.specs.Receiving.{fresh_receiving, is_low, low_of, taken_into}
use Rattle.delivery.specs.Contradiction.{contradicts, contradicts_next, clashes, is_contradicted}
use Rattle.delivery.specs.Arrival.{is_repeat, is_wedged, judgement_of, verdict_of, duplicate_noted, stray_passed, arrived, arrival_area, kept_at_place}
use Rattle.delivery.specs.ReceivingSack.{receiving_sack, receiving_told, acknowledged_receiving}
use Rattle.line.specs.Reduce.{reduce_ssn}
use Rattle.line.specs.Sender.{HonestSender, starts, ordinal, ordinal-suc, ordinal-zero}
use Rattle.line.specs.Runs.{ReceiverEvent, arrive, take, sack, judges, gives, tells, start, answers, reduce_event, reduce_answer, Fair}
use Rattle.line.proofs.AgreementLaws.{rail-agrees}

-- a sender of messages of one chunk each, of stream 0: ordered ones, and from the number `loose` on unordered ones
module _ (first loose : ℕ) where
  abbrev pub example_chunk_of : ℕ → Chunk
  example_chunk_of n = record {
    begin = true;
    end = true;
    unordered = leb loose n;
    tsn = record { 0 = n };
    stream = record { 0 = 0 };
    ssn = record { 0 = pick (leb loose n) 0 (n - first) };
    ppid = 7;
  }

  each : (n : ℕ) → n < loose → Dec (n < first) → bit (starts first example_chunk_of 0 n) + (n - first) ≡ suc n - first
  unfolding starts
  each n m (yes l) = rw (lt-ltb n first l) (omega arith)
  each n m (no l) = rw (le-ltb n first (omega arith), lt-leb loose n m) (omega arith)

  counted : (n : ℕ) → n ≤ loose → ordinal first example_chunk_of 0 n ≡ n - first
  counted zero m = ordinal-zero first example_chunk_of 0 ∙ omega arith
  counted (suc n) m = omega (arith, ordinal-suc first example_chunk_of 0 n, counted n (omega arith), each n (omega arith) (dec_lt n first))

  pub single : (P : Profile) → is_agreed P 0 1 ≡ true → HonestSender P first 1 example_chunk_of
  single P e = record {
    number = λ n l. refl;
    begins = refl;
    parts = λ n l. refl;
    one-stream = λ n l e. refl;
    one-kind = λ n l e. clash (sym e);
    one-ssn = λ n l e u. clash (sym e);
    in_order = λ n l b u. let m : n < loose = leb-false loose n u in rw (lt-leb loose n m) (sym (counted n (omega arith)));
    agreed = λ n l. e;
  }

-- the two bytes of each
abbrev pub example_payload_of : ℕ → ℕ → List ℕ
example_payload_of first n = (n - first) ∷ (9 ∷ [])

-- the last number of the circle; on the line, one turn further
abbrev pub example_last : ℕ
example_last = 2 ^ 32 - 1

abbrev pub example_first : ℕ
example_first = example_last + 2 ^ 32

abbrev pub example_initial : Tsn
example_initial = record { 0 = example_first }

-- two ordered ones, then unordered ones
abbrev pub example_chunk : ℕ → Chunk
example_chunk = example_chunk_of example_first (example_first + 2)

abbrev pub payload : ℕ → List ℕ
payload = example_payload_of example_first

pub honest : HonestSender rail example_first 1 example_chunk
honest = single example_first (example_first + 2) rail refl

-- a lent area; only its first two places are used
abbrev pub area : List ℕ
area = replicate 1024 0

-- a lent output of three bytes, and one of a single byte
abbrev pub out : List ℕ
out = 5 ∷ (5 ∷ (5 ∷ []))

abbrev pub short : List ℕ
short = 5 ∷ []

-- the chunk of a number arrives
abbrev pub comes : ℕ → ReceiverEvent
comes n = arrive (example_chunk n) (payload n)

-- the second before the first, across the wrap; both taken, the first at the second try; then an unordered one behind a gap, and the same again
abbrev events : List ReceiverEvent
events =
    comes (example_first + 1)
    ∷ (sack
    ∷ (comes example_first
    ∷ (sack
    ∷ (take short
    ∷ (take out ∷ (take out ∷ (comes (example_first + 3) ∷ (take out ∷ (take out ∷ (comes (example_first + 3) ∷ (sack ∷ [])))))))))))

fair : Fair rail (2 ^ 31) example_first example_chunk payload 1 (start line rail example_initial area) events
unfolding fresh_receiving fresh_keeping before on far judged offset_of is_come keeping_settled marked_come listed keeping_told holds is_of_one continues follow is_left_end is_due_at is_expected opens key better_message chosen advanced took is_low low_of taken_into is_repeat is_wedged judgement_of contradicts contradicts_next clashes is_contradicted verdict_of duplicate_noted stray_passed kept_at_place arrived receiving_told acknowledged_receiving
fair = (
  (example_first + 1, omega arith, refl, refl, omega arith),
  ((example_first, omega arith, refl, refl, omega arith), ((example_first + 3, omega arith, refl, refl, omega arith), ((example_first + 3, omega arith, refl, refl, omega arith), tt))),
)

-- a SACK, with its arrays as the host has them
abbrev sack_at : ℕ → ℕ → Blocks → List Tsn → ℕ → Sack
sack_at point window blocks dups n = record {
  point = record { 0 = point };
  window = window;
  blocks = blocks;
  dups = dups ++ replicate (16 - n) (record { 0 = 0 });
  listed = n;
}

-- a SACK without a block
abbrev no_block : Blocks
no_block = record { count = 0; starts = replicate 64 0; ends = replicate 64 0 }

-- one block, 2 to 2
abbrev block_at2 : Blocks
block_at2 = record { count = 1; starts = 2 ∷ replicate 63 0; ends = 2 ∷ replicate 63 0 }

-- the message of a number, as a take gives it
abbrev message : ℕ → Bool → Message
message n kind = record { length = 2; stream = record { 0 = 0 }; unordered = kind; ssn = record { 0 = n }; ppid = 7 }

circle-says : answers circles rail 1 (start (ring (2 ^ 32)) rail (record { 0 = example_last }) area) (map (reduce_event (2 ^ 32) (2 ^ 16)) events)
    ≡ judges Kept
    ∷ (tells (sack_at 4294967294 65024 block_at2 [] 0)
    ∷ (judges Kept
    ∷ (tells (sack_at 0 64512 no_block [] 0)
    ∷ (gives (Short 2) short
    ∷ (gives (Taken (message 0 false)) (0 ∷ (9 ∷ (5 ∷ [])))
    ∷ (gives (Taken (message 1 false)) (1 ∷ (9 ∷ (5 ∷ [])))
    ∷ (judges Kept
    ∷ (gives (Taken (message 0 true)) (3 ∷ (9 ∷ (5 ∷ [])))
    ∷ (gives Nothing out
    ∷ (judges Duplicate
    ∷ (tells (sack_at 0 65536 block_at2 (record { 0 = 2 } ∷ []) 1)
    ∷ [])))))))))))
unfolding answers fresh_receiving fresh_keeping before on far on_circle judged offset_of is_come keeping_settled marked_come listed keeping_told runs blocks_laid_out blocks_of laid holds is_of_one continues follow is_left_end is_due_at is_expected opens key better_message chosen advanced took written is_low low_of taken_into is_repeat is_wedged judgement_of contradicts contradicts_next clashes is_contradicted verdict_of duplicate_noted stray_passed kept_at_place arrived arrival_area receiving_sack receiving_told acknowledged_receiving
circle-says = refl

-- as the theorem says, with both sides of it computed
holds-here : answers circles rail 1 (start (ring (2 ^ 32)) rail (record { 0 = example_last }) area) (map (reduce_event (2 ^ 32) (2 ^ 16)) events)
    ≡ map (reduce_answer (2 ^ 32) (2 ^ 16)) (answers lines rail 1 (start line rail example_initial area) events)
holds-here = (rail-agrees example_last (omega arith) 1 area example_chunk payload honest events fair).0

-- behind number 65,535 of a stream stands 65,536 on the line, and 0 on the circle
ssn-returns : advanced (ring (2 ^ 16)) (record { 0 = 65535 } ∷ []) (as_held (example_chunk example_first) 2)
    ≡ map (reduce_ssn (2 ^ 16)) (advanced line (record { 0 = 65535 } ∷ []) (as_held (example_chunk example_first) 2))
unfolding advanced on
ssn-returns = refl
