-- Demand 3 is false of each wrong build: what its host sees of a few calls is not what the line receiver's host sees. The sender is that of `Example`,
-- whose second chunk has TSN 0. Assumes nothing.
use Rattle.std.specs.Prelude.{ℕ, zero, suc, ◌+◌, ◌-◌, ◌*◌, ◌^◌, ◌<◌, ◌≡◌, refl, true, List, [], ◌∷◌, ◌++◌, map, length, drop, get_or, replicate}
use Rattle.std.proofs.Common.{sym, ap, ◌∙◌, arith, eq-eqb}
use Rattle.std.proofs.lemmas.Bool.{eqb-false}
use Rattle.scans.specs.Each.{clash}
use Rattle.numbers.specs.Circle.{on_circle}
use Rattle.numbers.specs.Numbering.{line, rings, on, before, far, key}
use Rattle.numbers.specs.Profile.{Profile, rail, is_agreed}
use Rattle.numbers.specs.Judgement.{judged}
use Rattle.numbers.specs.Keeping.{offset_of, is_come, keeping_settled, marked_come, listed, fresh_keeping, keeping_told}
use Rattle.numbers.specs.KeepingRoomLaws.{Distinct}
use Rattle.numbers.specs.Blocks.{runs, blocks_laid_out, blocks_of}
use Rattle.octets.specs.Bytes.{laid}
use Rattle.holding.specs.declared.held.Chunk.{Chunk}
use Rattle.holding.specs.Held.{holds}
use Rattle.holding.specs.Message.{is_of_one, continues, follow, is_left_end, is_due_at, is_expected, opens, better_message, chosen}
use Rattle.holding.specs.Taking.{advanced, took, written, take_number}
use Rattle.delivery.specs.declared.acknowledging.Sack.{Sack}
use Rattle.delivery.specs.Receiving.{fresh_receiving, is_low, low_of, taken_into}
use Rattle.delivery.specs.Contradiction.{contradicts, contradicts_next, clashes, is_contradicted}
use Rattle.delivery.specs.Arrival.{is_repeat, is_wedged, judgement_of, verdict_of, duplicate_noted, stray_passed, arrived, arrival_area, kept_at_place}
use Rattle.delivery.specs.ReceivingSack.{receiving_sack, acknowledged_receiving, receiving_told}
use Rattle.line.specs.Runs.{ReceiverEvent, arrive, take, sack, start, Fair, bytes_from}
use Rattle.line.proofs.Example.{example_chunk_of, example_payload_of, single, example_last, example_first, example_initial, example_chunk, payload, honest, area, out, comes}
use Rattle.line.specs.Demand.{Receiver, HostSaw, number, gave, told, seen, receiver_over, Premises, GivenMessage, Span, IsThere, Match, Demand, Demand3, state_after}
use Rattle.line.proofs.DemandLaws.{demanded}
use Rattle.line.specs.Builds.{refusing_receiver, unvarying, keeps_nothing, acknowledges_all, plain_tsn, plain_ssn, frees_taken, fills_above, at_rail}

-- a sequence of calls
abbrev calls : (es : List ReceiverEvent) → Fair rail (2 ^ 31) example_first example_chunk payload 1 (start line rail example_initial area) es → Premises rail (2 ^ 31)
calls es fair = record {
  initial = example_last;
  small = omega arith;
  streams = 1;
  area = area;
  chunk = example_chunk;
  payload = payload;
  honest = honest;
  events = es;
  fair = fair;
}

-- what the host sees of call i, as a number: that of an arrival, or of a take, or a SACK's point
abbrev shown : HostSaw → ℕ
shown (number x) = x
shown (gave o t now) = take_number t
shown (told s) = s.point.0

abbrev at : ℕ → List HostSaw → ℕ
at i [] = 0
at zero (z ∷ zs) = shown z
at (suc i) (z ∷ zs) = at i zs

-- ---- each build

-- nothing has come yet
none : Premises rail (2 ^ 31)
none = calls [] tt

-- one chunk comes
one : Premises rail (2 ^ 31)
unfolding fresh_receiving fresh_keeping before
one = calls (comes example_first ∷ (sack ∷ [])) ((example_first, omega arith, refl, refl, omega arith), tt)

-- whatever it refuses them with, and whatever it keeps: the next chunk is to be held
pub refuses-all : (R : Receiver) → ((streams : ℕ) (s : R.State) (c : Chunk) (bytes : List ℕ) → (R.arrive streams s c bytes).answer ≡ 0 → ⊥) → Demand3 R → ⊥
unfolding none seen fresh_receiving fresh_keeping before on far on_circle judged offset_of is_come keeping_settled marked_come listed keeping_told runs blocks_laid_out blocks_of laid holds is_of_one continues follow is_left_end is_due_at is_expected opens key better_message chosen advanced took written is_low low_of taken_into is_repeat is_wedged judgement_of contradicts contradicts_next clashes is_contradicted verdict_of duplicate_noted stray_passed kept_at_place arrived arrival_area receiving_sack receiving_told acknowledged_receiving state_after
refuses-all R f d = f _ _ _ _ (d.progress none example_first refl (omega arith) (omega arith) (omega arith)).0

pub refusing-false : (x : ℕ) → (x ≡ 0 → ⊥) → Demand3 (at_rail (λ n m P. refusing_receiver n m P x)) → ⊥
refusing-false x f = refuses-all (at_rail (λ n m P. refusing_receiver n m P x)) (λ streams s c bytes. f)

-- C8, then C9
two : Premises rail (2 ^ 31)
unfolding seen fresh_receiving fresh_keeping before on far on_circle judged offset_of is_come keeping_settled marked_come listed keeping_told runs blocks_laid_out blocks_of laid holds is_of_one continues follow is_left_end is_due_at is_expected opens key better_message chosen advanced took written is_low low_of taken_into is_repeat is_wedged judgement_of contradicts contradicts_next clashes is_contradicted verdict_of duplicate_noted stray_passed kept_at_place arrived arrival_area receiving_sack receiving_told acknowledged_receiving
two = calls (comes (example_first + 1) ∷ (sack ∷ (comes example_first ∷ (sack ∷ [])))) ((example_first + 1, omega arith, refl, refl, omega arith), ((example_first, omega arith, refl, refl, omega arith), tt))

-- whatever it tells
pub never-varies : (R : Receiver) → ((s t : R.State) → (R.sack s).answer ≡ (R.sack t).answer) → Demand3 R → ⊥
unfolding two seen fresh_receiving fresh_keeping before on far on_circle judged offset_of is_come keeping_settled marked_come listed keeping_told runs blocks_laid_out blocks_of laid holds is_of_one continues follow is_left_end is_due_at is_expected opens key better_message chosen advanced took written is_low low_of taken_into is_repeat is_wedged judgement_of contradicts contradicts_next clashes is_contradicted verdict_of duplicate_noted stray_passed kept_at_place arrived arrival_area receiving_sack receiving_told acknowledged_receiving
never-varies R f d =
    eqb-false 4294967294 0 refl (sym (ap (at 1) (d.agrees two)) ∙ (ap (λ (s : Sack). s.point.0) (f _ _) ∙ ap (at 3) (d.agrees two)))

pub unvarying-false : (s : Sack) → Demand3 (at_rail (λ n m P. unvarying n m P s)) → ⊥
unvarying-false s = never-varies (at_rail (λ n m P. unvarying n m P s)) (λ x y. refl)

-- the next chunk takes no place
pub keeps-nothing : Demand3 (at_rail keeps_nothing) → ⊥
unfolding state_after none seen fresh_receiving fresh_keeping before on far on_circle judged offset_of is_come keeping_settled marked_come listed keeping_told runs blocks_laid_out blocks_of laid holds is_of_one continues follow is_left_end is_due_at is_expected opens key better_message chosen advanced took written is_low low_of taken_into is_repeat is_wedged judgement_of contradicts contradicts_next clashes is_contradicted verdict_of duplicate_noted stray_passed kept_at_place arrived arrival_area receiving_sack receiving_told acknowledged_receiving
keeps-nothing d = eqb-false (65536 + 512) 65536 refl (d.progress none example_first refl (omega arith) (omega arith) (omega arith)).1

-- the SACK's point lies 128 too far
pub acknowledges-all : Demand3 (at_rail acknowledges_all) → ⊥
unfolding one seen fresh_receiving fresh_keeping before on far on_circle judged offset_of is_come keeping_settled marked_come listed keeping_told runs blocks_laid_out blocks_of laid holds is_of_one continues follow is_left_end is_due_at is_expected opens key better_message chosen advanced took written is_low low_of taken_into is_repeat is_wedged judgement_of contradicts contradicts_next clashes is_contradicted verdict_of duplicate_noted stray_passed kept_at_place arrived arrival_area receiving_sack receiving_told acknowledged_receiving
acknowledges-all d = eqb-false 127 4294967295 refl (ap (at 1) (d.agrees one))

-- TSN 0 behind 4,294,967,294
pub plain-tsn : Demand3 (at_rail plain_tsn) → ⊥
unfolding two seen fresh_receiving fresh_keeping before on far on_circle judged offset_of is_come keeping_settled marked_come listed keeping_told runs blocks_laid_out blocks_of laid holds is_of_one continues follow is_left_end is_due_at is_expected opens key better_message chosen advanced took written is_low low_of taken_into is_repeat is_wedged judgement_of contradicts contradicts_next clashes is_contradicted verdict_of duplicate_noted stray_passed kept_at_place arrived arrival_area receiving_sack receiving_told acknowledged_receiving
plain-tsn d = eqb-false 11 0 refl (ap (at 0) (d.agrees two))

-- an unordered message above a hole is taken, and its chunk comes again
again : Premises rail (2 ^ 31)
unfolding seen fresh_receiving fresh_keeping before on far on_circle judged offset_of is_come keeping_settled marked_come listed keeping_told runs blocks_laid_out blocks_of laid holds is_of_one continues follow is_left_end is_due_at is_expected opens key better_message chosen advanced took written is_low low_of taken_into is_repeat is_wedged judgement_of contradicts contradicts_next clashes is_contradicted verdict_of duplicate_noted stray_passed kept_at_place arrived arrival_area receiving_sack receiving_told acknowledged_receiving
again = calls (comes (example_first + 2) ∷ (take out ∷ (comes (example_first + 2) ∷ []))) ((example_first + 2, omega arith, refl, refl, omega arith), ((example_first + 2, omega arith, refl, refl, omega arith), tt))

pub frees-taken : Demand3 (at_rail frees_taken) → ⊥
unfolding again seen fresh_receiving fresh_keeping before on far on_circle judged offset_of is_come keeping_settled marked_come listed keeping_told runs blocks_laid_out blocks_of laid holds is_of_one continues follow is_left_end is_due_at is_expected opens key better_message chosen advanced took written is_low low_of taken_into is_repeat is_wedged judgement_of contradicts contradicts_next clashes is_contradicted verdict_of duplicate_noted stray_passed kept_at_place arrived arrival_area receiving_sack receiving_told acknowledged_receiving
frees-taken d = eqb-false 0 11 refl (ap (at 2) (d.agrees again))

-- with one chunk to be taken, the 128th above the point
above : Premises rail (2 ^ 31)
unfolding seen fresh_receiving fresh_keeping before on far on_circle judged offset_of is_come keeping_settled marked_come listed keeping_told runs blocks_laid_out blocks_of laid holds is_of_one continues follow is_left_end is_due_at is_expected opens key better_message chosen advanced took written is_low low_of taken_into is_repeat is_wedged judgement_of contradicts contradicts_next clashes is_contradicted verdict_of duplicate_noted stray_passed kept_at_place arrived arrival_area receiving_sack receiving_told acknowledged_receiving
above = calls (comes example_first ∷ (comes (example_first + 128) ∷ [])) ((example_first, omega arith, refl, refl, omega arith), ((example_first + 128, omega arith, refl, refl, omega arith), tt))

pub fills-above : Demand3 (at_rail fills_above) → ⊥
unfolding above seen fresh_receiving fresh_keeping before on far on_circle judged offset_of is_come keeping_settled marked_come listed keeping_told runs blocks_laid_out blocks_of laid holds is_of_one continues follow is_left_end is_due_at is_expected opens key better_message chosen advanced took written is_low low_of taken_into is_repeat is_wedged judgement_of contradicts contradicts_next clashes is_contradicted verdict_of duplicate_noted stray_passed kept_at_place arrived arrival_area receiving_sack receiving_told acknowledged_receiving
fills-above d = eqb-false 0 13 refl (ap (at 1) (d.agrees above))

-- ---- the harm that they do, which the line receiver's rules are not asked for; with few places of two bytes, on small circles

-- a sequence of calls with initial TSN 0, ordered messages up to `loose`, and an area of so many bytes as the places have
abbrev calls_in : (P : Profile) → is_agreed P 0 1 ≡ true → (h loose : ℕ) → 0 < h + h → (es : List ReceiverEvent)
    → Fair P h (0 + (h + h)) (example_chunk_of (0 + (h + h)) loose) (example_payload_of (0 + (h + h))) 1 (start line P (record { 0 = 0 + (h + h) }) (replicate (P.payload * P.places) 0)) es
    → Premises P h
calls_in P agreed h loose some es fair = record {
  initial = 0;
  small = some;
  streams = 1;
  area = replicate (P.payload * P.places) 0;
  chunk = example_chunk_of (0 + (h + h)) loose;
  payload = example_payload_of (0 + (h + h));
  honest = single (0 + (h + h)) loose P agreed;
  events = es;
  fair = fair;
}

abbrev arriving : ℕ → ℕ → ℕ → ReceiverEvent
arriving first loose n = arrive (example_chunk_of first loose n) (example_payload_of first n)

-- two places, circles of 16
abbrev small : Profile
small = record {
  places = 2;
  streams = 1;
  payload = 2;
  listed = 1;
  «shortest-packet» = rail.«shortest-packet»;
  «longest-packet» = rail.«longest-packet»;
  «longest-cookie» = rail.«longest-cookie»;
}

-- ours meets the demand there
pub small-right : Demand small 8 8 (receiver_over (rings 16 16) small)
small-right = demanded small 8 8 (omega arith) (omega arith)

-- "so that the missing chunk finds none": 16 is to be taken, 18 comes; then 17 takes no place
hole : Premises small 8
unfolding seen fresh_receiving fresh_keeping before on far on_circle judged offset_of is_come keeping_settled marked_come listed keeping_told runs blocks_laid_out blocks_of laid holds is_of_one continues follow is_left_end is_due_at is_expected opens key better_message chosen advanced took written is_low low_of taken_into is_repeat is_wedged judgement_of contradicts contradicts_next clashes is_contradicted verdict_of duplicate_noted stray_passed kept_at_place arrived arrival_area receiving_sack receiving_told acknowledged_receiving
hole = calls_in small refl 8 16 (omega arith) (arriving 16 16 16 ∷ (arriving 16 16 18 ∷ [])) ((16, omega arith, refl, refl, omega arith), ((18, omega arith, refl, refl, omega arith), tt))

pub missing-finds-none : Demand small 8 8 (fills_above 16 16 small) → ⊥
unfolding hole state_after seen fresh_receiving fresh_keeping before on far on_circle judged offset_of is_come keeping_settled marked_come listed keeping_told runs blocks_laid_out blocks_of laid holds is_of_one continues follow is_left_end is_due_at is_expected opens key better_message chosen advanced took written is_low low_of taken_into is_repeat is_wedged judgement_of contradicts contradicts_next clashes is_contradicted verdict_of duplicate_noted stray_passed kept_at_place arrived arrival_area receiving_sack receiving_told acknowledged_receiving
missing-finds-none d = eqb-false 2 0 refl (d.progress hole 17 refl (omega arith) (omega arith) (omega arith)).1

-- "so that a repeat is delivered again": 17 is taken above the hole at 16, comes again and is taken again
repeat : Premises small 8
unfolding seen fresh_receiving fresh_keeping before on far on_circle judged offset_of is_come keeping_settled marked_come listed keeping_told runs blocks_laid_out blocks_of laid holds is_of_one continues follow is_left_end is_due_at is_expected opens key better_message chosen advanced took written is_low low_of taken_into is_repeat is_wedged judgement_of contradicts contradicts_next clashes is_contradicted verdict_of duplicate_noted stray_passed kept_at_place arrived arrival_area receiving_sack receiving_told acknowledged_receiving
repeat = calls_in small refl 8 16 (omega arith) (arriving 16 16 17 ∷ (take out ∷ (arriving 16 16 17 ∷ (take out ∷ [])))) ((17, omega arith, refl, refl, omega arith), ((17, omega arith, refl, refl, omega arith), tt))

-- a message with byte 1 ahead is that of number 17
is-17 : (s : Span) (g : GivenMessage) → g.output ≡ 1 ∷ (9 ∷ (5 ∷ [])) → IsThere 16 16 (example_chunk_of 16 16) (example_payload_of 16) s g → s.at ≡ 17
is-17 s g e w = go s.count w.cut.some (sym e ∙ w.bytes)
  where
    go : (k : ℕ) → 0 < k → 1 ∷ (9 ∷ (5 ∷ [])) ≡ bytes_from (example_payload_of 16) s.at k ++ drop (length (bytes_from (example_payload_of 16) s.at k)) g.lent → s.at ≡ 17
    go zero l q = absurd (omega arith)
    go (suc k) l q = let a : 1 ≡ s.at - 16 = ap (λ (xs : List ℕ). get_or xs 0 0) q in omega (arith, w.cut.from)

not-twice : (index : List Span) (g h : GivenMessage) → g.output ≡ 1 ∷ (9 ∷ (5 ∷ [])) → h.output ≡ 1 ∷ (9 ∷ (5 ∷ []))
    → Match (IsThere 16 16 (example_chunk_of 16 16) (example_payload_of 16)) index (g ∷ (h ∷ [])) → Distinct (map (λ (s : Span). s.at) index) → ⊥
not-twice [] g h a b w d = w
not-twice (s ∷ []) g h a b w d = w.1
not-twice (s ∷ (t ∷ [])) g h a b w d =
    let e : t.at ≡ s.at = is-17 t h b w.1.0 ∙ sym (is-17 s g a w.0) in
    clash (sym d.0 ∙ rw (eq-eqb t.at s.at e))
not-twice (s ∷ (t ∷ (u ∷ index))) g h a b w d = w.1.1

pub repeat-delivered : Demand small 8 8 (frees_taken 16 16 small) → ⊥
unfolding repeat seen fresh_receiving fresh_keeping before on far on_circle judged offset_of is_come keeping_settled marked_come listed keeping_told runs blocks_laid_out blocks_of laid holds is_of_one continues follow is_left_end is_due_at is_expected opens key better_message chosen advanced took written is_low low_of taken_into is_repeat is_wedged judgement_of contradicts contradicts_next clashes is_contradicted verdict_of duplicate_noted stray_passed kept_at_place arrived arrival_area receiving_sack receiving_told acknowledged_receiving
repeat-delivered d = let w = d.messages repeat (omega arith) in not-twice w.index _ _ refl refl w.genuine w.different

-- one place, circles of 8: the ordered message that stands behind eight others has SSN 0 again
abbrev tiny : Profile
tiny = record {
  places = 1;
  streams = 1;
  payload = 2;
  listed = 1;
  «shortest-packet» = rail.«shortest-packet»;
  «longest-packet» = rail.«longest-packet»;
  «longest-cookie» = rail.«longest-cookie»;
}

pub tiny-right : Demand tiny 4 4 (receiver_over (rings 8 8) tiny)
tiny-right = demanded tiny 4 4 (omega arith) (omega arith)

nine : Premises tiny 4
unfolding seen fresh_receiving fresh_keeping before on far on_circle judged offset_of is_come keeping_settled marked_come listed keeping_told runs blocks_laid_out blocks_of laid holds is_of_one continues follow is_left_end is_due_at is_expected opens key better_message chosen advanced took written is_low low_of taken_into is_repeat is_wedged judgement_of contradicts contradicts_next clashes is_contradicted verdict_of duplicate_noted stray_passed kept_at_place arrived arrival_area receiving_sack receiving_told acknowledged_receiving
nine = calls_in tiny refl 4 99 (omega arith) (arriving 8 99 8 ∷ (take out ∷ (arriving 8 99 9 ∷ (take out ∷ (arriving 8 99 10 ∷ (take out ∷ (arriving 8 99 11 ∷ (take out ∷ (arriving 8 99 12 ∷ (take out ∷ (arriving 8 99 13 ∷ (take out ∷ (arriving 8 99 14 ∷ (take out ∷ (arriving 8 99 15 ∷ (take out ∷ (arriving 8 99 16 ∷ (take out ∷ [])))))))))))))))))) ((8, omega arith, refl, refl, omega arith), ((9, omega arith, refl, refl, omega arith), ((10, omega arith, refl, refl, omega arith), ((11, omega arith, refl, refl, omega arith), ((12, omega arith, refl, refl, omega arith), ((13, omega arith, refl, refl, omega arith), ((14, omega arith, refl, refl, omega arith), ((15, omega arith, refl, refl, omega arith), ((16, omega arith, refl, refl, omega arith), tt)))))))))

pub plain-ssn : Demand tiny 4 4 (plain_ssn 8 8 tiny) → ⊥
unfolding nine seen fresh_receiving fresh_keeping before on far on_circle judged offset_of is_come keeping_settled marked_come listed keeping_told runs blocks_laid_out blocks_of laid holds is_of_one continues follow is_left_end is_due_at is_expected opens key better_message chosen advanced took written is_low low_of taken_into is_repeat is_wedged judgement_of contradicts contradicts_next clashes is_contradicted verdict_of duplicate_noted stray_passed kept_at_place arrived arrival_area receiving_sack receiving_told acknowledged_receiving
plain-ssn d = eqb-false 17 0 refl (ap (at 17) (d.agrees nine))
