-- The builds that 01 wants kept out, each ours with one call changed. `BuildsLaws` shows of each that demand 3 is false of it.
use Rattle.std.specs.Prelude.{ℕ, ◌+◌, ◌^◌, Bool, false, List, [], ◌∷◌, map, length, eqb}
use Rattle.scans.specs.Scan.{pick, any}
use Rattle.numbers.specs.Numbering.{ring, line, rings, on}
use Rattle.numbers.specs.Profile.{Profile, rail}
use Rattle.numbers.specs.Judgement.{judged}
use Rattle.holding.specs.declared.held.Chunk.{Chunk}
use Rattle.holding.specs.declared.held.Held.{Held}
use Rattle.holding.specs.Held.{as_held, holds}
use Rattle.delivery.specs.declared.receiving.Receiving.{Receiving}
use Rattle.delivery.specs.declared.acknowledging.Sack.{Sack}
use Rattle.delivery.specs.declared.arrival.Verdict.{Verdict}
use Rattle.delivery.specs.declared.arrival.Verdict.TheVariants.{Kept, Far}
use Rattle.delivery.specs.Receiving.{with_keeping, with_held}
use Rattle.delivery.specs.Arrival.{verdict_number, is_beyond, Check, first_met, checks, receiving_after, stored_by}
use Rattle.line.specs.Runs.{ReceiverLent}
use Rattle.line.specs.Demand.{ReceiverStep, HostHanding, Receiver, receiver_over}

-- ours, over a profile with circles of n and m, with another arrival, take or SACK
module _ (n m : ℕ) (P : Profile) where
  abbrev right : Receiver
  right = receiver_over (rings n m) P

  abbrev with_arrive : (ℕ → ReceiverLent → Chunk → List ℕ → ReceiverStep ℕ ReceiverLent) → Receiver
  with_arrive f = record { State = ReceiverLent; begun = right.begun; arrive = f; take = right.take; sack = right.sack }

  abbrev with_take : (ReceiverLent → List ℕ → ReceiverStep HostHanding ReceiverLent) → Receiver
  with_take f = record { State = ReceiverLent; begun = right.begun; arrive = right.arrive; take = f; sack = right.sack }

  abbrev with_sack : (ReceiverLent → ReceiverStep Sack ReceiverLent) → Receiver
  with_sack f = record { State = ReceiverLent; begun = right.begun; arrive = right.arrive; take = right.take; sack = f }

  -- the receiving record moved by f
  abbrev moved : (Receiving → Receiving) → ReceiverLent → ReceiverLent
  moved f l = record { receiving = f l.receiving; area = l.area }

  -- the point and the flags changed
  abbrev with_come : ℕ → List Bool → Receiving → Receiving
  with_come point come r = with_keeping r (record { point = record { 0 = point }; come = come; dups = r.keeping.dups; listed = r.keeping.listed })

  -- "one that refuses all packets": with the number x, and leaves all
  abbrev pub refusing_receiver : ℕ → Receiver
  refusing_receiver x = with_arrive (λ streams l c bytes. record { answer = x; left = l })

  -- "one whose SACK never varies"
  abbrev pub unvarying : Sack → Receiver
  unvarying s = with_sack (λ l. record { answer = s; left = (right.sack l).left })

  -- "one whose arrival keeps nothing": the numbers come, no chunk is held
  abbrev pub keeps_nothing : Receiver
  keeps_nothing = with_arrive (λ streams l c bytes. record {
    answer = (right.arrive streams l c bytes).answer;
    left = moved (λ (r : Receiving). with_held r l.receiving.held) (right.arrive streams l c bytes).left;
  })

  -- "one that acknowledges on the first arrival all that follow": the point moves on by all the places
  abbrev pub acknowledges_all : Receiver
  acknowledges_all = with_arrive (λ streams l c bytes. record {
    answer = (right.arrive streams l c bytes).answer;
    left = moved (λ (r : Receiving). with_come (on (ring n) r.keeping.point.0 P.places) r.keeping.come r) (right.arrive streams l c bytes).left;
  })

  -- "Plain 'less than' on TSN": a chunk is judged as if the circle were a line
  abbrev pub plain_tsn : Receiver
  plain_tsn = with_arrive (receiver_over (record { tsn = line; ssn = ring m }) P).arrive

  -- "or SSN": the next expected goes up as if the circle were a line
  abbrev pub plain_ssn : Receiver
  plain_ssn = with_take (receiver_over (record { tsn = ring n; ssn = line }) P).take

  -- "Freeing a taken chunk's offset above the point": of the flags from offset d on, those stay whose number is still held
  abbrev still_held : List Held → ℕ → ℕ → List Bool → List Bool
  still_held hs point d [] = []
  still_held hs point d (b ∷ bs) = pick b (any (holds (on (ring n) point d)) hs) false ∷ still_held hs point (d + 1) bs

  abbrev pub frees_taken : Receiver
  frees_taken = with_take (λ l out. record {
    answer = (right.take l out).answer;
    left = moved (λ (r : Receiving). with_come r.keeping.point.0 (still_held r.held r.keeping.point.0 1 r.keeping.come) r) (right.take l out).left;
  })

  -- "Filling all places above a hole": of the checks, 13 is "d above 128", not "above 128 - low"
  abbrev roomy : Receiving → Held → ℕ → Verdict
  roomy r h streams =
      first_met
      (map
      (λ (c : Check). pick (eqb (verdict_number c.answer) 13) (record { met = is_beyond (judged (ring n) r.keeping.point.0 P.places h.tsn.0); answer = Far }) c)
      (checks (rings n m) P r h streams))
      Kept

  abbrev filling : ReceiverLent → Held → List ℕ → Verdict → ReceiverStep ℕ ReceiverLent
  filling l h bytes v = record {
    answer = verdict_number v;
    left = record { receiving = receiving_after (ring n) P l.receiving h v; area = stored_by P l.receiving.held l.area bytes v };
  }

  abbrev pub fills_above : Receiver
  fills_above = with_arrive (λ streams l c bytes. filling l (as_held c (length bytes)) bytes (roomy l.receiving (as_held c (length bytes)) streams))

-- at the rail's numbers
abbrev pub at_rail : (ℕ → ℕ → Profile → Receiver) → Receiver
at_rail build = build (2 ^ 32) (2 ^ 16) rail
