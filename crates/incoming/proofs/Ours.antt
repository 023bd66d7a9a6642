-- The code is `ours`, of which demand 3 is proved (`line`): any outcome that the contract of a call allows is what `ours` answers and then keeps, of the
-- record that the tables show. Assumes nothing.
use Prim.Native.Nat.{ℕ, suc, ◌^◌, ◌<◌, ◌≤◌}
use mathlib.Core.Path.{◌≡◌, sym, ap, ◌∙◌, subst}
use mathlib.Core.List.{List, [], ◌∷◌, map}
use lib.ListN.{length}
use Rattle.numbers.specs.declared.circle.Tsn.{Tsn}
use Rattle.numbers.specs.Numbering.{line}
use Rattle.numbers.specs.Profile.{rail}
use Rattle.delivery.specs.declared.acknowledging.Sack.{Sack}
use Rattle.delivery.specs.declared.arrival.Arrival.{Arrival}
use Rattle.delivery.specs.declared.receiving.Receiving.{Receiving}
use Rattle.delivery.specs.declared.receiving.Taken.{Taken}
use Rattle.delivery.specs.declared.acknowledging.Acknowledged.{Acknowledged}
use Rattle.delivery.specs.Arrival.{verdict_number}
use Rattle.delivery.specs.Receiving.{low_of}
use Rattle.line.specs.Reduce.{reduce_chunk}
use Rattle.line.specs.Runs.{ReceiverEvent, arrive, take, sack, ReceiverLent, reduce_event}
use Rattle.line.specs.Demand.{ReceiverStep, HostHanding, HostSaw, number, gave, told, seen, ours, reduce_seen, Premises, first, line_seen, lent_line_after, host_seen, given, Messages, state_after, Holds}
use Rattle.line.proofs.DemandLaws.{seen_none, seen-arrive, seen-take, seen-sack, demand-3}
use Rattle.incoming.specs.declared.Incoming.{Incoming}
use Rattle.incoming.specs.Incoming.{incoming_shown}
use Rattle.incoming.proofs.Incoming.fresh.Reads as fresh-reads
use Rattle.incoming.proofs.arrive.Reads as arrive-reads
use Rattle.incoming.proofs.take.Reads as take-reads
use Rattle.incoming.proofs.sack.Reads as sack-reads

-- what the tables show, with the lent area
abbrev pub lent_of : Incoming → List ℕ → ReceiverLent
lent_of r area = record { receiving = incoming_shown r; area = area }

pub fresh-ours : (κs : _) (a : _) (r : _) (s : _) → fresh-reads.Post κs a r s → (area : List ℕ) → lent_of r area ≡ ours.begun a.0 area
fresh-ours κs a r s x area = ap (λ (y : Receiving). record { receiving = y; area = area }) x.1

pub arrive-ours : (κs : _) (a : _) (o : _) (s : _) → arrive-reads.Post κs a o s
    → record { answer = verdict_number o.verdict; left = lent_of o.incoming s.1.0.now }
    ≡ ours.arrive a.1.1.1.1.0 (lent_of a.0 a.1.0.now) a.1.1.0 a.1.1.1.0.now
arrive-ours κs a o s x =
    ap (λ (y : Arrival). record { answer = verdict_number y.verdict; left = record { receiving = y.receiving; area = s.1.0.now } }) x.1
    ∙ ap (λ (y : List ℕ). record { answer = (ours.arrive a.1.1.1.1.0 (lent_of a.0 a.1.0.now) a.1.1.0 a.1.1.1.0.now).answer; left = record { receiving = (ours.arrive a.1.1.1.1.0 (lent_of a.0 a.1.0.now) a.1.1.0 a.1.1.1.0.now).left.receiving; area = y } }) x.2

pub take-ours : (κs : _) (a : _) (o : _) (s : _) → take-reads.Post κs a o s
    → record { answer = record { answer = o.answer; output = s.1.1.0.now }; left = lent_of o.incoming a.1.0.now }
    ≡ ours.take (lent_of a.0 a.1.0.now) a.1.1.0.now
take-ours κs a o s x =
    ap (λ (y : Taken). record { answer = record { answer = y.answer; output = s.1.1.0.now }; left = record { receiving = y.receiving; area = a.1.0.now } }) x.1
    ∙ ap (λ (y : List ℕ). record { answer = record { answer = (ours.take (lent_of a.0 a.1.0.now) a.1.1.0.now).answer.answer; output = y }; left = (ours.take (lent_of a.0 a.1.0.now) a.1.1.0.now).left }) x.2

pub sack-ours : (κs : _) (a : _) (o : _) (s : _) → sack-reads.Post κs a o s → (area : List ℕ)
    → record { answer = o.sack; left = lent_of o.incoming area } ≡ ours.sack (lent_of a.0 area)
sack-ours κs a o s x area = ap (λ (y : Acknowledged). record { answer = y.sack; left = record { receiving = y.receiving; area = area } }) x.1

-- ---- a sequence of the code's calls

-- the calls es, of a record with its area; what the host sees; and the record and the area then. Each outcome is one that the contract of its call allows
pub data Ran (streams : ℕ) : Incoming → List ℕ → List ReceiverEvent → List HostSaw → Incoming → List ℕ → Type 1 where
  done : (r : Incoming) (area : List ℕ) → Ran streams r area [] [] r area
  arrives : (κs : _) (a : _) (o : _) (s : _) → arrive-reads.Post κs a o s → a.1.1.1.1.0 ≡ streams
      → (es : List ReceiverEvent) (zs : List HostSaw) (r : Incoming) (area : List ℕ) → Ran streams o.incoming s.1.0.now es zs r area
      → Ran streams a.0 a.1.0.now (arrive a.1.1.0 a.1.1.1.0.now ∷ es) (number (verdict_number o.verdict) ∷ zs) r area
  takes : (κs : _) (a : _) (o : _) (s : _) → take-reads.Post κs a o s
      → (es : List ReceiverEvent) (zs : List HostSaw) (r : Incoming) (area : List ℕ) → Ran streams o.incoming a.1.0.now es zs r area
      → Ran streams a.0 a.1.0.now (take a.1.1.0.now ∷ es) (gave a.1.1.0.now o.answer s.1.1.0.now ∷ zs) r area
  sacks : (κs : _) (a : _) (o : _) (s : _) → sack-reads.Post κs a o s → (same : List ℕ)
      → (es : List ReceiverEvent) (zs : List HostSaw) (r : Incoming) (area : List ℕ) → Ran streams o.incoming same es zs r area
      → Ran streams a.0 same (sack ∷ es) (told o.sack ∷ zs) r area

-- it does as `ours` does
ran-ours : (streams : ℕ) (r : Incoming) (area : List ℕ) (es : List ReceiverEvent) (zs : List HostSaw) (r' : Incoming) (area' : List ℕ) → Ran streams r area es zs r' area'
    → (zs ≡ seen ours streams (lent_of r area) es) × (lent_of r' area' ≡ state_after ours streams (lent_of r area) es)
ran-ours streams r area es zs r' area' (done q b) = let n = seen_none ours streams (lent_of q b) in (sym n.0, sym n.1)
ran-ours streams r area es zs r' area' (arrives κs a o s x e fs ys q b w) =
    let l : ReceiverLent = lent_of a.0 a.1.0.now in
    let y : ReceiverStep ℕ ReceiverLent = ours.arrive streams l a.1.1.0 a.1.1.1.0.now in
    let d : record { answer = verdict_number o.verdict; left = lent_of o.incoming s.1.0.now } ≡ y
    = arrive-ours κs a o s x ∙ ap (λ (n : ℕ). ours.arrive n l a.1.1.0 a.1.1.1.0.now) e in
    let i = ran-ours streams o.incoming s.1.0.now fs ys q b w in
    let n = seen-arrive ours streams l fs a.1.1.0 a.1.1.1.0.now in (
      ap (λ (us : List HostSaw). number (verdict_number o.verdict) ∷ us) i.0 ∙ (ap (λ (u : ReceiverStep ℕ ReceiverLent). number u.answer ∷ seen ours streams u.left fs) d ∙ sym n.0),
      i.1 ∙ (ap (λ (u : ReceiverStep ℕ ReceiverLent). state_after ours streams u.left fs) d ∙ sym n.1),
    )
ran-ours streams r area es zs r' area' (takes κs a o s x fs ys q b w) =
    let i = ran-ours streams o.incoming a.1.0.now fs ys q b w in
    let n = seen-take ours streams (lent_of a.0 a.1.0.now) fs a.1.1.0.now in (
      ap (λ (us : List HostSaw). gave a.1.1.0.now o.answer s.1.1.0.now ∷ us) i.0
          ∙ (ap (λ (u : ReceiverStep HostHanding ReceiverLent). gave a.1.1.0.now u.answer.answer u.answer.output ∷ seen ours streams u.left fs) (take-ours κs a o s x) ∙ sym n.0),
      i.1 ∙ (ap (λ (u : ReceiverStep HostHanding ReceiverLent). state_after ours streams u.left fs) (take-ours κs a o s x) ∙ sym n.1),
    )
ran-ours streams r area es zs r' area' (sacks κs a o s x same fs ys q b w) =
    let i = ran-ours streams o.incoming same fs ys q b w in
    let n = seen-sack ours streams (lent_of a.0 same) fs in (
      ap (λ (us : List HostSaw). told o.sack ∷ us) i.0 ∙ (ap (λ (u : ReceiverStep Sack ReceiverLent). told u.answer ∷ seen ours streams u.left fs) (sack-ours κs a o s x same) ∙ sym n.0),
      i.1 ∙ (ap (λ (u : ReceiverStep Sack ReceiverLent). state_after ours streams u.left fs) (sack-ours κs a o s x same) ∙ sym n.1),
    )

-- DEMAND 3 of the code: under the user's premises, of any run of its calls from a fresh record
module _ (c : Premises rail (2 ^ 31)) (κs : _) (a : _) (r : _) (s : _) (fresh : fresh-reads.Post κs a r s) (initial : a.0 ≡ record { 0 = c.initial })
    (zs : List HostSaw) (r' : Incoming) (area' : List ℕ) (ran : Ran c.streams r c.area (map (reduce_event (2 ^ 32) (2 ^ 16)) c.events) zs r' area') where
  begins : lent_of r c.area ≡ ours.begun (record { 0 = c.initial }) c.area
  begins = fresh-ours κs a r s fresh c.area ∙ ap (λ (t : Tsn). ours.begun t c.area) initial

  both : (zs ≡ seen ours c.streams (lent_of r c.area) (map (reduce_event (2 ^ 32) (2 ^ 16)) c.events))
      × (lent_of r' area' ≡ state_after ours c.streams (lent_of r c.area) (map (reduce_event (2 ^ 32) (2 ^ 16)) c.events))
  both = ran-ours c.streams r c.area (map (reduce_event (2 ^ 32) (2 ^ 16)) c.events) zs r' area' ran

  sees : zs ≡ host_seen c (2 ^ 16) ours
  sees = both.0 ∙ ap (λ (l : ReceiverLent). seen ours c.streams l (map (reduce_event (2 ^ 32) (2 ^ 16)) c.events)) begins

  -- the host sees what it would see of the line receiver, brought back onto the circles
  pub code-agrees : zs ≡ map (reduce_seen (2 ^ 32) (2 ^ 16)) (line_seen c)
  code-agrees = sees ∙ demand-3.agrees c

  -- the messages that it is given are the sender's, with their bytes, none twice and none overtaking
  pub code_gives : 65536 ≤ length c.area → Messages (2 ^ 16) (first c) c.chunk c.payload (given zs)
  code_gives long = subst (λ (us : List HostSaw). Messages (2 ^ 16) (first c) c.chunk c.payload (given us)) (sym sees) (demand-3.messages c long)

  -- the next chunk is held, unless what is held at or below the point fills the places
  pub code_holds : (j : ℕ) → j ≡ suc (lent_line_after c).receiving.keeping.point.0 → 1 ≤ length (c.payload j) → length (c.payload j) ≤ 512
      → low_of line (lent_line_after c).receiving < 128 → Holds rail ours c.streams (lent_of r' area') (reduce_chunk (2 ^ 32) (2 ^ 16) (c.chunk j)) (c.payload j)
  code_holds j next some fits room =
      subst (λ (l : ReceiverLent). Holds rail ours c.streams l (reduce_chunk (2 ^ 32) (2 ^ 16) (c.chunk j)) (c.payload j))
      (sym (both.1 ∙ ap (λ (l : ReceiverLent). state_after ours c.streams l (map (reduce_event (2 ^ 32) (2 ^ 16)) c.events)) begins))
      (demand-3.progress c j next some fits room)
