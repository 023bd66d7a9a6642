-- What is told after each verdict; and the words that a call leaves show what the call by value leaves. Assumes nothing.
use Rattle.std.specs.Prelude.{ℕ, ◌*◌, ◌^◌, ◌<◌, ◌≤◌, ◌≡◌, List, [], length, replicate, Option, Some, None}
use Rattle.std.proofs.Math.Path.{refl, sym, ap}
use Rattle.std.proofs.Common.{◌∙◌, arith}
use Rattle.numbers.specs.declared.circle.Tsn.{Tsn}
use Rattle.numbers.specs.declared.keeping.Keeping.{Keeping}
use Rattle.numbers.specs.Numbering.{Numbering, Numberings, ring, circles}
use Rattle.numbers.specs.Profile.{Profile}
use Rattle.numbers.specs.Keeping.{marked_come, listed}
use Rattle.numbers.specs.Keeping as keeping
use Rattle.numbers.specs.KeepingLaws.{KeepingShaped}
use Rattle.numbers.specs.Blocks.{blocks_of}
use Rattle.scans.specs.Scan.{count, find_from}
use Rattle.scans.specs.Each.{all_map}
use Rattle.holding.specs.declared.held.Held.{Held}
use Rattle.holding.specs.Held.{is_held_free}
use Rattle.holding.specs.Taking.{took}
use Rattle.tables.specs.OpenLaws.{by-law}
use Rattle.tables.specs.HeldWords.{held_of}
use Rattle.tables.specs.HeldWordsLaws.{HeldSmall, held-long, held-put, held-put-long, all_small}
use Rattle.tables.specs.Ssns.{ssns_of, ssns-long}
use Rattle.tables.specs.ZerosLaws.{held-zeros, ssns-zeros}
use Rattle.taking.specs.TakeWords.{words_taken, ssns_taken}
use Rattle.taking.specs.TakeWordsLaws.{words-took, ssns-took}
use Rattle.delivery.specs.declared.receiving.Receiving.{Receiving}
use Rattle.delivery.specs.declared.receiving.Taken.{Taken}
use Rattle.delivery.specs.declared.arrival.Arrival.{Arrival}
use Rattle.delivery.specs.declared.arrival.Verdict.{Verdict}
use Rattle.delivery.specs.declared.arrival.Verdict.TheVariants.{Kept, Empty, Long, Opposite, Duplicate, Wedged, Far, Stray, Clashing}
use Rattle.delivery.specs.declared.acknowledging.Sack.{Sack}
use Rattle.delivery.specs.declared.acknowledging.Acknowledged as whole
use Rattle.delivery.specs.Receiving.{fresh_receiving, taken_into}
use Rattle.delivery.specs.Arrival.{verdict_of, kept_in, receiving_after, arrived, stored_by, arrival_area}
use Rattle.delivery.specs.ArrivalLaws.{kept-coming}
use Rattle.delivery.specs.ReceivingSack.{acknowledged_receiving}
use Rattle.delivery.specs.ReceivingBounds.{is_receiving_sound}
use Rattle.delivery.specs.ReceivingBoundsLaws.{sound-weighed}
use Rattle.delivery.specs.ReceivingLaws.{ReceivingShaped}
use Rattle.delivery.specs.ReceivingTableLaws.{fresh-receiving-is, noted-is, passed_is, kept-is, arrived-is, arrival-area-is, taken_is, receiving-sack-is, acknowledged-receiving-is}
use Rattle.reception.specs.Reception.{receiving_shown, words_kept, arrival_words, words_after, arrival_told, sacked}

-- ---- what an arrival leaves, by its verdict

module _ (T : Numbering) (P : Profile) (r : Receiving) (h : Held) where
  -- number-keeping after each verdict that changes it
  pub kept-keeping : {k : Keeping} → k ≡ marked_come T P r.keeping h.tsn.0 → k ≡ (receiving_after T P r h Kept).keeping
  kept-keeping e = e ∙ sym (go (find_from is_held_free 0 r.held))
    where
      go : (f : Option ℕ) → (kept_in T P r h f).keeping ≡ marked_come T P r.keeping h.tsn.0
      go (Some i) = ap (λ (q : Receiving). q.keeping) (kept-is T P r i h)
      go None = ap (λ (q : Receiving). q.keeping) (passed_is T P r h.tsn.0)

  pub noted-keeping : {k : Keeping} → k ≡ listed P r.keeping h.tsn → k ≡ (receiving_after T P r h Duplicate).keeping
  noted-keeping e = e ∙ ap (λ (q : Receiving). q.keeping) (sym (noted-is T P r h.tsn))

  pub passed-keeping : {k : Keeping} → k ≡ marked_come T P r.keeping h.tsn.0 → k ≡ (receiving_after T P r h Stray).keeping
  passed-keeping e = e ∙ ap (λ (q : Receiving). q.keeping) (sym (passed_is T P r h.tsn.0))

module _ (N : Numberings) (P : Profile) (r : Receiving) (h : Held) (streams : ℕ) (ws area bytes : List ℕ) where
  pub left_by : {u v : Verdict} → u ≡ verdict_of N P r h streams → u ≡ v → {k : Keeping} {now stored : List ℕ} → k ≡ (receiving_after N.tsn P r h v).keeping
      → now ≡ arrival_words P ws h v → stored ≡ stored_by P r.held area bytes v
      → (record { verdict = u; keeping = k } ≡ arrival_told N P r h streams) × (now ≡ words_after N P r ws h streams) × (stored ≡ arrival_area N P r h streams area bytes)
  unfolding arrival_told words_after
  left_by {u} {v} p q {k} x y z =
      let e : verdict_of N P r h streams ≡ v = sym p ∙ q in
      (ap (λ (t : Verdict). record { verdict = t; keeping = k }) q ∙ rw e (ap (λ (m : Keeping). record { verdict = v; keeping = m }) x), rw e y, by-law (arrival-area-is N P r h streams area bytes) (rw e z))

  -- a verdict of the others leaves all
  pub left_alone : {u : Verdict} → u ≡ verdict_of N P r h streams → (u ≡ Kept → ⊥) → (u ≡ Duplicate → ⊥) → (u ≡ Stray → ⊥)
      → (record { verdict = u; keeping = r.keeping } ≡ arrival_told N P r h streams) × (ws ≡ words_after N P r ws h streams) × (area ≡ arrival_area N P r h streams area bytes)
  left_alone {u} p k d s = go u refl
    where
      go : (v : Verdict) → u ≡ v → (record { verdict = u; keeping = r.keeping } ≡ arrival_told N P r h streams) × (ws ≡ words_after N P r ws h streams) × (area ≡ arrival_area N P r h streams area bytes)
      go Kept e = absurd (k e)
      go Duplicate e = absurd (d e)
      go Stray e = absurd (s e)
      go Empty e = left_by p e refl refl refl
      go Long e = left_by p e refl refl refl
      go Opposite e = left_by p e refl refl refl
      go Wedged e = left_by p e refl refl refl
      go Far e = left_by p e refl refl refl
      go Clashing e = left_by p e refl refl refl

-- ---- what the words show afterwards

-- a chunk that is held is within its words: all but its length by its type, that by the checks
pub record Fitting (h : Held) : Type 0 where
  pub tsn : h.tsn.0 < 4294967296
  pub stream : h.stream.0 < 65536
  pub ssn : h.ssn.0 < 65536
  pub ppid : h.ppid < 4294967296

module _ (N : Numberings) (P : Profile) (k : Keeping) (ws ns : List ℕ) (h : Held) (streams : ℕ) where
  module _ (l : 4 * P.places ≤ length ws) (m : P.payload < 4096) (s : Fitting h) where
    words-held : held_of P (words_after N P (receiving_shown P k ws ns) ws h streams) ≡ (receiving_after N.tsn P (receiving_shown P k ws ns) h (verdict_of N P (receiving_shown P k ws ns) h streams)).held
    unfolding words_after
    words-held = go (verdict_of N P (receiving_shown P k ws ns) h streams) refl
      where
        put : HeldSmall h → (f : Option ℕ) → held_of P (words_kept P ws h f) ≡ (kept_in N.tsn P (receiving_shown P k ws ns) h f).held
        put q (Some i) = held-put P ws i h l q ∙ ap (λ (r : Receiving). r.held) (sym (kept-is N.tsn P (receiving_shown P k ws ns) i h))
        put q None = ap (λ (r : Receiving). r.held) (sym (passed_is N.tsn P (receiving_shown P k ws ns) h.tsn.0))

        small : verdict_of N P (receiving_shown P k ws ns) h streams ≡ Kept → HeldSmall h
        small e =
            let f = (kept-coming N P (receiving_shown P k ws ns) h streams e).0.fits in
            record { tsn = s.tsn; stream = s.stream; ssn = s.ssn; ppid = s.ppid; len = omega (arith, f, m) }

        go : (v : Verdict) → verdict_of N P (receiving_shown P k ws ns) h streams ≡ v → held_of P (arrival_words P ws h v) ≡ (receiving_after N.tsn P (receiving_shown P k ws ns) h v).held
        go Kept e = put (small e) (find_from is_held_free 0 (held_of P ws))
        go Empty e = refl
        go Long e = refl
        go Opposite e = refl
        go Duplicate e = ap (λ (r : Receiving). r.held) (sym (noted-is N.tsn P (receiving_shown P k ws ns) h.tsn))
        go Wedged e = refl
        go Far e = refl
        go Stray e = ap (λ (r : Receiving). r.held) (sym (passed_is N.tsn P (receiving_shown P k ws ns) h.tsn.0))
        go Clashing e = refl

    next-same : (v : Verdict) → ssns_of P ns ≡ (receiving_after N.tsn P (receiving_shown P k ws ns) h v).next
    next-same Kept = go (find_from is_held_free 0 (held_of P ws))
      where
        go : (f : Option ℕ) → ssns_of P ns ≡ (kept_in N.tsn P (receiving_shown P k ws ns) h f).next
        go (Some i) = ap (λ (r : Receiving). r.next) (sym (kept-is N.tsn P (receiving_shown P k ws ns) i h))
        go None = ap (λ (r : Receiving). r.next) (sym (passed_is N.tsn P (receiving_shown P k ws ns) h.tsn.0))
    next-same Empty = refl
    next-same Long = refl
    next-same Opposite = refl
    next-same Duplicate = ap (λ (r : Receiving). r.next) (sym (noted-is N.tsn P (receiving_shown P k ws ns) h.tsn))
    next-same Wedged = refl
    next-same Far = refl
    next-same Stray = ap (λ (r : Receiving). r.next) (sym (passed_is N.tsn P (receiving_shown P k ws ns) h.tsn.0))
    next-same Clashing = refl

    -- an arrival: the verdict, and the record that the words show, are those of `arrived`
    pub words-arrived : ◌≡◌ {A = Arrival} (record { verdict = (arrival_told N P (receiving_shown P k ws ns) h streams).verdict; receiving = receiving_shown P (arrival_told N P (receiving_shown P k ws ns) h streams).keeping (words_after N P (receiving_shown P k ws ns) ws h streams) ns })
        (arrived N P (receiving_shown P k ws ns) h streams)
    unfolding arrival_told
    words-arrived =
        (λ p. record { verdict = verdict_of N P (receiving_shown P k ws ns) h streams; receiving = record { keeping = (receiving_after N.tsn P (receiving_shown P k ws ns) h (verdict_of N P (receiving_shown P k ws ns) h streams)).keeping; held = words-held p; next = next-same (verdict_of N P (receiving_shown P k ws ns) h streams) p } })
        ∙ sym (arrived-is N P (receiving_shown P k ws ns) h streams)

-- the table stays as long as it was
pub after-long : (N : Numberings) (P : Profile) (r : Receiving) (ws : List ℕ) (h : Held) (streams : ℕ) → length (words_after N P r ws h streams) ≡ length ws
unfolding words_after
after-long N P r ws h streams = go (verdict_of N P r h streams)
  where
    put : (f : Option ℕ) → length (words_kept P ws h f) ≡ length ws
    put (Some i) = held-put-long P ws i h
    put None = refl

    go : (v : Verdict) → length (arrival_words P ws h v) ≡ length ws
    go Kept = put (find_from is_held_free 0 (held_of P ws))
    go Empty = refl
    go Long = refl
    go Opposite = refl
    go Duplicate = refl
    go Wedged = refl
    go Far = refl
    go Stray = refl
    go Clashing = refl

-- a take: the answer, and the record that the words show, are those of `taken_into`
pub words-taken : (P : Profile) (k : Keeping) (ws ns : List ℕ) (room : ℕ) → 4 * P.places ≤ length ws → P.streams ≤ length ns
    → ◌≡◌ {A = Taken} (record { answer = (took circles P (held_of P ws) (ssns_of P ns) k.point.0 room).answer; receiving = receiving_shown P k (words_taken circles P ws ns k.point.0 room) (ssns_taken circles P ws ns k.point.0 room) })
    (taken_into circles P (receiving_shown P k ws ns) room)
words-taken P k ws ns room l m =
    (λ p. record { answer = (took circles P (held_of P ws) (ssns_of P ns) k.point.0 room).answer; receiving = record { keeping = k; held = words-took P ws ns k.point.0 room l p; next = ssns-took P ws ns k.point.0 room m p } })
    ∙ sym (taken_is circles P (receiving_shown P k ws ns) room)

-- what a SACK tells, by its parts
pub sacked-is : (P : Profile) (k : Keeping) (ws : List ℕ)
    → sacked P k ws ≡ record { sack = record { point = k.point; window = P.payload * count is_held_free (held_of P ws); blocks = blocks_of P k; dups = k.dups; listed = k.listed }; keeping = keeping.keeping_told P k }
unfolding sacked
sacked-is P k ws = ap (λ (s : Sack). record { sack = s; keeping = keeping.keeping_told P k }) (receiving-sack-is P (receiving_shown P k ws []))

-- a SACK: what it tells, and the record that the words show, are those of `acknowledged_receiving`
pub words-sacked : (P : Profile) (k : Keeping) (ws ns : List ℕ)
    → ◌≡◌ {A = whole.Acknowledged} (record { sack = (sacked P k ws).sack; receiving = receiving_shown P (sacked P k ws).keeping ws ns }) (acknowledged_receiving P (receiving_shown P k ws ns))
unfolding sacked
words-sacked P k ws ns =
    ap (λ (s : Sack). record { sack = s; receiving = receiving_shown P (keeping.keeping_told P k) ws ns }) (receiving-sack-is P (receiving_shown P k ws []) ∙ sym (receiving-sack-is P (receiving_shown P k ws ns)))
    ∙ sym (acknowledged-receiving-is P (receiving_shown P k ws ns))

-- the next expected SSNs have no part in the bounds
pub sound-any : (T : Numbering) (P : Profile) (k : Keeping) (ws ns : List ℕ) → is_receiving_sound T P (receiving_shown P k ws []) ≡ is_receiving_sound T P (receiving_shown P k ws ns)
sound-any T P k ws ns = sound-weighed T P (receiving_shown P k ws []) ∙ sym (sound-weighed T P (receiving_shown P k ws ns))

-- ---- any words show a record that has what a record has by its type

pub seen-shaped : (P : Profile) (k : Keeping) (ws ns : List ℕ) → KeepingShaped (ring (2 ^ 32)) P k → ReceivingShaped (ring (2 ^ 32)) P (receiving_shown P k ws ns)
seen-shaped P k ws ns w = record {
  numbers = w;
  long = held-long P ws;
  streams = ssns-long P ns;
  each = all_map (λ h s u. s.tsn) (held_of P ws) (all_small P ws);
}

-- tables of zeros show a record that begins
pub fresh-receiving-shown : (T : Numbering) (P : Profile) (t : Tsn) (m n : ℕ) → receiving_shown P (keeping.fresh_keeping T P t) (replicate m 0) (replicate n 0) ≡ fresh_receiving T P t
fresh-receiving-shown T P t m n =
    (λ p. record { keeping = keeping.fresh_keeping T P t; held = held-zeros P m p; next = ssns-zeros P n p }) ∙ sym (fresh-receiving-is T P t)
