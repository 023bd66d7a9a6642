-- THE CIRCLE AGREES WITH THE LINE.
-- A receiver that numbers chunks on a circle, and the ordered messages of each stream on another, answers as one that numbers both on a line: to
-- any finite sequence of arrivals, takes and acknowledgements, from a fresh record, with any lent area and outputs.
-- Assumed are the sender's premises (`HonestSender`), any initial number, and that each chunk arrives less than half a circle from the point (`Fair`).
-- Nothing bounds the length of the run or what is in flight. The circles are of any even size, wide enough for three times the places (`Wide`), and
-- the profile is any; the rail's circles of 2^32 and 2^16 are the instance at the end. That the circle agrees (`agree-along`) asks only that what is
-- held is near, whatever the chunks are; that it stays near (`near-along`) is shown from these premises, and may be shown from others.
use Rattle.std.specs.Prelude.{ℕ, ◌+◌, ◌*◌, ◌^◌, ◌%◌, ◌<◌, ◌≤◌, ◌≡◌, refl, false, List, map, length}
use Rattle.std.proofs.Common.{sym, ap, ◌∙◌, subst, mod-eq_of_lt, arith}
use mir.Val.{bool_byte as bit}
use Rattle.std.proofs.Math.Nat.{add-mod_right}
use Rattle.scans.specs.Scan.{count, bit_le}
use Rattle.scans.specs.Each.{All}
use Rattle.numbers.specs.declared.circle.Tsn.{Tsn}
use Rattle.numbers.specs.Numbering.{ring, line, rings, lines}
use Rattle.numbers.specs.Profile.{Profile, rail}
use Rattle.numbers.specs.KeepingLineLaws.{reduce_tsn}
use Rattle.holding.specs.declared.held.Chunk.{Chunk}
use Rattle.holding.specs.declared.held.Held.{Held}
use Rattle.holding.specs.Held.{as_held, holds}
use Rattle.holding.specs.Taking.{first_held, written}
use Rattle.delivery.specs.declared.arrival.Verdict.{Verdict}
use Rattle.delivery.specs.declared.arrival.Verdict.TheVariants.{Kept, Opposite, Clashing}
use Rattle.delivery.specs.declared.acknowledging.Sack.{Sack}
use Rattle.delivery.specs.Receiving.{low_of, taken_into}
use Rattle.delivery.specs.Arrival.{is_wedged, verdict_of}
use Rattle.delivery.specs.ReceivingSack.{acknowledged_receiving}
use Rattle.line.specs.Runs.{ReceiverEvent, arrive, take, sack, EventAnswer, tells, Never, ReceiverLent, EventTurn, event_turn, start, answers, finally, reduce_event, reduce_answer, reduce_lent, Fair, copies, chunks_handed, takes_handed, joined_all, acknowledges, order_given, up_from, Genuine}
use Rattle.line.specs.Sender.{HonestSender}
use Rattle.line.proofs.AgreeLaws.{fresh-receiving-law}
use Rattle.line.specs.LineSoundLaws.{Wide, near}
use Rattle.line.specs.ArrivesLaws.{SoundOf, kept-once}
use Rattle.line.proofs.SequenceLaws.{take-alike, agree-along, near-along, clear-along, reduced-never, fresh-line-sound, fresh-next, sound-from, once-from, told-come, order_from, order-reduced, firsts-copies}
use Rattle.line.specs.WedgeLaws.{Few, not-wedged}
use Rattle.line.specs.SidedLaws.{all-sided}
use Rattle.line.proofs.PayloadsLaws.{lodged-fresh, lodged-from, genuine}

-- the premises: a profile, half a circle, a first number on the line, a sender, and a sequence of events
module _ (P : Profile) (h : ℕ) (t : Tsn) (some : 0 < t.0) (streams : ℕ) (area : List ℕ) (chunk : ℕ → Chunk) (payload : ℕ → List ℕ)
    (send : HonestSender P t.0 streams chunk) (es : List ReceiverEvent) (fair : Fair P h t.0 chunk payload streams (start line P t area) es) where
  -- the line receiver: how it begins, what it answers, and what it then has
  abbrev begun : ReceiverLent
  begun = start line P t area

  abbrev said : List EventAnswer
  said = answers lines P streams begun es

  abbrev last : ReceiverLent
  last = finally lines P streams begun es

  -- the circle receiver, with ordered messages on a circle of k and k: what it answers, and what it then has
  abbrev n : ℕ
  n = h + h

  abbrev circle_said : ℕ → List EventAnswer
  circle_said k = answers (rings n (k + k)) P streams (start (ring n) P (reduce_tsn n t) area) (map (reduce_event n (k + k)) es)

  abbrev circle_last : ℕ → ReceiverLent
  circle_last k = finally (rings n (k + k)) P streams (start (ring n) P (reduce_tsn n t) area) (map (reduce_event n (k + k)) es)

  abbrev size : ℕ → ℕ
  size j = length (payload j)

  sound : SoundOf P t.0 chunk size begun.receiving (λ j. 0) t.0
  sound = fresh-line-sound P chunk size t some

  -- each answer of the circle receiver is the line's, brought back onto the circle; and so is its record then, with the same area
  pub agrees : (k : ℕ) → Wide P h → Wide P k → (circle_said k ≡ map (reduce_answer n (k + k)) said) × (circle_last k ≡ reduce_lent n (k + k) last)
  agrees k wh wk = rw (fresh-receiving-law P h k t (omega arith) some) (agree-along P h k streams es begun (near-along payload send h k wh wk es begun sound fair))

  -- every number that a SACK then tells as come was given once or is held once, and no other was or is
  pub none-lost : (s : Sack) → (event_turn lines P streams last sack).answer ≡ tells s
      → (j : ℕ) → copies (joined_all (takes_handed P streams begun es)) j + copies last.receiving.held j ≡ bit (acknowledges t.0 s j)
  none-lost s e j =
      let q : (acknowledged_receiving P last.receiving).sack ≡ s = cc in
      omega
      (arith, once-from payload send h es begun sound fair j, ap bit (told-come P last.receiving t.0 j), ap (λ (x : Sack). bit (acknowledges t.0 x j)) q)

  -- no chunk is given twice
  pub none-twice : (j : ℕ) → copies (joined_all (takes_handed P streams begun es)) j ≤ 1
  none-twice j =
      let s : Sack = (acknowledged_receiving P last.receiving).sack in
      omega (arith, none-lost s refl j, bit_le (acknowledges t.0 s j))

  -- and no message, ordered or unordered: at most one take gave one that begins with number j
  pub no-message-twice : (j : ℕ) → count (λ (cs : List Held). holds j (first_held cs)) (takes_handed P streams begun es) ≤ 1
  no-message-twice j = omega (arith, none-twice j, firsts-copies (takes_handed P streams begun es) j)

  -- the ordered messages of each stream are given as 0, 1, 2 and on, without a gap
  pub in_order : (q : ℕ) → order_given q said ≡ up_from 0 (length (order_given q said))
  in_order q =
      order_from payload send h q es begun sound fair
      ∙ ap (λ (x : ℕ). up_from x (length (order_given q said))) (fresh-next P chunk size t some q)

  -- and so on the circle
  pub in-order-circle : (k : ℕ) → Wide P h → Wide P k → (q : ℕ) → order_given q (circle_said k) ≡ map (λ (x : ℕ). x % (k + k)) (up_from 0 (length (order_given q said)))
  in-order-circle k wh wk q =
      ap (order_given q) (agrees k wh wk).0 ∙ (order-reduced n (k + k) q said ∙ ap (map (λ (x : ℕ). x % (k + k))) (in_order q))

  -- a chunk that arrives then and is told as kept is held, once
  pub kept-is-held : (j : ℕ) → t.0 ≤ j → verdict_of lines P last.receiving (as_held (chunk j) (size j)) streams ≡ Kept
      → copies (event_turn lines P streams last (arrive (chunk j) (payload j))).lent.receiving.held j ≡ 1
  kept-is-held j l e = kept-once send last.receiving (sound-from payload send h es begun sound fair).2 j l e

  -- a sender that cuts no message into more chunks than there are places is never answered 12
  pub never-wedged : Few P t.0 chunk → is_wedged lines P (low_of line last.receiving) last.receiving.held last.receiving.next last.receiving.keeping.point.0 ≡ false
  never-wedged few = not-wedged send few last.receiving (sound-from payload send h es begun sound fair).2

  -- what no answer of the line is, none of the circle is
  on_both : (v : Verdict) → All (Never v) said → (k : ℕ) → Wide P h → Wide P k → All (Never v) said × All (Never v) (circle_said k)
  on_both v w k wh wk = (w, subst (All (Never v)) (sym (agrees k wh wk).0) (reduced-never v n (k + k) said w))

  -- no arrival is answered 24
  pub never-opposite : (k : ℕ) → Wide P h → Wide P k → All (Never Opposite) said × All (Never Opposite) (circle_said k)
  never-opposite = on_both Opposite (all-sided P streams es begun)

  -- and none 21
  pub never-clashing : (k : ℕ) → Wide P h → Wide P k → All (Never Clashing) said × All (Never Clashing) (circle_said k)
  never-clashing = on_both Clashing (clear-along payload send h es begun sound fair)

  -- what a take then gives is a message that the sender cut, with its bytes, stream, U, SSN and PPID, so no new chunk passes for an old one; a
  -- refusal gives nothing, and 18 names the length of such a message
  pub as-cut : P.payload * P.places ≤ length area → (out : List ℕ)
      → Genuine t.0 chunk payload out (chunks_handed lines P last.receiving (length out)) (taken_into lines P last.receiving (length out)).answer
      (written lines P last.receiving.held last.receiving.next last.receiving.keeping.point.0 last.area out)
  as-cut long out =
      genuine payload send last (sound-from payload send h es begun sound fair).2
      (lodged-from payload send h es begun sound (lodged-fresh P payload area t long) fair) out

  -- and the circle gives that, its SSN brought back
  pub as-cut-circle : (k : ℕ) → Wide P h → Wide P k → (out : List ℕ)
      → (event_turn (rings n (k + k)) P streams (circle_last k) (take out)).answer ≡ reduce_answer n (k + k) (event_turn lines P streams last (take out)).answer
  as-cut-circle k wh wk out =
      ap (λ (l : ReceiverLent). (event_turn (rings n (k + k)) P streams l (take out)).answer) (agrees k wh wk).1
      ∙ ap (λ (x : EventTurn). x.answer) (take-alike P h k streams last (near send (sound-from payload send h es begun sound fair).2 h k wh wk) out)

-- THE RAIL: any initial TSN x, which on the line is x + 2^32; circles of 2^32 and 2^16; less than 2^31 from the point
module _ (x : ℕ) (small : x < 2 ^ 32) where
  abbrev first : Tsn
  first = record { 0 = x + 2 ^ 32 }

  initial : reduce_tsn (2 ^ 32) first ≡ record { 0 = x }
  initial = ap (λ (y : ℕ). record { 0 = y }) (add-mod_right x (2 ^ 32) ∙ mod-eq_of_lt small)

  abbrev TSNs : ℕ
  TSNs = 2 ^ 32

  abbrev SSNs : ℕ
  SSNs = 2 ^ 16

  pub rail-agrees : (streams : ℕ) (area : List ℕ) (chunk : ℕ → Chunk) (payload : ℕ → List ℕ) → HonestSender rail (x + 2 ^ 32) streams chunk
      → (es : List ReceiverEvent) → Fair rail (2 ^ 31) (x + 2 ^ 32) chunk payload streams (start line rail first area) es
      → (answers (rings TSNs SSNs) rail streams (start (ring TSNs) rail (record { 0 = x }) area) (map (reduce_event TSNs SSNs) es) ≡ map (reduce_answer TSNs SSNs) (answers lines rail streams (start line rail first area) es))
      × (finally (rings TSNs SSNs) rail streams (start (ring TSNs) rail (record { 0 = x }) area) (map (reduce_event TSNs SSNs) es) ≡ reduce_lent TSNs SSNs (finally lines rail streams (start line rail first area) es))
  rail-agrees streams area chunk payload send es fair =
      rw (← initial) (agrees rail (2 ^ 31) first (omega arith) streams area chunk payload send es fair (2 ^ 15) (omega arith) (omega arith))
