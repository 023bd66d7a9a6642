-- What each call of the host writes, case by case. Assumes nothing.
use Prim.Native.Nat.{ℕ, zero, suc, ◌+◌, ◌-◌, ◌<◌, ◌≤◌, ◌^◌}
use Rattle.std.specs.Prelude.{◌≡◌, Bool, eqb, take, drop, get_or}
use Rattle.std.proofs.Math.Path.{refl, sym, ap}
use Rattle.std.proofs.Common.{◌∙◌, arith, length-drop, length-take-le}
use Rattle.std.proofs.Math.Bool.{true, false}
use mathlib.Core.List.{List, [], ◌∷◌, ◌++◌, map, append-nil, append_assoc}
use Rattle.std.proofs.Math.Decide.{dec_lt}
use borrow.Author.Tests.{lt-ltb, le-ltb, ltb-true, ltb-false, eqb-true}
use Rattle.std.proofs.Math.Dec.{ltb}
use Rattle.std.proofs.Math.ListN.{length, length-append}
use Rattle.scans.specs.Scan.{pick, fold_from, either}
use Rattle.scans.specs.Each.{All, after-so, neither}
use Rattle.scans.specs.Upto.{pick-keeps}
use Rattle.numbers.specs.declared.circle.StreamId.{StreamId}
use Rattle.numbers.specs.declared.circle.Tsn.{Tsn}
use Rattle.numbers.specs.Circle.{tsn0}
use Rattle.numbers.specs.Numbering.{ring}
use Rattle.numbers.specs.Profile.{rail}
use Rattle.numbers.specs.BlocksLaws.{blocks-half}
use Rattle.octets.specs.Bytes.{laid}
use Rattle.octets.specs.BytesLaws.{laid_nil, laid_more, length-laid}
use Rattle.octets.specs.Walk.{joined}
use Rattle.octets.specs.Writing.{Wrote, wrote_count, bytes_wrote_at}
use Rattle.octets.specs.WritingLaws.{holds-first, wrote-all, WroteAt, stayed, written, wrote_at}
use Rattle.packets.specs.declared.header.Header.{Header}
use Rattle.packets.specs.Header.{seal_count, seal_bytes}
use Rattle.chunks.specs.CookieChunk.{longest_cookie, is_cookie}
use Rattle.chunks.specs.DataChunk.{data_bytes, data_fields, data_flags}
use Rattle.chunks.specs.DataLaws.{data_is, data-over, data-none}
use Rattle.chunks.specs.Frame.{framed}
use Rattle.chunks.specs.FrameLaws.{one-to-is, Carried}
use Rattle.chunks.specs.FrameLaws.Carried.{none, whole}
use Rattle.chunks.specs.SackChunk.{sack_bytes}
use Rattle.path.specs.Sizes.{rail_sizes}
use Rattle.places.specs.declared.place.Place.{Place}
use Rattle.holding.specs.Taking.{payload_at}
use Rattle.delivery.specs.ReceivingSack.{acknowledged_receiving}
use Rattle.delivery.specs.ReceivingBoundsLaws.{receiving-test-sound}
use Rattle.delivery.specs.ReceivingTableLaws.{receiving-sack-is, acknowledged-receiving-is}
use Rattle.sending.specs.declared.choosing.Chosen.{Chosen}
use Rattle.sending.specs.Sending.{no_place, is_bare}
use Rattle.sending.specs.Choose.{size_of, packet_filled}
use Rattle.sending.specs.SendingSizeLaws.{size_at, sizes_from, filled-fits}
use Rattle.states.specs.declared.state.State.{State}
use Rattle.states.specs.declared.state.State.TheVariants.{Closed, CookieWait, CookieEchoed, Established, ShutdownPending, ShutdownSent, ShutdownReceived, ShutdownAckSent}
use Rattle.states.specs.declared.call.Call.{Call}
use Rattle.states.specs.declared.call.Call.TheVariants.{Associate, Acknowledge, Shutdown, Abort, Heartbeat, TellStale, Transmit}
use Rattle.states.specs.Calls.{permitted, knows_peer}
use Rattle.states.specs.Tries.{tried_again}
use Rattle.states.specs.TriesLaws.{tried-keeps}
use Rattle.association.specs.declared.ends.Association.{Association}
use Rattle.association.specs.declared.ends.Ends.{Ends}
use Rattle.association.specs.Bounds.{is_sound, is_head, are_ends, least_out, earlier}
use Rattle.association.specs.BoundsLaws.{sound-parts, closed-head, first-none, earlier-none}
use Rattle.calls.specs.declared.closing.Reason.{Reason}
use Rattle.calls.specs.Packet.{to_peer, sent_length, sent_one}
use Rattle.calls.specs.Answer.{is_short_area, is_short_out, barred, Plan, refusing, carrying_chunk, closing_plan, unless, answer_of, plan_out}
use Rattle.calls.specs.AnswerLaws.{call-let-in}
use Rattle.calls.specs.Opening.{association_init, wanting, associate_refusal, associating}
use Rattle.calls.specs.Acknowledging.{sack_values, no_sack, acknowledged_as, acknowledged_call, acknowledged_out}
use Rattle.calls.specs.Timers.{cookie_resent, association_backed_off, tried_to, expiring}
use Rattle.calls.specs.Closing.{abort_cause, shutting, aborting}
use Rattle.calls.specs.Telling.{telling_stream, stale_refusal, telling_stale, beating}
use Rattle.calls.specs.Transmit.{data_sent, chunk_bytes, Bundle, added, added_chosen, bundled, bundle_length, bundle_out, transmit_bar, transmitted_as, transmitted, transmitted_out}
use Rattle.calls.specs.CallSizeLaws.{chunk-most, packet-short}
use Rattle.calls.specs.Outcomes.{Arrays, Stands, Carries, Tells, CallSends, chosen_chunks, Bundling}
use Rattle.calls.specs.Outcomes.Carries.{init, cookie-echo, sack, shutdown, shutdown-ack, heartbeat}
use Rattle.calls.specs.Outcomes.Tells.{abort, error}
use Rattle.calls.specs.Outcomes.CallSends.{silent, sends}
use Rattle.calls.specs.Outcomes.Bundling.{nothing, bundle}

-- ---- bytes that fit are written

laid_none : (bs out : List ℕ) (at : ℕ) → length bs ≡ 0 → out ≡ laid out at bs
laid_none [] out at e = sym (laid_nil out at)
laid_none (b ∷ bs) out at e = absurd (omega arith)

module _ (out : List ℕ) (at : ℕ) (bs : List ℕ) (s : length bs ≤ 65532) (h : at + length bs ≤ length out) where
  fit_count : length bs ≡ wrote_count (drop at out) bs
  fit_count = (wrote-all refl s (omega (arith, length-drop at out)) (holds-first (drop at out) bs refl)).count

  fit-bytes : bytes_wrote_at out at bs ≡ laid out at bs
  fit-bytes = go fit_count (wrote_at out at bs)
    where
      go : {n : ℕ} {x : List ℕ} → length bs ≡ n → WroteAt out at bs n x → x ≡ laid out at bs
      go e (stayed z q) = q ∙ laid_none bs out at (e ∙ z)
      go e (written k z q) = q

stands_one : (h : Header) (bs out : List ℕ) → least_out ≤ length out → length bs ≤ 1460 → Stands bs out (sent_length bs out) (sent_one h bs out)
unfolding sent_length sent_one
stands_one h bs out m l =
    let c = sym (fit_count out 12 bs (omega arith) (omega arith)) in
    let x = fit-bytes out 12 bs (omega arith) (omega arith) in
    record { header = h; count = (λ i. seal_count (12 + c i) (x i)); bytes = (λ i. seal_bytes h (12 + c i) (x i)) }

-- ---- what is let in

sound-in : (a : Association) (short : Bool) (call : Call) → barred a short call ≡ 0 → is_sound a ≡ true
unfolding barred
sound-in a short call e = (first-none a short (pick (permitted call a.state) 0 7) e).0

long-in : (a : Association) (out : List ℕ) (call : Call) → barred a (is_short_out out) call ≡ 0 → least_out ≤ length out
long-in a out call e = ltb-false (length out) least_out (call-let-in a (is_short_out out) call e).0

-- ---- calls that answer by a plan

module _ (a : Association) (out : List ℕ) where
  abbrev Goes : (List ℕ → Type 0) → Plan → Type 0
  Goes C p = CallSends C out (answer_of p out).length (plan_out p out)

  pub refusing-goes : (C : List ℕ → Type 0) (n : ℕ) → Goes C (refusing a n)
  unfolding answer_of plan_out
  refusing-goes C n = silent refl refl

  quiet-goes : (C : List ℕ → Type 0) (p : Plan) → p.sends ≡ false → Goes C p
  unfolding answer_of plan_out
  quiet-goes C p e = rw e (silent refl refl)

  carrying-goes : (C : List ℕ → Type 0) (b : Association) (h : Header) (bs : List ℕ) → least_out ≤ length out → C bs → Goes C (carrying_chunk b h bs)
  unfolding answer_of plan_out
  carrying-goes C b h bs m c = sends bs c m (λ l. stands_one h bs out m l)

  unless-goes : (C : List ℕ → Type 0) (n : ℕ) (p : Plan) → (n ≡ 0 → Goes C p) → Goes C (unless n a p)
  unless-goes C n p f = go (eqb n 0) refl
    where
      go : (t : Bool) → eqb n 0 ≡ t → Goes C (pick t p (refusing a n))
      go true e = f (eqb-true n 0 e)
      go false e = refusing-goes C n

  pub associate-goes : (tag : ℕ) (tsn : Tsn) (port streams : ℕ) → Goes Carries (associating a tag tsn port streams out)
  unfolding associating
  associate-goes tag tsn port streams =
      unless-goes Carries (earlier (barred a (is_short_out out) Associate) (associate_refusal a.ends.local_port tag port streams)) _
      (λ e. carrying-goes Carries _ _ _ (long-in a out Associate (earlier-none (barred a (is_short_out out) Associate) (associate_refusal a.ends.local_port tag port streams) e).0) (init (association_init (wanting a tag tsn port streams)) refl))

  kept-cookie : Arrays a → (e : Ends) → pick (is_cookie a.cookie.len) (are_ends e true) false ≡ true → (length (cookie_resent a.cookie) ≤ longest_cookie) × (length (cookie_resent a.cookie) ≡ 0 → ⊥)
  kept-cookie w e h =
      let l = one-to-is longest_cookie a.cookie.len (after-so (is_cookie a.cookie.len) (are_ends e true) h).0 in
      let k : length (cookie_resent a.cookie) ≡ a.cookie.len = length-take-le a.cookie.len a.cookie.bytes (omega (arith, w.cookie, l.1)) in
      (omega (arith, k, l.1), λ z. omega (arith, k, l.0, z))

  tried-goes : Arrays a → least_out ≤ length out → (s : State) → is_head s a.ends a.cookie ≡ true → Goes Carries (tried_to a s)
  unfolding tried_to association_backed_off
  tried-goes w m Closed h = quiet-goes Carries (closing_plan a) refl
  tried-goes w m (CookieWait n) h = carrying-goes Carries _ _ _ m (init (association_init (association_backed_off a (CookieWait n))) refl)
  tried-goes w m (CookieEchoed n) h = let l = kept-cookie w a.ends h in carrying-goes Carries _ _ _ m (cookie-echo (cookie_resent a.cookie) l.0 l.1 refl)
  tried-goes w m Established h = quiet-goes Carries _ refl
  tried-goes w m ShutdownPending h = quiet-goes Carries _ refl
  tried-goes w m (ShutdownSent n) h = carrying-goes Carries _ _ _ m (shutdown a.receiving.keeping.point refl)
  tried-goes w m ShutdownReceived h = quiet-goes Carries _ refl
  tried-goes w m (ShutdownAckSent n) h = carrying-goes Carries _ _ _ m (shutdown-ack refl)

  -- T1 and T2
  pub expiry-goes : Arrays a → (call : Call) → Goes Carries (expiring a call out)
  unfolding expiring
  expiry-goes w call =
      unless-goes Carries (barred a (is_short_out out) call) _
      (λ e. let p = sound-parts a (sound-in a (is_short_out out) call e) in tried-goes w (long-in a out call e) (tried_again a.state) (tried-keeps (λ s. is_head s a.ends a.cookie ≡ true) (closed-head a.ends a.cookie a.state p.head) (λ n h. h) (λ n h. h) (λ n h. h) (λ n h. h) a.state p.head))

  pub shutdown-goes : Goes Carries (shutting a out)
  unfolding shutting
  shutdown-goes =
      unless-goes Carries (barred a (is_short_out out) Shutdown) _
      (λ e. pick-keeps (Goes Carries) (is_bare a.sending) _ _ (carrying-goes Carries _ _ _ (long-in a out Shutdown e) (shutdown a.receiving.keeping.point refl)) (quiet-goes Carries _ refl))

  pub abort-goes : (why : Reason) → Goes Tells (aborting a why out)
  unfolding aborting
  abort-goes why =
      unless-goes Tells (barred a (is_short_out out) Abort) _
      (λ e. pick-keeps (Goes Tells) (knows_peer a.state) _ _ (carrying-goes Tells _ _ _ (long-in a out Abort e) (abort (abort_cause why) refl)) (quiet-goes Tells _ refl))

  pub stream-goes : (stream : StreamId) → Goes Tells (telling_stream a stream out)
  unfolding telling_stream
  stream-goes stream =
      unless-goes Tells (barred a (is_short_out out) Acknowledge) _ (λ e. carrying-goes Tells _ _ _ (long-in a out Acknowledge e) (error _ refl))

  pub stale-goes : (port tag late : ℕ) → Goes Tells (telling_stale a port tag late out)
  unfolding telling_stale
  stale-goes port tag late =
      unless-goes Tells (earlier (barred a (is_short_out out) TellStale) (stale_refusal a.ends.local_port port tag)) _
      (λ e. carrying-goes Tells _ _ _ (long-in a out TellStale (earlier-none (barred a (is_short_out out) TellStale) (stale_refusal a.ends.local_port port tag) e).0) (error _ refl))

  pub heartbeat-goes : (value : List ℕ) → length value ≡ 8 → Goes Carries (beating a value out)
  unfolding beating
  heartbeat-goes value l =
      unless-goes Carries (barred a (is_short_out out) Heartbeat) _ (λ e. carrying-goes Carries _ _ _ (long-in a out Heartbeat e) (heartbeat value l refl))

  -- ---- a SACK

  sack-carried : length a.receiving.keeping.come ≡ 128 → is_sound a ≡ true → Carries (sack_bytes rail (sack_values (acknowledged_receiving rail a.receiving).sack))
  sack-carried c s =
      let e = ap (λ x. x.sack) (acknowledged-receiving-is rail a.receiving) ∙ receiving-sack-is rail a.receiving in
      let b = receiving-test-sound (ring (2 ^ 32)) rail a.receiving (sound-parts a s).receiving in
      rw e (sack _ (blocks-half rail a.receiving.keeping c refl) b.numbers.few refl)

  pub sack-goes : Arrays a → CallSends Carries out (acknowledged_call a out).length (acknowledged_out a out)
  unfolding acknowledged_call acknowledged_out
  sack-goes w = go (eqb (barred a (is_short_out out) Acknowledge) 0) refl
    where
      bs : List ℕ
      bs = sack_bytes rail (sack_values (acknowledged_receiving rail a.receiving).sack)

      go : (t : Bool) → eqb (barred a (is_short_out out) Acknowledge) 0 ≡ t
          → CallSends Carries out (pick t (acknowledged_as a (acknowledged_receiving rail a.receiving) out) (record { number = barred a (is_short_out out) Acknowledge; length = 0; sack = no_sack; association = a })).length (pick t (sent_one (to_peer a.ends) bs out) out)
      go true e =
          let z = eqb-true (barred a (is_short_out out) Acknowledge) 0 e in
          let m = long-in a out Acknowledge z in
          sends bs (sack-carried w.come (sound-in a (is_short_out out) Acknowledge z)) m (λ l. stands_one (to_peer a.ends) bs out m l)
      go false e = silent refl refl

-- ---- the chunks of the places chosen

-- a writer that writes nothing of bs, whatever the output, has nothing to write
empty-wrote : (bs : List ℕ) → length bs ≤ 65532 → Wrote bs bs 0 bs → bs ≡ []
empty-wrote bs s w =
    let v : Wrote bs bs (length bs) (laid bs 0 bs) = wrote-all refl s (omega arith) (holds-first bs bs refl) in
    go bs (omega (arith, w.count, v.count))
  where
    go : (l : List ℕ) → length l ≡ 0 → l ≡ []
    go [] e = refl
    go (b ∷ l) e = absurd (omega arith)

module _ (area : List ℕ) (p : Place) (i : ℕ) where
  abbrev pub payload_sent : List ℕ
  payload_sent = payload_at rail area i p.chunk.len

  -- a place's chunk is DATA with its payload, or nothing where that is none
  pub chunk-carried : size_of p ≤ 536 → Carried 512 payload_sent (framed 0 (data_flags (data_sent p.chunk)) (data_fields (data_sent p.chunk) ++ payload_sent)) (chunk_bytes area p i)
  unfolding chunk_bytes
  chunk-carried h = go (dec_lt 512 (length payload_sent)) (dec_lt 0 (length payload_sent))
    where
      small : length (chunk_bytes area p i) ≤ 65532
      small = omega (arith, chunk-most area p i)

      go : Dec (512 < length payload_sent) → Dec (0 < length payload_sent)
          → Carried 512 payload_sent (framed 0 (data_flags (data_sent p.chunk)) (data_fields (data_sent p.chunk) ++ payload_sent)) (data_bytes rail (data_sent p.chunk) payload_sent)
      go (yes l) n = none (empty-wrote _ small (data-over (data_sent p.chunk) payload_sent l))
      go (no l) (no n) = none (empty-wrote _ small (data-none (data_sent p.chunk) payload_sent (omega arith) (omega arith)))
      go (no l) (yes n) = whole (omega arith) (λ z. omega arith) (data_is (data_sent p.chunk) payload_sent (omega arith) (λ z. omega arith))

-- the bytes bs stand from 12 on, and the packet ends behind them
record Holds (out bs : List ℕ) (t : Bundle) : Type 0 where
  at-is : t.at ≡ 12 + length bs
  out-is : t.out ≡ laid out 12 bs

holds_as : {out bs cs : List ℕ} {t : Bundle} → bs ≡ cs → Holds out bs t → Holds out cs t
holds_as {out} {bs} {cs} {t} e w = record { at-is = w.at-is ∙ ap (λ (l : List ℕ). 12 + length l) e; out-is = w.out-is ∙ ap (λ (l : List ℕ). laid out 12 l) e }

take_none : (k : ℕ) → ◌≡◌ {A = List ℕ} (take k []) []
take_none zero = refl
take_none (suc k) = refl

-- each of the places chosen fits the room of a packet
sizes-each : (ps : List Place) (n : ℕ) (is : List ℕ) (j k : ℕ) → k ≡ n - j → sizes_from ps n j is ≤ 536 → All (λ (i : ℕ). size_at ps i ≤ 536) (take k is)
sizes-each ps n [] j k e h = rw (take_none k) tt
sizes-each ps n (i ∷ is) j zero e h = tt
sizes-each ps n (i ∷ is) j (suc k) e h =
    let q : ltb j n ≡ true = lt-ltb j n (omega arith) in
    let s : size_at ps i + sizes_from ps n (j + 1) is ≤ 536 = rw q at h in
    (omega arith, sizes-each ps n is (j + 1) k (omega arith) (omega arith))

module _ (area out : List ℕ) (m : least_out ≤ length out) where
  added-holds : (p : Place) (i : ℕ) (bs : List ℕ) (t : Bundle) → t.at + size_of p ≤ 548 → Holds out bs t → Holds out (bs ++ chunk_bytes area p i) (added area p i t)
  unfolding added
  added-holds p i bs t h w =
      let c : List ℕ = chunk_bytes area p i in
      let k = chunk-most area p i in
      let l : length t.out ≡ length out = ap (λ (x : List ℕ). length x) w.out-is ∙ length-laid out 12 bs in
      let z = w.at-is in
      record {
        at-is = omega (arith, z, sym (fit_count t.out t.at c (omega arith) (omega arith)), length-append bs c);
        out-is = fit-bytes t.out t.at c (omega arith) (omega arith) ∙ (λ j. laid (w.out-is j) (z j) c) ∙ laid_more bs c out 12;
      }

  fold-holds : (n : ℕ) (ps : List Place) (is : List ℕ) (j k : ℕ) → k ≡ n - j → (bs : List ℕ) (t : Bundle) → t.at + sizes_from ps n j is ≤ 548 → Holds out bs t
      → Holds out (bs ++ joined (map (λ (i : ℕ). chunk_bytes area (get_or ps i no_place) i) (take k is))) (fold_from (added_chosen area n ps) t j is)
  fold-holds n ps [] j k e bs t h w = rw (take_none k, append-nil bs) w
  fold-holds n ps (i ∷ is) j zero e bs t h w = rw (le-ltb j n (omega arith)) (fold-holds n ps is (j + 1) zero (omega arith) bs t (omega arith) w)
  fold-holds n ps (i ∷ is) j (suc k) e bs t h w =
      let q : ltb j n ≡ true = lt-ltb j n (omega arith) in
      let c : List ℕ = chunk_bytes area (get_or ps i no_place) i in
      let s : t.at + (size_at ps i + sizes_from ps n (j + 1) is) ≤ 548 = rw q at h in
      let d : Holds out (bs ++ c) (added area (get_or ps i no_place) i t) = added-holds (get_or ps i no_place) i bs t (omega arith) w in
      rw q
      (holds_as (append_assoc bs c (joined (map (λ (x : ℕ). chunk_bytes area (get_or ps x no_place) x) (take k is))))
      (fold-holds n ps is (j + 1) k (omega arith) (bs ++ c) (added area (get_or ps i no_place) i t) (omega (arith, s, d.at-is, w.at-is, length-append bs c, chunk-most area (get_or ps i no_place) i)) d))

  bundled-holds : (f : Chosen) → 12 + sizes_from f.sending.places f.count 0 f.places ≤ 548 → Holds out (joined (chosen_chunks area f)) (bundled area f out)
  unfolding bundled
  bundled-holds f h =
      fold-holds f.count f.sending.places f.places 0 f.count (omega arith) [] (record { at = 12; out = out }) h (record { at-is = refl; out-is = sym (laid_nil out 12) })

  bundled-goes : (h : Header) (f : Chosen) (b : Bundle) → All (λ (i : ℕ). size_at f.sending.places i ≤ 536) (take f.count f.places) → b.at ≤ 548 → Holds out (joined (chosen_chunks area f)) b → Bundling area f out (bundle_length b) (bundle_out h b)
  unfolding bundle_length bundle_out
  bundled-goes h f b each l w = go (ltb 12 b.at) refl
    where
      go : (x : Bool) → ltb 12 b.at ≡ x → Bundling area f out (pick x (seal_count b.at b.out) 0) (pick x (seal_bytes h b.at b.out) b.out)
      go true e =
          bundle m each (λ z. omega (arith, ltb-true 12 b.at e, w.at-is, z)) (omega (arith, w.at-is))
          (record { header = h; count = (λ i. seal_count (w.at-is i) (w.out-is i)); bytes = (λ i. seal_bytes h (w.at-is i) (w.out-is i)) })
      go false e = nothing refl (w.out-is ∙ sym (laid_none (joined (chosen_chunks area f)) out 12 (omega (arith, ltb-false 12 b.at e, w.at-is))))

pub transmit-goes : (a : Association) (area out : List ℕ) → Bundling area (packet_filled rail_sizes rail a.sending) out (transmitted a area out).length (transmitted_out a area out)
unfolding transmitted transmitted_out
transmit-goes a area out = go (eqb (transmit_bar a area out) 0) refl
  where
    go : (t : Bool) → eqb (transmit_bar a area out) 0 ≡ t
        → Bundling area (packet_filled rail_sizes rail a.sending) out (pick t (transmitted_as a area out (packet_filled rail_sizes rail a.sending)) (record { number = transmit_bar a area out; length = 0; resent = false; first = tsn0; last = tsn0; association = a })).length
        (pick t (bundle_out (to_peer a.ends) (bundled area (packet_filled rail_sizes rail a.sending) out)) out)
    go true e =
        let z = eqb-true (transmit_bar a area out) 0 e in
        let m = ltb-false (length out) least_out (neither (is_short_area area) (is_short_out out) (call-let-in a (either (is_short_area area) (is_short_out out)) Transmit z).0).1 in
        bundled-goes area out m (to_peer a.ends) (packet_filled rail_sizes rail a.sending) (bundled area (packet_filled rail_sizes rail a.sending) out) (sizes-each (packet_filled rail_sizes rail a.sending).sending.places (packet_filled rail_sizes rail a.sending).count (packet_filled rail_sizes rail a.sending).places 0 (packet_filled rail_sizes rail a.sending).count (omega arith) (filled-fits rail_sizes rail a.sending)) (packet-short a area out)
        (bundled-holds area out m (packet_filled rail_sizes rail a.sending) (omega (arith, filled-fits rail_sizes rail a.sending)))
    go false e = nothing refl refl
