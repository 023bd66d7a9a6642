-- What each call of the host writes passes our own checks 2, 3, 5 and 6, is at most 548 bytes, and touches no byte behind. Assumes nothing.
use Rattle.std.specs.Prelude.{ℕ, ◌+◌, ◌<◌, ◌≤◌, ◌≡◌, refl, List, [], ◌∷◌, ◌++◌, map, length, take, drop, get_or}
use Rattle.std.proofs.Common.{sym, ap, subst, ◌∙◌, arith}
use Rattle.std.proofs.Math.Seq.{take-append_seam}
use Rattle.scans.specs.Each.{All}
use Rattle.numbers.specs.declared.circle.StreamId.{StreamId}
use Rattle.numbers.specs.declared.circle.Tsn.{Tsn}
use Rattle.numbers.specs.Profile.{rail}
use Rattle.octets.specs.Bytes.{be32}
use Rattle.octets.specs.Walk.{size, walk, item_at, joined, Whole}
use Rattle.octets.specs.WalkLaws.{walk-on, walk_end}
use Rattle.octets.specs.TilingLaws.{joined_end, joined-within, joined-size, joined-next}
use Rattle.packets.specs.ShapeLaws.{not-alone}
use Rattle.packets.specs.Body.{ChunkSound}
use Rattle.packets.specs.BodyLaws.{data-sound}
use Rattle.chunks.specs.Cause.{caused, cause_code, information}
use Rattle.chunks.specs.CauseLaws.{information-small}
use Rattle.chunks.specs.CookieLaws.{echo-within}
use Rattle.chunks.specs.DataChunk.{data_fields, data_flags}
use Rattle.chunks.specs.Frame.{framed, parameter}
use Rattle.chunks.specs.FrameLaws.{framed-long, Carried}
use Rattle.chunks.specs.FrameLaws.Carried.{none, whole}
use Rattle.chunks.specs.InitChunk.{init_fields}
use Rattle.chunks.specs.SackChunk.{sack_fields}
use Rattle.chunks.specs.SackLaws.{sack-is}
use Rattle.chunks.specs.declared.data.Data.{Data}
use Rattle.replies.specs.PassingLaws.{init-passes, sack-long, sack-passes, shutdown-passes, echo-passes, heartbeat-passes, abort-passes, shutdown-ack-passes, error-passes}
use Rattle.path.specs.Sizes.{rail_sizes}
use Rattle.places.specs.declared.place.Place.{Place}
use Rattle.sending.specs.declared.choosing.Chosen.{Chosen}
use Rattle.sending.specs.Choose.{packet_filled}
use Rattle.sending.specs.Sending.{no_place}
use Rattle.sending.specs.SendingSizeLaws.{size_at}
use Rattle.states.specs.declared.call.Call.{Call}
use Rattle.states.specs.declared.call.Call.TheVariants.{FirstTimer, SecondTimer}
use Rattle.association.specs.declared.ends.Association.{Association}
use Rattle.arriving.specs.PacketOutcomes.Sealed.{behind}
use Rattle.calls.specs.declared.closing.Reason.{Reason}
use Rattle.calls.specs.Answer.{Plan, answer_of, plan_out}
use Rattle.calls.specs.Acknowledging.{acknowledged_call, acknowledged_out}
use Rattle.calls.specs.Opening.{associating}
use Rattle.calls.specs.Timers.{expiring}
use Rattle.calls.specs.Closing.{shutting, aborting}
use Rattle.calls.specs.Telling.{telling_stream, telling_stale, beating}
use Rattle.calls.specs.Transmit.{data_sent, chunk_bytes, transmitted, transmitted_out}
use Rattle.calls.specs.Outcomes.{Arrays, Carries, Tells, CallSends, chosen_chunks, Bundling}
use Rattle.calls.specs.Outcomes.Carries.{init, cookie-echo, sack, shutdown, shutdown-ack, heartbeat}
use Rattle.calls.specs.Outcomes.Tells.{abort, error}
use Rattle.calls.specs.Outcomes.CallSends.{silent, sends}
use Rattle.calls.specs.Outcomes.Bundling.{nothing, bundle}
use Rattle.calls.specs.OutcomesLaws.{chunk-carried, refusing-goes, associate-goes, expiry-goes, shutdown-goes, abort-goes, stream-goes, stale-goes, heartbeat-goes, sack-goes, transmit-goes}
use Rattle.events.specs.declared.event.Event.{Event}
use Rattle.events.specs.Happening.{Buffers, EventLeft, stray_number, halves, happened}
use Rattle.events.specs.HappenedLaws.{halves_long, any-keeps, each-event}
use Rattle.replies.specs.Sent.{longest_sent, Passing, chunks_in, some_of, OutputAfter}
use Rattle.replies.specs.Sent.Passing.{untouched}
use Rattle.replies.specs.Reply.{Shared}
use Rattle.replies.specs.ReplyLaws.{shared-none, one-shared, shared-both, shared-as, sound-packed, shared-packed}
use Rattle.replies.proofs.PassesLaws.{seal-counts, reads-back, sealed-as, arrive-passes}

-- ---- a packet of one chunk

carries-sound : {bs : List ℕ} → Carries bs → ChunkSound bs
carries-sound (init v e) = rw e (init-passes v)
carries-sound (cookie-echo c l n e) = rw e (echo-passes c l n)
carries-sound (sack k h g e) = rw e (sack-passes k h g)
carries-sound (shutdown point e) = rw e (shutdown-passes point)
carries-sound (shutdown-ack e) = rw e shutdown-ack-passes
carries-sound (heartbeat v l e) = rw e (heartbeat-passes (parameter 1 v))

tells-sound : {bs : List ℕ} → Tells bs → ChunkSound bs
tells-sound (abort c e) = rw e (abort-passes 0 (caused (cause_code c) (information c)))
tells-sound (error c e) = rw e (error-passes (caused (cause_code c) (information c)))

-- the longest is a SACK with 64 blocks and 16 duplicates
carries-small : {bs : List ℕ} → Carries bs → length bs ≤ 336
carries-small (init v e) = omega (arith, ap length e, framed-long 1 0 (init_fields v))
carries-small (cookie-echo c l n e) = omega (arith, ap length e, echo-within c)
carries-small (sack k h g e) = omega (arith, ap length (e ∙ sack-is k h g), framed-long 3 0 (sack_fields k), sack-long k h g)
carries-small (shutdown point e) = omega (arith, ap length e, framed-long 7 0 (be32 point.0))
carries-small (shutdown-ack e) = omega (arith, ap length e, framed-long 8 0 [])
carries-small (heartbeat v l e) = omega (arith, ap length e, framed-long 4 0 (parameter 1 v))

tells-small : {bs : List ℕ} → Tells bs → length bs ≤ 336
tells-small (abort c e) = omega (arith, ap length e, framed-long 6 0 (caused (cause_code c) (information c)), information-small c)
tells-small (error c e) = omega (arith, ap length e, framed-long 9 0 (caused (cause_code c) (information c)), information-small c)

module _ (C : List ℕ → Type 0) (sound : (bs : List ℕ) → C bs → ChunkSound bs) (small : (bs : List ℕ) → C bs → length bs ≤ 336) where
  outgoing-passes : {out : List ℕ} {n : ℕ} {exit : List ℕ} → CallSends C out n exit → Passing longest_sent out n exit
  outgoing-passes (silent e d) = untouched e d
  outgoing-passes (sends bs c m f) =
      let x = sound bs c in
      let s = small bs c in
      let w = f (omega (arith, s)) in
      sealed-as (sound-packed x) (omega (arith, s)) (omega (arith, s)) m (behind w.header (λ z. omega (arith, z, x.whole.some)) w.count w.bytes)

carried-passes : {out : List ℕ} {n : ℕ} {exit : List ℕ} → CallSends Carries out n exit → Passing longest_sent out n exit
carried-passes w = outgoing-passes Carries (λ bs c. carries-sound c) (λ bs c. carries-small c) w

told-passes : {out : List ℕ} {n : ℕ} {exit : List ℕ} → CallSends Tells out n exit → Passing longest_sent out n exit
told-passes w = outgoing-passes Tells (λ bs c. tells-sound c) (λ bs c. tells-small c) w

-- ---- a packet of DATA

data-share : {p bs x : List ℕ} (d : Data) → bs ≡ framed 0 (data_flags d) (data_fields d ++ p) → Carried 512 p bs x → Shared x
data-share d q (none e) = shared-as e shared-none
data-share {p} {bs} {x} d q (whole l n e) =
    shared-as (e ∙ q)
    (one-shared
    (record {
      sound = data-sound (data_flags d) (data_fields d ++ p) (omega arith);
      beside = not-alone (framed 0 (data_flags d) (data_fields d ++ p)) (λ z. omega (arith, z)) (λ z. omega (arith, z)) (λ z. omega (arith, z));
    }))

data-shares : (area : List ℕ) (ps : List Place) (is : List ℕ) → All (λ (i : ℕ). size_at ps i ≤ 536) is → Shared (joined (map (λ (i : ℕ). chunk_bytes area (get_or ps i no_place) i) is))
data-shares area ps [] w = shared-none
data-shares area ps (i ∷ is) w =
    let p = get_or ps i no_place in
    shared-both (data-share (data_sent p.chunk) refl (chunk-carried area p i w.0)) (data-shares area ps is w.1)

bundling-passes : {area out exit : List ℕ} {f : Chosen} {n : ℕ} → Bundling area f out n exit → Passing longest_sent out n exit
bundling-passes (nothing e d) = untouched e d
bundling-passes {area} {out} {exit} {f} (bundle m each some l w) =
    sealed-as (shared-packed (data-shares area f.sending.places (take f.count f.places) each)) (omega (arith, l)) (omega (arith, l)) m (behind w.header some w.count w.bytes)

-- ---- a packet read back

joined-some : (cs : List (List ℕ)) → joined (some_of cs) ≡ joined cs
joined-some [] = refl
joined-some ([] ∷ cs) = joined-some cs
joined-some ((b ∷ bs) ∷ cs) = ap (λ (l : List ℕ). b ∷ (bs ++ l)) (joined-some cs)

items-joined : (cs : List (List ℕ)) (s : List ℕ) (at : ℕ) → All Whole cs → drop at s ≡ joined cs → map (item_at s) (walk s at) ≡ cs
items-joined [] s at w e = ap (λ (l : List ℕ). map (item_at s) l) (walk_end s at (joined_end s at e))
items-joined (c ∷ cs) s at w e =
    let one : item_at s at ≡ c = (λ i. take (joined-size c cs s at w.0 e i) (e i)) ∙ take-append_seam c (joined cs) in
    let more : map (item_at s) (walk s (at + size (drop at s))) ≡ cs = items-joined cs s (at + size (drop at s)) w.1 (joined-next c cs s at w.0 e) in
    ap (λ (l : List ℕ). map (item_at s) l) (walk-on s at (joined-within c cs s at w.0 e)) ∙ (λ i. one i ∷ more i)

some-whole : {p bs : List ℕ} (d : Data) → bs ≡ framed 0 (data_flags d) (data_fields d ++ p) → (x : List ℕ) (cs : List (List ℕ)) → Carried 512 p bs x → All Whole (some_of cs) → All Whole (some_of (x ∷ cs))
some-whole d q [] cs c w = w
some-whole d q (b ∷ x) cs (none e) w = absurd (omega (arith, ap length e))
some-whole {p} d q (b ∷ x) cs (whole l n e) w = (subst Whole (sym (e ∙ q)) (data-sound (data_flags d) (data_fields d ++ p) (omega arith)).whole, w)

data-whole : (area : List ℕ) (ps : List Place) (is : List ℕ) → All (λ (i : ℕ). size_at ps i ≤ 536) is → All Whole (some_of (map (λ (i : ℕ). chunk_bytes area (get_or ps i no_place) i) is))
data-whole area ps [] w = tt
data-whole area ps (i ∷ is) w =
    let p = get_or ps i no_place in
    some-whole (data_sent p.chunk) refl (chunk_bytes area p i) (map (λ (j : ℕ). chunk_bytes area (get_or ps j no_place) j) is) (chunk-carried area p i w.0) (data-whole area ps is w.1)

bundling-reads : {area out exit : List ℕ} {f : Chosen} {n : ℕ} → Bundling area f out n exit → 0 < n → chunks_in (take n exit) ≡ some_of (chosen_chunks area f)
bundling-reads (nothing e d) h = absurd (omega arith)
bundling-reads {area} {out} {exit} {f} {n} (bundle m each some l w) h =
    let cs : List (List ℕ) = chosen_chunks area f in
    let v = shared-packed (data-shares area f.sending.places (take f.count f.places) each) in
    let s : length (joined cs) ≤ 1460 = omega (arith, l) in
    let k : n ≡ 12 + length (joined cs) = w.count ∙ sym (seal-counts w.header (joined cs) out v s some m) in
    let b : drop 12 (take n exit) ≡ joined cs = (λ i. drop 12 (take (k i) (w.bytes i))) ∙ reads-back w.header (joined cs) out v s some m in
    items-joined (some_of cs) (take n exit) 12 (data-whole area f.sending.places (take f.count f.places) each) (b ∙ sym (joined-some cs))

-- ---- whatever the record, and whatever the host lends

module _ (a : Association) (out : List ℕ) where
  -- what a plan sends
  abbrev pub PlanPasses : Plan → Type 0
  PlanPasses p = Passing longest_sent out (answer_of p out).length (plan_out p out)

  pub associate-passes : (tag : ℕ) (tsn : Tsn) (port streams : ℕ) → PlanPasses (associating a tag tsn port streams out)
  associate-passes tag tsn port streams = carried-passes (associate-goes a out tag tsn port streams)

  -- T1 and T2
  pub expiry-passes : Arrays a → (call : Call) → PlanPasses (expiring a call out)
  expiry-passes w call = carried-passes (expiry-goes a out w call)

  pub shutdown-passes-on : PlanPasses (shutting a out)
  shutdown-passes-on = carried-passes (shutdown-goes a out)

  pub aborting-passes : (why : Reason) → PlanPasses (aborting a why out)
  aborting-passes why = told-passes (abort-goes a out why)

  pub stream-passes : (stream : StreamId) → PlanPasses (telling_stream a stream out)
  stream-passes stream = told-passes (stream-goes a out stream)

  pub stale-passes : (port tag late : ℕ) → PlanPasses (telling_stale a port tag late out)
  stale-passes port tag late = told-passes (stale-goes a out port tag late)

  -- a value of eight bytes, as the call's type has it
  pub beating-passes : (value : List ℕ) → length value ≡ 8 → PlanPasses (beating a value out)
  beating-passes value l = carried-passes (heartbeat-goes a out value l)

  pub acknowledging-passes : Arrays a → Passing longest_sent out (acknowledged_call a out).length (acknowledged_out a out)
  acknowledging-passes w = carried-passes (sack-goes a out w)

  pub transmit-passes : (area : List ℕ) → Passing longest_sent out (transmitted a area out).length (transmitted_out a area out)
  transmit-passes area = bundling-passes (transmit-goes a area out)

  -- the walk over a packet of DATA gives the chunks of the places chosen, each with its payload, in the order of choice
  pub transmit-reads : (area : List ℕ) → 0 < (transmitted a area out).length
      → chunks_in (take (transmitted a area out).length (transmitted_out a area out)) ≡ some_of (chosen_chunks area (packet_filled rail_sizes rail a.sending))
  transmit-reads area h = bundling-reads (transmit-goes a area out) h

-- ---- any event

pub event-leaves : (a : Association) → Arrays a → (v : Event) (b : Buffers) → OutputAfter v b.out (happened a v b).ran.told.length (happened a v b).out
event-leaves a w v b =
    each-event a b (λ (u : Event) (x : EventLeft). OutputAfter u b.out x.ran.told.length x.out)
    (record {
      packet = λ l e. arrive-passes a b.received b.input l b.cookie e b.out;
      associate = λ tag tsn port streams. associate-passes a b.out tag tsn port streams;
      hand_in = λ stream unordered ppid. refl;
      transmit = transmit-passes a b.out b.sent;
      take = tt;
      acknowledge = acknowledging-passes a b.out w;
      t1 = expiry-passes a b.out w FirstTimer;
      t2 = expiry-passes a b.out w SecondTimer;
      t3 = refl;
      shutdown = shutdown-passes-on a b.out;
      abort = λ why. aborting-passes a b.out why;
      error-stream = λ stream. any-keeps (PlanPasses a b.out) a stream b.out (stream-passes a b.out (record { 0 = stream })) (carried-passes (refusing-goes a b.out Carries (stray_number a b.out)));
      error-stale = λ port tag late. stale-passes a b.out port tag late;
      heartbeat = λ x y. beating-passes a b.out (halves x y) (halves_long x y);
      sample = λ ms. refl;
      unknown = refl;
    })
    v
