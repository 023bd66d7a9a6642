-- THE BRIDGE: every call of the host moves the receiving side, the area and the agreed streams as what it asks does, one after the other, and tells of them
-- what that is answered. Assumes nothing.
use Prim.Native.Nat.{ℕ}
use Rattle.std.specs.Prelude.{◌≡◌, Bool, true, eqb, length}
use Rattle.std.proofs.Math.Path.{refl}
use Rattle.std.proofs.Common.{sym, ap, ◌∙◌}
use Rattle.std.proofs.Math.Bool.{false}
use mathlib.Core.List.{List, [], ◌∷◌, ◌++◌}
use Rattle.scans.specs.Scan.{pick}
use Rattle.scans.specs.Upto.{pick-keeps}
use Rattle.numbers.specs.declared.circle.StreamId.{StreamId}
use Rattle.numbers.specs.declared.circle.Tsn.{Tsn}
use Rattle.numbers.specs.Numbering.{circles}
use Rattle.numbers.specs.Profile.{rail}
use Rattle.path.specs.Sizes.{sizes_of}
use Rattle.holding.specs.declared.taking.Answer.{Answer as Taking}
use Rattle.holding.specs.declared.taking.Answer.TheVariants.{Taken, Nothing, Short}
use Rattle.holding.specs.Taking.{written}
use Rattle.line.specs.Runs.{take}
use Rattle.sending.specs.Sending.{is_bare}
use Rattle.sending.specs.Expiry.{sending_expired}
use Rattle.states.specs.declared.state.State.{State}
use Rattle.states.specs.declared.call.Call.{Call}
use Rattle.states.specs.declared.call.Call.TheVariants as call
use Rattle.states.specs.Calls.{knows_peer}
use Rattle.states.specs.RowsLaws.{each-state}
use Rattle.states.specs.Tries.{tried_again}
use Rattle.association.specs.declared.ends.Association.{Association}
use Rattle.association.specs.Fresh.{with_receiving}
use Rattle.association.specs.Bounds.{earlier}
use Rattle.calls.specs.declared.acknowledging.Acknowledged.{Acknowledged}
use Rattle.calls.specs.declared.closing.Reason.{Reason}
use Rattle.calls.specs.declared.messages.HandedIn.{HandedIn}
use Rattle.calls.specs.declared.messages.Delivered.{Delivered}
use Rattle.calls.specs.declared.transmitting.Transmitted.{Transmitted}
use Rattle.calls.specs.Answer.{is_short_out, is_short_area, barred, Plan, refusing, carrying_chunk, unless, answer_of}
use Rattle.calls.specs.Packet.{head_to_peer}
use Rattle.calls.specs.Opening.{init_bytes, wanting, associate_refusal, associating}
use Rattle.calls.specs.Messages.{hand_in_call, no_message, undelivered, delivered_as, taking, take_bar, delivered, delivered_out}
use Rattle.calls.specs.Acknowledging.{acknowledged_call, acknowledged_out}
use Rattle.calls.specs.Transmit.{transmit_bar, transmitted}
use Rattle.calls.specs.Timers.{association_backed_off, tried_to, expiring, expiring_third, sampling}
use Rattle.calls.specs.Closing.{shutting, aborting}
use Rattle.calls.specs.Telling.{telling_stream, stale_refusal, telling_stale, beating}
use Rattle.events.specs.declared.event.Event.{Event}
use Rattle.events.specs.declared.event.Event.TheVariants.{Associate, HandIn, Take, Acknowledge, Shutdown, Abort, Heartbeat, Sample}
use Rattle.events.specs.Told.{of_acknowledged, of_delivered}
use Rattle.events.specs.Happening.{Buffers, EventLeft, leaving, planned, telling_any, halves, happened}
use Rattle.events.specs.HappenedLaws.{any-keeps, Each, each-event}
use Rattle.demands.specs.News.{News, took, untaken, sacked, news_of_take, news_of}
use Rattle.demands.specs.Heard.{Heard, asks, take-barred, begins, heard_of, Side, side_of, heard_taken_as, side_goes_on, said_on, circle_goes, circle_said}
use Rattle.demands.specs.HeardLaws.{goes-append, said-append}
use Rattle.demands.proofs.HeardChunkLaws.{pick-both}
use Rattle.demands.proofs.HeardPacketLaws.{packet-heard}
use Rattle.demands.specs.Stretch.{Host, Call as HostCall, buffers_of, after_call, after_all, news_told_in, heard_in, side_in}

module _ (a : Association) (b : Buffers) where
  abbrev now : Side
  now = side_of a b.received

  -- what a call leaves is what it asks
  abbrev pub Follows : Event → EventLeft → Type 0
  Follows e x = (side_of x.ran.association x.received ≡ circle_goes now (heard_of a e b)) × (news_of e b x ≡ circle_said now (heard_of a e b))

  -- ---- calls that ask nothing

  abbrev Rests : Association → Type 0
  Rests x = side_of x b.received ≡ now

  abbrev Still : Plan → Type 0
  Still p = Rests p.association

  unless-still : (n : ℕ) (p : Plan) → Still p → Still (unless n a p)
  unless-still n p h = pick-keeps Still (eqb n 0) p (refusing a n) h refl

  answer-still : (p : Plan) (out : List ℕ) → Still p → Rests (answer_of p out).association
  unfolding answer_of
  answer-still p out h = h

  tried-still : (s : State) → Still (tried_to a s)
  unfolding tried_to association_backed_off
  tried-still = each-state (λ s. Still (tried_to a s)) refl (λ n. refl) (λ n. refl) refl refl (λ n. refl) refl (λ n. refl)

  expiry-still : (c : Call) → Still (expiring a c b.out)
  unfolding expiring
  expiry-still c = unless-still (barred a (is_short_out b.out) c) _ (tried-still (tried_again a.state))

  third-still : Still (expiring_third a)
  unfolding expiring_third
  third-still =
      unless-still (barred a false call.ThirdTimer) _
      (pick-keeps Still (eqb (sending_expired (sizes_of a.sending.mode) a.sending).number 0) _ _ (pick-keeps Still (sending_expired (sizes_of a.sending.mode) a.sending).over _ _ refl refl) refl)

  sample-still : (ms : ℕ) → Still (sampling a ms)
  unfolding sampling
  sample-still ms = unless-still (barred a false call.Sample) _ refl

  shutdown-still : Still (shutting a b.out)
  unfolding shutting
  shutdown-still = unless-still (barred a (is_short_out b.out) call.Shutdown) _ (pick-keeps Still (is_bare a.sending) _ _ refl refl)

  abort-still : (why : Reason) → Still (aborting a why b.out)
  unfolding aborting
  abort-still why = unless-still (barred a (is_short_out b.out) call.Abort) _ (pick-keeps Still (knows_peer a.state) _ _ refl refl)

  stream-still : (stream : StreamId) → Still (telling_stream a stream b.out)
  unfolding telling_stream
  stream-still stream = unless-still (barred a (is_short_out b.out) call.Acknowledge) _ refl

  stale-still : (port tag late : ℕ) → Still (telling_stale a port tag late b.out)
  unfolding telling_stale
  stale-still port tag late = unless-still (earlier (barred a (is_short_out b.out) call.TellStale) (stale_refusal a.ends.local_port port tag)) _ refl

  heartbeat-still : (value : List ℕ) → Still (beating a value b.out)
  unfolding beating
  heartbeat-still value = unless-still (barred a (is_short_out b.out) call.Heartbeat) _ refl

  transmit-still : Rests (transmitted a b.sent b.out).association
  unfolding transmitted
  transmit-still = pick-keeps (λ (x : Transmitted). Rests x.association) (eqb (transmit_bar a b.sent b.out) 0) _ _ refl refl

  hand-in-still : (stream : StreamId) (unordered : Bool) (ppid : ℕ) → Rests (hand_in_call a b.sent (length b.input) stream unordered ppid).association
  unfolding hand_in_call
  hand-in-still stream unordered ppid = pick-keeps (λ (x : HandedIn). Rests x.association) (eqb (barred a (is_short_area b.sent) call.HandIn) 0) _ _ refl refl

  -- ---- a take

  taken-follows : (x : Taking) (next : Association) → (delivered_as x next).association ≡ next
  taken-follows (Taken m) next = refl
  taken-follows Nothing next = refl
  taken-follows (Short n) next = refl

  taken-tells : (x : Taking) (next : Association) (out exit : List ℕ) → news_of_take out (delivered_as x next).number (delivered_as x next).message exit ≡ heard_taken_as out x exit
  taken-tells (Taken m) next out exit = refl
  taken-tells Nothing next out exit = refl
  taken-tells (Short n) next out exit = refl

  abbrev bar : ℕ
  bar = take_bar a b.received

  abbrev given : Delivered
  given = delivered_as (taking a (length b.out)).answer (with_receiving a (taking a (length b.out)).receiving)

  take-follows : Follows Take (leaving (of_delivered (delivered a b.received (length b.out))) (delivered_out a b.received b.out) b)
  unfolding heard_of delivered delivered_out side_goes_on said_on
  take-follows = go (eqb bar 0) refl
    where
      bytes : List ℕ
      bytes = written circles rail a.receiving.held a.receiving.next a.receiving.keeping.point.0 b.received b.out

      go : (t : Bool) → eqb bar 0 ≡ t
          → (side_of (pick t given (undelivered a bar 0)).association b.received ≡ circle_goes now (pick t (asks (take b.out)) (take-barred bar b.out) ∷ []))
          × (news_of_take b.out (pick t given (undelivered a bar 0)).number (pick t given (undelivered a bar 0)).message (pick t bytes b.out) ∷ [] ≡ circle_said now (pick t (asks (take b.out)) (take-barred bar b.out) ∷ []))
      go true e = (
        ap (λ (x : Association). side_of x b.received) (taken-follows (taking a (length b.out)).answer (with_receiving a (taking a (length b.out)).receiving)),
        ap (λ (x : News). x ∷ []) (taken-tells (taking a (length b.out)).answer (with_receiving a (taking a (length b.out)).receiving) b.out bytes),
      )
      go false e = (refl, ap (λ (x : Bool). pick x (took b.out (no_message 0) b.out) (untaken bar 0 b.out) ∷ []) e)

  -- ---- a SACK

  sack-follows : Follows Acknowledge (leaving (of_acknowledged (acknowledged_call a b.out)) (acknowledged_out a b.out) b)
  unfolding heard_of acknowledged_call side_goes_on said_on
  sack-follows =
      pick-both (λ (x : Acknowledged) (h : Heard). (side_of x.association b.received ≡ circle_goes now (h ∷ [])) × (sacked x.number x.sack ∷ [] ≡ circle_said now (h ∷ [])))
      (eqb (barred a (is_short_out b.out) call.Acknowledge) 0) _ _ _ _ (refl, refl) (refl, refl)

  -- ---- our own INIT

  associate-follows : (tag : ℕ) (tsn : Tsn) (port streams : ℕ) → Follows (Associate tag tsn port streams) (planned (associating a tag tsn port streams b.out) b)
  unfolding heard_of associating wanting answer_of side_goes_on said_on
  associate-follows tag tsn port streams = go (eqb number 0) refl
    where
      number : ℕ
      number = earlier (barred a (is_short_out b.out) call.Associate) (associate_refusal a.ends.local_port tag port streams)

      init : Plan
      init = carrying_chunk (wanting a tag tsn port streams) (head_to_peer (wanting a tag tsn port streams).ends 0) (init_bytes (wanting a tag tsn port streams))

      go : (t : Bool) → eqb number 0 ≡ t
          → (side_of (pick t init (refusing a number)).association b.received ≡ circle_goes now (pick (eqb (pick t init (refusing a number)).number 0) (begins (record { 0 = 1 }) 128 ∷ []) []))
          × ([] ≡ circle_said now (pick (eqb (pick t init (refusing a number)).number 0) (begins (record { 0 = 1 }) 128 ∷ []) []))
      go true e = (refl, refl)
      go false e = rw e (refl, refl)

  -- ---- every call

  calls-follow : Each a b Follows
  unfolding heard_of side_goes_on said_on
  calls-follow = record {
    packet = λ l e. packet-heard a b.received b.input l b.cookie e b.out;
    associate = associate-follows;
    hand_in = λ stream unordered ppid. (hand-in-still stream unordered ppid, refl);
    transmit = (transmit-still, refl);
    take = take-follows;
    acknowledge = sack-follows;
    t1 = (answer-still (expiring a call.FirstTimer b.out) b.out (expiry-still call.FirstTimer), refl);
    t2 = (answer-still (expiring a call.SecondTimer b.out) b.out (expiry-still call.SecondTimer), refl);
    t3 = (answer-still (expiring_third a) [] third-still, refl);
    shutdown = (answer-still (shutting a b.out) b.out shutdown-still, refl);
    abort = λ why. (answer-still (aborting a why b.out) b.out (abort-still why), refl);
    error-stream = λ stream. (answer-still (telling_any a stream b.out) b.out (any-keeps Still a stream b.out (stream-still (record { 0 = stream })) refl), refl);
    error-stale = λ port tag late. (answer-still (telling_stale a port tag late b.out) b.out (stale-still port tag late), refl);
    heartbeat = λ x y. (answer-still (beating a (halves x y) b.out) b.out (heartbeat-still (halves x y)), refl);
    sample = λ ms. (answer-still (sampling a ms) [] (sample-still ms), refl);
    unknown = (refl, refl);
  }

  pub call-heard : (e : Event) → Follows e (happened a e b)
  call-heard = each-event a b Follows calls-follow

-- ---- any sequence of them

pub calls-go : (cs : List HostCall) (h : Host) → side_in (after_all h cs) ≡ circle_goes (side_in h) (heard_in h cs)
unfolding after_all heard_in side_goes_on
calls-go [] h = refl
calls-go (c ∷ cs) h =
    calls-go cs (after_call h c)
    ∙ (ap (λ (k : Side). circle_goes k (heard_in (after_call h c) cs)) (call-heard h.association (buffers_of h.area c) c.event).0
    ∙ sym (goes-append circles (heard_of h.association c.event (buffers_of h.area c)) (heard_in (after_call h c) cs) (side_in h)))

pub calls-tell : (cs : List HostCall) (h : Host) → news_told_in h cs ≡ circle_said (side_in h) (heard_in h cs)
unfolding news_told_in heard_in said_on
calls-tell [] h = refl
calls-tell (c ∷ cs) h =
    let w = call-heard h.association (buffers_of h.area c) c.event in
    let hs : List Heard = heard_of h.association c.event (buffers_of h.area c) in
    ap (λ (ts : List News). ts ++ news_told_in (after_call h c) cs) w.1
    ∙ (ap (λ (ts : List News). circle_said (side_in h) hs ++ ts) (calls-tell cs (after_call h c) ∙ ap (λ (k : Side). circle_said k (heard_in (after_call h c) cs)) w.0)
    ∙ sym (said-append circles hs (heard_in (after_call h c) cs) (side_in h)))
