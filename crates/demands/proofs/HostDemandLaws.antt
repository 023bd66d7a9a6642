-- Demand 3 holds of the host's own calls. Assumes nothing.
use Rattle.std.specs.Prelude.{ℕ, suc, ◌+◌, ◌^◌, ◌<◌, ◌≤◌, ◌≡◌, refl, List, [], ◌∷◌, ◌++◌, map, length, drop}
use Rattle.std.proofs.Common.{sym, ◌∙◌, subst}
use Rattle.std.proofs.Math.Path.{ap}
use Rattle.scans.specs.Each.{All}
use Rattle.numbers.specs.Numbering.{ring, line, circles, lines}
use Rattle.numbers.specs.Profile.{rail}
use Rattle.holding.specs.declared.held.Chunk.{Chunk}
use Rattle.delivery.specs.Receiving.{low_of}
use Rattle.delivery.specs.ReceivingSack.{acknowledged_receiving}
use Rattle.line.specs.Reduce.{reduce_chunk}
use Rattle.line.specs.Runs.{arrive, ReceiverEvent, ReceiverLent, start, finally, reduce_event}
use Rattle.line.proofs.AgreementLaws.{rail-agrees}
use Rattle.line.specs.Demand.{HostSaw, seen, ours, Premises, line_seen, lent_line_after, host_seen, host_after, given, Messages, Holds, state_after}
use Rattle.line.proofs.DemandLaws as receiver
use Rattle.demands.specs.News.{News, numbered, given_in}
use Rattle.demands.specs.Heard.{Heard, asks, Side, side_goes_on, said_on, circle_goes, circle_said}
use Rattle.demands.specs.Stretch.{Call, after_all, news_told_in, window_told, Stretch, heard_in, side_in, reduce_news, reduce_side, line_start, line_heard, line_side, line_told, host_last, host_side, host_told}
use Rattle.demands.specs.HostDemand.{HostDemand3}
use Rattle.demands.specs.HeardLaws.{goes-append, said-append}
use Rattle.demands.proofs.BridgeLaws.{calls-go, calls-tell}
use Rattle.demands.proofs.StretchLaws.{Stays, events_in, reduce_heard, woven, said-woven, goes-finally, goes_after, said-given, woven-reduced, events-reduced, stays-reduced, lined-reduced, lined-stays, lined-fair}

drop-behind : {A : Type 0} (xs ys : List A) → drop (length xs) (xs ++ ys) ≡ ys
drop-behind [] ys = refl
drop-behind (x ∷ xs) ys = drop-behind xs ys

module _ (c : Stretch) where
  -- what is asked since the fresh start, on the line and on the circles
  abbrev there : List Heard
  there = line_heard c

  there-stays : All Stays there
  there-stays = lined-stays (c.initial + 2 ^ 32) c.chunk c.payload c.since (line_start c) c.fair

  abbrev here : List Heard
  here = map (reduce_heard (2 ^ 32) (2 ^ 16)) there

  asked_here : heard_in c.host c.calls ≡ c.before ++ here
  asked_here = c.asked ∙ ap (λ (hs : List Heard). c.before ++ hs) (lined-reduced (c.initial + 2 ^ 32) c.chunk c.payload c.since (line_start c) c.fair)

  -- the premises of the receiver's own demand
  abbrev u : Premises rail (2 ^ 31)
  u = record {
    initial = c.initial;
    small = c.small;
    streams = c.streams;
    area = c.area;
    chunk = c.chunk;
    payload = c.payload;
    honest = c.honest;
    events = events_in there;
    fair = lined-fair (c.initial + 2 ^ 32) c.chunk c.payload c.since (line_start c) c.fair;
  }

  abbrev begun : Side
  begun = record { lent = start (ring (2 ^ 32)) rail (record { 0 = u.initial }) u.area; streams = u.streams }

  here-stays : All Stays here
  here-stays = stays-reduced there there-stays

  here-reached : events_in here ≡ map (reduce_event (2 ^ 32) (2 ^ 16)) u.events
  here-reached = events-reduced there

  -- ---- the host's calls are the receiver's

  side-is : host_side c ≡ circle_goes begun here
  side-is =
      calls-go c.calls c.host
      ∙ (ap (circle_goes (side_in c.host)) asked_here
      ∙ (goes-append circles c.before here (side_in c.host) ∙ ap (λ (k : Side). circle_goes k here) c.fresh))

  told_is : host_told c ≡ circle_said begun here
  told_is =
      let x : List News = circle_said (side_in c.host) c.before in
      ap (drop (length x))
      (calls-tell c.calls c.host
      ∙ (ap (circle_said (side_in c.host)) asked_here ∙ said-append circles c.before here (side_in c.host)))
      ∙ (drop-behind x (circle_said (circle_goes (side_in c.host) c.before) here) ∙ ap (λ (k : Side). circle_said k here) c.fresh)

  -- ---- and the receiver's are the line's

  abbrev our_seen : List HostSaw
  our_seen = host_seen u (2 ^ 16) ours

  seen-is : seen ours u.streams begun.lent (events_in here) ≡ our_seen
  seen-is = ap (seen ours u.streams begun.lent) here-reached

  line-told : line_told c ≡ woven there (line_seen u)
  line-told = said-woven lines there there-stays (line_start c)

  tells : host_told c ≡ map (reduce_news (2 ^ 32) (2 ^ 16)) (line_told c)
  tells =
      told_is
      ∙ (said-woven circles here here-stays begun
      ∙ (ap (woven here) (seen-is ∙ (receiver.demand-3).agrees u)
      ∙ (woven-reduced there (line_seen u) ∙ ap (map (reduce_news (2 ^ 32) (2 ^ 16))) (sym line-told))))

  leaves : host_side c ≡ reduce_side (2 ^ 32) (2 ^ 16) (line_side c)
  leaves =
      side-is
      ∙ (goes-finally circles here here-stays begun
      ∙ (ap (λ (es : List ReceiverEvent). side (finally circles rail u.streams begun.lent es)) here-reached
      ∙ (ap side (rail-agrees u.initial u.small u.streams u.area u.chunk u.payload u.honest u.events u.fair).1
      ∙ ap (reduce_side (2 ^ 32) (2 ^ 16)) (sym line-left))))
    where
      side : ReceiverLent → Side
      side l = record { lent = l; streams = u.streams }

      line-left : line_side c ≡ side (finally lines rail u.streams (line_start c).lent u.events)
      line-left = goes-finally lines there there-stays (line_start c)

  gives : given_in (host_told c) ≡ given our_seen
  gives = ap given_in told_is ∙ (said-given circles here here-stays begun ∙ ap given seen-is)

  -- ---- progress

  host-after : (host_side c).lent ≡ host_after u (2 ^ 16) ours
  host-after =
      ap (λ (k : Side). k.lent) (side-is ∙ goes_after circles here here-stays begun)
      ∙ ap (state_after ours u.streams begun.lent) here-reached

  line_after : (line_side c).lent ≡ lent_line_after u
  line_after = ap (λ (k : Side). k.lent) (goes_after lines there there-stays (line_start c))

  held : (j : ℕ) → j ≡ suc (line_side c).lent.receiving.keeping.point.0 → 1 ≤ length (u.payload j) → length (u.payload j) ≤ 512
      → low_of line (line_side c).lent.receiving < 128 → Holds rail ours u.streams (host_side c).lent (reduce_chunk (2 ^ 32) (2 ^ 16) (u.chunk j)) (u.payload j)
  held j next some fits room =
      subst (λ (l : ReceiverLent). Holds rail ours u.streams l (reduce_chunk (2 ^ 32) (2 ^ 16) (u.chunk j)) (u.payload j)) (sym host-after)
      ((receiver.demand-3).progress u j (next ∙ ap (λ (l : ReceiverLent). suc l.receiving.keeping.point.0) line_after) some fits
      (subst (λ (l : ReceiverLent). low_of line l.receiving < 128) line_after room))

  streams-are : (host_side c).streams ≡ u.streams
  streams-are = ap (λ (k : Side). k.streams) (side-is ∙ goes_after circles here here-stays begun)

  -- a call that brings just this chunk
  module _ (k : Chunk) (bytes : List ℕ) (h : Holds rail ours u.streams (host_side c).lent k bytes) (x : Call) (brings : heard_in (host_last c) (x ∷ []) ≡ asks (arrive k bytes) ∷ []) where
    now-held : (news_told_in (host_last c) (x ∷ []) ≡ numbered 0 ∷ []) × (window_told (after_all (host_last c) (x ∷ [])) + 512 ≡ window_told (host_last c))
    unfolding said_on side_goes_on
    now-held = (
      calls-tell (x ∷ []) (host_last c)
          ∙ (ap (circle_said (host_side c)) brings
          ∙ (ap (λ (n : ℕ). numbered (ours.arrive n (host_side c).lent k bytes).answer ∷ []) streams-are ∙ ap (λ (n : ℕ). numbered n ∷ []) h.0)),
      ap (λ (y : Side). (acknowledged_receiving rail y.lent.receiving).sack.window + 512) (calls-go (x ∷ []) (host_last c) ∙ ap (circle_goes (host_side c)) brings)
          ∙ (ap (λ (n : ℕ). (ours.sack (ours.arrive n (host_side c).lent k bytes).left).answer.window + 512) streams-are ∙ h.1),
    )

  -- DEMAND 3
  pub host-demand-3 : HostDemand3 c
  host-demand-3 = record {
    told = tells;
    left = leaves;
    messages = λ long. subst (Messages (2 ^ 16) (c.initial + 2 ^ 32) u.chunk u.payload) (sym gives) ((receiver.demand-3).messages u long);
    progress = λ j next some fits room x brings. now-held (reduce_chunk (2 ^ 32) (2 ^ 16) (u.chunk j)) (u.payload j) (held j next some fits room) x brings;
  }
