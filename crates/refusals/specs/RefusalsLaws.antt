-- Of every function that a host links: a refusal leaves all, so does a packet all of whose chunks are refused, and bounds are kept. Assumes nothing.
use Rattle.std.specs.Prelude.{ℕ, ◌<◌, ◌≡◌, refl, false, true, List, [], ◌∷◌, length, get_or}
use Rattle.std.proofs.Common.{sym, subst, ◌∙◌, arith}
use Rattle.std.proofs.Math.Path.{ap}
use Rattle.scans.specs.Each.{All}
use Rattle.numbers.specs.declared.keeping.Keeping.{Keeping}
use Rattle.states.specs.declared.call.Call.TheVariants.{HandIn, FirstTimer, SecondTimer, ThirdTimer}
use Rattle.association.specs.declared.ends.Association.{Association}
use Rattle.steps.specs.declared.lent.Lent.{Lent}
use Rattle.steps.specs.declared.lent.Echoed.{Echoed}
use Rattle.arriving.specs.PacketRefusal.{Barred}
use Rattle.calls.specs.Answer.{Plan, answer_of, plan_out, is_short_area, barred}
use Rattle.calls.specs.Opening.{associating}
use Rattle.calls.specs.Messages.{take_bar}
use Rattle.calls.specs.Transmit.{transmit_bar}
use Rattle.calls.specs.Acknowledging.{no_sack, acknowledged_call, acknowledged_out}
use Rattle.calls.specs.Timers.{expiring, sampling}
use Rattle.calls.specs.Closing.{shutting, aborting}
use Rattle.calls.specs.Telling.{telling_stream, telling_stale, beating}
use Rattle.calls.specs.LeftLaws.{PlanLeaves, associate-leaves, expiry-leaves, sample-leaves, shutdown-leaves, abort-leaves, stream-leaves, stale-leaves, heartbeat-leaves, sack-left}
use Rattle.calls.specs.SoundLaws.{PlanKeeps, expiry-keeps, sample-keeps, shutting-keeps, abort-keeps, stream-keeps, stale-keeps, heartbeat-keeps}
use Rattle.flat.specs.declared.head.Head.{Head}
use Rattle.flat.specs.Shown.{association_head}
use Rattle.asks.specs.TableAnswer as head
use Rattle.asks.specs.TableOpening.{Tables, tables_after}
use Rattle.asks.specs.BesideLaws.{TablesBeside, expiry-beside, sample-beside, shutdown-beside, abort-beside, stream-beside, stale-beside, heartbeat-beside}
use Rattle.asks.specs.TableMessages.{Handover, handed_over, Delivery, delivered_from}
use Rattle.asks.specs.TableTimers.{Lapse, lapsed}
use Rattle.asks.specs.TableTransmit.{Dispatch, dispatched}
use Rattle.landing.specs.Landing.{After, landed}
use Rattle.landing.specs.Verdicts.{verdicts_of}
use Rattle.kept.specs.declared.head.Kept.{Kept}
use Rattle.kept.specs.Cause.{reason_of}
use Rattle.kept.specs.Flags.{is_yes}
use Rattle.kept.specs.Parts.{packed_keeping}
use Rattle.kept.specs.Kept.{is_named, unpacked, packed}
use Rattle.kept.specs.KeptLaws.{pack-unpack}
use Rattle.face.specs.FaceLeft.{CallTold, CallLeft, left_with}
use Rattle.face.specs.FaceAnswer.{whole_told, lapse_left}
use Rattle.face.specs.FaceOpening.{tables_lent, AssociatedLent, associated_lent}
use Rattle.face.specs.FaceMessages.{HandedLent, handed_lent, handover_left, DeliveredLent, delivered_lent, delivery_left}
use Rattle.face.specs.FaceTransmit.{DispatchedLent, dispatched_lent, dispatch_left}
use Rattle.face.specs.FaceArrival.{ArrivedLent, arrived_lent, after_left}
use Rattle.face.specs.FaceAcknowledging.{SackSaid, said_lists, whole_said}
use Rattle.face.specs.Promises.{Arrives, Sends, Expires}
use Rattle.refusals.specs.Refusals.{Store, store_of, record_in, store_with_tables, with_out, store_with_places, store_with_held, for_packet, from_packet, Called, close, associate, arrive, call_hand_in, deliver, transmit, sack, shutdown, abort, error_stream, error_stale, heartbeat, t1, t2, t3, rtt, StoreRefusalLeaves, verdicts_told, VerdictRefused, kept_with_keeping, PacketLeaves, RefusedLeave, Within, StaysWithin}
use Rattle.refusals.specs.ServedLaws.{served-keeps, served-leaves, plan-leaves, answered-leaves, alone-keeps}
use Rattle.refusals.specs.CallLaws.{tables-left, landed-left, handed-left, delivered-left, dispatched-left, lapsed-left}
use Rattle.refusals.specs.PacketLaws.{LandedLeaves, landed-leaves}
use Rattle.refusals.specs.BoundsLaws.{closed-within, answered-within, alone-within, associate-within, arrive-within, hand-in-within, take_within, transmit-within, sack-within, lapse-within}

module _ (b : Store) (t : CallTold) (e : Store) where
  abbrev a : Association
  a = record_in b

  abbrev h : Head
  h = unpacked b.kept

  abbrev ts : Tables
  ts = b.tables

  -- ---- a number that is not 0 leaves all

  same_out : {x : List ℕ} → (t.kept ≡ b.kept) × (x ≡ b.out) → with_out b t.kept x ≡ b
  same_out w = λ i. with_out b (w.0 i) (w.1 i)

  sends-leaves : (rule : Association → List ℕ → Plan) → PlanLeaves a (rule a b.out) → {x : List ℕ} → Sends rule b.kept ts.held ts.places b.out t x → 0 < t.number → with_out b t.kept x ≡ b
  sends-leaves rule l c p =
      same_out (answered-leaves b.kept ts.held ts.next ts.places ts.next_out ts.kept (rule a b.out) b.out l (c ts.next ts.next_out ts.kept) p)

  pub store-refusal-leaves : StoreRefusalLeaves b t e
  store-refusal-leaves (close port mode x m c q) p = absurd (omega (arith, p, ap (λ (l : CallLeft Tables). l.told.number) c))
  store-refusal-leaves (associate tag tsn port streams x f c q) p =
      let plan : Plan = associating a tag (record { 0 = tsn }) port streams b.out in
      let n : ℕ = (answer_of plan b.out).number in
      let w = served-leaves (λ (y : AssociatedLent). y) b.kept (left_with (whole_told (answer_of plan b.out)) (associated_lent (tables_after n ts) (plan_out plan b.out))) (0 ∷ 0 ∷ []) (associated_lent ts b.out) c
      (λ m r. let l = plan-leaves b.kept ts.held ts.next ts.places ts.next_out ts.kept plan b.out (associate-leaves a tag (record { 0 = tsn }) port streams b.out) m r in (l.1, λ i. associated_lent (tables-left n ts r i) (l.2 i))) p in
      q ∙ (λ i. store_with_tables b (w.0 i) (w.1 i).tables (w.1 i).out)
  store-refusal-leaves (arrive packet lent cookie word x f g c q) p =
      let w = served-leaves (λ (y : ArrivedLent). y) b.kept (after_left (landed packet lent cookie word h ts.held ts.next ts.places ts.next_out ts.kept b.received b.verdicts b.out)) (0 ∷ 0 ∷ []) (for_packet b) c
      (λ m r. let l = landed-left packet lent cookie word h ts.held ts.next ts.places ts.next_out ts.kept b.received b.verdicts b.out r in (ap (λ (y : After). packed y.landed.head) l ∙ pack-unpack b.kept m, ap (λ (y : After). (after_left y).lent) l)) p in
      q ∙ (λ i. from_packet b (w.0 i) (w.1 i))
  store-refusal-leaves (call_hand_in message stream unordered ppid x f g c q) p =
      let n : ℕ = barred a (is_short_area b.sent) HandIn in
      let w = served-leaves (λ (y : HandedLent). y) b.kept (handover_left b.kept (handed_over n h ts.places b.sent message (record { 0 = stream }) (is_yes unordered) ppid)) (0 ∷ []) (handed_lent ts.places b.sent) (c ts.next ts.next_out ts.kept)
      (λ m r. let l = handed-left n h ts.places b.sent message (record { 0 = stream }) (is_yes unordered) ppid r in (refl, λ i. handed_lent (l.0 i) (l.1 i))) p in
      q ∙ (λ i. store_with_places b (w.0 i) (w.1 i).places ts.next_out (w.1 i).area b.out)
  store-refusal-leaves (deliver x c q) p =
      let n : ℕ = take_bar a b.received in
      let w = served-leaves (λ (y : DeliveredLent). y) b.kept (delivery_left b.kept (delivered_from n h ts.held ts.next b.received b.out)) (0 ∷ 0 ∷ 0 ∷ 0 ∷ 0 ∷ []) (delivered_lent ts.held ts.next b.out) (c ts.next_out ts.kept)
      (λ m r. let l = delivered-left n h ts.held ts.next b.received b.out r in (refl, λ i. delivered_lent (l.0 i) (l.1 i) (l.2 i))) p in
      q ∙ (λ i. store_with_held b (w.0 i) (w.1 i))
  store-refusal-leaves (transmit x c q) p =
      let n : ℕ = transmit_bar a b.sent b.out in
      let w = served-leaves (λ (y : DispatchedLent). y) b.kept (dispatch_left (dispatched n h ts.places ts.next_out b.sent b.out)) (0 ∷ 0 ∷ 0 ∷ 0 ∷ []) (dispatched_lent ts.places ts.next_out b.out) (c ts.next ts.kept)
      (λ m r. let l = dispatched-left n h ts.places ts.next_out b.sent b.out r in (ap (λ (y : Dispatch). packed y.answer.head) l ∙ pack-unpack b.kept m, ap (λ (y : Dispatch). (dispatch_left y).lent) l)) p in
      q ∙ (λ i. store_with_places b (w.0 i) (w.1 i).places (w.1 i).next b.sent (w.1 i).out)
  store-refusal-leaves (sack x c q) p =
      let w = served-leaves (λ (y : SackSaid). y.out) b.kept (whole_said (acknowledged_call a b.out) (acknowledged_out a b.out)) (0 ∷ 0 ∷ 0 ∷ 0 ∷ 0 ∷ []) (said_lists no_sack b.out) (c ts.next ts.next_out ts.kept)
      (λ m r. let l = sack-left a b.out r in (ap (λ (y : Association). packed (association_head y)) l.0 ∙ pack-unpack b.kept m, l.1)) p in
      q ∙ same_out w
  store-refusal-leaves (shutdown x c q) p = q ∙ sends-leaves shutting (shutdown-leaves a b.out) c p
  store-refusal-leaves (abort cause tsn x c q) p = q ∙ sends-leaves (λ y. aborting y (reason_of cause tsn)) (abort-leaves a (reason_of cause tsn) b.out) c p
  store-refusal-leaves (error_stream stream x c q) p = q ∙ sends-leaves (λ y. telling_stream y (record { 0 = stream })) (stream-leaves a (record { 0 = stream }) b.out) c p
  store-refusal-leaves (error_stale port tag late x c q) p = q ∙ sends-leaves (λ y. telling_stale y port tag late) (stale-leaves a port tag late b.out) c p
  store-refusal-leaves (heartbeat value x c q) p = q ∙ sends-leaves (λ y. beating y value) (heartbeat-leaves a value b.out) c p
  store-refusal-leaves (t1 x c q) p =
      q ∙ same_out (answered-leaves b.kept ts.held ts.next ts.places ts.next_out ts.kept (expiring a FirstTimer b.out) b.out (expiry-leaves a FirstTimer b.out) (c ts.next ts.next_out) p)
  store-refusal-leaves (t2 x c q) p =
      q ∙ same_out (answered-leaves b.kept ts.held ts.next ts.places ts.next_out ts.kept (expiring a SecondTimer b.out) b.out (expiry-leaves a SecondTimer b.out) (c ts.next ts.next_out) p)
  store-refusal-leaves (t3 x c q) p =
      let n : ℕ = barred a false ThirdTimer in
      let w = served-leaves (λ (y : List ℕ). y) b.kept (lapse_left (lapsed n h ts.places)) (0 ∷ 0 ∷ []) ts.places (c ts.next ts.next_out ts.kept)
      (λ m r. let l = lapsed-left n h ts.places r in (ap packed l.0 ∙ pack-unpack b.kept m, l.1)) p in
      q ∙ (λ i. store_with_places b (w.0 i) (w.1 i) ts.next_out b.sent b.out)
  store-refusal-leaves (rtt sample c q) p =
      let plan : Plan = sampling a sample in
      let w = alone-keeps (λ (y : CallTold). 0 < y.number → y.kept ≡ b.kept) b.kept plan (c ts.next ts.next_out ts.kept)
      (λ m r. (plan-leaves b.kept ts.held ts.next ts.places ts.next_out ts.kept plan [] (sample-leaves a sample) m r).1) (λ r. refl) p in
      q ∙ (λ i. with_out b (w i) b.out)

  -- ---- a packet all of whose chunks are refused

  -- a head with other number-keeping, as the host keeps it
  kept_but : is_named b.kept ≡ true → (g : Head) → g ≡ head.head_with_keeping h g.keeping → packed g ≡ kept_with_keeping b.kept (packed g).keeping
  unfolding packed
  kept_but n g q = ap packed q ∙ (λ i. kept_with_keeping (pack-unpack b.kept n i) (packed_keeping g.keeping))

  kept_same : is_named b.kept ≡ true → (g : Head) → g ≡ head.head_with_keeping h g.keeping → g.keeping ≡ h.keeping → packed g ≡ b.kept
  kept_same n g q r = ap packed (q ∙ ap (λ (k : Keeping). head.head_with_keeping h k) r) ∙ pack-unpack b.kept n

  -- what is told, and what is left of all that is lent
  record Quiet (u : CallTold) (x : ArrivedLent) : Type 0 where
    pub silent : get_or u.words 1 0 ≡ 0
    pub lent : x ≡ arrived_lent ts.held ts.next ts.places ts.next_out ts.kept b.received x.verdicts b.out
    pub kept : u.kept ≡ kept_with_keeping b.kept u.kept.keeping
    pub head : All Barred (verdicts_of (get_or u.words 0 0) x.verdicts) → u.kept ≡ b.kept

  quiet : (packet : List ℕ) (lent : Lent) (cookie : List ℕ) (word : Echoed) → length b.verdicts ≡ 1460 → {x : ArrivedLent} → Arrives b.kept packet lent cookie word (for_packet b) t x
      → All VerdictRefused (verdicts_of (get_or t.words 0 0) x.verdicts) → Quiet t x
  quiet packet lent cookie word l c =
      let y : After = landed packet lent cookie word h ts.held ts.next ts.places ts.next_out ts.kept b.received b.verdicts b.out in
      served-keeps (λ (u : CallTold) (x : ArrivedLent). All VerdictRefused (verdicts_of (get_or u.words 0 0) x.verdicts) → Quiet u x) b.kept (after_left y) (0 ∷ 0 ∷ []) (for_packet b) c
      (λ n r. let w = landed-leaves packet lent cookie word h ts.held ts.next ts.places ts.next_out ts.kept b.received b.verdicts b.out l r in
      record {
        silent = w.silent;
        lent = λ i. arrived_lent (w.held i) (w.next i) (w.places i) (w.next_out i) (w.kept i) (w.area i) y.verdicts (w.out i);
        kept = kept_but n y.landed.head w.head;
        head = λ v. kept_same n y.landed.head w.head (w.keeping v);
      })
      (λ r. record { silent = refl; lent = refl; kept = refl; head = λ v. refl })

  pub refused-leave : RefusedLeave b t e
  refused-leave packet lent cookie word c k s l r =
      let w = quiet packet lent cookie word l c r in
      record {
        silent = w.silent;
        store = λ i. store_of ((k ∙ w.kept) i) (tables_lent (w.lent i).held (w.lent i).next (w.lent i).places (w.lent i).next_out (w.lent i).kept) (w.lent i).area (s i) e.verdicts (w.lent i).out;
        head = λ v. k ∙ w.head v;
      }

  -- ---- bounds

  sends-within : (rule : Association → List ℕ → Plan) (w : Within b) → TablesBeside ts (rule a b.out) → PlanKeeps (rule a b.out) → {x : List ℕ} → Sends rule b.kept ts.held ts.places b.out t x
      → Within (with_out b t.kept x)
  sends-within rule w s k c = answered-within b w (rule a b.out) s k (c ts.next ts.next_out ts.kept)

  pub stays_within : StaysWithin b t e
  stays_within (close port mode x m c q) w = subst Within (sym q) (closed-within b w.words port mode m c)
  stays_within (associate tag tsn port streams x f c q) w = subst Within (sym q) (associate-within b w tag tsn port streams f c)
  stays_within (arrive packet lent cookie word x f g c q) w = subst Within (sym q) (arrive-within b w packet lent cookie word f g c)
  stays_within (call_hand_in message stream unordered ppid x f g c q) w = subst Within (sym q) (hand-in-within b w message stream unordered ppid f g c)
  stays_within (deliver x c q) w = subst Within (sym q) (take_within b w c)
  stays_within (transmit x c q) w = subst Within (sym q) (transmit-within b w c)
  stays_within (sack x c q) w = subst Within (sym q) (sack-within b w c)
  stays_within (shutdown x c q) w =
      subst Within (sym q) (sends-within shutting w (shutdown-beside h ts.held ts.next ts.places ts.next_out ts.kept b.out) (shutting-keeps a w.sound b.out) c)
  stays_within (abort cause tsn x c q) w =
      subst Within (sym q) (sends-within (λ y. aborting y (reason_of cause tsn)) w (abort-beside h ts.held ts.next ts.places ts.next_out ts.kept (reason_of cause tsn) b.out) (abort-keeps a w.sound (reason_of cause tsn) b.out) c)
  stays_within (error_stream stream x c q) w =
      subst Within (sym q) (sends-within (λ y. telling_stream y (record { 0 = stream })) w (stream-beside h ts.held ts.next ts.places ts.next_out ts.kept (record { 0 = stream }) b.out) (stream-keeps a w.sound (record { 0 = stream }) b.out) c)
  stays_within (error_stale port tag late x c q) w =
      subst Within (sym q) (sends-within (λ y. telling_stale y port tag late) w (stale-beside h ts.held ts.next ts.places ts.next_out ts.kept port tag late b.out) (stale-keeps a w.sound port tag late b.out) c)
  stays_within (heartbeat value x c q) w =
      subst Within (sym q) (sends-within (λ y. beating y value) w (heartbeat-beside h ts.held ts.next ts.places ts.next_out ts.kept value b.out) (heartbeat-keeps a w.sound value b.out) c)
  stays_within (t1 x c q) w =
      subst Within (sym q) (answered-within b w (expiring a FirstTimer b.out) (expiry-beside h ts.held ts.next ts.places ts.next_out ts.kept FirstTimer b.out) (expiry-keeps a w.sound FirstTimer b.out) (c ts.next ts.next_out))
  stays_within (t2 x c q) w =
      subst Within (sym q) (answered-within b w (expiring a SecondTimer b.out) (expiry-beside h ts.held ts.next ts.places ts.next_out ts.kept SecondTimer b.out) (expiry-keeps a w.sound SecondTimer b.out) (c ts.next ts.next_out))
  stays_within (t3 x c q) w = subst Within (sym q) (lapse-within b w c)
  stays_within (rtt sample c q) w =
      subst Within (sym q) (alone-within b w (sampling a sample) (sample-beside h ts.held ts.next ts.places ts.next_out ts.kept sample) (sample-keeps a w.sound sample) (c ts.next ts.next_out ts.kept))
