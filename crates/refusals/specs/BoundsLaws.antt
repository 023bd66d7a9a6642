-- Whichever function is called, a record within its bounds stays within them. Assumes nothing.
use Rattle.std.specs.Prelude.{ℕ, ◌<◌, ◌≤◌, ◌^◌, ◌≡◌, false, List, [], ◌∷◌, length}
use Rattle.std.proofs.Common.{sym, ap, subst, ◌∙◌}
use Rattle.std.proofs.lemmas.List.{length-replicate}
use Rattle.scans.specs.Each.{All}
use Rattle.chunks.specs.AgainLaws.{Octet}
use Rattle.states.specs.declared.call.Call.TheVariants.{HandIn, ThirdTimer}
use Rattle.association.specs.declared.ends.Association.{Association}
use Rattle.association.specs.Fresh.{closed_at}
use Rattle.association.specs.AssociationKeptLaws.{AssociationKept, kept-closed_at}
use Rattle.steps.specs.declared.lent.Lent.{Lent}
use Rattle.steps.specs.declared.lent.Echoed.{Echoed}
use Rattle.steps.specs.SoundLaws.{Worded}
use Rattle.arriving.specs.PacketKeptLaws.{arrive-keeps}
use Rattle.calls.specs.declared.answer.Answer.{Answer}
use Rattle.calls.specs.declared.messages.HandedIn.{HandedIn}
use Rattle.calls.specs.declared.messages.Delivered.{Delivered}
use Rattle.calls.specs.declared.transmitting.Transmitted.{Transmitted}
use Rattle.calls.specs.Answer.{Plan, answer_of, plan_out, is_short_area, barred}
use Rattle.calls.specs.Opening.{associating}
use Rattle.calls.specs.Messages.{take_bar}
use Rattle.calls.specs.Transmit.{transmit_bar}
use Rattle.calls.specs.Acknowledging.{no_sack, acknowledged_call, acknowledged_out}
use Rattle.calls.specs.Timers.{expiring_third}
use Rattle.calls.specs.SoundLaws.{PlanKeeps, plan-answer-keeps, associate-keeps, third-keeps, hand-in-keeps, take-keeps, sack-call-keeps, transmit-keeps}
use Rattle.flat.specs.declared.head.Head.{Head}
use Rattle.flat.specs.Shown.{shown, association_head}
use Rattle.flat.specs.ShownLaws.{closed-shows}
use Rattle.asks.specs.TableOpening.{Tables, zero_tables, tables_after}
use Rattle.asks.specs.TableOpeningLaws.{tables-whole}
use Rattle.asks.specs.BesideLaws.{TablesBeside, answer-beside, opening-beside, sack-beside}
use Rattle.asks.specs.TableMessages.{Handover, handed_over, Delivery, delivered_from}
use Rattle.asks.specs.TableMessagesLaws.{handover-shows, handover-long, delivery-shows, delivery-long}
use Rattle.asks.specs.TableTimers.{Lapse, lapsed}
use Rattle.asks.specs.TableTimersLaws.{lapsed-shows, lapsed-long}
use Rattle.asks.specs.TableTransmit.{Dispatch, dispatched}
use Rattle.asks.specs.TableTransmitLaws.{dispatch-shows, dispatch-long}
use Rattle.landing.specs.Landing.{After, landed}
use Rattle.landing.specs.LandingShowLaws.{arrived-shows}
use Rattle.kept.specs.Flags.{is_yes}
use Rattle.kept.specs.Kept.{unpacked, packed}
use Rattle.kept.specs.KeptLaws.{unpack-pack}
use Rattle.face.specs.FaceLeft.{CallTold, CallLeft, left_with}
use Rattle.face.specs.FaceAnswer.{whole_told, call_answered, answered_alone, lapse_left}
use Rattle.face.specs.FaceOpening.{tables_lent, AssociatedLent, associated_lent}
use Rattle.face.specs.FaceMessages.{HandedLent, handed_lent, handover_left, DeliveredLent, delivered_lent, delivery_left}
use Rattle.face.specs.FaceTransmit.{DispatchedLent, dispatched_lent, dispatch_left}
use Rattle.face.specs.FaceArrival.{ArrivedLent, after_left}
use Rattle.face.specs.FaceAcknowledging.{SackSaid, said_lists, whole_said}
use Rattle.face.specs.Promises.{record_of, Closes, Associates, Arrives, HandsIn, Takes, Transmits, Acknowledges, Lapses}
use Rattle.refusals.specs.Refusals.{Store, record_in, store_with_tables, with_out, store_with_places, store_with_held, for_packet, from_packet, Within}
use Rattle.refusals.specs.ServedLaws.{served-keeps, alone-keeps}

-- a head that was packed shows, with tables, what it shows
head-sound : (g : Head) (ts : Tables) (a : Association) → shown g ts.held ts.next ts.places ts.next_out ts.kept ≡ a → AssociationKept a
    → AssociationKept (record_of (packed g) ts.held ts.next ts.places ts.next_out ts.kept)
head-sound g ts a e k = subst AssociationKept (sym (ap (λ (x : Head). shown x ts.held ts.next ts.places ts.next_out ts.kept) (unpack-pack g) ∙ e)) k

-- whatever stood there
pub closed-within : (b : Store) (words : length b.verdicts ≡ 1460) (port mode : ℕ) {t : CallTold} {x : Tables} → mode ≤ 1 → Closes port mode t x → Within (store_with_tables b t.kept x b.out)
closed-within b words port mode m e =
    subst (λ (l : CallLeft Tables). Within (store_with_tables b l.told.kept l.lent b.out)) (sym e)
    (record {
      whole = record { held = length-replicate {A = ℕ} 512 0; next = length-replicate {A = ℕ} 128 0; places = length-replicate {A = ℕ} 1024 0; next_out = length-replicate {A = ℕ} 128 0; kept = length-replicate {A = ℕ} 256 0 };
      words = words;
      sound = head-sound (association_head (closed_at port mode)) zero_tables (closed_at port mode) (closed-shows port mode) (kept-closed_at port mode m);
    })

module _ (b : Store) (w : Within b) where
  abbrev h : Head
  h = unpacked b.kept

  abbrev ts : Tables
  ts = b.tables

  -- the record after a call that left the tables
  module _ (p : Plan) (s : TablesBeside ts p) (k : PlanKeeps p) where
    plan-within : (out exit : List ℕ) → Within (with_out b (whole_told (answer_of p out)).kept exit)
    plan-within out exit = record {
      whole = w.whole;
      words = w.words;
      sound = head-sound (association_head (answer_of p out).association) ts (answer_of p out).association (answer-beside ts p out s) (plan-answer-keeps p out k);
    }

    pub answered-within : {t : CallTold} {x : List ℕ} → left_with t x ≡ call_answered b.kept p b.out → Within (with_out b t.kept x)
    answered-within e =
        served-keeps (λ (t : CallTold) (x : List ℕ). Within (with_out b t.kept x)) b.kept (left_with (whole_told (answer_of p b.out)) (plan_out p b.out)) (0 ∷ 0 ∷ []) b.out e
        (λ n. plan-within b.out (plan_out p b.out)) w

    pub alone-within : {t : CallTold} → t ≡ answered_alone b.kept p → Within (with_out b t.kept b.out)
    alone-within e = alone-keeps (λ (t : CallTold). Within (with_out b t.kept b.out)) b.kept p e (λ n. plan-within [] b.out) w

  pub associate-within : (tag tsn port streams : ℕ) → tsn < 2 ^ 32 → {t : CallTold} {x : AssociatedLent} → Associates b.kept tag tsn port streams (associated_lent ts b.out) t x
      → Within (store_with_tables b t.kept x.tables x.out)
  associate-within tag tsn port streams f e =
      let p : Plan = associating (record_in b) tag (record { 0 = tsn }) port streams b.out in
      let n : ℕ = (answer_of p b.out).number in
      served-keeps (λ (t : CallTold) (x : AssociatedLent). Within (store_with_tables b t.kept x.tables x.out)) b.kept
      (left_with (whole_told (answer_of p b.out)) (associated_lent (tables_after n ts) (plan_out p b.out))) (0 ∷ 0 ∷ []) (associated_lent ts b.out) e
      (λ q. record {
        whole = tables-whole n ts w.whole;
        words = w.words;
        sound = head-sound (association_head (answer_of p b.out).association) (tables_after n ts) (answer_of p b.out).association (opening-beside h ts.held ts.next ts.places ts.next_out ts.kept tag (record { 0 = tsn }) port streams b.out) (plan-answer-keeps p b.out (associate-keeps (record_in b) w.sound tag (record { 0 = tsn }) port streams b.out f));
      })
      w

  pub arrive-within : (packet : List ℕ) (lent : Lent) (cookie : List ℕ) (word : Echoed) → All Octet packet → Worded word → {t : CallTold} {x : ArrivedLent}
      → Arrives b.kept packet lent cookie word (for_packet b) t x → Within (from_packet b t.kept x)
  arrive-within packet lent cookie word o v e =
      let a : After = landed packet lent cookie word h ts.held ts.next ts.places ts.next_out ts.kept b.received b.verdicts b.out in
      let s = arrived-shows packet o lent cookie word h ts.held ts.next ts.places ts.next_out ts.kept b.received b.verdicts b.out (record { held = w.whole.held; next = w.whole.next; places = w.whole.places; next_out = w.whole.next_out; kept = w.whole.kept }) w.words in
      served-keeps (λ (t : CallTold) (x : ArrivedLent). Within (from_packet b t.kept x)) b.kept (after_left a) (0 ∷ 0 ∷ []) (for_packet b) e
      (λ q. record {
        whole = record { held = s.sized.held; next = s.sized.next; places = s.sized.places; next_out = s.sized.next_out; kept = s.sized.kept };
        words = s.words;
        sound = head-sound a.landed.head (tables_lent a.held a.next a.places a.next_out a.kept) _ s.association (arrive-keeps (record_in b) b.received packet lent cookie word b.out v o w.sound);
      })
      w

  pub hand-in-within : (message : List ℕ) (stream unordered ppid : ℕ) → stream < 65536 → ppid < 4294967296 → {t : CallTold} {x : HandedLent}
      → HandsIn b.kept ts.held message stream unordered ppid (handed_lent ts.places b.sent) t x → Within (store_with_places b t.kept x.places ts.next_out x.area b.out)
  hand-in-within message stream unordered ppid f g e =
      let n : ℕ = barred (record_in b) (is_short_area b.sent) HandIn in
      let d : Handover = handed_over n h ts.places b.sent message (record { 0 = stream }) (is_yes unordered) ppid in
      let s = handover-shows h ts.held ts.next ts.places ts.next_out ts.kept b.sent message (record { 0 = stream }) (is_yes unordered) ppid w.whole.places f g in
      served-keeps (λ (t : CallTold) (x : HandedLent). Within (store_with_places b t.kept x.places ts.next_out x.area b.out)) b.kept (handover_left b.kept d) (0 ∷ []) (handed_lent ts.places b.sent)
      (e ts.next ts.next_out ts.kept)
      (λ q. record {
        whole = record { held = w.whole.held; next = w.whole.next; places = handover-long n h ts.places b.sent message (record { 0 = stream }) (is_yes unordered) ppid ∙ w.whole.places; next_out = w.whole.next_out; kept = w.whole.kept };
        words = w.words;
        sound = subst AssociationKept (sym (ap (λ (r : HandedIn). r.association) s)) (hand-in-keeps (record_in b) w.sound b.sent (length message) (record { 0 = stream }) (is_yes unordered) ppid);
      })
      w

  pub take_within : {t : CallTold} {x : DeliveredLent} → Takes b.kept ts.places b.received (delivered_lent ts.held ts.next b.out) t x → Within (store_with_held b t.kept x)
  take_within e =
      let n : ℕ = take_bar (record_in b) b.received in
      let d : Delivery = delivered_from n h ts.held ts.next b.received b.out in
      let s = delivery-shows h ts.held ts.next ts.places ts.next_out ts.kept b.received b.out w.whole.held w.whole.next in
      let l = delivery-long n h ts.held ts.next b.received b.out in
      served-keeps (λ (t : CallTold) (x : DeliveredLent). Within (store_with_held b t.kept x)) b.kept (delivery_left b.kept d) (0 ∷ 0 ∷ 0 ∷ 0 ∷ 0 ∷ []) (delivered_lent ts.held ts.next b.out)
      (e ts.next_out ts.kept)
      (λ q. record {
        whole = record { held = l.0 ∙ w.whole.held; next = l.1 ∙ w.whole.next; places = w.whole.places; next_out = w.whole.next_out; kept = w.whole.kept };
        words = w.words;
        sound = subst AssociationKept (sym (ap (λ (r : Delivered). r.association) s)) (take-keeps (record_in b) w.sound b.received (length b.out));
      })
      w

  pub transmit-within : {t : CallTold} {x : DispatchedLent} → Transmits b.kept ts.held b.sent (dispatched_lent ts.places ts.next_out b.out) t x
      → Within (store_with_places b t.kept x.places x.next b.sent x.out)
  transmit-within e =
      let n : ℕ = transmit_bar (record_in b) b.sent b.out in
      let d : Dispatch = dispatched n h ts.places ts.next_out b.sent b.out in
      let s = dispatch-shows h ts.held ts.next ts.places ts.next_out ts.kept b.sent b.out w.whole.places w.whole.next_out w.sound.typed.sending.typed.circle.next in
      let l = dispatch-long n h ts.places ts.next_out b.sent b.out in
      served-keeps (λ (t : CallTold) (x : DispatchedLent). Within (store_with_places b t.kept x.places x.next b.sent x.out)) b.kept (dispatch_left d) (0 ∷ 0 ∷ 0 ∷ 0 ∷ []) (dispatched_lent ts.places ts.next_out b.out)
      (e ts.next ts.kept)
      (λ q. record {
        whole = record { held = w.whole.held; next = w.whole.next; places = l.0 ∙ w.whole.places; next_out = l.1 ∙ w.whole.next_out; kept = w.whole.kept };
        words = w.words;
        sound = head-sound d.answer.head (tables_lent ts.held ts.next d.places d.next ts.kept) _ (ap (λ (r : Transmitted). r.association) s) (transmit-keeps (record_in b) w.sound b.sent b.out);
      })
      w

  pub sack-within : {t : CallTold} {x : SackSaid} → Acknowledges b.kept ts.held ts.places b.out t x → Within (with_out b t.kept x.out)
  sack-within e =
      served-keeps (λ (t : CallTold) (x : SackSaid). Within (with_out b t.kept x.out)) b.kept (whole_said (acknowledged_call (record_in b) b.out) (acknowledged_out (record_in b) b.out)) (0 ∷ 0 ∷ 0 ∷ 0 ∷ 0 ∷ []) (said_lists no_sack b.out)
      (e ts.next ts.next_out ts.kept)
      (λ q. record {
        whole = w.whole;
        words = w.words;
        sound = head-sound (association_head (acknowledged_call (record_in b) b.out).association) ts (acknowledged_call (record_in b) b.out).association (sack-beside h ts.held ts.next ts.places ts.next_out ts.kept b.out) (sack-call-keeps (record_in b) w.sound b.out);
      })
      w

  pub lapse-within : {t : CallTold} {x : List ℕ} → Lapses b.kept ts.held ts.places t x → Within (store_with_places b t.kept x ts.next_out b.sent b.out)
  lapse-within e =
      let n : ℕ = barred (record_in b) false ThirdTimer in
      let d : Lapse = lapsed n h ts.places in
      let s = lapsed-shows h ts.held ts.next ts.places ts.next_out ts.kept w.whole.places in
      served-keeps (λ (t : CallTold) (x : List ℕ). Within (store_with_places b t.kept x ts.next_out b.sent b.out)) b.kept (lapse_left d) (0 ∷ 0 ∷ []) ts.places
      (e ts.next ts.next_out ts.kept)
      (λ q. record {
        whole = record { held = w.whole.held; next = w.whole.next; places = lapsed-long n h ts.places ∙ w.whole.places; next_out = w.whole.next_out; kept = w.whole.kept };
        words = w.words;
        sound = head-sound d.answer.head (tables_lent ts.held ts.next d.places ts.next_out ts.kept) _ (ap (λ (r : Answer). r.association) s.answer) (plan-answer-keeps (expiring_third (record_in b)) [] (third-keeps (record_in b) w.sound));
      })
      w
