-- Every refusal returns the record, areas and output as they came. Assumes nothing.
use Prim.Native.Nat.{ℕ, ◌<◌}
use Rattle.std.specs.Prelude.{◌≡◌, Bool, true, List, eqb, length}
use Rattle.std.proofs.Math.Path.{refl, ap}
use Rattle.std.proofs.Common.{◌∙◌, arith}
use Rattle.std.proofs.Math.Bool.{false}
use Rattle.scans.specs.Scan.{pick}
use Rattle.scans.specs.Upto.{pick-keeps}
use Rattle.numbers.specs.declared.circle.StreamId.{StreamId}
use Rattle.numbers.specs.declared.circle.Tsn.{Tsn}
use Rattle.numbers.specs.Numbering.{circles}
use Rattle.numbers.specs.Profile.{rail}
use Rattle.path.specs.Sizes.{sizes_of}
use Rattle.holding.specs.declared.taking.Answer as took
use Rattle.holding.specs.declared.taking.Answer.TheVariants.{Taken, Nothing, Short}
use Rattle.holding.specs.Taking.{take_number}
use Rattle.delivery.specs.declared.receiving.Receiving.{Receiving}
use Rattle.delivery.specs.ReceivingLaws.{taken_refused}
use Rattle.sending.specs.declared.sending.Sending.{Sending}
use Rattle.sending.specs.Sending.{is_bare}
use Rattle.sending.specs.Expiry.{sending_expired}
use Rattle.sending.specs.SendingLaws.{handed-number, refused-message, refused-area}
use Rattle.states.specs.declared.state.State.{State}
use Rattle.states.specs.declared.call.Call.{Call}
use Rattle.states.specs.declared.call.Call.TheVariants.{Associate, HandIn, Acknowledge, ThirdTimer, Shutdown, Abort, Heartbeat, Sample, TellStale}
use Rattle.states.specs.Tries.{tried_again}
use Rattle.states.specs.Calls.{knows_peer}
use Rattle.states.specs.RowsLaws.{each-state}
use Rattle.association.specs.declared.ends.Association.{Association}
use Rattle.association.specs.Fresh.{with_receiving, with_sending}
use Rattle.association.specs.Bounds.{earlier}
use Rattle.calls.specs.declared.acknowledging.Acknowledged.{Acknowledged}
use Rattle.calls.specs.declared.closing.Reason.{Reason}
use Rattle.calls.specs.declared.messages.HandedIn.{HandedIn}
use Rattle.calls.specs.declared.messages.Delivered.{Delivered}
use Rattle.calls.specs.declared.transmitting.Transmitted.{Transmitted}
use Rattle.calls.specs.Answer.{is_short_area, is_short_out, barred, Plan, refusing, unless, answer_of, plan_out}
use Rattle.calls.specs.Opening.{associate_refusal, associating}
use Rattle.calls.specs.Messages.{hand_in_call, hand_in_call_area, delivered_as, taking, take_bar, delivered, delivered_out}
use Rattle.calls.specs.Transmit.{transmit_bar, transmitted, transmitted_out}
use Rattle.calls.specs.Acknowledging.{acknowledged_call, acknowledged_out}
use Rattle.calls.specs.Timers.{tried_to, expiring, expiring_third, sampling}
use Rattle.calls.specs.Closing.{shutting, aborting}
use Rattle.calls.specs.Telling.{telling_stream, stale_refusal, telling_stale, beating}

-- ---- calls that answer by a plan

-- a plan with a number is a refusal and nothing else
abbrev pub PlanLeaves : Association → Plan → Type 0
PlanLeaves a p = (p.number ≡ 0 → ⊥) → p ≡ refusing a p.number

module _ (a : Association) where
  -- so it gives the record as it came, writes no byte and says nothing but its number
  pub plan-left-all : (p : Plan) (out : List ℕ) → PlanLeaves a p → ((answer_of p out).number ≡ 0 → ⊥)
      → (answer_of p out ≡ record { number = p.number; length = 0; over = false; association = a }) × (plan_out p out ≡ out)
  unfolding answer_of plan_out
  plan-left-all p out l n = (ap (λ (q : Plan). answer_of q out) (l n), ap (λ (q : Plan). plan_out q out) (l n))

  goes_on : (p : Plan) → p.number ≡ 0 → PlanLeaves a p
  goes_on p e n = absurd (n e)

  unless-leaves : (n : ℕ) (p : Plan) → PlanLeaves a p → PlanLeaves a (unless n a p)
  unless-leaves n p l = pick-keeps (PlanLeaves a) (eqb n 0) p (refusing a n) l (λ h. refl)

  pub associate-leaves : (tag : ℕ) (tsn : Tsn) (port streams : ℕ) (out : List ℕ) → PlanLeaves a (associating a tag tsn port streams out)
  unfolding associating
  associate-leaves tag tsn port streams out = unless-leaves (earlier (barred a (is_short_out out) Associate) (associate_refusal a.ends.local_port tag port streams)) _ (goes_on _ refl)

  tried-goes : (s : State) → (tried_to a s).number ≡ 0
  unfolding tried_to
  tried-goes = each-state (λ s. (tried_to a s).number ≡ 0) refl (λ n. refl) (λ n. refl) refl refl (λ n. refl) refl (λ n. refl)

  pub expiry-leaves : (call : Call) (out : List ℕ) → PlanLeaves a (expiring a call out)
  unfolding expiring
  expiry-leaves call out = unless-leaves (barred a (is_short_out out) call) _ (goes_on _ (tried-goes (tried_again a.state)))

  pub third-leaves : PlanLeaves a (expiring_third a)
  unfolding expiring_third
  third-leaves =
      unless-leaves (barred a false ThirdTimer) _
      (pick-keeps (PlanLeaves a) (eqb (sending_expired (sizes_of a.sending.mode) a.sending).number 0) _ _ (pick-keeps (PlanLeaves a) (sending_expired (sizes_of a.sending.mode) a.sending).over _ _ (goes_on _ refl) (goes_on _ refl)) (λ h. refl))

  pub sample-leaves : (sample : ℕ) → PlanLeaves a (sampling a sample)
  unfolding sampling
  sample-leaves sample = unless-leaves (barred a false Sample) _ (goes_on _ refl)

  pub shutdown-leaves : (out : List ℕ) → PlanLeaves a (shutting a out)
  unfolding shutting
  shutdown-leaves out = unless-leaves (barred a (is_short_out out) Shutdown) _ (pick-keeps (PlanLeaves a) (is_bare a.sending) _ _ (goes_on _ refl) (goes_on _ refl))

  pub abort-leaves : (why : Reason) (out : List ℕ) → PlanLeaves a (aborting a why out)
  unfolding aborting
  abort-leaves why out = unless-leaves (barred a (is_short_out out) Abort) _ (pick-keeps (PlanLeaves a) (knows_peer a.state) _ _ (goes_on _ refl) (goes_on _ refl))

  pub stream-leaves : (stream : StreamId) (out : List ℕ) → PlanLeaves a (telling_stream a stream out)
  unfolding telling_stream
  stream-leaves stream out = unless-leaves (barred a (is_short_out out) Acknowledge) _ (goes_on _ refl)

  pub stale-leaves : (port tag late : ℕ) (out : List ℕ) → PlanLeaves a (telling_stale a port tag late out)
  unfolding telling_stale
  stale-leaves port tag late out = unless-leaves (earlier (barred a (is_short_out out) TellStale) (stale_refusal a.ends.local_port port tag)) _ (goes_on _ refl)

  pub heartbeat-leaves : (value out : List ℕ) → PlanLeaves a (beating a value out)
  unfolding beating
  heartbeat-leaves value out = unless-leaves (barred a (is_short_out out) Heartbeat) _ (goes_on _ refl)

  -- ---- calls with answers of their own, and a buffer

  either_left : {R : Type 0} (number : R → ℕ) (left : R → Association) (t : Bool) (x y : R) (after before : List ℕ)
      → (0 < number x → (left x ≡ a) × (after ≡ before)) → left y ≡ a → 0 < number (pick t x y) → (left (pick t x y) ≡ a) × (pick t after before ≡ before)
  either_left number left true x y after before f e h = f h
  either_left number left false x y after before f e h = (e, refl)

  -- 19 and 20 as well as 1, 18, 7
  pub hand-in-left : (area message : List ℕ) (stream : StreamId) (unordered : Bool) (ppid : ℕ) → 0 < (hand_in_call a area (length message) stream unordered ppid).number
      → ((hand_in_call a area (length message) stream unordered ppid).association ≡ a) × (hand_in_call_area a area message stream ≡ area)
  unfolding hand_in_call hand_in_call_area
  hand-in-left area message stream unordered ppid =
      let streams : ℕ = a.ends.streams_out in
      either_left (λ (x : HandedIn). x.number) (λ x. x.association) (eqb (barred a (is_short_area area) HandIn) 0) _ _ _ area
      (λ h. (
        ap (λ (s : Sending). with_sending a s) (refused-message rail a.sending stream streams (length message) unordered ppid h),
        refused-area rail a.sending stream streams area message (omega (arith, h, handed-number rail a.sending stream streams (length message) unordered ppid)),
      ))
      refl

  given : (x : took.Answer) (b : Association) → ((delivered_as x b).association ≡ b) × ((delivered_as x b).number ≡ take_number x)
  given (Taken m) b = (refl, refl)
  given Nothing b = (refl, refl)
  given (Short n) b = (refl, refl)

  -- 17, and 18 with the length needed, as well as 1 and 18
  pub take_left : (area out : List ℕ) → 0 < (delivered a area (length out)).number → ((delivered a area (length out)).association ≡ a) × (delivered_out a area out ≡ out)
  unfolding delivered delivered_out
  take_left area out =
      let g = given (taking a (length out)).answer (with_receiving a (taking a (length out)).receiving) in
      either_left (λ (x : Delivered). x.number) (λ x. x.association) (eqb (take_bar a area) 0) _ _ _ out
      (λ h. let l = taken_refused circles rail a.receiving area out (omega (arith, h, g.1)) in (g.0 ∙ ap (λ (r : Receiving). with_receiving a r) l.0, l.1))
      refl

  pub sack-left : (out : List ℕ) → 0 < (acknowledged_call a out).number → ((acknowledged_call a out).association ≡ a) × (acknowledged_out a out ≡ out)
  unfolding acknowledged_call acknowledged_out
  sack-left out =
      either_left (λ (x : Acknowledged). x.number) (λ x. x.association) (eqb (barred a (is_short_out out) Acknowledge) 0) _ _ _ out (λ h. absurd (omega arith)) refl

  pub transmit-left : (area out : List ℕ) → 0 < (transmitted a area out).number → ((transmitted a area out).association ≡ a) × (transmitted_out a area out ≡ out)
  unfolding transmitted transmitted_out
  transmit-left area out =
      either_left (λ (x : Transmitted). x.number) (λ x. x.association) (eqb (transmit_bar a area out) 0) _ _ _ out (λ h. absurd (omega arith)) refl
