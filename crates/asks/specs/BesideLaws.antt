-- The record that a call of `calls` leaves is its own head beside tables: those that the call found, and for our own INIT, where it is done, tables of
-- zeros. Assumes nothing.
use Prim.Native.Nat.{ℕ}
use Rattle.std.specs.Prelude.{◌≡◌, Bool, true, List, eqb}
use Rattle.std.proofs.Math.Path.{refl, subst}
use Rattle.std.proofs.Common.{sym}
use Rattle.std.proofs.Math.Bool.{false}
use Rattle.scans.specs.Scan.{pick}
use Rattle.scans.specs.Upto.{smaller, pick-keeps}
use Rattle.numbers.specs.declared.circle.Tsn.{Tsn}
use Rattle.numbers.specs.declared.circle.StreamId.{StreamId}
use Rattle.numbers.specs.Profile.{rail}
use Rattle.path.specs.Sizes.{rail_sizes}
use Rattle.delivery.specs.declared.acknowledging.Acknowledged as told
use Rattle.delivery.specs.ReceivingSack.{acknowledged_receiving}
use Rattle.reception.specs.ReceptionLaws.{words-sacked}
use Rattle.sending.specs.declared.sending.Sending.{Sending}
use Rattle.sending.specs.Sending.{is_bare}
use Rattle.sending.specs.SendingTableLaws.{doubled-is, sampled-is}
use Rattle.states.specs.declared.state.State.{State}
use Rattle.states.specs.declared.state.State.TheVariants.{CookieWait}
use Rattle.states.specs.declared.call.Call.{Call}
use Rattle.states.specs.declared.call.Call.TheVariants.{Associate, Acknowledge, Shutdown, Abort, TellStale, Heartbeat, Sample}
use Rattle.states.specs.Tries.{tried_again, is_closed}
use Rattle.states.specs.Calls.{knows_peer}
use Rattle.states.specs.RowsLaws.{each-state}
use Rattle.association.specs.declared.ends.Association.{Association}
use Rattle.association.specs.Fresh.{with_state, with_sending, with_receiving}
use Rattle.association.specs.Bounds.{earlier}
use Rattle.calls.specs.declared.acknowledging.Acknowledged.{Acknowledged}
use Rattle.calls.specs.declared.answer.Answer.{Answer}
use Rattle.calls.specs.declared.closing.Reason.{Reason}
use Rattle.calls.specs.Packet.{head_to_peer}
use Rattle.calls.specs.Answer.{is_short_out, barred, Plan, refusing, carrying_chunk, closing_plan, unless, answer_of}
use Rattle.calls.specs.Opening.{init_bytes, wanting, associate_refusal, associating}
use Rattle.calls.specs.Acknowledging.{acknowledged_as, acknowledged_call}
use Rattle.calls.specs.Timers.{repeating, association_backed_off, tried_to, expiring, sampling}
use Rattle.calls.specs.Closing.{aborted, shutting, aborting}
use Rattle.calls.specs.Telling.{stale_refusal, telling_stream, telling_stale, beating}
use Rattle.flat.specs.declared.head.Head.{Head}
use Rattle.flat.specs.Shown.{shown, association_head}
use Rattle.flat.specs.ShownLaws.{started-shows}
use Rattle.asks.specs.TableOpening.{Tables, zero_tables, tables_after}

-- a record is its own head beside these tables
abbrev pub IsBeside : Tables → Association → Type 0
IsBeside t a = shown (association_head a) t.held t.next t.places t.next_out t.kept ≡ a

-- so is the record of a plan, and then that of its answer
abbrev pub TablesBeside : Tables → Plan → Type 0
TablesBeside t p = IsBeside t p.association

pub answer-beside : (t : Tables) (p : Plan) (out : List ℕ) → TablesBeside t p → IsBeside t (answer_of p out).association
unfolding answer_of
answer-beside t p out b = b

module _ (h : Head) (held next places next_out kept : List ℕ) where
  abbrev a : Association
  a = shown h held next places next_out kept

  abbrev found : Tables
  found = record { held = held; next = next; places = places; next_out = next_out; kept = kept }

  unless-beside : (n : ℕ) (p : Plan) → TablesBeside found p → TablesBeside found (unless n a p)
  unless-beside n p b = pick-keeps (TablesBeside found) (eqb n 0) p (refusing a n) b refl

  -- T1 and T2
  backed-beside : (s : State) → IsBeside found (association_backed_off a s)
  unfolding association_backed_off
  backed-beside s = subst (λ (x : Sending). IsBeside found (with_sending (with_state a s) x)) (sym (doubled-is rail_sizes a.sending)) refl

  repeated : (b : Association) (s : State) → (repeating s b).association ≡ b
  repeated b = each-state (λ s. (repeating s b).association ≡ b) refl (λ n. refl) (λ n. refl) refl refl (λ n. refl) refl (λ n. refl)

  tried-beside : (s : State) → TablesBeside found (tried_to a s)
  unfolding tried_to
  tried-beside s =
      pick-keeps (TablesBeside found) (is_closed s) (closing_plan a) (repeating s (association_backed_off a s)) refl
      (subst (λ (x : Association). IsBeside found x) (sym (repeated (association_backed_off a s) s)) (backed-beside s))

  pub expiry-beside : (call : Call) (out : List ℕ) → TablesBeside found (expiring a call out)
  unfolding expiring
  expiry-beside call out = unless-beside (barred a (is_short_out out) call) _ (tried-beside (tried_again a.state))

  pub sample-beside : (sample : ℕ) → TablesBeside found (sampling a sample)
  unfolding sampling
  sample-beside sample =
      unless-beside (barred a false Sample) _ (subst (λ (x : Sending). IsBeside found (with_sending a x)) (sym (sampled-is rail_sizes a.sending sample)) refl)

  pub shutdown-beside : (out : List ℕ) → TablesBeside found (shutting a out)
  unfolding shutting
  shutdown-beside out = unless-beside (barred a (is_short_out out) Shutdown) _ (pick-keeps (TablesBeside found) (is_bare a.sending) _ _ refl refl)

  pub abort-beside : (why : Reason) (out : List ℕ) → TablesBeside found (aborting a why out)
  unfolding aborting
  abort-beside why out = unless-beside (barred a (is_short_out out) Abort) (aborted a why) (pick-keeps (TablesBeside found) (knows_peer a.state) _ _ refl refl)

  pub stream-beside : (stream : StreamId) (out : List ℕ) → TablesBeside found (telling_stream a stream out)
  unfolding telling_stream
  stream-beside stream out = unless-beside (barred a (is_short_out out) Acknowledge) _ refl

  pub stale-beside : (port tag late : ℕ) (out : List ℕ) → TablesBeside found (telling_stale a port tag late out)
  unfolding telling_stale
  stale-beside port tag late out = unless-beside (earlier (barred a (is_short_out out) TellStale) (stale_refusal a.ends.local_port port tag)) _ refl

  pub heartbeat-beside : (value out : List ℕ) → TablesBeside found (beating a value out)
  unfolding beating
  heartbeat-beside value out = unless-beside (barred a (is_short_out out) Heartbeat) _ refl

  -- a SACK changes the number-keeping alone
  sacked-beside : IsBeside found (with_receiving a (acknowledged_receiving rail a.receiving).receiving)
  sacked-beside = subst (λ (x : told.Acknowledged). IsBeside found (with_receiving a x.receiving)) (words-sacked rail h.keeping held next) refl

  pub sack-beside : (out : List ℕ) → IsBeside found (acknowledged_call a out).association
  unfolding acknowledged_call
  sack-beside out =
      pick-keeps (λ (x : Acknowledged). IsBeside found x.association) (eqb (barred a (is_short_out out) Acknowledge) 0)
      (acknowledged_as a (acknowledged_receiving rail a.receiving) out) _ sacked-beside refl

  -- our own INIT
  wanting-beside : (tag : ℕ) (tsn : Tsn) (port streams : ℕ) → IsBeside zero_tables (wanting a tag tsn port streams)
  unfolding wanting
  wanting-beside tag tsn port streams =
      started-shows (CookieWait 0)
      (record { local_port = h.ends.local_port; peer_port = port; my_tag = tag; peer_tag = 0; streams_in = 128; streams_out = smaller streams 128; options = 0 })
      tsn
      0
      (record { 0 = 1 })
      h.sender.mode

  abbrev opening : ℕ → Tsn → ℕ → ℕ → List ℕ → Answer
  opening tag tsn port streams out = answer_of (associating a tag tsn port streams out) out

  pub opening-beside : (tag : ℕ) (tsn : Tsn) (port streams : ℕ) (out : List ℕ)
      → IsBeside (tables_after (opening tag tsn port streams out).number found) (opening tag tsn port streams out).association
  unfolding associating tables_after answer_of
  opening-beside tag tsn port streams out = go (eqb refusal 0) refl
    where
      refusal : ℕ
      refusal = earlier (barred a (is_short_out out) Associate) (associate_refusal h.ends.local_port tag port streams)

      go : (t : Bool) → eqb refusal 0 ≡ t
          → (let p : Plan = pick t (carrying_chunk (wanting a tag tsn port streams) (head_to_peer (wanting a tag tsn port streams).ends 0) (init_bytes (wanting a tag tsn port streams))) (refusing a refusal) in
          TablesBeside (pick (eqb p.number 0) zero_tables found) p)
      go true e = wanting-beside tag tsn port streams
      go false e = subst (λ (b : Bool). IsBeside (pick b zero_tables found) a) (sym e) refl
