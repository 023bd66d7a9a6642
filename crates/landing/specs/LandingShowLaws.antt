-- What a packet leaves over a head and lent tables shows what `arriving` says of the record that they showed. Assumes nothing.
use Prim.Native.Nat.{ℕ, zero, suc, ◌+◌, ◌-◌, ◌*◌, ◌<◌, ◌≤◌}
use Rattle.std.specs.Prelude.{◌≡◌, Bool, ltb, eqb, take, drop, set}
use Rattle.std.proofs.Math.Path.{refl, ap}
use Rattle.std.proofs.Common.{sym, ◌∙◌, subst, arith, length-append, length-drop, take-append-drop, length-take-le}
use Rattle.std.proofs.Math.Bool.{true, false}
use mathlib.Core.List.{List, [], ◌++◌}
use Rattle.std.proofs.Math.Decide.{dec_lt}
use Rattle.std.proofs.Math.ListN.{length, replicate, length-replicate}
use Rattle.scans.specs.Scan.{pick}
use Rattle.scans.specs.Each.{All}
use Rattle.octets.specs.BytesLaws.{part-is, kept-part}
use Rattle.octets.specs.Walk.{size, over_items}
use Rattle.octets.specs.WalkLaws.{size-least, over-on, over-end}
use Rattle.packets.specs.Header.{header_of}
use Rattle.chunks.specs.AgainLaws.{Octet}
use Rattle.association.specs.declared.ends.Association.{Association}
use Rattle.association.specs.Heads.{head_to}
use Rattle.steps.specs.declared.chunk.Beside.{Beside}
use Rattle.steps.specs.declared.lent.Lent.{Lent}
use Rattle.steps.specs.declared.lent.Echoed.{Echoed}
use Rattle.steps.specs.declared.verdict.Owed.{Owed}
use Rattle.steps.specs.declared.verdict.Owed.TheVariants.{Nothing, Shutdown, Complete, Reflected, To}
use Rattle.steps.specs.Lent.{heeded}
use Rattle.arriving.specs.declared.arrival.Arrived.{Arrived}
use Rattle.arriving.specs.declared.verdict.Verdict.{Verdict}
use Rattle.arriving.specs.declared.walk.Walked.{Walked}
use Rattle.arriving.specs.ChunkVerdict.{unread_at}
use Rattle.arriving.specs.Walked.{verdict_noted, chunk_taken_in, beside_at, Turn, turn_of, turned, walk_begun, walked_over}
use Rattle.arriving.specs.WalkedLaws as value-laws
use Rattle.arriving.specs.WalkedLaws.{walked_as}
use Rattle.arriving.specs.PacketKeptLaws.{all_drop}
use Rattle.arriving.specs.Reply.{is_silenced, shutdown_added, closed_by, whole_reply, reply_tag, reply_length, sent_out}
use Rattle.arriving.specs.Arrival.{packet_refused, answered_length, answered_out, packet_accepted, arrival_number, arrived_of, packet_area, packet_out, packet_walked}
use Rattle.flat.specs.declared.head.Head.{Head}
use Rattle.flat.specs.Shown.{shown}
use Rattle.rows.specs.TableRows.{Rowed}
use Rattle.rows.specs.TableRowsLaws.{Sized, rowed-space, rowed-sized}
use Rattle.rows.specs.RowShowLaws.{done_shown, octets-fit, rows-show}
use Rattle.landing.specs.Verdicts.{verdict_at, all_verdict_words, verdicts_of, count_after}
use Rattle.landing.specs.VerdictsLaws.{VerdictSmall, words_back, verdicts_noted, Telling, telling-none, telling-one}
use Rattle.landing.specs.TableWalk.{TableTurn, table_turn_of, head_walk_begun, bare_walked, unread_turn, read_turn, rowed_at, table_turned, in_part, in_whole, turned_in, table_walked_over}
use Rattle.landing.specs.TableWalkLaws.{so, not_so}
use Rattle.landing.specs.Landing.{After, after_of, landing_refused_as, replies_gathered, packet_walked_over, let_in, landed}

-- ---- the walk as `arriving` has it

abbrev pub turn_shown : TableTurn → Association
turn_shown t = shown t.walk.head t.held t.next t.places t.next_out t.kept

-- with the verdicts in a list beside it
abbrev walked_with : TableTurn → List Verdict → Walked
walked_with t vs = walked_as (turn_shown t) t.walk.count vs t.walk.used t.walk.unread t.walk.due t.walk.complete

abbrev turn_with : TableTurn → List Verdict → Turn
turn_with t vs = turn_of (walked_with t vs) t.area t.space

abbrev TurnSized : TableTurn → Type 0
TurnSized t = Sized t.held t.next t.places t.next_out t.kept

-- t is u with its record in a head and tables, and its verdicts in words
pub record TurnShows (lent : List ℕ) (t : TableTurn) (u : Turn) : Type 0 where
  pub verdicts : List Verdict
  pub is : turn_with t verdicts ≡ u
  pub sized : TurnSized t
  pub long : length t.space ≡ 1460
  pub fit : t.walk.used ≤ 1460
  pub telling : Telling lent t.verdicts t.walk.count verdicts

-- ---- one chunk

noted-as : (a : Association) (n : ℕ) (vs : List Verdict) (used : ℕ) (unread due : Bool) (o : Owed) (v : Verdict)
    → walked_as a (count_after n) (verdicts_noted vs n v) used unread due o ≡ verdict_noted (walked_as a n vs used unread due o) v
unfolding verdict_noted count_after
noted-as a n vs used unread due o v = go (ltb n 365)
  where
    go : (x : Bool)
        → walked_as a (pick x (n + 1) n) (pick x (set vs n v) vs) used unread due o ≡ pick x (walked_as a (n + 1) (set vs n v) used unread due o) (walked_as a n vs used unread due o)
    go true = refl
    go false = refl

module _ (at : ℕ) (b : Beside) (cookie s : List ℕ) (octets : All Octet s) where
  module _ (lent : List ℕ) (t : TableTurn) (vs : List Verdict) (sized : TurnSized t) (long : length t.space ≡ 1460) (fit : t.walk.used ≤ 1460)
      (telling : Telling lent t.verdicts t.walk.count vs) where
    abbrev then : Turn
    then = turned at b cookie s (turn_with t vs)

    part-long : length (in_part t).space ≡ 1460 - t.walk.used
    part-long = ap (λ (l : List ℕ). length l) (part-is t.space t.walk.used) ∙ length-drop t.walk.used t.space ∙ ap (λ (n : ℕ). n - t.walk.used) long

    unread-turned : t.walk.unread ≡ true → unread_turn at t ≡ turned_in at b cookie s t
    unfolding table_turned turned_in
    unread-turned h =
        (λ i. table_turn_of (unread_turn at t).walk t.held t.next t.places t.next_out t.kept t.area (unread_turn at t).verdicts (sym (kept-part t.walk.used t.space (omega (arith, fit, long)) refl) i))
        ∙ ap (λ (x : TableTurn). in_whole t.space t.walk.used x) (so _ _ h)

    unread-shows : t.walk.unread ≡ true → TurnShows lent (turned_in at b cookie s t) then
    unread-shows h =
        subst (λ (x : TableTurn). TurnShows lent x then) (unread-turned h)
        (record {
          verdicts = verdicts_noted vs t.walk.count (unread_at at);
          is = (value-laws.turn-unread at b cookie s (walked_with t vs) t.area t.space long fit h (noted-as (turn_shown t) t.walk.count vs t.walk.used t.walk.unread t.walk.due t.walk.complete (unread_at at))).0;
          sized = sized;
          long = long;
          fit = fit;
          telling = telling-one telling (unread_at at);
        })

    abbrev row : Rowed
    row = rowed_at at b cookie s (in_part t)

    abbrev after : TableTurn
    after = in_whole t.space t.walk.used (read_turn at (in_part t) row)

    read-turned : t.walk.unread ≡ false → after ≡ turned_in at b cookie s t
    unfolding table_turned turned_in
    read-turned h = ap (λ (x : TableTurn). in_whole t.space t.walk.used x) (not_so _ _ h)

    after-long : length after.space ≡ 1460
    after-long =
        let a = length-append (take t.walk.used t.space) (row.space ++ drop (length t.space - t.walk.used) (drop t.walk.used t.space)) in
        let c = length-append row.space (drop (length t.space - t.walk.used) (drop t.walk.used t.space)) in
        let d = length-take-le t.walk.used t.space (omega (arith, fit, long)) in
        let e = rowed-space t.walk.head t.held t.next t.places t.next_out t.kept t.area (in_part t).space s (beside_at at b) cookie in
        let f = length-drop (length t.space - t.walk.used) (drop t.walk.used t.space) in
        let g = length-drop t.walk.used t.space in
        omega (arith, a, c, d, e, f, g, part-long, long, fit)

    taken_as : walked_with after (verdicts_noted vs t.walk.count (verdict_at at row.stepped)) ≡ chunk_taken_in (walked_with t vs) at (done_shown row)
    unfolding chunk_taken_in
    taken_as =
        noted-as (turn_shown after) t.walk.count vs after.walk.used after.walk.unread after.walk.due after.walk.complete (verdict_at at row.stepped)

    read-shows : t.walk.unread ≡ false → TurnShows lent (turned_in at b cookie s t) then
    read-shows h =
        let w = rows-show t.walk.head t.held t.next t.places t.next_out t.kept s sized (octets-fit s octets) t.area (beside_at at b) cookie (in_part t).space in
        let r = value-laws.turn-read at b cookie s (walked_with t vs) t.area t.space long fit w.0 w.2 h w.1 taken_as in
        subst (λ (x : TableTurn). TurnShows lent x then) (read-turned h)
        (record {
          verdicts = verdicts_noted vs t.walk.count (verdict_at at row.stepped);
          is = r.0;
          sized = rowed-sized t.walk.head t.held t.next t.places t.next_out t.kept t.area s sized (beside_at at b) cookie (in_part t).space;
          long = after-long;
          fit = r.1;
          telling = telling-one telling (verdict_at at row.stepped);
        })

    either-shows : (x : Bool) → t.walk.unread ≡ x → TurnShows lent (turned_in at b cookie s t) then
    either-shows true h = unread-shows h
    either-shows false h = read-shows h

  pub turn-shows : (lent : List ℕ) (t : TableTurn) (u : Turn) → TurnShows lent t u → TurnShows lent (turned_in at b cookie s t) (turned at b cookie s u)
  turn-shows lent t u w =
      subst (λ (x : Turn). TurnShows lent (turned_in at b cookie s t) (turned at b cookie s x)) w.is
      (either-shows lent t w.verdicts w.sized w.long w.fit w.telling t.walk.unread refl)

-- ---- all chunks

-- what two steps keep of two values at every item, the two walks keep
over-both : {R S : Type 0} (P : R → S → Type 0) (f : R → List ℕ → R) (g : S → List ℕ → S) (s : List ℕ) → ((r : R) (q : S) (at : ℕ) → P r q → P (f r (drop at s)) (g q (drop at s)))
    → (n : ℕ) (r : R) (q : S) (at : ℕ) → length s ≤ at + 4 * n → P r q → P (over_items f r s at) (over_items g q s at)
over-both P f g s k zero r q at h p = rw (over-end f r s at (omega arith), over-end g q s at (omega arith)) p
over-both {R} {S} P f g s k (suc n) r q at h p =
    go (dec_lt at (length s)) (over-both P f g s k n (f r (drop at s)) (g q (drop at s)) (at + size (drop at s)) (omega (arith, size-least (drop at s))) (k r q at p))
  where
    go : Dec (at < length s) → P (over_items f (f r (drop at s)) s (at + size (drop at s))) (over_items g (g q (drop at s)) s (at + size (drop at s)))
        → P (over_items f r s at) (over_items g q s at)
    go (yes l) w = rw (over-on f r s at l, over-on g q s at l) w
    go (no l) w = rw (over-end f r s at (omega arith), over-end g q s at (omega arith)) p

module _ (packet : List ℕ) (octets : All Octet packet) (lent : Lent) (cookie : List ℕ) (h : Head) (held next places next_out kept area verdicts : List ℕ)
    (sized : Sized held next places next_out kept) (words : length verdicts ≡ 1460) where
  abbrev before : Association
  before = shown h held next places next_out kept

  begun-shows : TurnShows verdicts (table_turn_of (head_walk_begun h) held next places next_out kept area verdicts (replicate 1460 0)) (walk_begun before area)
  unfolding head_walk_begun walk_begun
  begun-shows = record {
    verdicts = replicate 365 (unread_at 0);
    is = refl;
    sized = sized;
    long = length-replicate {A = ℕ} 1460 0;
    fit = omega arith;
    telling = telling-none verdicts (replicate 365 (unread_at 0)) words (length-replicate 365 (unread_at 0));
  }

  pub passed-shows : (e : Echoed) → TurnShows verdicts (packet_walked_over packet lent cookie e h held next places next_out kept area verdicts) (packet_walked before area packet lent cookie e)
  unfolding packet_walked_over packet_walked table_walked_over walked_over
  passed-shows e =
      over-both (TurnShows verdicts) _ _ packet
      (λ t u at w. turn-shows (length packet - length (drop at packet)) _ cookie (drop at packet) (all_drop Octet at packet octets) verdicts t u w) (length packet) _ _ 12 (omega arith) begun-shows

-- ---- the answer

-- tables and verdicts have no part in the reply
module _ (t : TableTurn) (vs : List Verdict) (reply : List ℕ) where
  closed-bare : (o : Owed) → closed_by (bare_walked t.walk) reply o ≡ closed_by (walked_with t vs) reply o
  unfolding shutdown_added
  closed-bare Complete = refl
  closed-bare Reflected = refl
  closed-bare Nothing = refl
  closed-bare Shutdown = refl
  closed-bare (To tag) = refl

  reply-bare : whole_reply (bare_walked t.walk) reply ≡ whole_reply (walked_with t vs) reply
  unfolding whole_reply
  reply-bare = closed-bare t.walk.complete

  tag-bare : (o : Owed) (tag : ℕ) → reply_tag (bare_walked t.walk).association o tag ≡ reply_tag (turn_shown t) o tag
  tag-bare Complete tag = refl
  tag-bare Reflected tag = refl
  tag-bare Nothing tag = refl
  tag-bare Shutdown tag = refl
  tag-bare (To n) tag = refl

  module _ (packet out : List ℕ) where
    length-bare : answered_length (bare_walked t.walk) packet reply out ≡ answered_length (walked_with t vs) packet reply out
    unfolding answered_length
    length-bare = ap (λ (l : List ℕ). pick (is_silenced packet) 0 (reply_length l out)) reply-bare

    out-bare : answered_out (bare_walked t.walk) packet reply out ≡ answered_out (walked_with t vs) packet reply out
    unfolding answered_out
    out-bare = λ i.
        pick (is_silenced packet) out
        (sent_out (head_to t.walk.head.ends (header_of packet).source (tag-bare t.walk.complete (header_of packet).tag i)) (reply-bare i) out)

-- ---- the whole

-- x is what r says, with area and output beside it: the record in a head and tables, and of the verdicts as many words as there are, with what was lent behind them
pub record LandingShows (x : After) (r : Arrived) (area' out' lent : List ℕ) : Type 0 where
  pub number : x.landed.number ≡ r.number
  pub count : x.landed.count ≡ r.count
  pub reply : x.landed.length ≡ r.length
  pub association : shown x.landed.head x.held x.next x.places x.next_out x.kept ≡ r.association
  pub area : x.area ≡ area'
  pub out : x.out ≡ out'
  pub told : take (4 * r.count) x.verdicts ≡ all_verdict_words (take r.count r.verdicts)
  pub rest : drop (4 * r.count) x.verdicts ≡ drop (4 * r.count) lent
  pub sized : Sized x.held x.next x.places x.next_out x.kept
  pub words : length x.verdicts ≡ 1460
  pub few : r.count ≤ length r.verdicts

let-in-shows : (lent : List ℕ) (t : TableTurn) (u : Turn) (packet out : List ℕ) → TurnShows lent t u
    → LandingShows (let_in t packet out) (packet_accepted u.walked (answered_length u.walked packet u.reply out)) u.area (answered_out u.walked packet u.reply out) lent
unfolding let_in
let-in-shows lent t u packet out w =
    subst (λ (x : Turn). LandingShows (let_in t packet out) (packet_accepted x.walked (answered_length x.walked packet x.reply out)) x.area (answered_out x.walked packet x.reply out) lent) w.is
    (record {
      number = refl;
      count = refl;
      reply = length-bare t w.verdicts (replies_gathered t) packet out;
      association = refl;
      area = refl;
      out = out-bare t w.verdicts (replies_gathered t) packet out;
      told = w.telling.told;
      rest = w.telling.rest;
      sized = w.sized;
      words = w.telling.long;
      few = omega (arith, w.telling.few, w.telling.room);
    })

module _ (packet : List ℕ) (octets : All Octet packet) (lent : Lent) (cookie : List ℕ) (e : Echoed) (h : Head)
    (held next places next_out kept area verdicts out : List ℕ) (sized : Sized held next places next_out kept) (words : length verdicts ≡ 1460) where
  abbrev a : Association
  a = shown h held next places next_out kept

  abbrev turns : TableTurn
  turns = packet_walked_over packet lent cookie (heeded h.state h.ends e) h held next places next_out kept area verdicts

  abbrev turns_of : Turn
  turns_of = packet_walked a area packet lent cookie (heeded h.state h.ends e)

  refused-shows : (n : ℕ) → LandingShows (after_of (landing_refused_as h n) held next places next_out kept area verdicts out) (packet_refused a n) area out verdicts
  unfolding packet_refused
  refused-shows n = record {
    number = refl;
    count = refl;
    reply = refl;
    association = refl;
    area = refl;
    out = refl;
    told = refl;
    rest = refl;
    sized = sized;
    words = words;
    few = omega arith;
  }

  pub arrived-shows : LandingShows (landed packet lent cookie e h held next places next_out kept area verdicts out) (arrived_of a area packet lent cookie e out) (packet_area a area packet lent cookie e out) (packet_out a area packet lent cookie e out) verdicts
  unfolding landed arrived_of packet_area packet_out
  arrived-shows = go (eqb (arrival_number a area packet e out) 0)
    where
      go : (x : Bool)
          → LandingShows
          (pick x (let_in turns packet out) (after_of (landing_refused_as h (arrival_number a area packet e out)) held next places next_out kept area verdicts out))
          (pick x (packet_accepted turns_of.walked (answered_length turns_of.walked packet turns_of.reply out)) (packet_refused a (arrival_number a area packet e out)))
          (pick x turns_of.area area)
          (pick x (answered_out turns_of.walked packet turns_of.reply out) out)
          verdicts
      go true =
          let-in-shows verdicts turns turns_of packet out
          (passed-shows packet octets lent cookie h held next places next_out kept area verdicts sized words (heeded h.state h.ends e))
      go false = refused-shows (arrival_number a area packet e out)

-- ---- the words lent for verdicts have no part in all else

abbrev unsaid : TableTurn → TableTurn
unsaid t = table_turn_of t.walk t.held t.next t.places t.next_out t.kept t.area [] t.space

turned-unsaid : (at : ℕ) (b : Beside) (cookie s : List ℕ) (t : TableTurn) → unsaid (turned_in at b cookie s t) ≡ unsaid (turned_in at b cookie s (unsaid t))
unfolding table_turned turned_in
turned-unsaid at b cookie s t = go t.walk.unread
  where
    go : (x : Bool)
        → unsaid (in_whole t.space t.walk.used (pick x (unread_turn at (in_part t)) (read_turn at (in_part t) (rowed_at at b cookie s (in_part t)))))
        ≡ unsaid (in_whole t.space t.walk.used (pick x (unread_turn at (in_part (unsaid t))) (read_turn at (in_part (unsaid t)) (rowed_at at b cookie s (in_part (unsaid t))))))
    go true = refl
    go false = refl

turned-alike : (at : ℕ) (b : Beside) (cookie s : List ℕ) (t u : TableTurn) → unsaid t ≡ unsaid u → unsaid (turned_in at b cookie s t) ≡ unsaid (turned_in at b cookie s u)
turned-alike at b cookie s t u q = turned-unsaid at b cookie s t ∙ (ap (λ (x : TableTurn). unsaid (turned_in at b cookie s x)) q ∙ sym (turned-unsaid at b cookie s u))

-- what a packet leaves, but for those words
abbrev pub wordless : After → After
wordless x = after_of x.landed x.held x.next x.places x.next_out x.kept x.area [] x.out

let-in-unsaid : (t : TableTurn) (packet out : List ℕ) → wordless (let_in t packet out) ≡ wordless (let_in (unsaid t) packet out)
unfolding let_in
let-in-unsaid t packet out = refl

module _ (packet : List ℕ) (lent : Lent) (cookie : List ℕ) (e : Echoed) (h : Head) (held next places next_out kept area out verdicts words : List ℕ) where
  passed-any : (w : Echoed) → unsaid (packet_walked_over packet lent cookie w h held next places next_out kept area verdicts) ≡ unsaid (packet_walked_over packet lent cookie w h held next places next_out kept area words)
  unfolding packet_walked_over table_walked_over
  passed-any w =
      over-both (λ (t u : TableTurn). unsaid t ≡ unsaid u) _ _ packet
      (λ t u at q. turned-alike (length packet - length (drop at packet)) _ cookie (drop at packet) t u q)
      (length packet) _ _ 12 (omega arith) refl

  let-in-any : (w : Echoed)
      → wordless (let_in (packet_walked_over packet lent cookie w h held next places next_out kept area verdicts) packet out) ≡ wordless (let_in (packet_walked_over packet lent cookie w h held next places next_out kept area words) packet out)
  let-in-any w =
      let-in-unsaid (packet_walked_over packet lent cookie w h held next places next_out kept area verdicts) packet out
      ∙ (ap (λ (t : TableTurn). wordless (let_in t packet out)) (passed-any w) ∙ sym (let-in-unsaid (packet_walked_over packet lent cookie w h held next places next_out kept area words) packet out))

  pub landed-any : wordless (landed packet lent cookie e h held next places next_out kept area verdicts out) ≡ wordless (landed packet lent cookie e h held next places next_out kept area words out)
  unfolding landed
  landed-any = go (eqb (arrival_number (shown h held next places next_out kept) area packet e out) 0)
    where
      number : ℕ
      number = arrival_number (shown h held next places next_out kept) area packet e out

      go : (x : Bool)
          → wordless (pick x (let_in (packet_walked_over packet lent cookie (heeded h.state h.ends e) h held next places next_out kept area verdicts) packet out) (after_of (landing_refused_as h number) held next places next_out kept area verdicts out))
          ≡ wordless (pick x (let_in (packet_walked_over packet lent cookie (heeded h.state h.ends e) h held next places next_out kept area words) packet out) (after_of (landing_refused_as h number) held next places next_out kept area words out))
      go true = let-in-any (heeded h.state h.ends e)
      go false = refl

-- read back, the words are the verdicts, where each is within its words: a packet has no more than 1,472 bytes, and each number its type
pub verdicts-show : {x : After} {r : Arrived} {area' out' lent : List ℕ} → LandingShows x r area' out' lent → All VerdictSmall (take r.count r.verdicts) → verdicts_of x.landed.count x.verdicts ≡ take r.count r.verdicts
verdicts-show {x} {r} a s =
    let n : length (take r.count r.verdicts) ≡ r.count = length-take-le r.count r.verdicts a.few in
    let e : x.verdicts ≡ all_verdict_words (take r.count r.verdicts) ++ drop (4 * r.count) x.verdicts =
    sym (take-append-drop (4 * r.count) x.verdicts) ∙ ap (λ (l : List ℕ). l ++ drop (4 * r.count) x.verdicts) a.told in
    (λ i. verdicts_of ((a.count ∙ sym n) i) (e i)) ∙ words_back (take r.count r.verdicts) (drop (4 * r.count) x.verdicts) s
