-- A packet all of whose chunks are refused leaves every word of what is lent, and is not answered. Assumes nothing.
use Rattle.std.specs.Prelude.{ℕ, zero, suc, ◌+◌, ◌-◌, ◌*◌, ◌%◌, ◌<◌, ◌≤◌, ◌≡◌, Bool, List, [], ◌∷◌, ◌++◌, ltb, drop, set}
use Rattle.std.proofs.Math.Path.{refl}
use Rattle.std.proofs.Common.{sym, ap, subst, ◌∙◌, arith, lt-ltb, eqb-true, take-append-drop, length-take-le, take-suc-set}
use Rattle.std.proofs.Math.Bool.{true, false}
use Rattle.std.proofs.Math.Decide.{dec_lt}
use Rattle.std.proofs.Math.Dec.{eqb}
use Rattle.std.proofs.Math.ListN.{length, take, replicate}
use Rattle.std.proofs.lemmas.List.{length-replicate}
use Rattle.scans.specs.Scan.{pick, either}
use Rattle.scans.specs.Each.{All}
use Rattle.scans.specs.Upto.{pick-keeps}
use Rattle.octets.specs.Bytes.{laid}
use Rattle.octets.specs.Walk.{size, over_items}
use Rattle.octets.specs.WalkLaws.{size-least, over-on, over-end}
use Rattle.octets.specs.Writing.{fitting}
use Rattle.chunks.specs.ShutdownChunk.{shutdown_bytes}
use Rattle.packets.specs.Header.{header_of}
use Rattle.packets.specs.Checks.{size_number}
use Rattle.packets.specs.ChecksLaws.{size-most}
use Rattle.association.specs.BoundsLaws.{earlier-none}
use Rattle.steps.specs.declared.chunk.Beside.{Beside}
use Rattle.steps.specs.declared.lent.Lent.{Lent}
use Rattle.steps.specs.declared.lent.Echoed.{Echoed}
use Rattle.steps.specs.declared.verdict.Owed.{Owed}
use Rattle.steps.specs.declared.verdict.Owed.TheVariants.{Nothing}
use Rattle.steps.specs.Lent.{heeded}
use Rattle.arriving.specs.declared.verdict.Verdict.{Verdict}
use Rattle.arriving.specs.declared.walk.Walked.{Walked}
use Rattle.arriving.specs.PacketRefusal.{Barred}
use Rattle.arriving.specs.ChunkVerdict.{unread_at}
use Rattle.arriving.specs.Walked.{owes, is_due, beside_at}
use Rattle.arriving.specs.Reply.{is_silenced, is_shutdown_sent, shutdown_added, closed_by, whole_reply, reply_head, reply_length, sent_out}
use Rattle.arriving.specs.Arrival.{lent_number, packet_number, answered_length, answered_out, arrival_number}
use Rattle.flat.specs.declared.head.Head.{Head}
use Rattle.flat.specs.Shown.{shown}
use Rattle.asks.specs.TableAnswer.{head_with_keeping}
use Rattle.rows.specs.TableRows.{Rowed}
use Rattle.landing.specs.Verdicts.{verdict_words, all_verdict_words, verdict_in, verdicts_of, verdict_at, count_after}
use Rattle.landing.specs.VerdictsLaws.{verdicts_noted, Telling, telling-none, telling-one}
use Rattle.landing.specs.TableWalk.{TableTurn, table_turn_of, head_walk_begun, bare_walked, unread_turn, read_turn, rowed_at, table_turned, in_part, in_whole, turned_in, table_walked_over}
use Rattle.landing.specs.Landing.{After, after_of, landing_refused_as, replies_gathered, packet_walked_over, let_in, landed}
use Rattle.refusals.specs.Refusals.{VerdictRefused}
use Rattle.refusals.specs.RowLaws.{rowed-leaves}

-- ---- what the words of the verdicts say

refused-word : (v : Verdict) → VerdictRefused (verdict_in (verdict_words v)) → VerdictRefused v
refused-word v h = let n : 0 < (v.fate * 256 + v.number) % 256 = h in omega (arith, n)

barred-word : (v : Verdict) → Barred (verdict_in (verdict_words v)) → Barred v
barred-word v b =
    let n : 0 < (v.fate * 256 + v.number) % 256 = b.0 in (
      omega (arith, n),
      λ q. b.1 (let e : (v.fate * 256 + v.number) % 256 ≡ 11 = omega (arith, q) in e),
      λ q. b.2 (let e : (v.fate * 256 + v.number) % 256 ≡ 14 = omega (arith, q) in e),
    )

words-say : (P : Verdict → Type 0) → ((v : Verdict) → P (verdict_in (verdict_words v)) → P v) → (vs : List Verdict) (rest : List ℕ) → All P (verdicts_of (length vs) (all_verdict_words vs ++ rest)) → All P vs
words-say P f [] rest w = tt
words-say P f (v ∷ vs) rest w = (f v w.0, words-say P f vs rest w.1)

told-say : (P : Verdict → Type 0) → ((v : Verdict) → P (verdict_in (verdict_words v)) → P v) → {lent ws : List ℕ} {n : ℕ} {vs : List Verdict} → Telling lent ws n vs
    → All P (verdicts_of n ws) → All P (take n vs)
told-say P f {lent} {ws} {n} {vs} t w =
    let l : length (take n vs) ≡ n = length-take-le n vs (omega (arith, t.few, t.room)) in
    let e : ws ≡ all_verdict_words (take n vs) ++ drop (4 * n) ws = sym (take-append-drop (4 * n) ws) ∙ ap (λ (x : List ℕ). x ++ drop (4 * n) ws) t.told in
    words-say P f (take n vs) (drop (4 * n) ws) (subst (All P) (λ i. verdicts_of (sym l i) (e i)) w)

all_split : {A : Type 0} (P : A → Type 0) (xs : List A) (x : A) → All P (xs ++ x ∷ []) → All P xs × P x
all_split P [] x w = (tt, w.0)
all_split P (y ∷ xs) x w = let v = all_split P xs x w.1 in ((w.0, v.0), v.1)

-- one verdict more, while there is room
noted-take : (n : ℕ) (vs : List Verdict) (v : Verdict) → n < 365 → length vs ≡ 365 → take (count_after n) (verdicts_noted vs n v) ≡ take n vs ++ (v ∷ [])
unfolding count_after
noted-take n vs v h l =
    let e : suc n ≡ n + 1 = omega arith in
    rw (lt-ltb n 365 h) (ap (λ (m : ℕ). take m (set vs n v)) (sym e) ∙ take-suc-set vs n v (omega (arith, h, l)))

noted-count : (n : ℕ) → n < 365 → count_after n ≡ n + 1
unfolding count_after
noted-count n h = rw (lt-ltb n 365 h)

-- ---- the walk

-- what holds at a place, and is kept by the step there for the next, holds at the end
over-at : {R : Type 0} (I : ℕ → R → Type 0) (Q : R → Type 0) (f : R → List ℕ → R) (s : List ℕ)
    → ((r : R) (at : ℕ) → at < length s → I at r → I (at + size (drop at s)) (f r (drop at s))) → ((r : R) (at : ℕ) → I at r → Q r)
    → (n : ℕ) (r : R) (at : ℕ) → length s ≤ at + 4 * n → I at r → Q (over_items f r s at)
over-at I Q f s k q zero r at h p = rw (over-end f r s at (omega arith)) (q r at p)
over-at I Q f s k q (suc n) r at h p =
    go (dec_lt at (length s)) (λ l. over-at I Q f s k q n (f r (drop at s)) (at + size (drop at s)) (omega (arith, size-least (drop at s))) (k r at l p))
  where
    go : Dec (at < length s) → (at < length s → Q (over_items f (f r (drop at s)) s (at + size (drop at s)))) → Q (over_items f r s at)
    go (yes l) w = rw (over-on f r s at l) (w l)
    go (no l) w = rw (over-end f r s at (omega arith)) (q r at p)

-- nothing that is lent has changed, nothing is gathered and nothing is owed; of the head number-keeping may differ
record Same (h : Head) (ws ns ps ms cs bytes : List ℕ) (t : TableTurn) : Type 0 where
  pub held : t.held ≡ ws
  pub next : t.next ≡ ns
  pub places : t.places ≡ ps
  pub next_out : t.next_out ≡ ms
  pub kept : t.kept ≡ cs
  pub area : t.area ≡ bytes
  pub used : t.walk.used ≡ 0
  pub due : t.walk.due ≡ false
  pub complete : t.walk.complete ≡ Nothing
  pub head : t.walk.head ≡ head_with_keeping h t.walk.head.keeping

module _ (h : Head) (held next places next_out kept area verdicts : List ℕ) where
  -- that, by the verdicts so far
  record Judged (t : TableTurn) (vs : List Verdict) : Type 0 where
    pub same : All VerdictRefused vs → Same h held next places next_out kept area t
    pub keeping : All Barred vs → t.walk.head.keeping ≡ h.keeping

  record Judging (t : TableTurn) : Type 0 where
    pub list : List Verdict
    pub telling : Telling verdicts t.verdicts t.walk.count list
    pub judged : Judged t (take t.walk.count list)

  -- with room for a verdict of each chunk from `at` on
  record Passing (at : ℕ) (t : TableTurn) : Type 0 where
    pub few : 4 * t.walk.count + 12 ≤ at
    pub judging : Judging t

  module _ (at : ℕ) (b : Beside) (cookie s : List ℕ) (t : TableTurn) (few : t.walk.count < 365) (j : Judging t) where
    abbrev so_far : List Verdict
    so_far = take t.walk.count j.list

    abbrev Onward : TableTurn → Type 0
    Onward u = (u.walk.count ≡ t.walk.count + 1) × Judging u

    onward : (u : TableTurn) (v : Verdict) → u.walk.count ≡ count_after t.walk.count → Telling verdicts u.verdicts u.walk.count (verdicts_noted j.list t.walk.count v)
        → Judged u (so_far ++ (v ∷ [])) → Onward u
    onward u v n w q = (
      n ∙ noted-count t.walk.count few,
      record {
        list = verdicts_noted j.list t.walk.count v;
        telling = w;
        judged = subst (Judged u) (sym ((λ i. take (n i) (verdicts_noted j.list t.walk.count v)) ∙ noted-take t.walk.count j.list v few j.telling.room)) q;
      },
    )

    -- left unread: that is no refusal
    unread-on : Onward (in_whole t.space t.walk.used (unread_turn at (in_part t)))
    unread-on =
        onward _ (unread_at at) refl (telling-one j.telling (unread_at at))
        (record { same = λ w. absurd (omega (arith, (all_split VerdictRefused so_far (unread_at at) w).1)); keeping = λ w. absurd (omega (arith, (all_split Barred so_far (unread_at at) w).1.0)) })

    -- read and refused
    abbrev row : Rowed
    row = rowed_at at b cookie s (in_part t)

    abbrev after : TableTurn
    after = in_whole t.space t.walk.used (read_turn at (in_part t) row)

    abbrev verdict : Verdict
    verdict = verdict_at at row.stepped

    read_same : All VerdictRefused (so_far ++ (verdict ∷ [])) → Same h held next places next_out kept area after
    read_same w =
        let v = all_split VerdictRefused so_far verdict w in
        let m = j.judged.same v.0 in
        let l = rowed-leaves t.walk.head t.held t.next t.places t.next_out t.kept t.area s (in_part t).space (beside_at at b) cookie v.1 in
        record {
          held = l.held ∙ m.held;
          next = l.next ∙ m.next;
          places = l.places ∙ m.places;
          next_out = l.next_out ∙ m.next_out;
          kept = l.kept ∙ m.kept;
          area = l.area ∙ m.area;
          used = omega (arith, l.written, m.used);
          due = λ i. either (m.due i) (is_due (l.owed i));
          complete = λ i. owes (m.complete i) (l.owed i);
          head = l.head ∙ ap (λ (g : Head). head_with_keeping g row.stepped.head.keeping) m.head;
        }

    read-keeping : All Barred (so_far ++ (verdict ∷ [])) → after.walk.head.keeping ≡ h.keeping
    read-keeping w =
        let v = all_split Barred so_far verdict w in
        let l = rowed-leaves t.walk.head t.held t.next t.places t.next_out t.kept t.area s (in_part t).space (beside_at at b) cookie v.1.0 in
        l.keeping v.1.1 v.1.2 ∙ j.judged.keeping v.0

    read-on : Onward after
    read-on = onward _ verdict refl (telling-one j.telling verdict) (record { same = read_same; keeping = read-keeping })

    turned_on : Onward (turned_in at b cookie s t)
    unfolding turned_in table_turned
    turned_on =
        pick-keeps (λ (u : TableTurn). Onward (in_whole t.space t.walk.used u)) t.walk.unread (unread_turn at (in_part t)) (read_turn at (in_part t) row) unread-on read-on

  module _ (packet : List ℕ) (lent : Lent) (cookie : List ℕ) (short : length packet ≤ 1472) (words : length verdicts ≡ 1460) where
    passed-judging : (e : Echoed) → Judging (packet_walked_over packet lent cookie e h held next places next_out kept area verdicts)
    unfolding packet_walked_over table_walked_over head_walk_begun
    passed-judging e =
        over-at Passing Judging _ packet
        (λ t at l p. let o = turned_on (length packet - length (drop at packet)) _ cookie (drop at packet) t (omega (arith, p.few, l, short)) p.judging in record { few = omega (arith, o.0, p.few, size-least (drop at packet)); judging = o.1 })
        (λ t at p. p.judging) (length packet) _ 12 (omega arith)
        (record {
          few = omega arith;
          judging = record {
            list = replicate 365 (unread_at 0);
            telling = telling-none verdicts (replicate 365 (unread_at 0)) words (length-replicate 365 (unread_at 0));
            judged = record {
              same = λ w. record { held = refl; next = refl; places = refl; next_out = refl; kept = refl; area = refl; used = refl; due = refl; complete = refl; head = refl };
              keeping = λ w. refl;
            };
          };
        })

-- ---- the reply

-- nothing gathered and nothing owed is no reply
whole-none : (w : Walked) (reply : List ℕ) → reply ≡ [] → w.due ≡ false → w.complete ≡ Nothing → whole_reply w reply ≡ []
unfolding whole_reply shutdown_added
whole-none w reply r d c =
    ap (λ (o : Owed). closed_by w reply o) c
    ∙ (ap (λ (t : Bool). pick (pick t (is_shutdown_sent w.association.state) false) (reply ++ fitting (1460 - length reply) (shutdown_bytes w.association.receiving.keeping.point)) reply) d ∙ r)

silent : (w : Walked) (packet reply out : List ℕ) → whole_reply w reply ≡ [] → (answered_length w packet reply out ≡ 0) × (answered_out w packet reply out ≡ out)
unfolding answered_length answered_out reply_length sent_out laid
silent w packet reply out e = (
  ap (λ (r : List ℕ). pick (is_silenced packet) 0 (reply_length r out)) e ∙ pick-keeps (λ (n : ℕ). n ≡ 0) (is_silenced packet) 0 0 refl refl,
  ap (λ (r : List ℕ). pick (is_silenced packet) out (sent_out (reply_head w.association w.complete (header_of packet)) r out)) e ∙ pick-keeps (λ (x : List ℕ). x ≡ out) (is_silenced packet) out out refl refl,
)

-- ---- the packet

not-two : (z : Bool) (n : ℕ) → pick z 2 n ≡ 0 → z ≡ false
not-two true n h = absurd (omega (arith, h))
not-two false n h = refl

-- what a packet all of whose chunks are refused leaves
pub record LandedLeaves (h : Head) (ws ns ps ms cs bytes sent : List ℕ) (x : After) : Type 0 where
  pub held : x.held ≡ ws
  pub next : x.next ≡ ns
  pub places : x.places ≡ ps
  pub next_out : x.next_out ≡ ms
  pub kept : x.kept ≡ cs
  pub area : x.area ≡ bytes
  pub out : x.out ≡ sent
  pub silent : x.landed.length ≡ 0
  pub head : x.landed.head ≡ head_with_keeping h x.landed.head.keeping
  pub keeping : All Barred (verdicts_of x.landed.count x.verdicts) → x.landed.head.keeping ≡ h.keeping

module _ (packet : List ℕ) (lent : Lent) (cookie : List ℕ) (e : Echoed) (h : Head) (held next places next_out kept area verdicts out : List ℕ) (words : length verdicts ≡ 1460) where
  abbrev number : ℕ
  number = arrival_number (shown h held next places next_out kept) area packet e out

  abbrev turn : TableTurn
  turn = packet_walked_over packet lent cookie (heeded h.state h.ends e) h held next places next_out kept area verdicts

  let-in-short : number ≡ 0 → length packet ≤ 1472
  unfolding arrival_number packet_number
  let-in-short z =
      size-most packet
      (not-two (eqb (size_number packet) 2) _ (earlier-none (lent_number (shown h held next places next_out kept) (length area) (length out)) (packet_number (shown h held next places next_out kept) packet (heeded h.state h.ends e)) z).1)

  let-in-leaves : number ≡ 0 → (let x : After = let_in turn packet out in All VerdictRefused (verdicts_of x.landed.count x.verdicts) → LandedLeaves h held next places next_out kept area out x)
  unfolding let_in
  let-in-leaves z w =
      let j = passed-judging h held next places next_out kept area verdicts packet lent cookie (let-in-short z) words (heeded h.state h.ends e) in
      let m = j.judged.same (told-say VerdictRefused refused-word j.telling w) in
      let n = silent (bare_walked turn.walk) packet (replies_gathered turn) out (whole-none (bare_walked turn.walk) (replies_gathered turn) (ap (λ (k : ℕ). take k turn.space) m.used) m.due m.complete) in
      record {
        held = m.held;
        next = m.next;
        places = m.places;
        next_out = m.next_out;
        kept = m.kept;
        area = m.area;
        out = n.1;
        silent = n.0;
        head = m.head;
        keeping = λ v. j.judged.keeping (told-say Barred barred-word j.telling v);
      }

  pub landed-leaves : (let x : After = landed packet lent cookie e h held next places next_out kept area verdicts out in All VerdictRefused (verdicts_of x.landed.count x.verdicts) → LandedLeaves h held next places next_out kept area out x)
  unfolding landed
  landed-leaves = go (eqb number 0) refl
    where
      go : (t : Bool) → eqb number 0 ≡ t
          → (let x : After = pick t (let_in turn packet out) (after_of (landing_refused_as h number) held next places next_out kept area verdicts out) in
          All VerdictRefused (verdicts_of x.landed.count x.verdicts) → LandedLeaves h held next places next_out kept area out x)
      go true q w = let-in-leaves (eqb-true number 0 q) w
      go false q w = record { held = refl; next = refl; places = refl; next_out = refl; kept = refl; area = refl; out = refl; silent = refl; head = refl; keeping = λ v. refl }
