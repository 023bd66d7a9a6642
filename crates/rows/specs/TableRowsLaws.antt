-- What a row tells with its reply, or with none; what all that is lent is then; and that it stays as long as it was. Assumes nothing.
use Rattle.std.specs.Prelude.{ℕ, ◌≤◌, ◌≡◌, Bool, true, false, List, [], length, replicate, ltb}
use Rattle.std.proofs.Math.Path.{refl, ap}
use Rattle.std.proofs.Common.{sym, ◌∙◌, ltb-true, ltb-false}
use Rattle.std.proofs.lemmas.List.{length-replicate}
use Rattle.scans.specs.Upto.{pick-keeps}
use Rattle.numbers.specs.Numbering.{circles}
use Rattle.numbers.specs.Profile.{rail}
use Rattle.octets.specs.Bytes.{u8}
use Rattle.octets.specs.Writing.{wrote_bytes, Wrote, both_fitting}
use Rattle.octets.specs.BytesLaws.{length-laid}
use Rattle.octets.specs.WritingLaws.{holds-first, wrote-long, wrote-short, wrote-all, wrote_none, wrote-within}
use Rattle.chunks.specs.declared.init.Init.{Init}
use Rattle.chunks.specs.declared.kind.Kind.{Kind}
use Rattle.chunks.specs.declared.kind.Handling.{Handling}
use Rattle.chunks.specs.CookieChunk.{cookie_echo_bytes}
use Rattle.chunks.specs.Kind.{kind_of}
use Rattle.chunks.specs.ShutdownChunk.{point_of}
use Rattle.parameters.specs.Report.{error_parameters_bytes}
use Rattle.reception.specs.ReceptionLaws.{after-long}
use Rattle.acks.specs.AcksLaws.{acked-long, shut-long}
use Rattle.states.specs.declared.rows.Row.{Row}
use Rattle.states.specs.declared.rows.Row.TheVariants.{Refused, ReadData, ReadLateData, AnswerInit, TakeInitAck, ReadSack, ReadSackPending, ReadSackReceived, EchoHeartbeat, ClearTries, BecomeClosed, ReadShutdown, CrossShutdown, RepeatShutdownAck, RepeatAck, ReflectComplete, SendComplete, PassError, ReadError, ReadEcho, BecomeEstablished, BecomeComplete, PassUnknown, TellUnknown}
use Rattle.states.specs.Rows.{row_of}
use Rattle.steps.specs.declared.chunk.Beside.{Beside}
use Rattle.steps.specs.declared.lent.Echoed.{Echoed}
use Rattle.steps.specs.declared.verdict.Event.{Event}
use Rattle.steps.specs.declared.verdict.Event.TheVariants.{NoEvent}
use Rattle.steps.specs.Verdict.{Step, accepted, answering}
use Rattle.steps.specs.VerdictLaws.{pass-quiet}
use Rattle.steps.specs.Opening.{kept_cookie, echoing, echoed_back}
use Rattle.steps.specs.Unknown.{pass_unknown, tell_unknown}
use Rattle.association.specs.Fresh.{with_receiving, with_sending}
use Rattle.steps.specs.Carrying.{is_kept, data_read, shutdown_owed, sack_read, is_last}
use Rattle.steps.specs.Steps.{met_by, row_met}
use Rattle.flat.specs.declared.head.Head.{Head}
use Rattle.association.specs.declared.ends.Association.{Association}
use Rattle.flat.specs.Shown.{cookie_shown, bare, association_head}
use Rattle.rows.specs.declared.stepped.Stepped.{Stepped}
use Rattle.rows.specs.Stepped.{stepped_with, stepped_in}
use Rattle.rows.specs.Lending.{Standing, standing_of, heard_into, receiving_if, cookie_brought, begun_if, rowed_with, rowed_over}
use Rattle.rows.specs.TableRows.{held_heard, held_by, area_by, arrival_by, read_data_by, read_late_data_by, sack_to_sender, places_sacked, sack_answer, read_sack_by, read_sack_pending_by, places_shut, is_taken, is_starting, cleared_if, kept_if, RowLeft, head_left, data_left, places_left, ack_left, echo_left, row_left, reply_by, Rowed, rowed_of, rowed_by, rowed}

-- what a function on a chunk promises: what was done of the step, and its reply in the output
abbrev pub RowTold : List ℕ → Step → Stepped → List ℕ → Type 0
RowTold space d r exit = (r ≡ stepped_in space d) × (exit ≡ wrote_bytes space d.reply)

pub row-written-told : (d : Step) {space exit : List ℕ} {n : ℕ} {r : Stepped} → Wrote space d.reply n exit → r ≡ stepped_with n d → RowTold space d r exit
row-written-told d w e = (e ∙ ap (λ (n : ℕ). stepped_with n d) w.count, w.bytes)

-- nothing is written of it, and the output stays
pub row-quiet-told : (space : List ℕ) (d : Step) {r : Stepped} → d.reply ≡ [] → r ≡ stepped_with 0 d → RowTold space d r space
row-quiet-told space d q e = row-written-told d (rw q (wrote_none space)) e

-- accepted, with another head and a reply
pub accepted-told : (a : Association) {e : Event} {space bs exit : List ℕ} {n : ℕ} {k : Head} {r : Stepped}
    → Wrote space bs n exit → k ≡ association_head a → r ≡ stepped_with n (accepted (bare k) e []) → RowTold space (accepted a e bs) r exit
accepted-told a {e} {space} {bs} {exit} {n} w f g = row-written-told (accepted a e bs) w (g ∙ ap (λ (q : Head). stepped_with n (accepted (bare q) e [])) f)

-- the same, to the tag that is answered
pub answered-told : (a : Association) {e : Event} {tag : ℕ} {space bs exit : List ℕ} {n : ℕ} {k : Head} {r : Stepped}
    → Wrote space bs n exit → k ≡ association_head a → r ≡ stepped_with n (answering (bare k) e tag []) → RowTold space (answering a e tag bs) r exit
answered-told a {e} {tag} {space} {bs} {exit} {n} w f g = row-written-told (answering a e tag bs) w (g ∙ ap (λ (q : Head). stepped_with n (answering (bare q) e tag [])) f)

-- an INIT ACK that is taken in: of the cookie the head has the length
pub echoed-told : (h : Head) (v : Init) (cookie s : List ℕ) {space exit : List ℕ} {n l : ℕ} {k : Head} {r : Stepped}
    → Wrote space (both_fitting (length space) (cookie_echo_bytes cookie) (error_parameters_bytes s)) n exit → l ≡ length cookie
    → k ≡ association_head (echoing (bare h) v (cookie_shown l [])) → r ≡ stepped_with n (accepted (bare k) NoEvent []) → RowTold space (echoed_back (length space) (bare h) v cookie s) r exit
unfolding echoed_back echoing
echoed-told h v cookie s w e f g =
    accepted-told (echoing (bare h) v (kept_cookie cookie)) w (f ∙ ap (λ (m : ℕ). association_head (echoing (bare h) v (cookie_shown m []))) e) g

-- ---- rows that add nothing to the reply

module _ (h : Head) where
  module _ (held next s : List ℕ) where
    pub data-quiet : (read_data_by h held next s).reply ≡ []
    unfolding read_data_by data_read
    data-quiet = refl

    pub row-late-data-quiet : (read_late_data_by h held next s).reply ≡ []
    unfolding read_late_data_by data_read
    row-late-data-quiet =
        pick-keeps (λ (d : Step). d.reply ≡ []) (is_kept (arrival_by h held next s).verdict) (shutdown_owed (with_receiving (bare h) (arrival_by h held next s).receiving)) (data_read (bare h) s (arrival_by h held next s)) refl refl

  module _ (places s : List ℕ) where
    pub sack-quiet : (read_sack_by h places s).reply ≡ []
    unfolding read_sack_by
    sack-quiet = refl

    pub row-pending-quiet : (read_sack_pending_by h places s).reply ≡ []
    unfolding read_sack_pending_by
    row-pending-quiet =
        pick-keeps (λ (d : Step). d.reply ≡ []) (is_last (sack_answer h places s)) (shutdown_owed (with_sending (bare h) (sack_answer h places s).sending)) (sack_read (bare h) (sack_answer h places s)) refl refl

-- ---- one chunk

module _ (h : Head) (held next places next_out kept area space s : List ℕ) where
  -- what a row leaves, by its parts
  pub head-rowed : (d : Step) {r : Stepped} {exit : List ℕ} → RowTold space d r exit
      → rowed_of r held next places next_out kept area exit ≡ rowed_by space (head_left h held next places next_out kept area s d)
  head-rowed d t = λ i. rowed_of (t.0 i) held next places next_out kept area (t.1 i)

  pub quiet-rowed : (d : Step) → d.reply ≡ [] → {r : Stepped} → r ≡ stepped_with 0 d
      → rowed_of r held next places next_out kept area space ≡ rowed_by space (head_left h held next places next_out kept area s d)
  quiet-rowed d q e = head-rowed d (row-quiet-told space d q e)

  pub data-rowed : (d : Step) → d.reply ≡ [] → {r : Stepped} {ws area' : List ℕ} → (r ≡ stepped_with 0 d) × (ws ≡ held_by h held next s) × (area' ≡ area_by h held next area s)
      → rowed_of r ws next places next_out kept area' space ≡ rowed_by space (data_left h held next places next_out kept area s d)
  data-rowed d q t =
      let w : RowTold space d _ space = row-quiet-told space d q t.0 in
      λ i. rowed_of (w.0 i) (t.1 i) next places next_out kept (t.2 i) (w.1 i)

  pub places-rowed : (d : Step) {r : Stepped} {ws after exit : List ℕ} → (r ≡ stepped_in space d) × (ws ≡ after) × (exit ≡ wrote_bytes space d.reply)
      → rowed_of r held next ws next_out kept area exit ≡ rowed_by space (places_left h held next places next_out kept area s after d)
  places-rowed d t = λ i. rowed_of (t.0 i) held next (t.1 i) next_out kept area (t.2 i)

  pub quiet-places : (d : Step) → d.reply ≡ [] → {r : Stepped} {ws after : List ℕ} → (r ≡ stepped_with 0 d) × (ws ≡ after)
      → rowed_of r held next ws next_out kept area space ≡ rowed_by space (places_left h held next places next_out kept area s after d)
  quiet-places d q t =
      let w : RowTold space d _ space = row-quiet-told space d q t.0 in
      places-rowed d (w.0, t.1, w.1)

  pub ack-rowed : (d : Step) {r : Stepped} {ws ns bytes exit : List ℕ}
      → (r ≡ stepped_in space d) × (ws ≡ cleared_if (is_taken s) 512 held) × (ns ≡ cleared_if (is_taken s) 128 next) × (bytes ≡ kept_if (is_taken s) s kept) × (exit ≡ wrote_bytes space d.reply)
      → rowed_of r ws ns places next_out bytes area exit ≡ rowed_by space (ack_left h held next places next_out kept area s d)
  ack-rowed d t = λ i. rowed_of (t.0 i) (t.1 i) (t.2 i) places next_out (t.3 i) area (t.4 i)

  pub echo-rowed : (e : Echoed) (d : Step) {r : Stepped} {ws ns ps ms bytes exit : List ℕ}
      → (r ≡ stepped_in space d) × (ws ≡ cleared_if (is_starting h.state h.ends e s) 512 held) × (ns ≡ cleared_if (is_starting h.state h.ends e s) 128 next) × (ps ≡ cleared_if (is_starting h.state h.ends e s) 1024 places) × (ms ≡ cleared_if (is_starting h.state h.ends e s) 128 next_out) × (bytes ≡ cleared_if (is_starting h.state h.ends e s) 256 kept) × (exit ≡ wrote_bytes space d.reply)
      → rowed_of r ws ns ps ms bytes area exit ≡ rowed_by space (echo_left h held next places next_out kept area s e d)
  echo-rowed e d t = λ i. rowed_of (t.0 i) (t.1 i) (t.2 i) (t.3 i) (t.4 i) (t.5 i) area (t.6 i)

  -- the row that the chunk meets
  module _ (b : Beside) (cookie : List ℕ) {k : Kind} (kind : k ≡ kind_of (u8 s 0)) {x : Row} (row : x ≡ row_of k (met_by (bare h) b) h.state) where
    pub rowed-by : {y : Row} → x ≡ y → {t : Rowed} → t ≡ rowed_by space (row_left h held next places next_out kept area s (length space) b cookie y)
        → t ≡ rowed b cookie s h held next places next_out kept area space
    unfolding rowed
    rowed-by e p =
        p
        ∙ ap (λ (y : Row). rowed_by space (row_left h held next places next_out kept area s (length space) b cookie y))
        (sym e ∙ row ∙ ap (λ (j : Kind). row_of j (met_by (bare h) b) h.state) kind)

    pub pass-rowed : {j : Handling} → x ≡ PassUnknown j → {r : Stepped} → r ≡ stepped_with 0 (pass_unknown (bare h) j)
        → rowed_of r held next places next_out kept area space ≡ rowed b cookie s h held next places next_out kept area space
    pass-rowed {j} e p = rowed-by e (quiet-rowed (pass_unknown (bare h) j) (pass-quiet (bare h) j) p)

    pub tell-rowed : {j : Handling} → x ≡ TellUnknown j → {r : Stepped} {exit : List ℕ} → RowTold space (tell_unknown (bare h) j s) r exit
        → rowed_of r held next places next_out kept area exit ≡ rowed b cookie s h held next places next_out kept area space
    tell-rowed {j} e p = rowed-by e (head-rowed (tell_unknown (bare h) j s) p)

-- what then stands in the tables
abbrev pub standing_left : RowLeft → Standing
standing_left l = standing_of l.held l.next l.places l.next_out l.kept l.area

abbrev pub places_in : Standing → List ℕ → Standing
places_in t ws = standing_of t.held t.next ws t.next_out t.kept t.area

-- and there, of a row that is lent some of them
module _ (t : Standing) where
  pub heard-stands : (h : Head) (s : List ℕ) {ws area : List ℕ} → (ws ≡ held_by h t.held t.next s) × (area ≡ area_by h t.held t.next t.area s)
      → standing_of ws t.next t.places t.next_out t.kept area ≡ heard_into h s t
  heard-stands h s p = λ i. standing_of (p.0 i) t.next t.places t.next_out t.kept (p.1 i)

  pub receiving-stands : (s : List ℕ) {ws ns bytes : List ℕ} → (ws ≡ cleared_if (is_taken s) 512 t.held) × (ns ≡ cleared_if (is_taken s) 128 t.next) × (bytes ≡ kept_if (is_taken s) s t.kept)
      → standing_of ws ns t.places t.next_out bytes t.area ≡ receiving_if (is_taken s) (cookie_brought s) t
  receiving-stands s p = λ i. standing_of (p.0 i) (p.1 i) t.places t.next_out (p.2 i) t.area

  pub begun-stands : (b : Bool) {ws ns ps ms bytes : List ℕ}
      → (ws ≡ cleared_if b 512 t.held) × (ns ≡ cleared_if b 128 t.next) × (ps ≡ cleared_if b 1024 t.places) × (ms ≡ cleared_if b 128 t.next_out) × (bytes ≡ cleared_if b 256 t.kept)
      → standing_of ws ns ps ms bytes t.area ≡ begun_if b t
  begun-stands b p = λ i. standing_of (p.0 i) (p.1 i) (p.2 i) (p.3 i) (p.4 i) t.area

-- the row that the chunk meets
module _ (h : Head) (t : Standing) (space s : List ℕ) (b : Beside) (cookie : List ℕ) {x : Row} (met : x ≡ row_met (bare h) b s) {y : Row} (e : x ≡ y) where
  abbrev left : RowLeft
  left = row_left h t.held t.next t.places t.next_out t.kept t.area s (length space) b cookie y

  pub row-rowed : {r : Stepped} {u : Standing} {exit : List ℕ} → (r ≡ stepped_in space left.step) × (u ≡ standing_left left) × (exit ≡ wrote_bytes space left.step.reply)
      → rowed_with r u exit ≡ rowed_over b cookie s h t space
  unfolding rowed
  row-rowed p =
      (λ i. rowed_with (p.0 i) (p.1 i) (p.2 i))
      ∙ ap (λ (z : Row). rowed_by space (row_left h t.held t.next t.places t.next_out t.kept t.area s (length space) b cookie z)) (sym e ∙ met)

  -- with nothing in the reply
  pub quiet-row-rowed : {r : Stepped} {u : Standing} → left.step.reply ≡ [] → (r ≡ stepped_with 0 left.step) × (u ≡ standing_left left) → rowed_with r u space ≡ rowed_over b cookie s h t space
  quiet-row-rowed q p =
      let k : RowTold space left.step _ space = row-quiet-told space left.step q p.0 in
      row-rowed (k.0, p.1, k.1)

-- ---- what is written

-- an output stays as long as it was
wrote-same : (out bs : List ℕ) → length (wrote_bytes out bs) ≡ length out
wrote-same out bs = go (ltb 65532 (length bs)) (ltb (length out) (length bs)) refl refl
  where
    go : (t u : Bool) → ltb 65532 (length bs) ≡ t → ltb (length out) (length bs) ≡ u → length (wrote_bytes out bs) ≡ length out
    go true u p q = ap (λ (xs : List ℕ). length xs) (sym (wrote-long {out = out} {bs = bs} refl (ltb-true 65532 (length bs) p)).bytes)
    go false true p q = ap (λ (xs : List ℕ). length xs) (sym (wrote-short {out = out} {bs = bs} refl (ltb-false 65532 (length bs) p) (ltb-true (length out) (length bs) q)).bytes)
    go false false p q =
        ap (λ (xs : List ℕ). length xs) (sym (wrote-all {out = out} {bs = bs} refl (ltb-false 65532 (length bs) p) (ltb-false (length out) (length bs) q) (holds-first out bs refl)).bytes) ∙ length-laid out 0 bs

module _ (h : Head) (held next places next_out kept area space s : List ℕ) (b : Beside) (cookie : List ℕ) where
  abbrev after : Rowed
  after = rowed b cookie s h held next places next_out kept area space

  pub rowed-wrote : Wrote space (reply_by h held next places next_out kept area s (length space) b cookie) after.stepped.written after.space
  unfolding rowed
  rowed-wrote = record { count = refl; bytes = refl }

  pub rowed-within : after.stepped.written ≤ length space
  rowed-within = wrote-within rowed-wrote

  pub rowed-space : length after.space ≡ length space
  rowed-space = ap (λ (xs : List ℕ). length xs) rowed-wrote.bytes ∙ wrote-same space _

-- ---- the tables stay as long as they are

pub record Sized (ws ns ps ms cs : List ℕ) : Type 0 where
  pub held : length ws ≡ 512
  pub next : length ns ≡ 128
  pub places : length ps ≡ 1024
  pub next_out : length ms ≡ 128
  pub kept : length cs ≡ 256

abbrev LeftSized : RowLeft → Type 0
LeftSized l = Sized l.held l.next l.places l.next_out l.kept

cleared-long : (t : Bool) (n : ℕ) (ws : List ℕ) → length ws ≡ n → length (cleared_if t n ws) ≡ n
cleared-long true n ws e = length-replicate {A = ℕ} n 0
cleared-long false n ws e = e

kept-long : (t : Bool) (s cs : List ℕ) → length cs ≡ 256 → length (kept_if t s cs) ≡ 256
kept-long true s cs e = length-laid (replicate 256 0) 0 _ ∙ length-replicate {A = ℕ} 256 0
kept-long false s cs e = e

module _ (h : Head) (held next places next_out kept area s : List ℕ) (w : Sized held next places next_out kept) where
  data-long : length (held_by h held next s) ≡ 512
  unfolding held_heard
  data-long = after-long circles rail _ held _ _ ∙ w.held

  with-held : {ws : List ℕ} → length ws ≡ 512 → Sized ws next places next_out kept
  with-held e = record { held = e; next = w.next; places = w.places; next_out = w.next_out; kept = w.kept }

  with-places : {ws : List ℕ} → length ws ≡ length places → Sized held next ws next_out kept
  with-places e = record { held = w.held; next = w.next; places = e ∙ w.places; next_out = w.next_out; kept = w.kept }

  sack-sized : Sized held next (places_sacked h.sender places s) next_out kept
  unfolding places_sacked
  sack-sized = with-places (acked-long rail h.sender places (sack_to_sender s))

  shut-sized : Sized held next (places_shut h.sender places s) next_out kept
  unfolding places_shut
  shut-sized = with-places (shut-long rail h.sender places (point_of s))

  row_sized : (room : ℕ) (b : Beside) (cookie : List ℕ) (r : Row) → LeftSized (row_left h held next places next_out kept area s room b cookie r)
  row_sized room b cookie Refused = w
  row_sized room b cookie AnswerInit = w
  row_sized room b cookie TakeInitAck = record {
    held = cleared-long (is_taken s) 512 held w.held;
    next = cleared-long (is_taken s) 128 next w.next;
    places = w.places;
    next_out = w.next_out;
    kept = kept-long (is_taken s) s kept w.kept;
  }
  row_sized room b cookie ReadEcho = record {
    held = cleared-long (is_starting h.state h.ends b.echoed s) 512 held w.held;
    next = cleared-long (is_starting h.state h.ends b.echoed s) 128 next w.next;
    places = cleared-long (is_starting h.state h.ends b.echoed s) 1024 places w.places;
    next_out = cleared-long (is_starting h.state h.ends b.echoed s) 128 next_out w.next_out;
    kept = cleared-long (is_starting h.state h.ends b.echoed s) 256 kept w.kept;
  }
  row_sized room b cookie BecomeEstablished = w
  row_sized room b cookie ReadData = with-held data-long
  row_sized room b cookie ReadLateData = with-held data-long
  row_sized room b cookie ReadSack = sack-sized
  row_sized room b cookie ReadSackPending = sack-sized
  row_sized room b cookie ReadSackReceived = sack-sized
  row_sized room b cookie EchoHeartbeat = w
  row_sized room b cookie ClearTries = w
  row_sized room b cookie BecomeClosed = w
  row_sized room b cookie PassError = w
  row_sized room b cookie ReadError = w
  row_sized room b cookie ReadShutdown = shut-sized
  row_sized room b cookie CrossShutdown = shut-sized
  row_sized room b cookie RepeatShutdownAck = shut-sized
  row_sized room b cookie RepeatAck = w
  row_sized room b cookie ReflectComplete = w
  row_sized room b cookie SendComplete = w
  row_sized room b cookie BecomeComplete = w
  row_sized room b cookie (PassUnknown k) = w
  row_sized room b cookie (TellUnknown k) = w

  pub rowed-sized : (b : Beside) (cookie space : List ℕ) → (let t : Rowed = rowed b cookie s h held next places next_out kept area space in Sized t.held t.next t.places t.next_out t.kept)
  unfolding rowed
  rowed-sized b cookie space = row_sized (length space) b cookie (row_met (bare h) b s)
