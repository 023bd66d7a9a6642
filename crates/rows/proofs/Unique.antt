-- Each promise leaves one outcome: two results, and two contents of a lent buffer, that a contract allows are equal. Assumes nothing.
use mathlib.Core.Path.{◌≡◌, sym, ap, ◌∙◌}
use Rattle.rows.specs.TableRows.{Rowed}
use Rattle.rows.specs.Lending.{standing, standing_of, AreSame}
use Rattle.acks.specs.AnsweredLaws.{acked-apart}
use Rattle.rows.proofs.stepped.Stepped.accepted.Reads as accepted-reads
use Rattle.rows.proofs.stepped.Stepped.answering.Reads as answering-reads
use Rattle.rows.proofs.stepped.Stepped.owing.Reads as owing-reads
use Rattle.rows.proofs.stepped.Stepped.refused.Reads as refused-reads
use Rattle.rows.proofs.stepped.Stepped.quiet.Reads as quiet-reads
use Rattle.rows.proofs.stepped.Stepped.ending.Reads as ending-reads
use Rattle.rows.proofs.carrying.hear_data.Reads as hear-data-reads
use Rattle.rows.proofs.carrying.read_data.Reads as read-data-reads
use Rattle.rows.proofs.carrying.read_late_data.Reads as read-late-data-reads
use Rattle.rows.proofs.carrying.hear_sack.Reads as hear-sack-reads
use Rattle.rows.proofs.carrying.read_sack.Reads as read-sack-reads
use Rattle.rows.proofs.carrying.read_sack_pending.Reads as read-sack-pending-reads
use Rattle.rows.proofs.carrying.read_sack_received.Reads as read-sack-received-reads
use Rattle.rows.proofs.carrying.echo_heartbeat.Reads as echo-heartbeat-reads
use Rattle.rows.proofs.carrying.clear_tries.Reads as clear-tries-reads
use Rattle.rows.proofs.closing.become_closed.Reads as become-closed-reads
use Rattle.rows.proofs.closing.read_error.Reads as read-error-reads
use Rattle.rows.proofs.closing.read_shutdown.Reads as read-shutdown-reads
use Rattle.rows.proofs.closing.cross_shutdown.Reads as cross-shutdown-reads
use Rattle.rows.proofs.closing.repeat_shutdown_ack.Reads as repeat-shutdown-ack-reads
use Rattle.rows.proofs.closing.reflect_complete.Reads as reflect-complete-reads
use Rattle.rows.proofs.closing.send_complete.Reads as send-complete-reads
use Rattle.rows.proofs.closing.become_complete.Reads as become-complete-reads
use Rattle.rows.proofs.opening.answer_init.Reads as answer-init-reads
use Rattle.rows.proofs.opening.take_init_ack.Reads as take-init-ack-reads
use Rattle.rows.proofs.opening.repeat_ack.Reads as repeat-ack-reads
use Rattle.rows.proofs.opening.read_echo.Reads as read-echo-reads
use Rattle.rows.proofs.unknown.pass_unknown.Reads as pass-unknown-reads
use Rattle.rows.proofs.unknown.tell_unknown.Reads as tell-unknown-reads
use Rattle.rows.proofs.chunk.step.Reads as step-reads

pub accepted-unique : (κs : _) (a : _) (r q : _) (s t : _) → accepted-reads.Post κs a r s → accepted-reads.Post κs a q t → r ≡ q
accepted-unique κs a r q s t x y = x ∙ sym y

pub answering-unique : (κs : _) (a : _) (r q : _) (s t : _) → answering-reads.Post κs a r s → answering-reads.Post κs a q t → r ≡ q
answering-unique κs a r q s t x y = x ∙ sym y

pub owing-unique : (κs : _) (a : _) (r q : _) (s t : _) → owing-reads.Post κs a r s → owing-reads.Post κs a q t → r ≡ q
owing-unique κs a r q s t x y = x ∙ sym y

pub refused-unique : (κs : _) (a : _) (r q : _) (s t : _) → refused-reads.Post κs a r s → refused-reads.Post κs a q t → r ≡ q
refused-unique κs a r q s t x y = x ∙ sym y

pub quiet-unique : (κs : _) (a : _) (r q : _) (s t : _) → quiet-reads.Post κs a r s → quiet-reads.Post κs a q t → r ≡ q
quiet-unique κs a r q s t x y = x ∙ sym y

pub ending-unique : (κs : _) (a : _) (r q : _) (s t : _) → ending-reads.Post κs a r s → ending-reads.Post κs a q t → r ≡ q
ending-unique κs a r q s t x y = x ∙ sym y

pub hear-data-unique : (κs : _) (a : _) (r q : _) (s t : _) → hear-data-reads.Post κs a r s → hear-data-reads.Post κs a q t → (r ≡ q) × (s.1.1.0.now ≡ t.1.1.0.now) × (s.1.1.1.1.0.now ≡ t.1.1.1.1.0.now)
hear-data-unique κs a r q s t x y = (x.0 ∙ sym y.0, x.1 ∙ sym y.1, x.2 ∙ sym y.2)

pub read-data-unique : (κs : _) (a : _) (r q : _) (s t : _) → read-data-reads.Post κs a r s → read-data-reads.Post κs a q t → (r ≡ q) × (s.1.0.now ≡ t.1.0.now) × (s.1.1.1.0.now ≡ t.1.1.1.0.now)
read-data-unique κs a r q s t x y = (x.0 ∙ sym y.0, x.1 ∙ sym y.1, x.2 ∙ sym y.2)

pub read-late-data-unique : (κs : _) (a : _) (r q : _) (s t : _) → read-late-data-reads.Post κs a r s → read-late-data-reads.Post κs a q t → (r ≡ q) × (s.1.0.now ≡ t.1.0.now) × (s.1.1.1.0.now ≡ t.1.1.1.0.now)
read-late-data-unique κs a r q s t x y = (x.0 ∙ sym y.0, x.1 ∙ sym y.1, x.2 ∙ sym y.2)

pub hear-sack-unique : (κs : _) (a : _) (r q : _) (s t : _) → hear-sack-reads.Post κs a r s → hear-sack-reads.Post κs a q t → (r ≡ q) × (s.1.0.now ≡ t.1.0.now)
hear-sack-unique κs a r q s t x y = (acked-apart a.0 r q (x.0 ∙ sym y.0), x.1 ∙ sym y.1)

pub read-sack-unique : (κs : _) (a : _) (r q : _) (s t : _) → read-sack-reads.Post κs a r s → read-sack-reads.Post κs a q t → (r ≡ q) × (s.1.0.now ≡ t.1.0.now)
read-sack-unique κs a r q s t x y = (x.0 ∙ sym y.0, x.1 ∙ sym y.1)

pub read-sack-pending-unique : (κs : _) (a : _) (r q : _) (s t : _) → read-sack-pending-reads.Post κs a r s → read-sack-pending-reads.Post κs a q t → (r ≡ q) × (s.1.0.now ≡ t.1.0.now)
read-sack-pending-unique κs a r q s t x y = (x.0 ∙ sym y.0, x.1 ∙ sym y.1)

pub read-sack-received-unique : (κs : _) (a : _) (r q : _) (s t : _) → read-sack-received-reads.Post κs a r s → read-sack-received-reads.Post κs a q t → (r ≡ q) × (s.1.0.now ≡ t.1.0.now) × (s.1.1.1.0.now ≡ t.1.1.1.0.now)
read-sack-received-unique κs a r q s t x y = (x.0 ∙ sym y.0, x.1 ∙ sym y.1, x.2 ∙ sym y.2)

pub echo-heartbeat-unique : (κs : _) (a : _) (r q : _) (s t : _) → echo-heartbeat-reads.Post κs a r s → echo-heartbeat-reads.Post κs a q t → (r ≡ q) × (s.1.1.0.now ≡ t.1.1.0.now)
echo-heartbeat-unique κs a r q s t x y = (x.0 ∙ sym y.0, x.1 ∙ sym y.1)

pub clear-tries-unique : (κs : _) (a : _) (r q : _) (s t : _) → clear-tries-reads.Post κs a r s → clear-tries-reads.Post κs a q t → r ≡ q
clear-tries-unique κs a r q s t x y = x ∙ sym y

pub become-closed-unique : (κs : _) (a : _) (r q : _) (s t : _) → become-closed-reads.Post κs a r s → become-closed-reads.Post κs a q t → r ≡ q
become-closed-unique κs a r q s t x y = x ∙ sym y

pub read-error-unique : (κs : _) (a : _) (r q : _) (s t : _) → read-error-reads.Post κs a r s → read-error-reads.Post κs a q t → r ≡ q
read-error-unique κs a r q s t x y = x ∙ sym y

pub read-shutdown-unique : (κs : _) (a : _) (r q : _) (s t : _) → read-shutdown-reads.Post κs a r s → read-shutdown-reads.Post κs a q t → (r ≡ q) × (s.1.0.now ≡ t.1.0.now) × (s.1.1.1.0.now ≡ t.1.1.1.0.now)
read-shutdown-unique κs a r q s t x y = (x.0 ∙ sym y.0, x.1 ∙ sym y.1, x.2 ∙ sym y.2)

pub cross-shutdown-unique : (κs : _) (a : _) (r q : _) (s t : _) → cross-shutdown-reads.Post κs a r s → cross-shutdown-reads.Post κs a q t → (r ≡ q) × (s.1.0.now ≡ t.1.0.now) × (s.1.1.1.0.now ≡ t.1.1.1.0.now)
cross-shutdown-unique κs a r q s t x y = (x.0 ∙ sym y.0, x.1 ∙ sym y.1, x.2 ∙ sym y.2)

pub repeat-shutdown-ack-unique : (κs : _) (a : _) (r q : _) (s t : _) → repeat-shutdown-ack-reads.Post κs a r s → repeat-shutdown-ack-reads.Post κs a q t → (r ≡ q) × (s.1.0.now ≡ t.1.0.now) × (s.1.1.1.0.now ≡ t.1.1.1.0.now)
repeat-shutdown-ack-unique κs a r q s t x y = (x.0 ∙ sym y.0, x.1 ∙ sym y.1, x.2 ∙ sym y.2)

pub reflect-complete-unique : (κs : _) (a : _) (r q : _) (s t : _) → reflect-complete-reads.Post κs a r s → reflect-complete-reads.Post κs a q t → r ≡ q
reflect-complete-unique κs a r q s t x y = x ∙ sym y

pub send-complete-unique : (κs : _) (a : _) (r q : _) (s t : _) → send-complete-reads.Post κs a r s → send-complete-reads.Post κs a q t → r ≡ q
send-complete-unique κs a r q s t x y = x ∙ sym y

pub become-complete-unique : (κs : _) (a : _) (r q : _) (s t : _) → become-complete-reads.Post κs a r s → become-complete-reads.Post κs a q t → r ≡ q
become-complete-unique κs a r q s t x y = x ∙ sym y

pub answer-init-unique : (κs : _) (a : _) (r q : _) (s t : _) → answer-init-reads.Post κs a r s → answer-init-reads.Post κs a q t → (r ≡ q) × (s.1.1.1.1.0.now ≡ t.1.1.1.1.0.now)
answer-init-unique κs a r q s t x y = (x.0 ∙ sym y.0, x.1 ∙ sym y.1)

pub repeat-ack-unique : (κs : _) (a : _) (r q : _) (s t : _) → repeat-ack-reads.Post κs a r s → repeat-ack-reads.Post κs a q t → (r ≡ q) × (s.1.1.0.now ≡ t.1.1.0.now)
repeat-ack-unique κs a r q s t x y = (x.0 ∙ sym y.0, x.1 ∙ sym y.1)

pub take-init-ack-unique : (κs : _) (a : _) (r q : _) (s t : _) → take-init-ack-reads.Post κs a r s → take-init-ack-reads.Post κs a q t → (r ≡ q) × (s.1.0.now ≡ t.1.0.now) × (s.1.1.0.now ≡ t.1.1.0.now) × (s.1.1.1.0.now ≡ t.1.1.1.0.now) × (s.1.1.1.1.1.0.now ≡ t.1.1.1.1.1.0.now)
take-init-ack-unique κs a r q s t x y = (x.0 ∙ sym y.0, x.1 ∙ sym y.1, x.2 ∙ sym y.2, x.3 ∙ sym y.3, x.4 ∙ sym y.4)

pub read-echo-unique : (κs : _) (a : _) (r q : _) (s t : _) → read-echo-reads.Post κs a r s → read-echo-reads.Post κs a q t → (r ≡ q) × (s.1.0.now ≡ t.1.0.now) × (s.1.1.0.now ≡ t.1.1.0.now) × (s.1.1.1.0.now ≡ t.1.1.1.0.now) × (s.1.1.1.1.0.now ≡ t.1.1.1.1.0.now) × (s.1.1.1.1.1.0.now ≡ t.1.1.1.1.1.0.now) × (s.1.1.1.1.1.1.1.1.1.0.now ≡ t.1.1.1.1.1.1.1.1.1.0.now)
read-echo-unique κs a r q s t x y = (x.0 ∙ sym y.0, x.1 ∙ sym y.1, x.2 ∙ sym y.2, x.3 ∙ sym y.3, x.4 ∙ sym y.4, x.5 ∙ sym y.5, x.6 ∙ sym y.6)

pub pass-unknown-unique : (κs : _) (a : _) (r q : _) (s t : _) → pass-unknown-reads.Post κs a r s → pass-unknown-reads.Post κs a q t → r ≡ q
pass-unknown-unique κs a r q s t x y = x ∙ sym y

pub tell-unknown-unique : (κs : _) (a : _) (r q : _) (s t : _) → tell-unknown-reads.Post κs a r s → tell-unknown-reads.Post κs a q t → (r ≡ q) × (s.1.1.1.0.now ≡ t.1.1.1.0.now)
tell-unknown-unique κs a r q s t x y = (x.0 ∙ sym y.0, x.1 ∙ sym y.1)

pub step-unique : (κs : _) (a : _) (r q : _) (s t : _) → step-reads.Post κs a r s → step-reads.Post κs a q t → (r ≡ q) × (AreSame s.1.0.now t.1.0.now) × (standing s.1.0.now ≡ standing t.1.0.now) × (s.1.1.1.1.1.0.now ≡ t.1.1.1.1.1.0.now)
step-unique κs a r q s t x y =
    let e = x.1 ∙ sym y.1 in
    let f = x.0 in
    let g = y.0 in
    (ap (λ (u : Rowed). u.stepped) e, (g.0 ∙ sym f.0, g.1 ∙ sym f.1, g.2 ∙ sym f.2, g.3 ∙ sym f.3, g.4 ∙ sym f.4, g.5 ∙ sym f.5), ap (λ (u : Rowed). standing_of u.held u.next u.places u.next_out u.kept u.area) e, ap (λ (u : Rowed). u.space) e)
