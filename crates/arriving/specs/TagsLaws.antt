-- What carries another tag than ours is refused 4: so, after a restart, what is of the old life. Assumes nothing.
use Rattle.std.specs.Prelude.{ℕ, ◌≡◌, refl, Bool, true, false, ◌⊎◌, List, eqb}
use Rattle.std.proofs.Common.{sym, ap, ◌∙◌, inl, inr, ne_eqb}
use Rattle.std.proofs.lemmas.Bool.{eqb-false}
use Rattle.scans.specs.Scan.{pick}
use Rattle.octets.specs.Bytes.{u8}
use Rattle.chunks.specs.Frame.{flagged}
use Rattle.packets.specs.declared.header.Header.{Header}
use Rattle.states.specs.Tries.{is_closed}
use Rattle.association.specs.declared.ends.Association.{Association}
use Rattle.steps.specs.declared.lent.Made.{Made}
use Rattle.steps.specs.declared.lent.Echoed.{Echoed}
use Rattle.steps.specs.declared.meeting.Action.TheVariants.{Restart}
use Rattle.steps.specs.Meeting.{action_of, starts_anew, acts}
use Rattle.steps.specs.MeetingLaws.{restart-tag, start-fresh}
use Rattle.arriving.specs.Tags.{are_ports, is_reflecting, rule_of, rule_for, is_tag, head_number}

-- an INIT, a COOKIE ECHO, and an ABORT or SHUTDOWN COMPLETE with the T bit have rules of their own; any other packet with another tag is refused
pub other_tag : (a : Association) (h : Header) (s : List ℕ) (w : Echoed) → is_closed a.state ≡ false → eqb (u8 s 0) 1 ≡ false → eqb (u8 s 0) 10 ≡ false
    → is_reflecting (u8 s 0) (flagged s 1) ≡ false → eqb h.tag a.ends.my_tag ≡ false → head_number a h s w ≡ 4
unfolding head_number rule_for rule_of
other_tag a h s w o i e r t = rw (o, i, e, r, t) (go (are_ports a.state a.ends h) 4)
  where
    go : (p : Bool) (n : ℕ) → pick p n n ≡ n
    go true n = refl
    go false n = refl

-- "messages of the old life are not delivered in the new one" (02, T-08): after a restart our tag of before is another
pub old-life-out : (room : ℕ) (a : Association) (source : ℕ) (m : Made) → action_of a.state a.ends m ≡ Restart → starts_anew Restart a.state ≡ true
    → (h : Header) (s : List ℕ) (w : Echoed) → h.tag ≡ a.ends.my_tag → eqb (u8 s 0) 1 ≡ false → eqb (u8 s 0) 10 ≡ false → is_reflecting (u8 s 0) (flagged s 1) ≡ false
    → head_number (acts room a source m Restart).association h s w ≡ 4
old-life-out room a source m x q h s w t i e r =
    ap (λ (b : Association). head_number b h s w) (start-fresh room a source m Restart q)
    ∙ other_tag _ h s w refl i e r (ne_eqb h.tag m.my_tag (λ d. eqb-false m.my_tag a.ends.my_tag (restart-tag a.state a.ends m x) (sym d ∙ t)))

-- 4, or no number
pub head-or-none : (a : Association) (h : Header) (s : List ℕ) (w : Echoed) → (head_number a h s w ≡ 0) ⊎ (head_number a h s w ≡ 4)
unfolding head_number
head-or-none a h s w = go (are_ports a.state a.ends h) (is_tag (rule_for a.state a.ends s w) h.tag)
  where
    go : (x y : Bool) → ◌≡◌ {A = ℕ} (pick x (pick y 0 4) 4) 0 ⊎ ◌≡◌ {A = ℕ} (pick x (pick y 0 4) 4) 4
    go true true = inl refl
    go true false = inr refl
    go false y = inr refl
