-- Every chunk's reply is made of chunks that may share a packet, or is one that stands alone. Assumes nothing.
use Rattle.std.specs.Prelude.{ℕ, ◌-◌, ◌≡◌, refl, true, false, List, [], ◌∷◌, ◌++◌, ltb, length, take}
use Rattle.std.proofs.Common.{sym, ap, ◌∙◌, append-nil, append_assoc, arith}
use Rattle.scans.specs.Each.{All, all_map, clash}
use Rattle.scans.specs.Upto.{pick-keeps}
use Rattle.numbers.specs.declared.circle.Tsn.{Tsn}
use Rattle.octets.specs.Bytes.{u8}
use Rattle.octets.specs.Walk.{joined}
use Rattle.octets.specs.Writing.{fitting, both_fitting}
use Rattle.chunks.specs.Frame.{framed, bytes_in, chunk_end}
use Rattle.chunks.specs.Cause.{caused}
use Rattle.chunks.specs.Kind.{kind_of}
use Rattle.chunks.specs.declared.init.Init.{Init}
use Rattle.chunks.specs.declared.kind.Kind.TheVariants as kinds
use Rattle.chunks.specs.FrameLaws.{Carried}
use Rattle.chunks.specs.FrameLaws.Carried.{none, whole}
use Rattle.chunks.specs.KindLaws.{init-only}
use Rattle.chunks.specs.ShutdownChunk.{shutdown_bytes}
use Rattle.chunks.specs.CookieChunk.{longest_cookie, cookie_echo_bytes}
use Rattle.chunks.specs.CookieLaws.{echo-carried}
use Rattle.packets.specs.ShapeLaws.{not-alone}
use Rattle.packets.specs.Body.{ChunkSound, Together}
use Rattle.packets.specs.BodyLaws.{plain, plain-sound}
use Rattle.parameters.specs.Parameter.{NAME, params_of, value_of}
use Rattle.parameters.specs.Report.{ROOM, gather_all, error_parameters_bytes, init_ack_bytes}
use Rattle.parameters.specs.ReportLaws.{init-ack-carried, error-carried}
use Rattle.replies.specs.PassingLaws.{shutdown-passes, init-ack-passes}
use Rattle.steps.specs.declared.verdict.Owed.{Owed}
use Rattle.steps.specs.declared.verdict.Owed.TheVariants.{To}
use Rattle.steps.specs.Replying.{Replying}
use Rattle.steps.specs.Replying.Replying.{silent, heartbeat-ack, abort, shutdown-ack, error, cookie-ack, cookie-echo, shutting, init-ack}
use Rattle.replies.specs.Reply.{Shareable, Shared, ReplyFits, RepliesPacked}
use Rattle.replies.specs.Reply.ReplyFits.{several, single}

-- ---- chunks that may share a packet

pub shared-none : Shared []
shared-none = record { chunks = []; each = tt; is = refl }

pub one-shared : {c : List ℕ} → Shareable c → Shared c
one-shared {c} h = record { chunks = c ∷ []; each = (h, tt); is = sym (append-nil c) }

joins : (cs ds : List (List ℕ)) → joined cs ++ joined ds ≡ joined (cs ++ ds)
joins [] ds = refl
joins (c ∷ cs) ds = append_assoc c (joined cs) (joined ds) ∙ ap (λ (l : List ℕ). c ++ l) (joins cs ds)

each_both : (cs ds : List (List ℕ)) → All Shareable cs → All Shareable ds → All Shareable (cs ++ ds)
each_both [] ds v w = w
each_both (c ∷ cs) ds v w = (v.0, each_both cs ds v.1 w)

pub shared-both : {a b : List ℕ} → Shared a → Shared b → Shared (a ++ b)
shared-both v w = record {
  chunks = v.chunks ++ w.chunks;
  each = each_both v.chunks w.chunks v.each w.each;
  is = (λ i. v.is i ++ w.is i) ∙ joins v.chunks w.chunks;
}

pub shared-as : {a b : List ℕ} → a ≡ b → Shared b → Shared a
shared-as e w = record { chunks = w.chunks; each = w.each; is = e ∙ w.is }

-- what no longer fits is left out whole
pub shared-fitting : (room : ℕ) {bs : List ℕ} → Shared bs → Shared (fitting room bs)
shared-fitting room {bs} w = pick-keeps Shared (ltb room (length bs)) [] bs shared-none w

-- ---- the chunks that we reply with

-- types 4, 5, 6, 8, 9, 10 and 11
plain-shares : (k f : ℕ) (v : List ℕ) → plain k ≡ true → (k ≡ 14 → ⊥) → Shareable (framed k f v)
plain-shares k f v p n = record {
  sound = plain-sound k f v p;
  beside = not-alone (framed k f v) (λ e. clash (sym (ap plain e) ∙ p)) (λ e. clash (sym (ap plain e) ∙ p)) n;
}

pub shutdown-shares : (point : Tsn) → Shareable (shutdown_bytes point)
shutdown-shares point = record {
  sound = shutdown-passes point;
  beside = not-alone (shutdown_bytes point) (λ e. omega (arith, e)) (λ e. omega (arith, e)) (λ e. omega (arith, e));
}

carried-shares : {most : ℕ} {c bs x : List ℕ} → Carried most c bs x → Shareable bs → Shared x
carried-shares (none e) h = shared-as e shared-none
carried-shares (whole l n e) h = shared-as e (one-shared h)

echo-shares : (c : List ℕ) → Shared (cookie_echo_bytes c)
echo-shares c = carried-shares (echo-carried c) (plain-shares 10 0 c refl (λ e. omega (arith, e)))

report-shares : (s : List ℕ) → Shared (error_parameters_bytes s)
report-shares s = carried-shares (error-carried s) (plain-shares 9 0 (caused 8 (gather_all ROOM false [] (params_of s))) refl (λ e. omega (arith, e)))

both-share : (room : ℕ) {a b : List ℕ} → Shared a → Shared b → Shared (both_fitting room a b)
both-share room {a} v w = shared-both (shared-fitting room v) (shared-fitting (room - length (fitting room a)) w)

-- ---- every chunk's reply

-- an INIT ACK, where its cookie has a length that it may have
ack-fits : (v : Init) (tag : ℕ) (c s : List ℕ) {o : Owed} {y : List ℕ} → kind_of (u8 s 0) ≡ kinds.Init → o ≡ To tag → Carried longest_cookie c y (init_ack_bytes v c s) → ReplyFits s o (init_ack_bytes v c s)
ack-fits v tag c s k o (none e) = several (shared-as e shared-none)
ack-fits v tag c s k o (whole l n e) = single tag (init-only (u8 s 0) k) o (init-ack-passes v c s l n)

pub reply-fits : {room : ℕ} {cookie s : List ℕ} {o : Owed} {bs : List ℕ} → Replying room cookie s o bs → ReplyFits s o bs
reply-fits (silent e) = several (shared-as e shared-none)
reply-fits (heartbeat-ack v e) = several (shared-as e (one-shared (plain-shares 5 0 v refl (λ z. omega (arith, z)))))
reply-fits {s = s} (abort e) = several (shared-as e (one-shared (plain-shares 6 0 (caused 5 (bytes_in s (value_of NAME 0 s))) refl (λ z. omega (arith, z)))))
reply-fits (shutdown-ack e) = several (shared-as e (one-shared (plain-shares 8 0 [] refl (λ z. omega (arith, z)))))
reply-fits {s = s} (error e) = several (shared-as e (one-shared (plain-shares 9 0 (caused 6 (take (chunk_end s) s)) refl (λ z. omega (arith, z)))))
reply-fits (cookie-ack e) = several (shared-as e (one-shared (plain-shares 11 0 [] refl (λ z. omega (arith, z)))))
reply-fits {room} {s = s} (cookie-echo c e) = several (shared-as e (both-share room (echo-shares c) (report-shares s)))
reply-fits {room} (shutting e) =
    several (shared-as e (both-share room (one-shared (plain-shares 8 0 [] refl (λ z. omega (arith, z)))) (one-shared (plain-shares 9 0 (caused 10 []) refl (λ z. omega (arith, z))))))
reply-fits {cookie = cookie} {s = s} (init-ack v tag k o e) = rw e (ack-fits v tag cookie s k o (init-ack-carried v cookie s))

pub fits-fitting : (room : ℕ) {s : List ℕ} {o : Owed} {bs : List ℕ} → ReplyFits s o bs → ReplyFits s o (fitting room bs)
fits-fitting room {s} {o} {bs} w = pick-keeps (ReplyFits s o) (ltb room (length bs)) [] bs (several shared-none) w

-- ---- in one packet

pub sound-packed : {c : List ℕ} → ChunkSound c → RepliesPacked c
sound-packed {c} h = record { chunks = c ∷ []; sound = (h, tt); together = tt; is = sym (append-nil c) }

pub shared-packed : {bs : List ℕ} → Shared bs → RepliesPacked bs
shared-packed {bs} w = record {
  chunks = w.chunks;
  sound = all_map (λ c h. h.sound) w.chunks w.each;
  together = go w.chunks w.each;
  is = w.is;
}
  where
    go : (cs : List (List ℕ)) → All Shareable cs → Together cs
    go [] v = tt
    go (c ∷ []) v = tt
    go (c ∷ d ∷ cs) v = all_map (λ x h. h.beside) (c ∷ d ∷ cs) v
