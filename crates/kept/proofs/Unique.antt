-- Each promise leaves one outcome: two results that a contract allows are equal. Assumes nothing.
use mathlib.Core.Path.{◌≡◌, sym, ◌∙◌}
use Rattle.kept.proofs.flags.is_yes.Reads as is-yes-reads
use Rattle.kept.proofs.flags.byte_of.Reads as byte-of-reads
use Rattle.kept.proofs.head.is_named.Reads as is-named-reads
use Rattle.kept.proofs.head.unpack.Reads as unpack-reads
use Rattle.kept.proofs.head.pack.Reads as pack-reads
use Rattle.kept.proofs.word.echoed_of.Reads as echoed-of-reads
use Rattle.kept.proofs.cause.reason_of.Reads as reason-of-reads
use Rattle.kept.proofs.parts.KeepingFromKeptKeeping.from.Reads as keeping-from-reads
use Rattle.kept.proofs.parts.KeptKeepingFromKeeping.from.Reads as kept-keeping-from-reads
use Rattle.kept.proofs.parts.PathFromKeptPath.from.Reads as path-from-reads
use Rattle.kept.proofs.parts.KeptPathFromPath.from.Reads as kept-path-from-reads
use Rattle.kept.proofs.parts.SenderFromKeptSender.from.Reads as sender-from-reads
use Rattle.kept.proofs.parts.KeptSenderFromSender.from.Reads as kept-sender-from-reads

pub is-yes-unique : (κs : _) (a : _) (r q : _) (s t : _) → is-yes-reads.Post κs a r s → is-yes-reads.Post κs a q t → r ≡ q
is-yes-unique κs a r q s t x y = x ∙ sym y

pub byte-of-unique : (κs : _) (a : _) (r q : _) (s t : _) → byte-of-reads.Post κs a r s → byte-of-reads.Post κs a q t → r ≡ q
byte-of-unique κs a r q s t x y = x ∙ sym y

pub is-named-unique : (κs : _) (a : _) (r q : _) (s t : _) → is-named-reads.Post κs a r s → is-named-reads.Post κs a q t → r ≡ q
is-named-unique κs a r q s t x y = x ∙ sym y

pub unpack-unique : (κs : _) (a : _) (r q : _) (s t : _) → unpack-reads.Post κs a r s → unpack-reads.Post κs a q t → r ≡ q
unpack-unique κs a r q s t x y = x ∙ sym y

pub pack-unique : (κs : _) (a : _) (r q : _) (s t : _) → pack-reads.Post κs a r s → pack-reads.Post κs a q t → r ≡ q
pack-unique κs a r q s t x y = x ∙ sym y

pub echoed-of-unique : (κs : _) (a : _) (r q : _) (s t : _) → echoed-of-reads.Post κs a r s → echoed-of-reads.Post κs a q t → r ≡ q
echoed-of-unique κs a r q s t x y = x ∙ sym y

pub reason-of-unique : (κs : _) (a : _) (r q : _) (s t : _) → reason-of-reads.Post κs a r s → reason-of-reads.Post κs a q t → r ≡ q
reason-of-unique κs a r q s t x y = x ∙ sym y

pub keeping-from-unique : (κs : _) (a : _) (r q : _) (s t : _) → keeping-from-reads.Post κs a r s → keeping-from-reads.Post κs a q t → r ≡ q
keeping-from-unique κs a r q s t x y = x ∙ sym y

pub kept-keeping-from-unique : (κs : _) (a : _) (r q : _) (s t : _) → kept-keeping-from-reads.Post κs a r s → kept-keeping-from-reads.Post κs a q t → r ≡ q
kept-keeping-from-unique κs a r q s t x y = x ∙ sym y

pub path-from-unique : (κs : _) (a : _) (r q : _) (s t : _) → path-from-reads.Post κs a r s → path-from-reads.Post κs a q t → r ≡ q
path-from-unique κs a r q s t x y = x ∙ sym y

pub kept-path-from-unique : (κs : _) (a : _) (r q : _) (s t : _) → kept-path-from-reads.Post κs a r s → kept-path-from-reads.Post κs a q t → r ≡ q
kept-path-from-unique κs a r q s t x y = x ∙ sym y

pub sender-from-unique : (κs : _) (a : _) (r q : _) (s t : _) → sender-from-reads.Post κs a r s → sender-from-reads.Post κs a q t → r ≡ q
sender-from-unique κs a r q s t x y = x ∙ sym y

pub kept-sender-from-unique : (κs : _) (a : _) (r q : _) (s t : _) → kept-sender-from-reads.Post κs a r s → kept-sender-from-reads.Post κs a q t → r ≡ q
kept-sender-from-unique κs a r q s t x y = x ∙ sym y
