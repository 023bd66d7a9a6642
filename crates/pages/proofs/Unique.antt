-- Each promise leaves one outcome: two results, and two contents of a lent buffer, that a contract allows are equal.
-- Assumes nothing.
use mathlib.Core.Path.{◌≡◌, sym, ◌∙◌}
use Rattle.pages.proofs.page.plus.Reads as plus-reads
use Rattle.pages.proofs.page.say.Reads as say-reads
use Rattle.pages.proofs.page.say_number.Reads as say-number-reads
use Rattle.pages.proofs.page.say_named.Reads as say-named-reads
use Rattle.pages.proofs.page.say_packet.Reads as say-packet-reads
use Rattle.pages.proofs.page.same.Reads as same_Reads
use Rattle.pages.proofs.page.say_answer.Reads as say-answer-reads
use Rattle.pages.proofs.page.say_unread.Reads as say-unread-reads
use Rattle.pages.proofs.reading.find.Reads as find-reads
use Rattle.pages.proofs.reading.between.Reads as between-reads
use Rattle.pages.proofs.reading.line_at.Reads as line-at-reads
use Rattle.pages.proofs.reading.line_after.Reads as line-after-reads
use Rattle.pages.proofs.reading.is_heading.Reads as is-heading-reads
use Rattle.pages.proofs.reading.deed.Reads as deed-reads
use Rattle.pages.proofs.reading.should.Reads as should-reads
use Rattle.pages.proofs.reading.rest.Reads as rest-reads
use Rattle.pages.proofs.reading.first.Reads as first_reads
use Rattle.pages.proofs.reading.word.Reads as word-reads
use Rattle.pages.proofs.reading.value.Reads as value-reads
use Rattle.pages.proofs.reading.value32.Reads as value32-reads
use Rattle.pages.proofs.reading.value16.Reads as value16-reads
use Rattle.pages.proofs.reading.spell.Reads as spell-reads

pub plus-unique : (κs : _) (a : _) (r q : _) (s t : _) → plus-reads.Post κs a r s → plus-reads.Post κs a q t → r ≡ q
plus-unique κs a r q s t x y = x ∙ sym y

pub say-unique : (κs : _) (a : _) (r q : _) (s t : _) → say-reads.Post κs a r s → say-reads.Post κs a q t → r ≡ q
say-unique κs a r q s t x y = x ∙ sym y

pub say-number-unique : (κs : _) (a : _) (r q : _) (s t : _) → say-number-reads.Post κs a r s → say-number-reads.Post κs a q t → r ≡ q
say-number-unique κs a r q s t x y = x ∙ sym y

pub say-named-unique : (κs : _) (a : _) (r q : _) (s t : _) → say-named-reads.Post κs a r s → say-named-reads.Post κs a q t → r ≡ q
say-named-unique κs a r q s t x y = x ∙ sym y

pub say-packet-unique : (κs : _) (a : _) (r q : _) (s t : _) → say-packet-reads.Post κs a r s → say-packet-reads.Post κs a q t → r ≡ q
say-packet-unique κs a r q s t x y = x ∙ sym y

pub same-unique : (κs : _) (a : _) (r q : _) (s t : _) → same_Reads.Post κs a r s → same_Reads.Post κs a q t → r ≡ q
same-unique κs a r q s t x y = x ∙ sym y

pub say-answer-unique : (κs : _) (a : _) (r q : _) (s t : _) → say-answer-reads.Post κs a r s → say-answer-reads.Post κs a q t → r ≡ q
say-answer-unique κs a r q s t x y = x ∙ sym y

pub say-unread-unique : (κs : _) (a : _) (r q : _) (s t : _) → say-unread-reads.Post κs a r s → say-unread-reads.Post κs a q t → r ≡ q
say-unread-unique κs a r q s t x y = x ∙ sym y

pub find-unique : (κs : _) (a : _) (r q : _) (s t : _) → find-reads.Post κs a r s → find-reads.Post κs a q t → r ≡ q
find-unique κs a r q s t x y = x ∙ sym y

pub between-unique : (κs : _) (a : _) (r q : _) (s t : _) → between-reads.Post κs a r s → between-reads.Post κs a q t → r.now ≡ q.now
between-unique κs a r q s t x y = x ∙ sym y

pub line-at-unique : (κs : _) (a : _) (r q : _) (s t : _) → line-at-reads.Post κs a r s → line-at-reads.Post κs a q t → r.now ≡ q.now
line-at-unique κs a r q s t x y = x ∙ sym y

pub line-after-unique : (κs : _) (a : _) (r q : _) (s t : _) → line-after-reads.Post κs a r s → line-after-reads.Post κs a q t → r ≡ q
line-after-unique κs a r q s t x y = x.0 ∙ sym y.0

pub is-heading-unique : (κs : _) (a : _) (r q : _) (s t : _) → is-heading-reads.Post κs a r s → is-heading-reads.Post κs a q t → r ≡ q
is-heading-unique κs a r q s t x y = x ∙ sym y

pub deed-unique : (κs : _) (a : _) (r q : _) (s t : _) → deed-reads.Post κs a r s → deed-reads.Post κs a q t → r.now ≡ q.now
deed-unique κs a r q s t x y = x ∙ sym y

pub should-unique : (κs : _) (a : _) (r q : _) (s t : _) → should-reads.Post κs a r s → should-reads.Post κs a q t → r.now ≡ q.now
should-unique κs a r q s t x y = x ∙ sym y

pub rest-unique : (κs : _) (a : _) (r q : _) (s t : _) → rest-reads.Post κs a r s → rest-reads.Post κs a q t → r.now ≡ q.now
rest-unique κs a r q s t x y = x ∙ sym y

pub first-unique : (κs : _) (a : _) (r q : _) (s t : _) → first_reads.Post κs a r s → first_reads.Post κs a q t → r.now ≡ q.now
first-unique κs a r q s t x y = x ∙ sym y

pub word-unique : (κs : _) (a : _) (r q : _) (s t : _) → word-reads.Post κs a r s → word-reads.Post κs a q t → r.now ≡ q.now
word-unique κs a r q s t x y = x ∙ sym y

pub value-unique : (κs : _) (a : _) (r q : _) (s t : _) → value-reads.Post κs a r s → value-reads.Post κs a q t → r ≡ q
value-unique κs a r q s t x y = x ∙ sym y

pub value32-unique : (κs : _) (a : _) (r q : _) (s t : _) → value32-reads.Post κs a r s → value32-reads.Post κs a q t → r ≡ q
value32-unique κs a r q s t x y = x ∙ sym y

pub value16-unique : (κs : _) (a : _) (r q : _) (s t : _) → value16-reads.Post κs a r s → value16-reads.Post κs a q t → r ≡ q
value16-unique κs a r q s t x y = x ∙ sym y

pub spell-unique : (κs : _) (a : _) (r q : _) (s t : _) → spell-reads.Post κs a r s → spell-reads.Post κs a q t → (r ≡ q) × (s.1.0.now ≡ t.1.0.now)
spell-unique κs a r q s t x y = (x.0 ∙ sym y.0, x.1 ∙ sym y.1)
