use mathlib.Core.Path.{ap, ◌∙◌}
use Rattle.numbers.specs.Numbering.{circles}
use Rattle.numbers.specs.Profile.{rail}
use Rattle.holding.specs.declared.held.Held.{Held}
use Rattle.holding.specs.Taking.{message_of}
use Rattle.holding.specs.declared.taking.Answer.TheVariants.{Taken}
use Rattle.holding.specs.TakingLaws.{found_none, written_none}
use Rattle.taking.specs.TakeWords.{ssns_advanced}
use Rattle.taking.specs.TakeWordsLaws.{place-there, given-some, given-at, words-short, words-all, words-none, ssns-short, ssns-all, ssns-none, answer-short, answer-all, answer-none, table-written-short, table-written-all}
use Rattle.taking.proofs.giving.take.Goals as goal

pub gather-requires : goal.gather-requires
gather-requires c = (place-there circles rail _ _ _ c.choose_by.ensures.0 c.in-Some.is, c.choose_by.ensures.1)

pub unwrap-count-requires : goal.unwrap-count-requires
unwrap-count-requires c = given-some circles rail _ _ _ c.choose_by.ensures.0 c.in-Some.is _ c.held_at-first.ensures c.gather.ensures

pub returns-then-out-length : goal.returns-then-out-length
returns-then-out-length c = let w = given-at circles rail _ _ _ c.choose_by.ensures.0 c.in-Some.is _ c.held_at-first.ensures c.gather.ensures c.unwrap-count.ensures in (answer-short _ _ w c.length_of-length.ensures _ c.if-out-length.true, words-short _ _ w c.length_of-length.ensures _ c.if-out-length.true, ssns-short _ _ w c.length_of-length.ensures _ c.if-out-length.true, table-written-short _ _ w c.length_of-length.ensures _ _ c.if-out-length.true)

pub returns : goal.returns
returns c = let w = given-at circles rail _ _ _ c.choose_by.ensures.0 c.in-Some.is _ c.held_at-first.ensures c.gather.ensures c.unwrap-count.ensures in (ap (λ (h : Held). Taken (message_of c.length_of-length.result h)) c.held_at-first.ensures ∙ answer-all _ _ w c.length_of-length.ensures _ c.if-out-length.false, words-all _ _ w c.length_of-length.ensures _ c.if-out-length.false c.empty.ensures, ssns-all _ _ w c.length_of-length.ensures _ c.if-out-length.false (c.advance.ensures ∙ ap (ssns_advanced _ _ _) c.held_at-first.ensures), table-written-all _ _ w c.length_of-length.ensures _ _ c.if-out-length.false c.copy_out.ensures)

pub returns-in_default : goal.returns-in_default
returns-in_default c = let e = found_none _ _ _ _ _ c.choose_by.ensures.0 c.in_default.is in (answer-none _ _ _ _ _ e _, words-none _ _ _ _ _ e _, ssns-none _ _ _ _ _ e _, written_none _ _ _ _ _ e _ _)
