use Rattle.numbers.specs.Profile.{rail}
use Rattle.std.proofs.Common.{◌-◌, sym, refl, ◌∙◌}
use Rattle.messages.specs.MessageWords.{refused-19, refused-20, refused_none, handing-by, words-kept, words-laid, area-kept, area-laid}
use Rattle.messages.proofs.hand_in.Goals as goal

pub returns-then-is_refused : goal.returns-then-is_refused
returns-then-is_refused c = let t = sym c.is_refused.ensures ∙ c.if-is_refused.true in record { value = handing-by rail _ _ _ _ _ (refused-19 rail _ _ _ _ _ t) refl; t_after = words-kept rail _ _ _ _ _ (refused-19 rail _ _ _ _ _ t) _ _ refl; area_after = area-kept rail _ _ _ _ _ _ (refused-19 rail _ _ _ _ _ t) refl }

pub returns-then-r-n : goal.returns-then-r-n
returns-then-r-n c = let t = sym c.is_refused.ensures ∙ c.if-is_refused.false in let a = c.room_of-r.ensures.0 in let b = c.chunks-n.ensures in let l = c.if-r-n.true in record { value = handing-by rail _ _ _ _ _ (refused-20 rail _ _ _ _ _ t a b l) refl; t_after = words-kept rail _ _ _ _ _ (refused-20 rail _ _ _ _ _ t a b l) _ _ refl; area_after = area-kept rail _ _ _ _ _ _ (refused-20 rail _ _ _ _ _ t a b l) refl }

pub returns : goal.returns
returns c = let t = sym c.is_refused.ensures ∙ c.if-is_refused.false in let a = c.room_of-r.ensures.0 in let b = c.chunks-n.ensures in let l = c.if-r-n.false in record { value = handing-by rail _ _ _ _ _ (refused_none rail _ _ _ _ _ t a b l) b; t_after = words-laid rail _ _ _ _ _ (refused_none rail _ _ _ _ _ t a b l) _ _ c.room_of-r.ensures.1 refl b c.lay_out.ensures.t_after; area_after = area-laid rail _ _ _ _ _ _ (refused_none rail _ _ _ _ _ t a b l) b c.lay_out.ensures.area_after }
