use Rattle.std.proofs.Common.{◌∙◌, inl, inr}
use Rattle.arriving.specs.ReplyLaws.{closed-as}
use Rattle.landing.specs.TableWalk.{bare_walked}
use Rattle.landing.proofs.reply.close_reply.Goals as goal

pub returns-in-Complete : goal.returns-in-Complete
returns-in-Complete c = (c.write_complete.ensures.0 ∙ closed-as (bare_walked c.args.w) _ _ c.in-Complete.is, c.write_complete.ensures.1)

pub returns-in-Reflected : goal.returns-in-Reflected
returns-in-Reflected c = (c.write_complete-in-Reflected.ensures.0 ∙ closed-as (bare_walked c.args.w) _ _ c.in-Reflected.is, c.write_complete-in-Reflected.ensures.1)

pub returns-in-Nothing : goal.returns-in-Nothing
returns-in-Nothing c = (
  c.end_reply.ensures.0 ∙ elim c.in-Nothing.is [
    | inl e ↦ closed-as (bare_walked c.args.w) _ _ e
    | inr (inl e) ↦ closed-as (bare_walked c.args.w) _ _ e
    | inr (inr e) ↦ closed-as (bare_walked c.args.w) _ _ e.1
  ],
  c.end_reply.ensures.1,
)
