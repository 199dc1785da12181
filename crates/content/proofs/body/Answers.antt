use mathlib.Core.Path.{◌∙◌, sym}
use Rattle.content.specs.Body.{body_of}
use Rattle.content.proofs.BodyLaws.{body-between}
use Rattle.content.proofs.body.Goals as goal

pub returns-then-is_frame : goal.returns-then-is_frame
unfolding body_of
returns-then-is_frame c = c.between.ensures ∙ body-between _ _ (sym c.is_frame.ensures ∙ c.if-is_frame.true)

pub returns-else-is_frame : goal.returns-else-is_frame
unfolding body_of
returns-else-is_frame c = rw (sym c.is_frame.ensures, c.if-is_frame.false)
