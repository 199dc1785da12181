use Rattle.report.proofs.StepLaws.{final-is}
use mathlib.Core.Path.{◌∙◌}
use borrow.Author.Rules.{rules}
use Rattle.report.proofs.final_sheet.Goals as goal

pub returns : goal.returns
returns c = c.sheet.ensures ∙ final-is _ _ _ _ (search rules) c.close.ensures
