use native.Mathlib.Omega.{arith}
use mathlib.Core.Path.{ap, ◌∙◌}
use Rattle.calendar.specs.declared.Clock.TheVariants.{Good}
use Rattle.calendar.proofs.Answers.{good}
use Rattle.calendar.proofs.Shift.{since}
use Rattle.calendar.proofs.clock_of.Goals as goal

pub returns : goal.returns
returns c = ap Good (since c.seconds_from_0.ensures.bound (rw (← c.days_from_0-days.ensures.days) c.seconds_from_0.ensures.seconds)) ∙ good _ _ _ (omega arith)
