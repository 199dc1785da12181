use Rattle.report.specs.Step.{close_finished, with_length}
use mathlib.Core.Path.{ap, ◌∙◌}
use Rattle.report.proofs.StepLaws.{first-opened, first-waits}
use Rattle.report.proofs.Report.open_first.Goals as goal

pub returns-in-Ok : goal.returns-in-Ok
unfolding with_length
returns-in-Ok c =
    first-opened c.args.self.now c.in-Ok.ensures (c.close_finished.ensures ∙ ap close_finished c.open_entry.ensures)

pub returns-in_default : goal.returns-in_default
unfolding with_length
returns-in_default c = first-waits c.args.self.now _ c.in_default.ensures
