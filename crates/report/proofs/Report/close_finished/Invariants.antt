use Rattle.report.specs.Step.{close_finished}
use Rattle.benchfile.specs.Toc.{entries}
use mathlib.Core.Path.{◌≡◌}
use Rattle.report.proofs.Report.close_finished.Given as goal

abbrev pub invariant-loop-i : goal.invariant-loop-i
invariant-loop-i l = (close_finished l.self ≡ close_finished l.initial.self) × ((l.i ≡ l.self.entry) × (l.n ≡ entries l.self.toc))
