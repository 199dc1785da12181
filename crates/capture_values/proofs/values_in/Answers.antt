use mathlib.Core.Path.{refl, ◌∙◌}
use Rattle.capture_values.proofs.RowLaws.{zeros}
use Rattle.capture_values.proofs.values_in.Goals as goal
use Rattle.capture_values.proofs.values_in.Goals.{in-Ok, in-Err}

pub returns : goal.returns
returns g c =
    c.filled.ensures
    ∙ elim c.match-answer.branch [
      | in-Ok w ↦ rw (w.number-is, w.in-Ok.is, w.list.ensures) refl
      | in-Err w ↦ rw (w.number-is, w.in-Err.is, w.from.ensures) (zeros _ g.row.N c.requires)
    ]
