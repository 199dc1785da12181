use mathlib.Core.List.{[], ◌∷◌}
use mathlib.Core.Path.{◌∙◌}
use native.Mathlib.Omega.{arith}
use Rattle.capture_values.specs.Values.{numbered}
use Rattle.capture_values.proofs.RowLaws.{near, unsigned}
use Rattle.capture_values.proofs.shared.place_values.Goals as goal

pub overflow_cast-place : goal.overflow_cast-place
overflow_cast-place c = record { sfits = omega (arith, (near _ _ c.in-Ok.ensures).start) }

pub overflow_cast-place-in-Ok : goal.overflow_cast-place-in-Ok
overflow_cast-place-in-Ok c = record { sfits = omega (arith, (near _ _ c.in-Ok.ensures).end) }

pub returns-in-Ok : goal.returns-in-Ok
returns-in-Ok c = let n = near _ _ c.in-Ok.ensures in
    let p = c.in-Ok.place in
    rw (← c.in-Ok.ensures) (c.filled.ensures ∙ (λ j. numbered 0 (unsigned {n = p.start} (omega (arith, n.start)) j ∷ unsigned {n = p.end} (omega (arith, n.end)) j ∷ [])))
