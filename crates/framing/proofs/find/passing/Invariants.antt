use Rattle.std.proofs.Common.{ℕ, true, ◌+◌, ◌<◌, ◌≤◌, get_or}
use Rattle.framing.proofs.find.passing.Given as goal

-- The bytes among the i that were looked at and before the n-th pass.
abbrev pub invariant-loop-i : goal.invariant-loop-i
invariant-loop-i g l = (l.n ≤ g.row.N) × ((j : ℕ) → l.from ≤ j → j < l.from + l.i → j < l.from + l.n → goal.F-post g l.passes (get_or l.s j 0) true)
