use Rattle.std.proofs.Common.{◌≡◌, ◌+◌, ◌-◌, ◌≤◌, length, drop}
use Rattle.framing.specs.Private.{find_byte}
use Rattle.framing.proofs.find.find_byte.Given as goal

-- The k bytes passed, and those before the first in what is left, are the ones to count.
abbrev pub invariant-loop-k : goal.invariant-loop-k
invariant-loop-k l = (l.k ≤ length l.s) × (find_byte l.first l.s ≡ l.k + find_byte l.first (drop l.k l.s))

abbrev pub decreases-loop-k : goal.decreases-loop-k
decreases-loop-k l = length l.s - l.k
