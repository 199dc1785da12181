use mathlib.Core.Path.{◌≡◌}
use Prim.Native.Nat.{◌+◌, ◌-◌, ◌≤◌}
use lib.ListN.{length, replicate}
use lib.Seq.{paste}
use Rattle.reader.proofs.held.clear.Given as goal

abbrev pub invariant-loop-j : goal.invariant-loop-j
invariant-loop-j l =
    (l.j ≤ l.n) × (l.from + l.n ≡ length l.initial.held) × (length l.held ≡ length l.initial.held) × (l.held ≡ paste l.initial.held l.from (replicate l.n 0) l.j)

abbrev pub decreases-loop-j : goal.decreases-loop-j
decreases-loop-j l = l.n - l.j
