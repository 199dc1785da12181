use Prim.Native.Nat.{◌*◌, ◌≤◌}
use mathlib.Core.Path.{◌≡◌}
use Rattle.benchfile.specs.Toc.{total_length}
use Rattle.benchfile.proofs.total_length.Given as goal

-- a length is below 2 to the 32
abbrev pub invariant-loop-k : goal.invariant-loop-k
invariant-loop-k l = (l.sum ≡ total_length l.s l.k) × (l.sum ≤ l.k * 0xFFFFFFFF)
