use Prim.Native.Nat.{◌+◌, ◌≤◌}
use mathlib.Core.Path.{◌≡◌}
use lib.ListN.{length}
use Rattle.buffer.specs.Buffer.{copied}
use Rattle.decimal.specs.Decimal.{last_digits}
use Rattle.decimal.proofs.put.Given as goal

-- the digits that are left, put into the buffer as it is, make it what it shall be
abbrev pub invariant-loop-j : goal.invariant-loop-j
invariant-loop-j l = (l.at + l.j ≤ length l.out) × (length l.out ≡ length l.initial.out) × (copied (last_digits l.j l.rest) l.out l.at ≡ copied (last_digits l.k l.n) l.initial.out l.at)

abbrev pub decreases-loop-j : goal.decreases-loop-j
decreases-loop-j l = l.j
