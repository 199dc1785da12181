use Rattle.std.proofs.Common.{◌≡◌, ◌-◌, ◌≤◌}
use lib.Bits.{bit_xor}
use Rattle.framing.proofs.SumLaws.{sum_to, column, masked}
use Rattle.framing.proofs.xor_padded.xor_first.Given as goal

-- The invariant: x is the exclusive or of the first i columns.
abbrev pub invariant-loop-i : goal.invariant-loop-i
invariant-loop-i l = (l.i ≤ 16) × (l.x ≡ sum_to bit_xor (column (masked l.s (128 - l.n))) l.i)

abbrev pub decreases-loop-i : goal.decreases-loop-i
decreases-loop-i l = 16 - l.i
