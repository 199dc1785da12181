use Rattle.std.proofs.Common.{◌-◌}
use Rattle.framing.proofs.RowLaws.{ColumnsRead}
use Rattle.framing.proofs.rows.rows.Given as goal

abbrev pub invariant-loop-i : goal.invariant-loop-i
invariant-loop-i l = ColumnsRead l.s l.w l.second l.last l.refused l.xor l.commas l.i

abbrev pub decreases-loop-i : goal.decreases-loop-i
decreases-loop-i l = l.w - l.i
