use Prim.Native.Nat.{◌-◌}
use lib.ListN.{length, take}
use Rattle.reader.proofs.ReadLineLaws.{ReadSoFar}
use Rattle.reader.proofs.lines.read_line_within.Given as goal

abbrev pub invariant-loop-part : goal.invariant-loop-part
invariant-loop-part l = ReadSoFar l.format (take l.end l.line) l.initial.out l.out l.at l.framed l.frames

abbrev pub decreases-loop-part : goal.decreases-loop-part
decreases-loop-part l = length (take l.end l.line) - l.at
