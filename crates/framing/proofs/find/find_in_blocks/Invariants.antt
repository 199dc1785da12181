use Rattle.std.proofs.Common.{◌*◌}
use Rattle.framing.specs.Private.{Each, differs}
use Rattle.framing.proofs.find.find_in_blocks.Given as goal

abbrev pub invariant-loop-i : goal.invariant-loop-i
invariant-loop-i l = Each (differs l.first) 0 (64 * l.i) l.s
