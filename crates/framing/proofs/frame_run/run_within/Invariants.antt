use Rattle.std.proofs.Common.{take, ◌-◌, ◌≤◌}
use Rattle.framing.proofs.FrameRunLaws.{Led}
use Rattle.framing.proofs.frame_run.run_within.Given as goal

-- as many frames as were counted down
abbrev pub invariant-loop-left : goal.invariant-loop-left
invariant-loop-left l = (l.left ≤ l.most) × Led l.format (take l.end l.s) l.most l.at (l.most - l.left)
