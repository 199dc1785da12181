use mathlib.Core.Path.{◌≡◌}
use mathlib.Core.Bool.{◌&&◌}
use lib.ListN.{length, drop}
use Rattle.std.proofs.Common.{◌-◌}
use Rattle.frame_writer.specs.Frames.{all_permitted}
use Rattle.frame_writer.proofs.all_permitted.Given as goal

-- The invariant: what was found so far, and what is left to test, say it of the whole body.
abbrev pub invariant-loop-b : goal.invariant-loop-b
invariant-loop-b l = l.all && all_permitted (drop l.b-index l.body) ≡ all_permitted l.body
