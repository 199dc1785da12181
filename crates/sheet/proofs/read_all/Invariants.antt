use Rattle.std.proofs.Common.{◌≡◌, ◌+◌, ◌-◌, ◌≤◌, length}
use Rattle.report.specs.Printed.{longest_file}
use Rattle.sheet.proofs.read_all.Given as goal

abbrev pub invariant-loop-buf : goal.invariant-loop-buf
invariant-loop-buf g l = (length l.buf ≡ 65536) × (l.progress.done ≤ longest_file + 65536)

-- what may still be read before the file is too long
abbrev pub decreases-loop-buf : goal.decreases-loop-buf
decreases-loop-buf g l = longest_file + 65537 - l.progress.done
