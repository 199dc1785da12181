use Prim.Native.Nat.{◌+◌, ◌*◌}
use native.Mathlib.Nat.{add-zero}
use Rattle.benchfile.specs.Toc.{entry_at}
use Rattle.benchfile.proofs.entry_at.Goals as goal

pub returns : goal.returns
unfolding entry_at
returns c = let a = c.args in
    rw (c.entry_start.ensures, c.at.ensures, c.byte_at-2.ensures, c.byte_at.ensures, c.from.ensures, add-zero (1 + 6 * a.i))
