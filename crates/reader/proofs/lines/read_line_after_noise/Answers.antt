use native.Mathlib.Omega.{arith}
use Prim.Native.Nat.{◌≤◌}
use lib.ListN.{length, length-drop}
use Rattle.framing.proofs.FindStartLaws.{find-start-most}
use Rattle.std.proofs.lemmas.List.{take_rest}
use Rattle.reader.proofs.JoinLaws.{counts-most}
use Rattle.reader.proofs.ReadLineLaws.{ReadsLine, noise-read, find-start-on}
use lib.ListN.{drop}
use Rattle.reader.proofs.lines.read_line_after_noise.Goals as goal

pub returns-then-noise-line : goal.returns-then-noise-line
returns-then-noise-line c = let a = c.args in noise-read a.format a.line.now a.out.now _ c.find_start-noise.ensures c.if-noise-line.true

pub slice_bounds-read_line-count : goal.slice_bounds-read_line-count
slice_bounds-read_line-count c = let inside : c.find_start-noise.result ≤ length c.args.line.now = rw c.find_start-noise.ensures (find-start-most c.args.format c.args.line.now) in
    inside

pub slice_bounds-read_line-start : goal.slice_bounds-read_line-start
slice_bounds-read_line-start c = let inside : c.find_start-noise.result ≤ length c.args.line.now = rw c.find_start-noise.ensures (find-start-most c.args.format c.args.line.now) in
    inside

pub overflow_add-result : goal.overflow_add-result
overflow_add-result c = let inside : c.find_start-noise.result ≤ length c.args.line.now = rw c.find_start-noise.ensures (find-start-most c.args.format c.args.line.now) in
    -- the reading of what follows the noise
    let behind : ReadsLine c.args.format (drop c.find_start-noise.result c.args.line.now) c.args.out.now c.read_line-w.result c.read_line-w.new.out = rw (take_rest c.args.line.now c.find_start-noise.result) at c.read_line-w.ensures in
    let l = c.args.line.now in
    omega (arith, inside, (counts-most c.args.format (drop c.find_start-noise.result l) c.read_line-w.result (behind).0).0, length-drop c.find_start-noise.result l, c.requires)

pub returns : goal.returns
returns c = let behind : ReadsLine c.args.format (drop c.find_start-noise.result c.args.line.now) c.args.out.now c.read_line-w.result c.read_line-w.new.out = rw (take_rest c.args.line.now c.find_start-noise.result) at c.read_line-w.ensures in
    let a = c.args in find-start-on a.format a.line.now a.out.now _ _ _ c.find_start-noise.ensures (behind)
