use Rattle.std.proofs.Common.{arith}
use lib.Seq.{length-take-le}
use Rattle.reader.proofs.ReadLineLaws.{turn-ends, turn-few, turn-stops, turn-skips, turn-goes-on, turn-inside}
use Rattle.reader.proofs.lines.read_line_within.Goals as goal

pub overflow_add-e : goal.overflow_add-e
overflow_add-e c = let h = turn-ends _ _ c.requires c.loop-part.invariant c.frame_run_within-run.ensures in omega (arith, h)

pub slice_bounds-copy-end : goal.slice_bounds-copy-end
slice_bounds-copy-end c = let h = turn-ends _ _ c.requires c.loop-part.invariant c.frame_run_within-run.ensures in omega (arith, h, length-take-le c.args.end c.args.line.now c.requires.0)

pub overflow_add-frames : goal.overflow_add-frames
overflow_add-frames c =
    let h = turn-few _ _ c.requires c.loop-part.invariant c.frame_run_within-run.ensures c.copy.ensures in omega (arith, h)

pub returns-then-run : goal.returns-then-run
returns-then-run c = turn-stops _ _ c.requires c.loop-part.invariant c.frame_run_within-run.ensures c.copy.ensures c.if-run.true

pub slice_bounds-find_start-count : goal.slice_bounds-find_start-count
slice_bounds-find_start-count c =
    let h = turn-skips _ _ c.requires c.loop-part.invariant c.frame_run_within-run.ensures c.copy.ensures c.if-run.false in omega (arith, h, length-take-le c.args.end c.args.line.now c.requires.0)

pub slice_bounds-find_start-start : goal.slice_bounds-find_start-start
slice_bounds-find_start-start c =
    let h = turn-skips _ _ c.requires c.loop-part.invariant c.frame_run_within-run.ensures c.copy.ensures c.if-run.false in omega (arith, h, length-take-le c.args.end c.args.line.now c.requires.0)

pub overflow_add-at-in-loop-part : goal.overflow_add-at-in-loop-part
overflow_add-at-in-loop-part c =
    let h = turn-inside _ _ c.requires c.loop-part.invariant c.frame_run_within-run.ensures c.copy.ensures c.if-run.false c.find_start-at.ensures in
    omega (arith, h)

pub loop-part-smaller : goal.loop-part-smaller
loop-part-smaller c =
    let h = turn-inside _ _ c.requires c.loop-part.invariant c.frame_run_within-run.ensures c.copy.ensures c.if-run.false c.find_start-at.ensures in
    omega (arith, h, length-take-le c.args.end c.args.line.now c.requires.0)

pub loop-part-preserved : goal.loop-part-preserved
loop-part-preserved c =
    turn-goes-on _ _ c.requires c.loop-part.invariant c.frame_run_within-run.ensures c.copy.ensures c.if-run.false c.find_start-at.ensures
