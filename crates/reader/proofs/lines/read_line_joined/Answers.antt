use Rattle.std.proofs.Common.{arith}
use Rattle.reader.proofs.JoinLaws.{first-past, first-short, both-most, resumed}
use Rattle.reader.proofs.lines.read_line_joined.Goals as goal

pub overflow_add-used : goal.overflow_add-used
overflow_add-used c = let h = first-short _ _ _ _ _ c.requires c.read_line-first.ensures.0 in omega (arith, h)

pub overflow_sub-used : goal.overflow_sub-used
overflow_sub-used c = first-past _ _ _ _ _ c.requires c.read_line-first.ensures.0

pub slice_bounds-read_line-count : goal.slice_bounds-read_line-count
slice_bounds-read_line-count c = let h = first-short _ _ _ _ _ c.requires c.read_line-first.ensures.0 in omega (arith, h)

pub slice_bounds-read_line-start : goal.slice_bounds-read_line-start
slice_bounds-read_line-start c = let h = first-short _ _ _ _ _ c.requires c.read_line-first.ensures.0 in omega (arith, h)

pub slice_bounds-read_line-count-2 : goal.slice_bounds-read_line-count-2
slice_bounds-read_line-count-2 c =
    let h = first-short _ _ _ _ _ c.requires c.read_line-first.ensures.0 in omega (arith, h, c.read_line-first.auto.out, c.requires.large-enough)

pub slice_bounds-read_line-start-2 : goal.slice_bounds-read_line-start-2
slice_bounds-read_line-start-2 c =
    let h = first-short _ _ _ _ _ c.requires c.read_line-first.ensures.0 in omega (arith, h, c.read_line-first.auto.out, c.requires.large-enough)

pub overflow_add-result : goal.overflow_add-result
overflow_add-result c = let m = both-most _ _ _ _ _ c.requires c.read_line-first.ensures.0 c.read_line-second.ensures.0 in omega (arith, m, c.requires.large-enough)

pub overflow_add-result-2 : goal.overflow_add-result-2
overflow_add-result-2 c = let m = both-most _ _ _ _ _ c.requires c.read_line-first.ensures.0 c.read_line-second.ensures.0 in omega (arith, m, c.requires.large-enough)

pub overflow_add-result-3 : goal.overflow_add-result-3
overflow_add-result-3 c = let m = both-most _ _ _ _ _ c.requires c.read_line-first.ensures.0 c.read_line-second.ensures.0 in omega (arith, m, c.requires.large-enough)

pub returns : goal.returns
returns c = resumed _ _ _ _ _ c.requires _ _ _ _ c.read_line-first.ensures.0 c.read_line-first.ensures.1 c.read_line-second.ensures.0 c.read_line-second.ensures.1
