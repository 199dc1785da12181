use Rattle.std.proofs.Common.{◌+◌, refl, ap, ◌∙◌, arith}
use Rattle.reader.specs.State.{held_bytes}
use Rattle.reader.proofs.HeldLaws.{tail-length}
use Rattle.std.proofs.lemmas.List.{take_rest}
use Rattle.reader.proofs.InPlaceLaws.{used, fits, advances}
use Rattle.reader.proofs.in_place.Words.accept.Goals as goal

pub overflow_add-used : goal.overflow_add-used
overflow_add-used c = let u = used _ _ _ refl c.read_line_after_noise-w.ensures.0 in omega (arith, u)

pub slice_bounds-hold-count : goal.slice_bounds-hold-count
slice_bounds-hold-count c = used _ _ _ refl c.read_line_after_noise-w.ensures.0

pub slice_bounds-hold-start : goal.slice_bounds-hold-start
slice_bounds-hold-start c = used _ _ _ refl c.read_line_after_noise-w.ensures.0

pub hold-requires : goal.hold-requires
hold-requires c =
    let w = c.read_line_after_noise-w in
    let f = fits _ _ _ refl w.ensures.0 {n = c.args.self} c.requires.2 in
    (omega (arith, f.held, tail-length c.args.line.now (w.result.framed + w.result.skipped)), c.requires.0)

pub overflow_sub-line : goal.overflow_sub-line
overflow_sub-line c = used _ _ _ refl c.read_line_after_noise-w.ensures.0

pub advanced-requires : goal.advanced-requires
advanced-requires c = fits _ _ _ refl c.read_line_after_noise-w.ensures.0 c.requires.2

pub returns : goal.returns
returns c =
    let w = c.read_line_after_noise-w in
    advances _ _ c.args.line.now refl w.ensures.0 c.args.self _ c.args.held.now _ c.from.ensures c.advanced.ensures
    (c.hold.ensures ∙ ap held_bytes (take_rest c.args.line.now (w.result.framed + w.result.skipped))) w.ensures.1
