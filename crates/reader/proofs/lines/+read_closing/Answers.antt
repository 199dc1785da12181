use Rattle.std.proofs.Common.{rules, sym, ◌∙◌, arith}
use lib.Seq.{length-take-le}
use Rattle.reader.proofs.HeldLaws.{tail-length}
use Rattle.reader.proofs.ReadClosingLaws.{frame-ends, read-closing-none, read-closing-skip, read-closing-frame, closing-most}
use Rattle.reader.proofs.lines.+read_closing.Goals as goal

pub returns-then-is_empty : goal.returns-then-is_empty
returns-then-is_empty t c = read-closing-none _ _ _ (search rules)

pub overflow_add-result : goal.overflow_add-result
overflow_add-result t c = let m = closing-most _ _ _ _ _ c.read_closing-w.ensures in omega (arith, m.bytes, tail-length c.args.s.now 1)

pub returns-in_default : goal.returns-in_default
returns-in_default t c = read-closing-skip _ _ _ _ _ (search rules) (sym c.frame_length.ensures ∙ c.in_default.is) c.read_closing-w.ensures

pub slice_bounds-copy-end : goal.slice_bounds-copy-end
slice_bounds-copy-end t c = sym (length-take-le _ _ (frame-ends _ _ (sym c.frame_length.ensures ∙ c.in-Some.is)).1)

pub slice_bounds-read_closing-count-2 : goal.slice_bounds-read_closing-count-2
slice_bounds-read_closing-count-2 t c = (frame-ends _ _ (sym c.frame_length.ensures ∙ c.in-Some.is)).1

pub slice_bounds-read_closing-start-2 : goal.slice_bounds-read_closing-start-2
slice_bounds-read_closing-start-2 t c = (frame-ends _ _ (sym c.frame_length.ensures ∙ c.in-Some.is)).1

pub slice_bounds-read_closing-count-3 : goal.slice_bounds-read_closing-count-3
slice_bounds-read_closing-count-3 t c =
    let i = frame-ends _ _ (sym c.frame_length.ensures ∙ c.in-Some.is) in omega (arith, i.1, c.copy.auto.out, c.requires)

pub slice_bounds-read_closing-start-3 : goal.slice_bounds-read_closing-start-3
slice_bounds-read_closing-start-3 t c =
    let i = frame-ends _ _ (sym c.frame_length.ensures ∙ c.in-Some.is) in omega (arith, i.1, c.copy.auto.out, c.requires)

pub overflow_add-result-2 : goal.overflow_add-result-2
overflow_add-result-2 t c =
    let i = frame-ends _ _ (sym c.frame_length.ensures ∙ c.in-Some.is) in
    let m = closing-most _ _ _ _ _ c.read_closing-w-2.ensures in
    omega (arith, i.1, m.bytes, tail-length c.args.s.now c.in-Some.n)

pub overflow_add-result-3 : goal.overflow_add-result-3
overflow_add-result-3 t c =
    let i = frame-ends _ _ (sym c.frame_length.ensures ∙ c.in-Some.is) in
    let m = closing-most _ _ _ _ _ c.read_closing-w-2.ensures in
    omega (arith, i, m.bytes, m.few, tail-length c.args.s.now c.in-Some.n)

pub returns : goal.returns
returns t c =
    read-closing-frame _ _ _ _ _ c.copy.new.out c.read_closing-w-2.new.out c.requires (sym c.frame_length.ensures ∙ c.in-Some.is) c.copy.ensures
    c.read_closing-w-2.ensures

pub read_closing-w-requires-2 : goal.read_closing-w-requires-2
read_closing-w-requires-2 t c =
    let i = frame-ends _ _ (sym c.frame_length.ensures ∙ c.in-Some.is) in
    let m = tail-length c.args.s.now c.in-Some.n in
    (omega (arith, i, m), omega (arith, i, m, tail-length c.copy.new.out c.in-Some.n, c.copy.auto.out, c.requires))
