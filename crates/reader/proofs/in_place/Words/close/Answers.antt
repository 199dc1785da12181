use Rattle.std.proofs.Common.{[], refl, sym, ◌∙◌, arith}
use Rattle.reader.specs.Calls.{a_close}
use Rattle.reader.proofs.InPlaceLaws.{no_place, judgement, place-refused, place-close, fit-piece, used, fits, advances, start-length}
use Rattle.reader.proofs.in_place.Words.close.Goals as goal

pub returns-then-held-ne-HELD : goal.returns-then-held-ne-HELD
returns-then-held-ne-HELD c = no_place _ _ _ c.if-held-ne-HELD.true

pub returns-in_err-judge : goal.returns-in_err-judge
returns-in_err-judge c =
    place-refused _ _ c.if-held-ne-HELD.false (a_close _) _ _ _ c.in_err-judge.was c.from_residual.ensures.1
    (judgement _ _ c.if-held-ne-HELD.false _ _ _ c.from-format.ensures refl c.waits-waits.ensures c.judge.ensures)

pub slice_bounds-read_closing-end : goal.slice_bounds-read_closing-end
slice_bounds-read_closing-end c =
    let g = fit-piece _ _ c.if-held-ne-HELD.false c.in_ok-judge.was [] _ (judgement _ _ c.if-held-ne-HELD.false _ _ _ c.from-format.ensures refl c.waits-waits.ensures c.judge.ensures) in
    omega (arith, g.all, g.pending)

pub slice_bounds-read_closing-end-2 : goal.slice_bounds-read_closing-end-2
slice_bounds-read_closing-end-2 c =
    let g = fit-piece _ _ c.if-held-ne-HELD.false c.in_ok-judge.was [] _ (judgement _ _ c.if-held-ne-HELD.false _ _ _ c.from-format.ensures refl c.waits-waits.ensures c.judge.ensures) in
    sym (start-length g)

pub overflow_add-used : goal.overflow_add-used
overflow_add-used c =
    let g = fit-piece _ _ c.if-held-ne-HELD.false c.in_ok-judge.was [] _ (judgement _ _ c.if-held-ne-HELD.false _ _ _ c.from-format.ensures refl c.waits-waits.ensures c.judge.ensures) in
    let u = used _ _ _ (start-length g) c.read_closing-w.ensures.0 in
    omega (arith, u, g.pending)

pub hold_rest-requires : goal.hold_rest-requires
hold_rest-requires c =
    let g = fit-piece _ _ c.if-held-ne-HELD.false c.in_ok-judge.was [] _ (judgement _ _ c.if-held-ne-HELD.false _ _ _ c.from-format.ensures refl c.waits-waits.ensures c.judge.ensures) in
    (used _ _ _ (start-length g) c.read_closing-w.ensures.0, g.pending, g.all)

pub overflow_sub-pending : goal.overflow_sub-pending
overflow_sub-pending c =
    let g = fit-piece _ _ c.if-held-ne-HELD.false c.in_ok-judge.was [] _ (judgement _ _ c.if-held-ne-HELD.false _ _ _ c.from-format.ensures refl c.waits-waits.ensures c.judge.ensures) in
    used _ _ _ (start-length g) c.read_closing-w.ensures.0

pub advanced-requires : goal.advanced-requires
advanced-requires c =
    let g = fit-piece _ _ c.if-held-ne-HELD.false c.in_ok-judge.was [] _ (judgement _ _ c.if-held-ne-HELD.false _ _ _ c.from-format.ensures refl c.waits-waits.ensures c.judge.ensures) in
    fits _ _ _ (start-length g) c.read_closing-w.ensures.0 (omega (arith, g.counted))

pub returns : goal.returns
returns c =
    let j = (judgement _ _ c.if-held-ne-HELD.false _ _ _ c.from-format.ensures refl c.waits-waits.ensures c.judge.ensures) in
    let g = fit-piece _ _ c.if-held-ne-HELD.false c.in_ok-judge.was [] _ j in
    let w = c.read_closing-w in
    advances _ _ _ (start-length g) w.ensures.0 c.args.self _ c.args.held.now _ c.from-format.ensures c.advanced.ensures c.hold_rest.ensures w.ensures.1
    ∙ place-close _ _ c.if-held-ne-HELD.false c.in_ok-judge.was _ j
