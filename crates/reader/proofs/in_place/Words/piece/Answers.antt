use Rattle.std.proofs.Common.{◌++◌, ℕ, take, refl, ap, ◌∙◌, arith}
use Rattle.reader.specs.Calls.{a_piece}
use Rattle.reader.proofs.InPlaceLaws.{no_place, judgement, place-refused, place-piece, fit-piece}
use Rattle.reader.proofs.in_place.Words.piece.Goals as goal

pub returns-then-held-ne-HELD : goal.returns-then-held-ne-HELD
returns-then-held-ne-HELD c = no_place _ _ _ c.if-held-ne-HELD.true

pub returns-in_err-judge : goal.returns-in_err-judge
returns-in_err-judge c =
    place-refused _ _ c.if-held-ne-HELD.false (a_piece _ _) _ _ _ c.in_err-judge.was c.from_residual.ensures.1
    (judgement _ _ c.if-held-ne-HELD.false _ _ _ c.from.ensures c.waits.ensures c.start_of-start.ensures.0 c.judge.ensures)

pub returns-then-pending-eq0 : goal.returns-then-pending-eq0
returns-then-pending-eq0 c =
    c.accept.ensures
    ∙ place-piece _ _ c.if-held-ne-HELD.false c.in_ok-judge.was _ _ (judgement _ _ c.if-held-ne-HELD.false _ _ _ c.from.ensures c.waits.ensures c.start_of-start.ensures.0 c.judge.ensures)
    (ap (λ (k : ℕ). take k c.args.held.now ++ c.args.bytes.now) c.if-pending-eq0.true)

pub overflow_sub-pending : goal.overflow_sub-pending
overflow_sub-pending c =
    (fit-piece _ _ c.if-held-ne-HELD.false c.in_ok-judge.was _ _ (judgement _ _ c.if-held-ne-HELD.false _ _ _ c.from.ensures c.waits.ensures c.start_of-start.ensures.0 c.judge.ensures)).pending

pub accept_in_place-requires : goal.accept_in_place-requires
accept_in_place-requires c =
    let a = fit-piece _ _ c.if-held-ne-HELD.false c.in_ok-judge.was _ _ (judgement _ _ c.if-held-ne-HELD.false _ _ _ c.from.ensures c.waits.ensures c.start_of-start.ensures.0 c.judge.ensures) in
    (a, omega (arith, a.pending, c.if-bytes-pending.true), rw (← c.from.ensures, c.grows.ensures) c.start_of-start.ensures.1)

pub returns-then-bytes-pending : goal.returns-then-bytes-pending
returns-then-bytes-pending c =
    c.accept_in_place.ensures
    ∙ place-piece _ _ c.if-held-ne-HELD.false c.in_ok-judge.was _ _ (judgement _ _ c.if-held-ne-HELD.false _ _ _ c.from.ensures c.waits.ensures c.start_of-start.ensures.0 c.judge.ensures) refl

pub accept_apart-requires : goal.accept_apart-requires
accept_apart-requires c =
    fit-piece _ _ c.if-held-ne-HELD.false c.in_ok-judge.was _ _ (judgement _ _ c.if-held-ne-HELD.false _ _ _ c.from.ensures c.waits.ensures c.start_of-start.ensures.0 c.judge.ensures)

pub returns : goal.returns
returns c =
    c.accept_apart.ensures
    ∙ place-piece _ _ c.if-held-ne-HELD.false c.in_ok-judge.was _ _ (judgement _ _ c.if-held-ne-HELD.false _ _ _ c.from.ensures c.waits.ensures c.start_of-start.ensures.0 c.judge.ensures) refl
