use Rattle.std.proofs.Common.{arith, ◌≡◌, ◌<◌, ◌-◌, ◌+◌}
use Rattle.framing.proofs.FrameRunLaws.{led-full, next-ends, next-led, next-waits, next-none}
use Rattle.framing.proofs.frame_run.run_within.Goals as goal

pub returns-in-Start : goal.returns-in-Start
returns-in-Start c =
    let few : c.args.most - c.loop-left.left < c.args.most = omega (arith, c.loop-left.invariant.0, c.loop-left-test.true) in
    let same : c.args.most - (c.loop-left.left - 1) - 1 ≡ c.args.most - c.loop-left.left = omega (arith, c.loop-left.invariant.0, c.loop-left-test.true) in
    rw same (next-waits _ c.loop-left.invariant.1 c.requires few c.front_within-found.ensures c.in-Start.is)

pub returns-in_default-matches : goal.returns-in_default-matches
returns-in_default-matches c =
    let few : c.args.most - c.loop-left.left < c.args.most = omega (arith, c.loop-left.invariant.0, c.loop-left-test.true) in
    let same : c.args.most - (c.loop-left.left - 1) - 1 ≡ c.args.most - c.loop-left.left = omega (arith, c.loop-left.invariant.0, c.loop-left-test.true) in
    rw same (next-none _ c.loop-left.invariant.1 c.requires few c.front_within-found.ensures c.in_default.not-Frame c.in_default-matches.not-Start)

pub overflow_add-at : goal.overflow_add-at
overflow_add-at c =
    let few : c.args.most - c.loop-left.left < c.args.most = omega (arith, c.loop-left.invariant.0, c.loop-left-test.true) in
    omega (arith, next-ends _ c.loop-left.invariant.1 c.requires few c.front_within-found.ensures c.in-Frame.is)

pub loop-left-preserved : goal.loop-left-preserved
loop-left-preserved c =
    let few : c.args.most - c.loop-left.left < c.args.most = omega (arith, c.loop-left.invariant.0, c.loop-left-test.true) in
    let one : c.args.most - (c.loop-left.left - 1) ≡ c.args.most - c.loop-left.left + 1 = omega (arith, c.loop-left.invariant.0, c.loop-left-test.true) in
    (omega (arith, c.loop-left.invariant.0), rw one (next-led _ c.loop-left.invariant.1 c.requires few c.front_within-found.ensures c.in-Frame.is))

pub returns : goal.returns
returns c = led-full _ _ _ _ _ c.loop-left.invariant.1 (omega (arith, c.loop-left-test.false))
