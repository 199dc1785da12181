use borrow.Enum.Refused.{opened}
use Rattle.std.proofs.Common.{take, sym, ◌∙◌, arith}
use Rattle.framing.proofs.HeadLaws.{sync-else, sync-on}
use Rattle.framing.proofs.MglLaws.{mgl-starts, mgl-short, mgl-broken, mgl-whole, told, told-not}
use Rattle.framing.proofs.mgl.FramesCoded.scan.Goals as goal

pub returns-in_default : goal.returns-in_default
returns-in_default c = sym (sync-else mgl-starts _ c.sync-opening.ensures (opened c.in_default.in_default-own.keys2))

pub returns-then-line-lt4 : goal.returns-then-line-lt4
returns-then-line-lt4 c = let s = take c.args.end c.args.s.now in
    let o = sync-on mgl-starts s c.sync-opening.ensures c.in-Whole.is in
    sym (o ∙ mgl-short s c.if-line-lt4.true)

pub returns-in_default-length_told : goal.returns-in_default-length_told
returns-in_default-length_told c = let s = take c.args.end c.args.s.now in
    let o = sync-on mgl-starts s c.sync-opening.ensures c.in-Whole.is in
    sym (o ∙ mgl-broken s (omega arith) (told-not s (sym c.length_told.ensures ∙ c.in_default-length_told.is)))

pub returns : goal.returns
returns c = let s = take c.args.end c.args.s.now in
    let o = sync-on mgl-starts s c.sync-opening.ensures c.in-Whole.is in
    let w = told s c.in-Some.n (sym c.length_told.ensures ∙ c.in-Some.is) in
    c.counted.ensures ∙ sym (o ∙ mgl-whole s (omega arith) w.0 c.in-Some.n w.1)
