use borrow.Enum.Refused.{opened}
use Rattle.std.proofs.Common.{take, sym, ◌∙◌, arith, ne_eqb}
use Rattle.framing.specs.Onflight.{onflight_next}
use Rattle.framing.specs.declared.Format.TheVariants.{Onflight}
use Rattle.framing.specs.Format.{next}
use Rattle.framing.proofs.ShapeLaws.{scan-end, scan-bad, scan-more, counted-at}
use Rattle.framing.proofs.HeadLaws.{sync-else, sync-on}
use Rattle.framing.proofs.OnflightLaws.{onflight-counts, onflight-starts}
use Rattle.framing.proofs.onflight.FramesCoded.scan.Goals as goal

pub returns-in_default : goal.returns-in_default
unfolding next onflight_next
returns-in_default c = sym (sync-else onflight-starts _ c.sync-opening.ensures (opened c.in_default.in_default-own.keys2))

pub returns-then-line-lt3 : goal.returns-then-line-lt3
unfolding next onflight_next
returns-then-line-lt3 c = let s = take c.args.end c.args.s.now in
    let o = sync-on onflight-starts s c.sync-opening.ensures c.in-Whole.is in
    sym (o ∙ scan-end Onflight 2 0 s (omega arith))

pub returns-then-line-ne-VERSION : goal.returns-then-line-ne-VERSION
unfolding next onflight_next
returns-then-line-ne-VERSION c = let s = take c.args.end c.args.s.now in
    let o = sync-on onflight-starts s c.sync-opening.ensures c.in-Whole.is in
    sym (o ∙ scan-bad Onflight 2 0 s (omega arith) (rw (ne_eqb _ 1 c.if-line-ne-VERSION.true)))

pub returns-then-line-lt4 : goal.returns-then-line-lt4
unfolding next onflight_next
returns-then-line-lt4 c = let s = take c.args.end c.args.s.now in
    let o = sync-on onflight-starts s c.sync-opening.ensures c.in-Whole.is in
    sym (o ∙ scan-more Onflight 2 0 s (omega arith) (rw c.if-line-ne-VERSION.false) ∙ scan-end Onflight 3 0 s (omega arith))

pub returns-then-line : goal.returns-then-line
unfolding next onflight_next
returns-then-line c = let s = take c.args.end c.args.s.now in
    let o = sync-on onflight-starts s c.sync-opening.ensures c.in-Whole.is in
    sym (o
    ∙ scan-more Onflight 2 0 s (omega arith) (rw c.if-line-ne-VERSION.false)
    ∙ scan-bad Onflight 3 0 s (omega arith) (rw (ne_eqb _ 0x98 c.if-line.true)))

pub returns : goal.returns
unfolding next onflight_next
returns c = let s = take c.args.end c.args.s.now in
    let o = sync-on onflight-starts s c.sync-opening.ensures c.in-Whole.is in
    c.counted.ensures
    ∙ sym (o
    ∙ scan-more Onflight 2 0 s (omega arith) (rw c.if-line-ne-VERSION.false)
    ∙ scan-more Onflight 3 0 s (omega arith) (rw c.if-line.false)
    ∙ counted-at Onflight 4 onflight-counts 4 158 s (omega arith) (omega arith) (omega arith))
