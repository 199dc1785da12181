use Rattle.framing.proofs.GrowthLaws.{onflight-needs}
use Rattle.framing.proofs.onflight.FramesCounted.need.Goals as goal

pub returns : goal.returns
returns c = onflight-needs c.args.s.now c.requires c.if-s-ne-FIRST.false c.if-s-ne-SECOND.false c.if-s-ne-VERSION.false c.if-s.false
