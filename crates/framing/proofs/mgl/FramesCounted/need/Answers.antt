use Rattle.framing.proofs.GrowthLaws.{mgl-needs}
use Rattle.framing.proofs.mgl.FramesCounted.need.Goals as goal

pub returns : goal.returns
returns c = mgl-needs c.args.s.now c.requires c.if-s-ne-FIRST.false c.if-s-ne-SECOND.false c.length_told.ensures
