use Rattle.std.proofs.Common.{◌+◌, sym, ap, ◌∙◌}
use mathlib.Core.Bool.{Bool, ◌&&◌}
use lib.ListN.{drop}
use Rattle.frame_writer.specs.Frames.{all_permitted}
use Rattle.frame_writer.proofs.WriterLaws.{permitted-more, permitted-end}
use Rattle.frame_writer.proofs.all_permitted.Goals as goal

pub loop-b-preserved : goal.loop-b-preserved
loop-b-preserved c =
    let l = c.loop-b in
    ap (λ (p : Bool). (l.all && p) && all_permitted (drop (l.b-index + 1) c.args.body.now)) c.is_permitted-all.ensures
    ∙ permitted-more l.all c.args.body.now l.b-index c.loop-b-test.true
    ∙ l.invariant

pub returns : goal.returns
returns c = sym (permitted-end _ _ _ c.loop-b-test.false) ∙ c.loop-b.invariant
