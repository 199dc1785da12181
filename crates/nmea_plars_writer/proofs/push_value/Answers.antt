use borrow.Author.Rules.{rules}
use Rattle.nmea_plars_writer.proofs.PushLaws.{unit-some, whole-pushed, parts-pushed}
use Rattle.nmea_plars_writer.proofs.push_value.Goals as goal

pub nonzero_div-value : goal.nonzero_div-value
nonzero_div-value g c = unit-some _ _ c.requires

pub returns-then-form-gt0 : goal.returns-then-form-gt0
returns-then-form-gt0 g c =
    let a = c.args in
    parts-pushed g.row.N a.value a.text.now c.requires (search rules) c.if-form-gt0.true c.push.ensures c.push-then-form-gt0.ensures c.push_last.ensures

pub returns-else-form-gt0 : goal.returns-else-form-gt0
returns-else-form-gt0 g c = whole-pushed g.row.N c.args.value c.args.text.now c.requires c.if-form-gt0.false c.push.ensures
