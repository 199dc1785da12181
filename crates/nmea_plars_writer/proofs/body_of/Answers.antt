use borrow.Author.Rules.{rules}
use Rattle.nmea_plars.proofs.PlarsLaws.{as-ruled, unit-ruled}
use Rattle.nmea_plars_writer.proofs.PushLaws.{body-pushed}
use Rattle.nmea_plars_writer.proofs.body_of.Goals as goal

pub push_value-requires : goal.push_value-requires
push_value-requires c = (search rules, (unit-ruled c.args.setting.parameter c.form_of-form.ensures).1)

pub returns : goal.returns
returns c =
    let x = c.args.setting in
    body-pushed x 18 c.new-text.ensures (as-ruled x.parameter c.form_of-form.ensures).0 c.push.ensures
    (rw c.name_of.ensures at c.push-2.ensures) c.push-3.ensures (rw c.from.ensures at c.push_value.ensures)
