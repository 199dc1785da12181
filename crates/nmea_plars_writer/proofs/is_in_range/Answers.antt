use borrow.Author.Tests.{le-leb, lt-leb}
use Rattle.nmea_plars.proofs.PlarsLaws.{as-ruled}
use Rattle.nmea_plars_writer.proofs.is_in_range.Goals as goal

pub returns-then-form-steps : goal.returns-then-form-steps
returns-then-form-steps c = let r = as-ruled c.args.parameter c.form_of-form.ensures in
    rw (← r.1, ← r.2, ← c.from-steps.ensures, le-leb _ _ c.if-form-steps.true)

pub returns-else-form-steps : goal.returns-else-form-steps
returns-else-form-steps c = let r = as-ruled c.args.parameter c.form_of-form.ensures in
    rw (← r.1, ← c.from-steps.ensures, lt-leb _ _ c.if-form-steps.false)
