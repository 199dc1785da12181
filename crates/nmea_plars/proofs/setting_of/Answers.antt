use borrow.Author.Tests.{eq-eqb, ne_eqb}
use mathlib.Core.Path.{sym, ◌∙◌}
use Rattle.nmea_plars.proofs.PlarsLaws.{named, unnamed}
use Rattle.nmea_plars.specs.Plars.{fields_setting}
use Rattle.nmea_plars.proofs.setting_of.Goals as goal

pub returns-then-source-ne1 : goal.returns-then-source-ne1
unfolding fields_setting
returns-then-source-ne1 c = rw (ne_eqb _ _ c.if-source-ne1.true)

pub returns-then-not-is_source : goal.returns-then-not-is_source
unfolding fields_setting
returns-then-not-is_source c = rw (eq-eqb _ _ c.if-source-ne1.false, sym c.is_source.ensures ∙ c.if-not-is_source.true)

pub returns-in_default : goal.returns-in_default
unfolding fields_setting
returns-in_default c = rw (
  eq-eqb _ _ c.if-source-ne1.false,
  sym c.is_source.ensures ∙ c.if-not-is_source.false,
  unnamed _ c.in_default.ensures,
)

pub returns : goal.returns
unfolding fields_setting
returns c = let n = named _ _ c.in-Some.ensures in rw (
  eq-eqb _ _ c.if-source-ne1.false,
  sym c.is_source.ensures ∙ c.if-not-is_source.false,
  n.0,
  ← n.1,
)
    c.ranged_setting.ensures
