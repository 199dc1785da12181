use borrow.Author.Tests.{le-leb, lt-leb, eq-eqb, ne_eqb}
use mathlib.Core.Path.{sym, ◌∙◌}
use Rattle.nmea_plars.specs.Plars.{value_of}
use Rattle.nmea_plars.proofs.PlarsLaws.{pointed}
use Rattle.nmea_plars.proofs.value_of.Goals as goal

pub returns-then-not-is_whole_part : goal.returns-then-not-is_whole_part
unfolding value_of
returns-then-not-is_whole_part c = rw (c.if-form-eq0.true, sym c.is_whole_part.ensures ∙ c.if-not-is_whole_part.true)

pub returns-then-form-eq0 : goal.returns-then-form-eq0
unfolding value_of
returns-then-form-eq0 c = rw (
  c.if-form-eq0.true,
  sym c.is_whole_part.ensures ∙ c.if-not-is_whole_part.false,
)
    c.parse_digits.ensures

pub returns-then-s-form : goal.returns-then-s-form
unfolding value_of
returns-then-s-form c = rw (pointed _ _ c.if-form-eq0.false, lt-leb _ _ c.if-s-form.true)

pub returns-then-s-k-ne46 : goal.returns-then-s-k-ne46
unfolding value_of
returns-then-s-k-ne46 c = rw (
  pointed _ _ c.if-form-eq0.false,
  le-leb _ _ c.if-s-form.false,
  ne_eqb _ _ c.if-s-k-ne46.true,
)

pub returns-then-not-is_whole_part-2 : goal.returns-then-not-is_whole_part-2
unfolding value_of
returns-then-not-is_whole_part-2 c = rw (
  pointed _ _ c.if-form-eq0.false,
  le-leb _ _ c.if-s-form.false,
  eq-eqb _ _ c.if-s-k-ne46.false,
  sym c.is_whole_part-2.ensures ∙ c.if-not-is_whole_part-2.true,
)

pub returns : goal.returns
unfolding value_of
returns c = rw (
  pointed _ _ c.if-form-eq0.false,
  le-leb _ _ c.if-s-form.false,
  eq-eqb _ _ c.if-s-k-ne46.false,
  sym c.is_whole_part-2.ensures ∙ c.if-not-is_whole_part-2.false,
  ← c.requires.1,
)
    c.steps_of.ensures
