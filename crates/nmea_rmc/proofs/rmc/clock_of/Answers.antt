use borrow.Author.Rules.{rules}
use borrow.Author.Tests.{eq-eqb, ne_eqb}
use mathlib.Core.Path.{sym, ◌∙◌}
use Rattle.nmea_rmc.specs.Rmc.{fields_clock}
use Rattle.nmea_rmc.proofs.RmcLaws.{time-digits, date-digits}
use Rattle.nmea_rmc.proofs.rmc.clock_of.Goals as goal

pub returns-then-time-eq0 : goal.returns-then-time-eq0
unfolding fields_clock
returns-then-time-eq0 c = rw (eq-eqb _ _ c.if-time-eq0.true)

pub returns-then-date-eq0 : goal.returns-then-date-eq0
unfolding fields_clock
returns-then-date-eq0 c = rw (ne_eqb _ _ c.if-time-eq0.false, eq-eqb _ _ c.if-date-eq0.true)

pub returns-then-not-is_time : goal.returns-then-not-is_time
unfolding fields_clock
returns-then-not-is_time c = rw (ne_eqb _ _ c.if-time-eq0.false, ne_eqb _ _ c.if-date-eq0.false, sym c.is_time.ensures ∙ c.if-not-is_time.true)

pub returns-then-not-is_date : goal.returns-then-not-is_date
unfolding fields_clock
returns-then-not-is_date c = rw (ne_eqb _ _ c.if-time-eq0.false, ne_eqb _ _ c.if-date-eq0.false, sym c.is_time.ensures ∙ c.if-not-is_time.false, sym c.is_date.ensures ∙ c.if-not-is_date.true)

pub two_at-requires : goal.two_at-requires
unfolding fields_clock
two_at-requires c = (search rules, date-digits _ (sym c.is_date.ensures ∙ c.if-not-is_date.false))

pub two_at-requires-2 : goal.two_at-requires-2
unfolding fields_clock
two_at-requires-2 c = (search rules, date-digits _ (sym c.is_date.ensures ∙ c.if-not-is_date.false))

pub two_at-requires-3 : goal.two_at-requires-3
unfolding fields_clock
two_at-requires-3 c = (search rules, date-digits _ (sym c.is_date.ensures ∙ c.if-not-is_date.false))

pub two_at-requires-4 : goal.two_at-requires-4
unfolding fields_clock
two_at-requires-4 c = (search rules, time-digits _ (sym c.is_time.ensures ∙ c.if-not-is_time.false))

pub two_at-requires-5 : goal.two_at-requires-5
unfolding fields_clock
two_at-requires-5 c = (search rules, time-digits _ (sym c.is_time.ensures ∙ c.if-not-is_time.false))

pub two_at-requires-6 : goal.two_at-requires-6
unfolding fields_clock
two_at-requires-6 c = (search rules, time-digits _ (sym c.is_time.ensures ∙ c.if-not-is_time.false))

pub returns : goal.returns
unfolding fields_clock
returns c = rw (
  ne_eqb _ _ c.if-time-eq0.false,
  ne_eqb _ _ c.if-date-eq0.false,
  sym c.is_time.ensures ∙ c.if-not-is_time.false,
  sym c.is_date.ensures ∙ c.if-not-is_date.false,
  ← c.two_at.ensures,
  ← c.two_at-2.ensures,
  ← c.two_at-3.ensures,
  ← c.two_at-4.ensures,
  ← c.two_at-5.ensures,
  ← c.two_at-6.ensures,
  c.clock_of.ensures,
)
