-- What a clock says (docs/FORMATS.md, "Clock times").
use Rattle.std.specs.Prelude.{ℕ, ◌+◌, ◌*◌, Bool, true, false, cond, ◌&&◌, leb, eqb, ℤ, pos, ◌-ℤ◌}
use Rattle.calendar.specs.declared.DateTime.{DateTime}
use Rattle.calendar.specs.declared.Field.{Field}
use Rattle.calendar.specs.declared.Field.TheVariants.{Month, Day, Hour, Minute, Second, Year}
use Rattle.calendar.specs.declared.Clock.{Clock}
use Rattle.calendar.specs.declared.Clock.TheVariants.{Unset, Good, Wrong}
use Rattle.calendar.specs.Calendar.{month_days, days_to}

-- 86,400 seconds a day
abbrev pub seconds_of : ℕ → ℕ → ℕ → ℕ → ℕ
seconds_of days hour minute second = ((days * 24 + hour) * 60 + minute) * 60 + second

-- from 1970-01-01 00:00:00 to a time, both counted from 0000-01-01 00:00:00
abbrev pub since1970 : ℕ → ℤ
since1970 seconds = pos seconds -ℤ pos (seconds_of (days_to 1970 1 1) 0 0 0)

-- the clock, or wrong with this field where the test fails
abbrev pub or_wrong : Bool → Field → Clock → Clock
or_wrong true f c = c
or_wrong false f c = Wrong f

-- The first wrong field, in the order month, day, hour, minute, second, year; else the seconds. `first` and the year's
-- number add up to the calendar year, which decides the length of the month. A number over `largest` is wrong.
unfoldable pub clock_of : DateTime → ℕ → ℕ → Clock
clock_of t first largest =
    or_wrong (leb 1 t.month && leb t.month 12) Month
    (or_wrong (leb 1 t.day && leb t.day (month_days (first + t.year) t.month)) Day
    (or_wrong (leb t.hour 23) Hour
    (or_wrong (leb t.minute 59) Minute
    (or_wrong (leb t.second 59) Second
    (or_wrong (leb t.year largest) Year
    (Good (since1970 (seconds_of (days_to (first + t.year) t.month t.day) t.hour t.minute t.second))))))))

-- six zero bytes
unfoldable pub all_zero : DateTime → Bool
all_zero t = eqb (t.year + t.month + t.day + t.hour + t.minute + t.second) 0

-- the six bytes of a binary format: six zeros are unset
unfoldable pub binary_clock_of : DateTime → ℕ → ℕ → Clock
binary_clock_of t first largest = cond (all_zero t) Unset (clock_of t first largest)

-- ---- the numbers of a clock: 0 unset, 1 good, 2 to 7 wrong with its field (docs/DECISIONS.md, "Numbers of the clock answers")

abbrev pub field_number : Field → ℕ
field_number Month = 2
field_number Day = 3
field_number Hour = 4
field_number Minute = 5
field_number Second = 6
field_number Year = 7

-- which answer it is, and its seconds: 0 where it has none
pub record ClockValues : Type 0 where
  pub which : ℕ
  pub seconds : ℤ

abbrev pub clock_values : Clock → ClockValues
clock_values Unset = record { which = 0; seconds = pos 0 }
clock_values (Good t) = record { which = 1; seconds = t }
clock_values (Wrong f) = record { which = field_number f; seconds = pos 0 }
