-- The Gregorian calendar, in which every year from 0 on follows the Gregorian rule (docs/FORMATS.md, "Clock times").
use Rattle.std.specs.Prelude.{ℕ, zero, suc, ◌+◌, ◌-◌, ◌%◌, Bool, true, false, cond, List, [], ◌∷◌, eqb, get_or}

-- a year that 4 divides, but one that 100 divides only if 400 does
unfoldable pub leap : ℕ → Bool
leap y = cond (eqb (y % 400) 0) true (cond (eqb (y % 100) 0) false (eqb (y % 4) 0))

-- January to December, February without its leap day
abbrev pub month_lengths : List ℕ
month_lengths = 31 ∷ 28 ∷ 31 ∷ 30 ∷ 31 ∷ 30 ∷ 31 ∷ 31 ∷ 30 ∷ 31 ∷ 30 ∷ 31 ∷ []

-- the leap day of February, which is month 2
unfoldable pub leap_day : ℕ → ℕ → ℕ
leap_day y m = cond (eqb m 2) (cond (leap y) 1 0) 0

-- the days of month m, from 1: without the leap day, and with it
unfoldable pub plain_days : ℕ → ℕ
plain_days zero = 0
plain_days (suc i) = get_or month_lengths i 0

unfoldable pub month_days : ℕ → ℕ → ℕ
month_days y m = plain_days m + leap_day y m

-- the days of the first m months of the year y
unfoldable pub months_to : ℕ → ℕ → ℕ
months_to y zero = 0
months_to y (suc m) = months_to y m + month_days y (suc m)

-- the days of the years before the year y, from year 0 on
unfoldable pub years_to : ℕ → ℕ
years_to zero = 0
years_to (suc y) = years_to y + months_to y 12

-- the days from 0000-01-01 to a date
unfoldable pub days_to : ℕ → ℕ → ℕ → ℕ
days_to y m d = years_to y + months_to y (m - 1) + (d - 1)
