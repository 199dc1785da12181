-- From seconds since year 0 to seconds since 1970, which may be below 0.
-- Assumes nothing.
use mathlib.Core.Path.{◌≡◌, refl}
use Prim.Native.Nat.{ℕ, ◌^◌, ◌<◌}
use lib.Dec.{lit<}
use lib.IntN.{pos, ◌-ℤ◌}
use mir.Syntax.{w64}
use mir.Val.{SFits, to_z, of_z}
use Rattle.numbers.proofs.Difference.{less-fits, less-back}
use Rattle.calendar.specs.Calendar.{leap, leap_day, plain_days, month_days, months_to, years_to, days_to}
use Rattle.calendar.specs.Clocks.{seconds_of, since1970}

to-1970 : seconds_of (days_to 1970 1 1) 0 0 0 ≡ 62167219200
unfolding leap leap_day plain_days month_days months_to years_to days_to
to-1970 = refl

module _ {s : ℕ} (h : s < 2 ^ 63) where
  pub since-fits : SFits w64 (to_z w64 s -ℤ pos 62167219200)
  since-fits = less-fits w64 s _ h (lit< tt)

  pub since : {n : ℕ} → s ≡ n → to_z w64 (of_z w64 (to_z w64 s -ℤ pos 62167219200)) ≡ since1970 n
  since e = rw (to-1970, ← e) (less-back w64 s _ h (lit< tt))
