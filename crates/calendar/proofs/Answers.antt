-- Which facts show each answer of a clock.
-- Assumes nothing.
use mathlib.Core.Path.{◌≡◌}
use mathlib.Core.Bool.{Bool, true, false, ◌&&◌, and_assoc}
use Prim.Native.Nat.{ℕ, zero, suc, ◌+◌, ◌<◌, ◌≤◌}
use native.Mathlib.Nat.{zero-add}
use native.Mathlib.Decide.{dec_le}
use native.Mathlib.Omega.{arith}
use lib.Dec.{leb, eqb}
use borrow.Author.Tests.{le-leb, lt-leb, ne_eqb}
use Rattle.calendar.specs.declared.DateTime.{DateTime}
use Rattle.calendar.specs.declared.Field.{Field}
use Rattle.calendar.specs.declared.Field.TheVariants.{Month, Day, Hour, Minute, Second, Year}
use Rattle.calendar.specs.declared.Clock.TheVariants.{Good, Wrong}
use Rattle.calendar.specs.Calendar.{month_days, days_to}
use Rattle.calendar.specs.Clocks.{seconds_of, since1970, clock_of, all_zero}

abbrev Within : ℕ → ℕ → ℕ → Type 0
Within low n high = (low ≤ n) × (n ≤ high)

module _ {low n high : ℕ} where
  inside : Within low n high → (leb low n && leb n high) ≡ true
  inside (a, b) = simp le-leb

  outside : (Within low n high → ⊥) → (leb low n && leb n high) ≡ false
  outside h = go (dec_le low n) (dec_le n high)
    where
      go : Dec (low ≤ n) → Dec (n ≤ high) → (leb low n && leb n high) ≡ false
      go (yes a) (yes b) = absurd (h (a, b))
      go (yes a) (no b) = simp (le-leb, lt-leb n high (omega arith))
      go (no a) b = simp (lt-leb low n (omega arith))

ruleset tests = (inside, outside, le-leb, lt-leb)

module _ (t : DateTime) (first largest : ℕ) where
  abbrev MonthIs : Type 0
  MonthIs = Within 1 t.month 12

  abbrev DayIs : Type 0
  DayIs = Within 1 t.day (month_days (first + t.year) t.month)

  -- f is wrong, and the fields before it are right
  abbrev pub Shows : Field → Type 0
  Shows Month = MonthIs → ⊥
  Shows Day = MonthIs × (DayIs → ⊥)
  Shows Hour = MonthIs × DayIs × (23 < t.hour)
  Shows Minute = MonthIs × DayIs × (t.hour ≤ 23) × (59 < t.minute)
  Shows Second = MonthIs × DayIs × (t.hour ≤ 23) × (t.minute ≤ 59) × (59 < t.second)
  Shows Year = MonthIs × DayIs × (t.hour ≤ 23) × (t.minute ≤ 59) × (t.second ≤ 59) × (largest < t.year)

  pub wrong : (f : Field) → Shows f → Wrong f ≡ clock_of t first largest
  unfolding clock_of
  wrong Month m = simp tests
  wrong Day (m, d) = simp tests
  wrong Hour (m, d, h) = simp tests
  wrong Minute (m, d, h, n) = simp tests
  wrong Second (m, d, h, n, s) = simp tests
  wrong Year (m, d, h, n, s, y) = simp tests

  -- every field is right
  pub good : (1 ≤ t.month) × (t.month ≤ 12) × (1 ≤ t.day) × (t.day ≤ month_days (first + t.year) t.month)
      × (t.hour ≤ 23) × (t.minute ≤ 59) × (t.second ≤ 59) × (t.year ≤ largest)
      → Good (since1970 (seconds_of (days_to (first + t.year) t.month t.day) t.hour t.minute t.second)) ≡ clock_of t first largest
  unfolding clock_of
  good (a, b, c, d, h, n, s, y) = simp le-leb

-- ---- six zeros

both-zero : (a b : ℕ) → eqb (a + b) 0 ≡ (eqb a 0 && eqb b 0)
both-zero zero b = rw zero-add
both-zero (suc a) b =
    let sum : suc a + b ≡ 0 → ⊥ = (λ z. omega arith) in
    let left : suc a ≡ 0 → ⊥ = (λ z. omega arith) in
    simp ne_eqb

-- b is the comparison of t with d, which is all zeros
pub zeros : (t d : DateTime) {b : Bool} → (d.year ≡ 0) × ((d.month ≡ 0) × ((d.day ≡ 0) × ((d.hour ≡ 0) × ((d.minute ≡ 0) × (d.second ≡ 0)))))
    → b ≡ (eqb t.year d.year && (eqb t.month d.month && (eqb t.day d.day && (eqb t.hour d.hour && (eqb t.minute d.minute && eqb t.second d.second)))))
    → all_zero t ≡ b
unfolding all_zero
zeros t d (y, (m, (a, (h, (n, s))))) e = simp (e, y, m, a, h, n, s, both-zero, and_assoc)
