-- Leap years, and the days of the years from 0 on: 365 for each, and one for each leap year.
-- Assumes nothing.
use mathlib.Core.Path.{◌≡◌, refl}
use mathlib.Core.Bool.{cond}
use Prim.Native.Nat.{ℕ, zero, suc, ◌+◌, ◌-◌, ◌*◌, ◌/◌, ◌%◌, ◌≤◌}
use native.Mathlib.Omega.{arith}
use native.Mathlib.Decide.{ℕ_discrete}
use lib.Dec.{eqb}
use borrow.Author.Tests.{eq-eqb, ne_eqb}
use Rattle.calendar.specs.Calendar.{leap, leap_day, plain_days, month_days, months_to, years_to}

-- ---- which years are leap years, as the code judges them

module _ (y : ℕ) where
  by-100 : (k : ℕ) → y ≡ 100 * k → y % 100 ≡ 0
  by-100 k e = omega arith

  by-400 : (k : ℕ) → y ≡ 400 * k → y % 400 ≡ 0
  by-400 k e = omega arith

  pub by_16 : y % 25 ≡ 0 → eqb (y % 16) 0 ≡ leap y
  unfolding leap
  by_16 h = go (ℕ_discrete (y % 16) 0) (ℕ_discrete (y % 100) 0)
    where
      go : Dec (y % 16 ≡ 0) → Dec (y % 100 ≡ 0) → eqb (y % 16) 0 ≡ leap y
      go (yes p) q = let e : y % 400 ≡ 0 = by-400 (9 * (y / 16) - 14 * (y / 25)) (omega arith) in simp eq-eqb
      go (no p) (yes q) = let e : y % 400 ≡ 0 → ⊥ = (λ z. omega arith) in simp (ne_eqb, eq-eqb)
      go (no p) (no q) =
          let e : y % 400 ≡ 0 → ⊥ = (λ z. omega arith) in
          let f : y % 4 ≡ 0 → ⊥ = (λ z. q (by-100 (y / 4 - 6 * (y / 25)) (omega arith))) in
          simp ne_eqb

  pub by_4 : (y % 25 ≡ 0 → ⊥) → eqb (y % 4) 0 ≡ leap y
  unfolding leap
  by_4 h =
      let e : y % 400 ≡ 0 → ⊥ = (λ z. omega arith) in
      let f : y % 100 ≡ 0 → ⊥ = (λ z. omega arith) in
      simp ne_eqb

-- ---- the days of the years

-- the leap years before the year n
unfoldable leaps : ℕ → ℕ
leaps n = (n + 3) / 4 - (n + 99) / 100 + (n + 399) / 400

fewer : (n : ℕ) → (n + 99) / 100 ≤ (n + 3) / 4
fewer n = omega arith

sum : (a b c x y z w : ℕ) → b ≤ a → x + z ≡ w + y → y ≤ x → (a + x) - (b + y) + (c + z) ≡ a - b + c + w
sum a b c x y z w h e f = omega arith

grows : (n x y z w : ℕ)
    → ((suc n + 3) / 4 ≡ (n + 3) / 4 + x) × ((suc n + 99) / 100 ≡ (n + 99) / 100 + y) × ((suc n + 399) / 400 ≡ (n + 399) / 400 + z)
    × (x + z ≡ w + y) × (y ≤ x)
    → leaps (suc n) ≡ leaps n + w
unfolding leaps
grows n x y z w (e, f, g, h, i) = rw (e, f, g) (sum ((n + 3) / 4) ((n + 99) / 100) ((n + 399) / 400) x y z w (fewer n) h i)

next-leap : (n : ℕ) → leaps (suc n) ≡ leaps n + cond (leap n) 1 0
unfolding leap
next-leap n = go (ℕ_discrete (n % 400) 0) (ℕ_discrete (n % 100) 0) (ℕ_discrete (n % 4) 0)
  where
    go : Dec (n % 400 ≡ 0) → Dec (n % 100 ≡ 0) → Dec (n % 4 ≡ 0) → leaps (suc n) ≡ leaps n + cond (leap n) 1 0
    go (yes p) q r = simp eq-eqb (grows n 1 1 1 1 (omega arith))
    go (no p) (yes q) r = simp (ne_eqb, eq-eqb) (grows n 1 1 0 0 (omega arith))
    go (no p) (no q) (yes r) = simp (ne_eqb, eq-eqb) (grows n 1 0 0 1 (omega arith))
    go (no p) (no q) (no r) = simp ne_eqb (grows n 0 0 0 0 (omega arith))

year-days : (y : ℕ) → months_to y 12 ≡ 365 + cond (leap y) 1 0
unfolding months_to month_days plain_days leap_day
year-days y = omega arith

next-year : (y : ℕ) → years_to y ≡ 365 * y + leaps y → years_to (suc y) ≡ 365 * suc y + leaps (suc y)
unfolding years_to
next-year y h = rw (year-days, next-leap) (omega arith)

years : (y : ℕ) → years_to y ≡ 365 * y + leaps y
unfolding years_to leaps
years zero = refl
years (suc y) = next-year y (years y)

-- the days as the code counts them
pub counted : (y : ℕ) → 365 * y + (y + 3) / 4 - (y + 99) / 100 + ((y + 99) / 100 + 3) / 4 ≡ years_to y
unfolding leaps
counted y =
    let e : ((y + 99) / 100 + 3) / 4 ≡ (y + 399) / 400 = omega arith in
    rw (years, e) (omega (arith, fewer y))
