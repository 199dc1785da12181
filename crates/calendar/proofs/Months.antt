-- The months that are none, and the leap day.
-- Assumes nothing.
use mathlib.Core.Bool.{Bool, true, false, cond, ◌&&◌}
use mathlib.Core.Path.{◌≡◌, refl}
use Prim.Native.Nat.{ℕ, zero, suc, ◌+◌, ◌-◌, ◌≤◌}
use native.Mathlib.Omega.{arith}
use lib.ListN.{get_or}
use mathlib.Core.List.{List, [], ◌∷◌}
use lib.Dec.{T, leb, ltb}
use mir.Facts.{leb_yes}
use mir.Val.{bool_byte}
use Rattle.calendar.specs.Calendar.{leap, month_lengths, leap_day, plain_days, month_days, months_to}

-- the table of the code
pub tabled : (m : ℕ) → get_or (0 ∷ month_lengths) m 0 ≡ plain_days m
unfolding plain_days
tabled zero = refl
tabled (suc i) = refl

abbrev all_le : ℕ → List ℕ → Bool
all_le b [] = true
all_le b (x ∷ xs) = leb x b && all_le b xs

both_left : (p q : Bool) → T (p && q) → T p
both_left true q t = tt
both_left false q t = absurd t

both_right : (p q : Bool) → T (p && q) → T q
both_right true q t = t
both_right false q t = absurd t

-- what stands anywhere in a table is at most what the test says of all
get_or_le : (b : ℕ) (xs : List ℕ) (i : ℕ) → T (all_le b xs) → get_or xs i 0 ≤ b
get_or_le b [] i t = omega arith
get_or_le b (x ∷ xs) zero t = leb_yes (both_left (leb x b) (all_le b xs) t)
get_or_le b (x ∷ xs) (suc i) t = get_or_le b xs i (both_right (leb x b) (all_le b xs) t)

pub plain_le : (m : ℕ) → plain_days m ≤ 31
plain_le m = rw (← tabled m) (get_or_le 31 (0 ∷ month_lengths) m tt)

abbrev befores : List ℕ
befores = 0 ∷ 0 ∷ 31 ∷ 59 ∷ 90 ∷ 120 ∷ 151 ∷ 181 ∷ 212 ∷ 243 ∷ 273 ∷ 304 ∷ 334 ∷ []

pub before_le : (m : ℕ) → get_or befores m 0 ≤ 334
before_le m = get_or_le 334 befores m tt

pub before : (y m : ℕ) → m ≤ 12 → get_or befores m 0 + cond (ltb 2 m) (cond (leap y) 1 0) 0 ≡ months_to y (m - 1)
unfolding leap_day plain_days month_days months_to
before y zero h = omega arith
before y (suc zero) h = omega arith
before y (suc (suc zero)) h = omega arith
before y (suc (suc (suc zero))) h = omega arith
before y (suc (suc (suc (suc zero)))) h = omega arith
before y (suc (suc (suc (suc (suc zero))))) h = omega arith
before y (suc (suc (suc (suc (suc (suc zero)))))) h = omega arith
before y (suc (suc (suc (suc (suc (suc (suc zero))))))) h = omega arith
before y (suc (suc (suc (suc (suc (suc (suc (suc zero)))))))) h = omega arith
before y (suc (suc (suc (suc (suc (suc (suc (suc (suc zero))))))))) h = omega arith
before y (suc (suc (suc (suc (suc (suc (suc (suc (suc (suc zero)))))))))) h = omega arith
before y (suc (suc (suc (suc (suc (suc (suc (suc (suc (suc (suc zero))))))))))) h = omega arith
before y (suc (suc (suc (suc (suc (suc (suc (suc (suc (suc (suc (suc zero)))))))))))) h = omega arith
before y (suc (suc (suc (suc (suc (suc (suc (suc (suc (suc (suc (suc (suc m))))))))))))) h = absurd (omega arith)

-- a day more where both hold
pub extra_day : (a b : Bool) → bool_byte (a && b) ≡ cond a (cond b 1 0) 0
extra_day true true = refl
extra_day true false = refl
extra_day false b = refl

pub extra-le : (b : Bool) → bool_byte b ≤ 1
extra-le true = omega arith
extra-le false = omega arith
