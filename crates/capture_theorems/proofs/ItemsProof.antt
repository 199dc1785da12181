-- The item is looked at by the field function of a tank alone.
-- Assumes nothing.
use Prim.Native.Nat.{ℕ, zero, suc, ◌/◌, ◌%◌}
use mathlib.Core.Path.{◌≡◌, refl}
use mathlib.Core.List.{List}
use native.Mathlib.Omega.{arith}
use lib.ListN.{get_or}
use Rattle.framing.specs.Format.{format_of}
use Rattle.capture_values.specs.FieldFunctions.{no_function, field_functions, read_values}
use Rattle.capture_theorems.specs.Trips.{ItemsOfTanks}

-- row i of format k: that of tanks is row 4 of format 1
row : (k i item : ℕ) (s : List ℕ) → (k ≡ 1 → i ≡ 4 → ⊥)
    → get_or (field_functions (format_of k) item s) i no_function ≡ get_or (field_functions (format_of k) 0 s) i no_function
unfolding field_functions format_of
row zero i item s h = refl
row (suc zero) zero item s h = refl
row (suc zero) (suc zero) item s h = refl
row (suc zero) (suc (suc zero)) item s h = refl
row (suc zero) (suc (suc (suc zero))) item s h = refl
row (suc zero) (suc (suc (suc (suc zero)))) item s h = absurd (h refl refl)
row (suc zero) (suc (suc (suc (suc (suc i))))) item s h = refl
row (suc (suc zero)) i item s h = refl
row (suc (suc (suc zero))) i item s h = refl
row (suc (suc (suc (suc k)))) i item s h = refl

pub items-of-tanks : ItemsOfTanks
unfolding read_values
items-of-tanks n item s h = row (n / 100) (n % 100) item s (λ k i. h (omega arith))
