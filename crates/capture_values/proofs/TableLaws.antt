-- A law of the tables of field functions: past the last row there is none.
-- Assumes nothing.
use Prim.Native.Nat.{ℕ, zero, suc, ◌≤◌, zero-le}
use mathlib.Core.List.{List}
use mathlib.Core.Path.{◌≡◌}
use native.Mathlib.Omega.{arith}
use lib.ListN.{length, get_or, get_or-eq_default}
use Rattle.capture_values.specs.FieldFunctions.{no_function}
use Rattle.capture_values.specs.declared.Values.{Values}

-- x is none of the first n numbers, as a `match` on them leaves it
abbrev Beside : ℕ → ℕ → Type 0
Beside zero x = Unit {0}
Beside (suc n) x = Beside n x × (x ≡ n → ⊥)

above : (n x : ℕ) → Beside n x → n ≤ x
above zero x r = zero-le
above (suc n) x r = omega (arith, above n x r.0, r.1)

pub past : (rows : List Values) (x : ℕ) → Beside (length rows) x → get_or rows x no_function ≡ no_function
past rows x r = get_or-eq_default rows no_function (above (length rows) x r)
