-- Laws of the text of a number: its bytes are digits, as many as the number has.
-- Assumes nothing.
use Prim.Native.Nat.{ℕ, zero, suc, ◌+◌, ◌/◌, ◌%◌, ◌≤◌}
use mathlib.Core.Path.{◌≡◌}
use mathlib.Core.List.{List, [], ◌∷◌, ◌++◌}
use native.Mathlib.Omega.{arith}
use lib.ListN.{length}
use Rattle.decimal.specs.Decimal.{last_digits, digit_count, decimal_text}
use Rattle.decimal.proofs.DecimalLaws.{length_last}

-- every byte is one of 0 to 9
abbrev pub IsDigit : ℕ → Type 0
IsDigit b = (0x30 ≤ b) × (b ≤ 0x39)

abbrev pub Digits : List ℕ → Type 0
Digits [] = Unit {0}
Digits (b ∷ s) = IsDigit b × Digits s

snoc-digits : (s : List ℕ) (b : ℕ) → Digits s → IsDigit b → Digits (s ++ b ∷ [])
snoc-digits [] b d h = (h, tt)
snoc-digits (a ∷ s) b d h = (d.0, snoc-digits s b d.1 h)

pub last_digits_lem : (k n : ℕ) → Digits (last_digits k n)
unfolding last_digits
last_digits_lem zero n = tt
last_digits_lem (suc k) n = snoc-digits (last_digits k (n / 10)) (0x30 + n % 10) (last_digits_lem k (n / 10)) (omega arith)

pub text-digits : (n : ℕ) → Digits (decimal_text n)
unfolding decimal_text
text-digits n = last_digits_lem (digit_count n) n

pub text-length : (n : ℕ) → length (decimal_text n) ≡ digit_count n
unfolding decimal_text
text-length n = length_last (digit_count n) n
