-- A number in decimal digits (docs/FORMATS.md, "Writers").
use Rattle.std.specs.Prelude.{ℕ, zero, suc, ◌+◌, ◌/◌, ◌%◌, cond, List, [], ◌∷◌, ◌++◌, leb}

-- the last k digits, with zeros where the number has fewer
unfoldable pub last_digits : ℕ → ℕ → List ℕ
last_digits zero n = []
last_digits (suc k) n = last_digits k (n / 10) ++ (0x30 + n % 10) ∷ []

-- How many digits a number has, 1 for 0. The recursion counts down a number of steps that is large enough, the number itself.
unfoldable pub count_steps : ℕ → ℕ → ℕ
count_steps zero n = 1
count_steps (suc m) n = cond (leb n 9) 1 (suc (count_steps m (n / 10)))

unfoldable pub digit_count : ℕ → ℕ
digit_count n = count_steps n n

-- all its digits: no leading zero before another digit
unfoldable pub decimal_text : ℕ → List ℕ
decimal_text n = last_digits (digit_count n) n
