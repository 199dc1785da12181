-- The natural numbers among the values of a field function.
-- Assumes nothing.
use Prim.Native.Nat.{ℕ}
use lib.IntN.{ℤ, pos, negsuc}
use lib.ListN.{get_or}
use Rattle.capture_values.specs.declared.Values.{Values}

abbrev natural : ℤ → ℕ
natural (pos n) = n
natural (negsuc n) = 0

-- value i
abbrev pub shown : ℕ → Values → ℕ
shown i v = natural (get_or v.values i (pos 0))
