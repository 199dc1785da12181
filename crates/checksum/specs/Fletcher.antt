-- Fletcher's checksum of 16 bits, modulo 255 (docs/FORMATS.md, "Checksums").
use Rattle.std.specs.Prelude.{ℕ, ◌+◌, ◌%◌, List, [], ◌∷◌}
use mathlib.Core.List.{foldl}
use Rattle.checksum.specs.declared.Sums.{Sums}

unfoldable pub add_mod255 : ℕ → ℕ → ℕ
add_mod255 a x = (a + x) % 255

-- the sum of some numbers, modulo 255
unfoldable pub sum_mod255 : List ℕ → ℕ
sum_mod255 s = foldl add_mod255 0 s

-- the plain sum after each byte, where a is the sum of those before
unfoldable pub plain_sums : ℕ → List ℕ → List ℕ
plain_sums a [] = []
plain_sums a (x ∷ s) = add_mod255 a x ∷ plain_sums (add_mod255 a x) s

-- the plain sum of the bytes, and the sum of the plain sums after each of them
unfoldable pub fletcher_of : List ℕ → Sums
fletcher_of s = record { plain = sum_mod255 s; weighted = sum_mod255 (plain_sums 0 s) }
