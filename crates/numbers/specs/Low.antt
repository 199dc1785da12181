-- Whole numbers as bytes, low byte first, unsigned and signed (docs/FORMATS.md, "Numbers").
use Rattle.std.specs.Prelude.{ℕ, zero, suc, ◌+◌, ◌-◌, ◌*◌, ◌/◌, ◌%◌, ◌^◌, ◌<◌, ◌≡◌, List, [], ◌∷◌, ℤ, slice_index}
use Rattle.std.proofs.Common.{sym, ap, ◌∙◌}
use Rattle.std.specs.Int.{Width, cast_unsigned}
use Rattle.std.proofs.lemmas.Int.{of_z-to_z}
use mir.Val.{to_z, bits}

-- the number of the k bytes of s from `at` on, low byte first; a byte past the end counts 0
unfoldable pub low : ℕ → List ℕ → ℕ → ℕ
low zero s at = 0
low (suc k) s at = low k s at + slice_index s (at + k) * 256 ^ k

-- the k bytes of a number, low byte first
unfoldable pub low_bytes : ℕ → ℕ → List ℕ
low_bytes zero n = []
low_bytes (suc k) n = n % 256 ∷ low_bytes k (n / 256)

-- the low bits of a number, read as two's complement: n itself below half of 2 ^ bits, and n less 2 ^ bits from there on (`small` and `large` of
-- proofs/Signed.antt)
abbrev pub signed : Width → ℕ → ℤ
signed w n = to_z w n

-- minus n, as far as the width holds it: exactly -n up to half of 2 ^ bits (`minus_is` of proofs/Size.antt)
abbrev pub minus : Width → ℕ → ℤ
minus w n = signed w ((2 ^ bits w - n) % 2 ^ bits w)

-- other bits are another number
pub signed-apart : (w : Width) (m n : ℕ) → m < 2 ^ bits w → n < 2 ^ bits w → signed w m ≡ signed w n → m ≡ n
signed-apart w m n h k e = sym (of_z-to_z w m h) ∙ ap (cast_unsigned w) e ∙ of_z-to_z w n k
