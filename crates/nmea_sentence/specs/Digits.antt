-- Decimal digits (docs/FORMATS.md, "NMEA content").
use Rattle.std.specs.Prelude.{ℕ, ◌+◌, ◌-◌, ◌*◌, Bool, true, cond, ◌&&◌, leb, length, Option, Some, None}
use mathlib.Core.List.{List, [], ◌∷◌, foldl}

-- every byte is one of 0 to 9
unfoldable pub all_digits : List ℕ → Bool
all_digits [] = true
all_digits (b ∷ s) = (leb 0x30 b && leb b 0x39) && all_digits s

-- the number they write
abbrev pub next_digit : ℕ → ℕ → ℕ
next_digit n b = n * 10 + (b - 0x30)

unfoldable pub decimal : List ℕ → ℕ
decimal s = foldl next_digit 0 s

-- the number of up to nine digits, 0 for none; more are never read
unfoldable pub digits_of : List ℕ → Option ℕ
digits_of s = cond (leb (length s) 9 && all_digits s) (Some (decimal s)) None
