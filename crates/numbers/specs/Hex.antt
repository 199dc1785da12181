-- Hexadecimal digits, in capitals (docs/FORMATS.md, "NMEA sentences").
use Rattle.std.specs.Prelude.{ℕ, ◌+◌, cond, nat_le}

-- the digit of a value below 16: 0 to 9, A to F
unfoldable pub hex_digit_of : ℕ → ℕ
hex_digit_of n = cond (nat_le n 9) (0x30 + n) (0x37 + n)
