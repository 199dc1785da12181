-- The checksum of an NMEA sentence (docs/FORMATS.md, "Checksums").
use Rattle.std.specs.Prelude.{ℕ, List, bit_xor}
use mathlib.Core.List.{foldl}

-- the exclusive or of the bytes
unfoldable pub xor_of : List ℕ → ℕ
xor_of s = foldl bit_xor 0 s
