-- Document 01's NMEA sentences (docs/FORMATS.md, "NMEA sentences"): `$`, 1 to 76 body bytes, `*`, two digits, CR, LF.
use Rattle.std.specs.Prelude.{ℕ, zero, suc, ◌+◌, ◌-◌, ◌*◌, Bool, cond, not, ◌&&◌, ◌||◌, List, [], ◌∷◌, length, ◌==◌, nat_le, nat_lt, slice_index, Some}
use Rattle.checksum.specs.Xor.{xor_of}
use Rattle.framing.specs.declared.Reason.TheVariants.{StartByte, BodyByte, BodyTooLong, Ending}
use Rattle.framing.specs.declared.Layout.{Layout}
use Rattle.framing.specs.Rules.{Next, more, done, Rules, rules, must, part}

-- a byte that may stand in a body
abbrev pub permitted : ℕ → Bool
permitted b = nat_le 0x20 b && nat_le b 0x7E && not (b == 0x24) && not (b == 0x2A)

abbrev pub hex_digit : ℕ → Bool
hex_digit b = nat_le 0x30 b && nat_le b 0x39 || nat_le 0x41 b && nat_le b 0x46

-- the value of a hexadecimal digit: 0 to 9, A to F
unfoldable pub hex_value : ℕ → ℕ
hex_value b = cond (nat_le b 0x39) (b - 0x30) (b - 0x37)

-- a byte that has n body bytes before it
unfoldable pub body_next : ℕ → ℕ → Next
body_next n b =
    cond (b == 0x2A) (must (nat_lt 0 n) (more 1) BodyByte) (must (permitted b) (must (nat_lt n 76) (more 0) BodyTooLong) BodyByte)

-- Kept: how many of the last five bytes stand before.
unfoldable pub nmea_next : ℕ → ℕ → ℕ → Next
nmea_next zero m b = must (b == 0x24) (more 0) StartByte
nmea_next (suc n) zero b = body_next n b
nmea_next (suc n) (suc zero) b = must (hex_digit b) (more 2) Ending
nmea_next (suc n) (suc (suc zero)) b = must (hex_digit b) (more 3) Ending
nmea_next (suc n) (suc (suc (suc zero))) b = must (b == 0x0D) (more 4) Ending
nmea_next (suc n) (suc (suc (suc (suc m)))) b = must (b == 0x0A) done Ending

-- 1 for a comma, and else 0
abbrev pub comma : ℕ → ℕ
comma b = cond (b == 0x2C) 1 0

-- how many bytes are commas
unfoldable pub comma_count : List ℕ → ℕ
comma_count [] = 0
comma_count (b ∷ s) = comma b + comma_count s

-- the exclusive or of the body, in two digits before CR and LF
abbrev pub nmea_good : List ℕ → Bool
nmea_good xs =
    (xor_of (part 1 (length xs - 5) xs) == hex_value (slice_index xs (length xs - 4)) * 16 + hex_value (slice_index xs (length xs - 3)))

abbrev pub nmea_layout : Layout
nmea_layout = record { first = 0x24; shortest = 7; longest = 82; head = 1; tail = 5 }

abbrev pub nmea_rules : Rules
nmea_rules = rules (Some nmea_layout) nmea_next nmea_good
