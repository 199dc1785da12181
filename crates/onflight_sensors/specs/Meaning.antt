-- What a ratio means. Document 01 says of the two values that are 64-bit floats: "each is one rounded division of
-- exactly converted whole numbers, and exact where the divisor divides the raw number". Proved in proofs/RatioLaws.antt.
use Rattle.std.specs.Prelude.{ℕ, ◌*◌, ◌^◌, ◌<◌, ◌≤◌, ◌≡◌, not, ℤ, pos, nat_abs, ◌*ℤ◌}
use Rattle.std.specs.Int.Signed.{non_neg}
use Rattle.std.specs.Float.{binary64}
use Rattle.std.specs.Float.Ieee.{round, of_int}
use Rattle.std.specs.Float.Ieee.Exact.{HasValue}
use Rattle.std.specs.Int.{w16}
use Rattle.std.proofs.Common.{SFits}
use Rattle.onflight_sensors.specs.Ratio.{ratio}

-- A whole number of a size up to 2 ^ 53 is converted exactly: the float is finite and has the number's sign and size.
abbrev pub Converted : Type 0
Converted = (z : ℤ) → nat_abs z ≤ 2 ^ 53 → HasValue (of_int binary64 z) (not (non_neg z)) (nat_abs z) 1

-- A ratio is the exact quotient, rounded once, by `round` of the toolchain's IEEE library, with its sign.
abbrev pub RoundedOnce : Type 0
RoundedOnce =
    (z : ℤ) (d : ℕ) → 0 < d → d ≤ 2 ^ 53 → nat_abs z ≤ 2 ^ 53
    → ratio z d ≡ round binary64 (not (non_neg z)) (nat_abs z) d

-- A ratio is exact where the divisor divides: q times d over d is q.
abbrev pub Exact : Type 0
Exact = (q : ℤ) (d : ℕ) → 0 < d → d ≤ 2 ^ 53 → nat_abs q * d ≤ 2 ^ 53 → ratio (q *ℤ pos d) d ≡ of_int binary64 q

-- So are the two values: the voltage is a byte over 25, the load factor a signed number of 16 bits over 1000.
pub record RatiosExact : Type 0 where
  pub voltage : (q : ℕ) → q * 25 < 256 → ratio (pos (q * 25)) 25 ≡ of_int binary64 (pos q)
  pub load : (q : ℤ) → SFits w16 (q *ℤ pos 1000) → ratio (q *ℤ pos 1000) 1000 ≡ of_int binary64 q
