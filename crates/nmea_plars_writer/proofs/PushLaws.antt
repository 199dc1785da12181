-- Laws of a setting's text, pushed part by part: its value, and its body.
-- Assumes nothing.
use Prim.Native.Nat.{ℕ, zero, suc, ◌/◌, ◌^◌, ◌≤◌, ◌<◌, min}
use mathlib.Core.Path.{◌≡◌}
use mathlib.Core.List.{List, [], ◌∷◌, ◌++◌}
use native.Mathlib.Nat.{div-one, one-le-pow, min-eq_left}
use native.Mathlib.Omega.{arith}
use lib.ListN.{take}
use Rattle.buffer.proofs.TextLaws.{both_pushed}
use Rattle.decimal.specs.Decimal.{last_digits, decimal_text}
use Rattle.decimal.proofs.DecimalLaws.{count_most, count-least}
use Rattle.nmea_plars.specs.declared.Setting.{Setting}
use Rattle.nmea_plars.specs.Plars.{rule_of}
use Rattle.nmea_plars_writer.specs.Text.{value_text, setting_body}

pub unit-some : (d u : ℕ) → u ≡ 10 ^ d → 0 < u
unit-some d u e = omega (arith, one-le-pow d 10 (omega arith))

-- u of 64 bits is 10 to fewer than 20
decimals-few : (d u : ℕ) → u < 2 ^ 64 → u ≡ 10 ^ d → min d 20 ≡ d
decimals-few d u h e = min-eq_left (omega (arith, count-least d u (omega arith), count_most 19 u (omega arith)))

-- v in steps of the last of d decimals, of which u make 1: with no decimals the whole part alone, and else the whole part, the point
-- and the decimals
whole-value : (d u v : ℕ) → u ≡ 10 ^ d → d ≤ 0 → value_text d v ≡ decimal_text (v / u)
unfolding value_text
whole-value zero u v e z = rw (e, div-one v)
whole-value (suc d) u v e z = absurd (omega arith)

value-parts : (d u v : ℕ) → u ≡ 10 ^ d → 0 < d → value_text d v ≡ decimal_text (v / u) ++ 0x2E ∷ last_digits d v
unfolding value_text
value-parts zero u v e s = absurd (omega arith)
value-parts (suc d) u v e s = rw e

-- pushed behind t
module _ (n v : ℕ) (t : List ℕ) {u d : ℕ} (e : u ≡ 10 ^ d) where
  pub whole-pushed : {w : List ℕ} → d ≤ 0 → w ≡ take n (t ++ decimal_text (v / u)) → w ≡ take n (t ++ value_text d v)
  whole-pushed z p = rw (whole-value d u v e z) p

  pub parts-pushed : {w x y : List ℕ} → u < 2 ^ 64 → 0 < d → w ≡ take n (t ++ decimal_text (v / u)) → x ≡ take n (w ++ 0x2E ∷ [])
      → y ≡ take n (x ++ last_digits (min d 20) v) → y ≡ take n (t ++ value_text d v)
  parts-pushed {w} h s p q r =
      let digits = last_digits d v in
      rw (value-parts d u v e s)
      (both_pushed n t (decimal_text (v / u)) (0x2E ∷ digits) p (both_pushed n w (0x2E ∷ []) digits q (rw (decimals-few d u h e) at r)))

-- ---- a body

-- PLARS, source, and a comma
abbrev head : ℕ → List ℕ
head source = 0x50 ∷ 0x4C ∷ 0x41 ∷ 0x52 ∷ 0x53 ∷ 0x2C ∷ source ∷ 0x2C ∷ []

pub body-pushed : (x : Setting) (n : ℕ) {t u v w y : List ℕ} {d : ℕ} → t ≡ [] → d ≡ (rule_of x.parameter).decimals
    → u ≡ take n (t ++ head x.source) → v ≡ take n (u ++ (rule_of x.parameter).name) → w ≡ take n (v ++ 0x2C ∷ [])
    → y ≡ take n (w ++ value_text d x.value) → y ≡ take n (setting_body x)
unfolding setting_body
body-pushed x n {t} {u} {v} {w} {y} z e p q r s =
    let name = (rule_of x.parameter).name in
    let value = value_text (rule_of x.parameter).decimals x.value in
    let last = both_pushed n v (0x2C ∷ []) value r (rw e at s) in
    rw z at (both_pushed n t (head x.source) (name ++ (0x2C ∷ value)) p (both_pushed n u name (0x2C ∷ value) q last))
