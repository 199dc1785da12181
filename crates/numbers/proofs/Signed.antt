-- The signed reading of bits, over the width, and what std's methods promise in these words.
-- Assumes nothing.
use Rattle.std.proofs.Common.{◌≡◌, ℕ, suc, ◌+◌, ◌-◌, ◌%◌, ◌^◌, ◌<◌, ◌≤◌, pos, negsuc, ◌+ℤ◌, ap, ◌∙◌, arith, le-ltb}
use mir.Syntax.{Width}
use mir.Val.{bits, hbits}
use mir.Facts.{to_z_pos}
use Rattle.numbers.specs.Low.{signed, minus}
use Rattle.numbers.proofs.Wrap.{difference}

module _ (w : Width) where
  -- below half the number itself; from there on the number less 2 ^ bits
  pub small : {n : ℕ} → n < 2 ^ hbits w → signed w n ≡ pos n
  small h = to_z_pos w h

  pub large : {n : ℕ} → 2 ^ hbits w ≤ n → n < 2 ^ bits w → signed w n +ℤ pos (2 ^ bits w) ≡ pos n
  large {n} h f =
      simp (le-ltb n (2 ^ hbits w) h, le-ltb (2 ^ bits w) (suc (2 ^ bits w - suc n)) (omega arith)) (ap pos (omega arith))

  pub below-zero : {n : ℕ} → 2 ^ hbits w ≤ n → signed w n ≡ negsuc (2 ^ bits w - suc n)
  below-zero {n} h = simp (le-ltb n (2 ^ hbits w) h)

  -- `n.wrapping_neg().cast_signed()` is minus n: r is what `wrapping_neg` returned
  pub minus-wrapping_neg : {r n : ℕ} → r < 2 ^ bits w → n < 2 ^ bits w → (r + n) % 2 ^ bits w ≡ 0 → signed w r ≡ minus w n
  minus-wrapping_neg {r} {n} h k e =
      ap (signed w) (difference (2 ^ bits w) r n 0 h (omega arith) e) ∙ ap (λ (k : ℕ). signed w (k % 2 ^ bits w)) (omega arith)
