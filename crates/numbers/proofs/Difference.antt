-- A number less another, over the width: the signed difference fits, and is read back as it is.
-- Assumes nothing.
use Rattle.std.proofs.Common.{◌≡◌, ℕ, suc, ◌^◌, ◌<◌, ℤ, pos, negsuc, ◌+ℤ◌, ap, ◌∙◌, arith, to_z-of_z, SFits, to_z, of_z, le-ltb, lt-ltb}
use native.Mathlib.Decide.{dec_lt}
use mir.Syntax.{Width}
use mir.Val.{hbits}
use mir.Facts.{to_z_pos}

-- a less b + 1
module _ (w : Width) (a b : ℕ) (h : a < 2 ^ hbits w) (k : b < 2 ^ hbits w) where
  pub less-fits : SFits w (to_z w a +ℤ negsuc b)
  less-fits = rw (to_z_pos w h) (go (dec_lt a (suc b)))
    where
      go : Dec (a < suc b) → SFits w (pos a +ℤ negsuc b)
      go (yes p) = simp lt-ltb (record { sfits = omega arith })
      go (no p) = simp (le-ltb a (suc b) (omega arith)) (record { sfits = omega arith })

  pub less-back : to_z w (of_z w (to_z w a +ℤ negsuc b)) ≡ pos a +ℤ negsuc b
  less-back = to_z-of_z {w = w} less-fits ∙ ap (λ (z : ℤ). z +ℤ negsuc b) (to_z_pos w h)
