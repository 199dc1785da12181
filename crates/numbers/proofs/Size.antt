-- The size of a signed number, and a size below 0, over the width.
-- Assumes nothing.
use Rattle.std.proofs.Common.{◌≡◌, ℕ, zero, suc, ◌-◌, ◌%◌, ◌^◌, ◌<◌, ◌≤◌, Bool, true, false, not, T, leb, ℤ, pos, negsuc, neg_ℤ, nat_abs, sym, refl, ap, ◌∙◌, subst, mod-eq_of_lt, arith, pow_pos, to_z-of_z, SFits, to_z, of_z}
use native.Mathlib.Nat.{mod_self, sub-zero}
use lib.Signed.{mag, non_neg, lt_z}
use lib.Dec.{leb-suc-zero}
use mir.Syntax.{Width}
use mir.Val.{bits, hbits}
use mir.Facts.{to_z_pos, to_z-neg, sfits_widen}
use Rattle.numbers.specs.Low.{minus}

clash : {X : Type 0} → ◌≡◌ {A = Bool} true false → X
clash e = absurd (subst T e tt)

module _ (w : Width) where
  -- the test z < 0, as the code makes it, and z's sign
  pub test-yes : (z : ℤ) → SFits w z → lt_z (to_z w (of_z w z)) (pos 0) ≡ true → T (not (non_neg z))
  test-yes (pos n) f t = clash (sym t ∙ ap (λ (a : ℤ). lt_z a (pos 0)) (to_z-of_z {w = w} f) ∙ leb-suc-zero n)
  test-yes (negsuc n) f t = tt

  pub test-no : (z : ℤ) → SFits w z → lt_z (to_z w (of_z w z)) (pos 0) ≡ false → T (non_neg z)
  test-no (pos n) f t = tt
  test-no (negsuc n) f t = clash (ap (λ (a : ℤ). lt_z a (pos 0)) (sym (to_z-of_z {w = w} f)) ∙ t)

  pub stays : {z : ℤ} → SFits w z → to_z w (of_z w z) ≡ z
  stays f = to_z-of_z {w = w} f

  -- and it fits a wider type
  pub wider : (v : Width) → T (leb (hbits w) (hbits v)) → {z : ℤ} → SFits w z → SFits v (to_z w (of_z w z))
  wider v h f = subst (SFits v) (sym (stays f)) (sfits_widen h f)

  -- what a call answered, z, of which its contract says y
  pub called : {z y : ℤ} → mag z < 2 ^ hbits w → z ≡ y → to_z w (of_z w z) ≡ y
  called h e = stays (record { sfits = h }) ∙ e

  pub minus_is : (n : ℕ) → n ≤ 2 ^ hbits w → minus w n ≡ neg_ℤ (pos n)
  minus_is zero h = ap (to_z w) (ap (λ (k : ℕ). k % 2 ^ bits w) (sub-zero (2 ^ bits w)) ∙ mod_self (2 ^ bits w)) ∙ to_z_pos w (pow_pos (hbits w))
  minus_is (suc n) h = ap (to_z w) (mod-eq_of_lt {n = 2 ^ bits w - suc n} {m = 2 ^ bits w} (let p = pow_pos (bits w) in omega arith)) ∙ to_z-neg w n h

  pub minus-fits : (n : ℕ) → n ≤ 2 ^ hbits w → SFits w (neg_ℤ (pos n))
  minus-fits zero h = record { sfits = pow_pos (hbits w) }
  minus-fits (suc n) h = record { sfits = h }

-- a number below 0 is minus its size
pub minus-nat_abs : (z : ℤ) → T (not (non_neg z)) → neg_ℤ (pos (nat_abs z)) ≡ z
minus-nat_abs (pos n) t = absurd t
minus-nat_abs (negsuc n) t = refl
