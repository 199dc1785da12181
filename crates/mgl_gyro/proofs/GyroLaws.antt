-- Laws of the gyro numbers: the size of a rate, and of the number that stands for it; and the sign put back.
-- Assumes nothing.
use Prim.Native.Nat.{ℕ, zero, suc, ◌+◌, ◌-◌, ◌*◌, ◌/◌, ◌%◌, ◌^◌, ◌<◌, ◌≤◌}
use mathlib.Core.Path.{◌≡◌, refl, sym, ap, ◌∙◌}
use mathlib.Core.Bool.{Bool, true, false, not}
use native.Mathlib.Decide.{dec_le, ℕ_discrete}
use native.Mathlib.Omega.{arith}
use lib.Dec.{T, leb}
use lib.IntN.{ℤ, pos, negsuc, neg_ℤ, nat_abs}
use lib.Signed.{non_neg, lt_z, pos-nat_abs}
use borrow.Author.Tests.{le-leb, lt-leb, eq-eqb, ne_eqb}
use mir.Syntax.{w16, w32}
use mir.Val.{to_z, of_z, SFits}
use Rattle.numbers.specs.Low.{signed, minus}
use Rattle.numbers.proofs.Signed.{small}
use Rattle.numbers.proofs.Size.{minus_is, minus-nat_abs, stays, test-yes, test-no}
use Rattle.answer.specs.Answer.{given, refused, unless}
use Rattle.mgl_gyro.specs.Gyro.{scale, hundredths_of, unscale, number_of}

-- ---- sizes

-- the steps of a number's size n
module _ (n : ℕ) where
  pub fine : n ≤ 14999 → scale n ≡ n
  unfolding scale
  fine h = rw (le-leb n 14999 h)

  pub coarse : 14999 < n → scale n ≡ (n - 13500) * 10
  unfolding scale
  coarse h = rw (lt-leb n 14999 h)

-- and back, of a rate's size m
module _ (m : ℕ) where
  pub fine_back : m ≤ 14999 → unscale m ≡ m
  unfolding unscale
  fine_back h = rw (le-leb m 14999 h)

  pub coarse-back : 14999 < m → m % 10 ≡ 0 → unscale m ≡ m / 10 + 13500
  unfolding unscale
  coarse-back h e = rw (lt-leb m 14999 h, eq-eqb (m % 10) 0 e)

  pub none-back : 14999 < m → (m % 10 ≡ 0 → ⊥) → unscale m ≡ 65535
  unfolding unscale
  none-back h e = rw (lt-leb m 14999 h, ne_eqb (m % 10) 0 e)

pub scale-fits : (n : ℕ) → n ≤ 65535 → scale n < 2 ^ 31
scale-fits n h = go (dec_le n 14999)
  where
    go : Dec (n ≤ 14999) → scale n < 2 ^ 31
    go (yes p) = omega (arith, fine n p)
    go (no p) = omega (arith, coarse n (omega arith))

pub unscale-scale : (n : ℕ) → unscale (scale n) ≡ n
unscale-scale n = go (dec_le n 14999)
  where
    go : Dec (n ≤ 14999) → unscale (scale n) ≡ n
    go (yes p) = rw (fine n p) (fine_back n p)
    go (no p) = rw (coarse n (omega arith), coarse-back ((n - 13500) * 10) (omega arith) (omega arith)) (omega arith)

pub scale-unscale : (m : ℕ) → unscale m ≤ 32768 → scale (unscale m) ≡ m
scale-unscale m h = go (dec_le m 14999) (ℕ_discrete (m % 10) 0)
  where
    go : Dec (m ≤ 14999) → Dec (m % 10 ≡ 0) → scale (unscale m) ≡ m
    go (yes p) t = rw (fine_back m p) (fine m p)
    go (no p) (yes t) = rw (coarse-back m (omega arith) t, coarse (m / 10 + 13500) (omega arith)) (omega arith)
    go (no p) (no t) = absurd (omega (arith, none-back m (omega arith) t))

-- ---- the rate of z's size, with z's sign

pub up : (z : ℤ) → SFits w16 z → T (non_neg z) → signed w32 (scale (nat_abs z)) ≡ hundredths_of z
unfolding hundredths_of
up (pos k) f t = small w32 (scale-fits k (omega arith))
up (negsuc k) f t = absurd t

pub down : (z : ℤ) → SFits w16 z → T (not (non_neg z)) → minus w32 (scale (nat_abs z)) ≡ hundredths_of z
unfolding hundredths_of
down (pos k) f t = absurd t
down (negsuc k) f t = minus_is w32 (scale (suc k)) (omega (arith, scale-fits (suc k) (omega arith)))

-- ---- a size with a minus, 0 too

pub hundredths-down : (n : ℕ) → hundredths_of (neg_ℤ (pos n)) ≡ neg_ℤ (pos (scale n))
unfolding hundredths_of scale
hundredths-down zero = refl
hundredths-down (suc n) = refl

pub number-down : (m : ℕ) → number_of (neg_ℤ (pos m)) ≡ unless (pos 0) (leb (unscale m) 32768) 9 (given (neg_ℤ (pos (unscale m))))
unfolding number_of unscale
number-down zero = refl
number-down (suc m) = refl

-- ---- what `write` answers, by the size s of the rate z, and the size n of its number

module _ {z : ℤ} (f : SFits w32 z) {s n : ℕ} (size : s ≡ nat_abs (to_z w32 (of_z w32 z))) (back : n ≡ unscale s) where
  pub written-up : lt_z (to_z w32 (of_z w32 z)) (pos 0) ≡ false → number_of z ≡ unless (pos 0) (leb n 32767) 9 (given (pos n))
  unfolding number_of
  written-up t = ap number_of (sym (pos-nat_abs z (test-no w32 z f t))) ∙ rw (back, size, stays w32 f)

  pub written-down : lt_z (to_z w32 (of_z w32 z)) (pos 0) ≡ true → number_of z ≡ unless (pos 0) (leb n 32768) 9 (given (neg_ℤ (pos n)))
  written-down t = ap number_of (sym (minus-nat_abs z (test-yes w32 z f t))) ∙ rw (back, size, stays w32 f) (number-down (nat_abs z))

-- no number has the rate's size
pub not-written : {z : ℤ} (f : SFits w32 z) {s : ℕ} → s ≡ nat_abs (to_z w32 (of_z w32 z)) → ◌≡◌ {A = ℕ} 65535 (unscale s) → refused (pos 0) 9 ≡ number_of z
not-written {z} f size back = go (lt_z (to_z w32 (of_z w32 z)) (pos 0)) refl
  where
    go : (b : Bool) → lt_z (to_z w32 (of_z w32 z)) (pos 0) ≡ b → refused (pos 0) 9 ≡ number_of z
    go true t = sym (written-down f size back t)
    go false t = sym (written-up f size back t)
