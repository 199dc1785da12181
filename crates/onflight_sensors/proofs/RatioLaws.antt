-- A ratio is rounded once, and is exact where the divisor divides (specs/Meaning.antt).
-- Assumes nothing.
use Prim.Native.Nat.{ℕ, zero, suc, ◌*◌, ◌^◌, ◌<◌, ◌≤◌}
use mathlib.Core.Path.{◌≡◌, refl, sym, ap, ◌∙◌}
use mathlib.Core.Bool.{Bool, true, false, not}
use native.Mathlib.Nat.{mul-one, mul-pos, lt_irrefl, zero-lt-suc}
use native.Mathlib.Omega.{arith}
use lib.Dec.{eqb-suc-zero}
use lib.IntN.{ℤ, pos, negsuc, neg_ℤ, nat_abs, ◌*ℤ◌}
use lib.Signed.{non_neg, nat_abs-le}
use lib.Ieee.{Float, nan, inf, fin, Format, binary64, up, down, unlike, round, div, of_int}
use lib.Ieee.Fits.{up_pos, down_pos}
use lib.Ieee.Exact.{HasValue}
use lib.Ieee.Back.{round_whole}
use lib.Ieee.Scale.{round_same}
use Rattle.onflight_sensors.specs.Ratio.{ratio}
use Rattle.onflight_sensors.specs.Meaning.{Converted, RoundedOnce, Exact, RatiosExact}

pub converted : Converted
unfolding of_int
converted (pos n) h = round_whole binary64 false n h
converted (negsuc n) h = round_whole binary64 true (suc n) h

same_sign : {t u s : Bool} → t ≡ s → u ≡ false → unlike t u ≡ s
same_sign {t = true} p q = rw q p
same_sign {t = false} p q = rw q p

cross : (a b x e y g : ℕ) → x * 1 ≡ a * e → y * 1 ≡ b * g → x * g * b ≡ a * (y * e)
cross a b x e y g h k = rw (sym (mul-one x) ∙ h, sym (mul-one y) ∙ k) (omega arith)

-- the quotient of two whole floats is their exact quotient, rounded once
divided : (f : Format) (x y : Float) (s : Bool) (a b : ℕ) → 0 < b → HasValue x s a 1 → HasValue y false b 1
    → div f x y ≡ round f s a b
unfolding div
divided f nan y s a b p v w = elim v [ ]
divided f (inf _) y s a b p v w = elim v [ ]
divided f (fin t m e) nan s a b p v w = elim w [ ]
divided f (fin t m e) (inf _) s a b p v w = elim w [ ]
divided f (fin t m e) (fin u zero g) s a b p v w = absurd (omega (arith, w.1, mul-pos p (down_pos g)))
divided f (fin t m e) (fin u (suc n) g) s a b p v w =
    let num = m * up e * down g in
    let den = suc n * up g * down e in
    let side : 0 < den = mul-pos (mul-pos (zero-lt-suc n) (up_pos g)) (down_pos e) in
    let same : num * b ≡ a * den = cross a b (m * up e) (down e) (suc n * up g) (down g) v.1 w.1 in
    rw (eqb-suc-zero n)
    (ap (λ (k : Bool). round f k num den) (same_sign v.0 w.0) ∙ round_same f s num den a b side p same)

pub rounded-once : RoundedOnce
unfolding ratio
rounded-once z d p hd hz = divided binary64 _ _ (not (non_neg z)) (nat_abs z) d p (converted z hz) (converted (pos d) hd)

below-zero : (m d : ℕ) → 0 < m → 0 < d → d ≤ 2 ^ 53 → m ≤ 2 ^ 53 → ratio (neg_ℤ (pos m)) d ≡ round binary64 true m d
below-zero zero d q p hd h = absurd (lt_irrefl 0 q)
below-zero (suc m) d q p hd h = rounded-once (negsuc m) d p hd h

pub exact : Exact
unfolding of_int
exact (pos n) d p hd h =
    rounded-once (pos (n * d)) d p hd h ∙ round_same binary64 false (n * d) d n 1 p (zero-lt-suc 0) (mul-one (n * d))
exact (negsuc n) d p hd h =
    below-zero (suc n * d) d (mul-pos (zero-lt-suc n) p) p hd h
    ∙ round_same binary64 true (suc n * d) d (suc n) 1 p (zero-lt-suc 0) (mul-one (suc n * d))

size-times : (q : ℤ) (d : ℕ) → nat_abs (q *ℤ pos d) ≡ nat_abs q * d
size-times (pos n) d = refl
size-times (negsuc n) d = size-minus (suc n * d)
  where
    size-minus : (m : ℕ) → nat_abs (neg_ℤ (pos m)) ≡ m
    size-minus zero = refl
    size-minus (suc m) = refl

pub ratios-exact : RatiosExact
ratios-exact = record {
  voltage = λ q h. exact (pos q) 25 (omega arith) (omega arith) (omega arith);
  load = λ q h. exact q 1000 (omega arith) (omega arith) (omega (arith, size-times q 1000, nat_abs-le (q *ℤ pos 1000) h.sfits));
}
