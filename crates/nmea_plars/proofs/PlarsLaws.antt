-- A setting's value with one or more decimals, how many its steps can be, and the bounds of a form.
-- Assumes nothing.
use Prim.Native.Nat.{ℕ, zero, suc, ◌+◌, ◌-◌, ◌*◌, ◌^◌, ◌<◌, ◌≤◌}
use mathlib.Core.Path.{◌≡◌, refl, sym, subst}
use Rattle.nmea_sentence.specs.Judge.{eq_bytes}
use Rattle.nmea_sentence.proofs.JudgeLaws.{equal}
use Rattle.std.proofs.lemmas.Slice.Eq.{text_from_reads}
use mathlib.Core.Bool.{Bool, true, false, cond, ◌&&◌}
use mathlib.Core.List.{List}
use native.Mathlib.Nat.{sub-zero, pow-le-pow_right, mul-le-mul, le_of_lt}
use native.Mathlib.Omega.{arith}
use lib.Dec.{T, leb, ltb, eqb}
use lib.ListN.{length, get_or, take, drop, length-drop}
use lib.Seq.{take_all}
use Rattle.std.specs.Prelude.{Some, None}
use Rattle.nmea_sentence.specs.Digits.{digits_of}
use Rattle.nmea_sentence.proofs.DigitLaws.{written, few-digits}
use Rattle.nmea_plars.specs.declared.Form.{Form}
use Rattle.nmea_plars.specs.Plars.{rule_of, form_of, parameter_of, parameter_named, is_whole_part, steps, value_of}

-- `value_of`, with the parts as the code cuts them
pub pointed : (d : ℕ) (s : List ℕ) → (d ≡ 0 → ⊥)
    → value_of d s
    ≡ (let k = length s - d - 1 in
    cond (leb (d + 2) (length s) && eqb (get_or s k 0) 0x2E && is_whole_part (take (k - 0) s))
    (steps (10 ^ d) (digits_of (take (k - 0) s)) (digits_of (take (length s - (k + 1)) (drop (k + 1) s))))
    None)
unfolding value_of
pointed zero s h = absurd (h refl)
pointed (suc d) s h =
    let k = length s - (d + 2) in
    let e : length s - suc d - 1 ≡ k = omega arith in
    let f : suc d + 2 ≡ d + 3 = omega arith in
    rw (e, f, sub-zero, take_all (length s - (k + 1)) (drop (k + 1) s) (simp length-drop (omega arith)))

-- up to nine digits
small : (s : List ℕ) (n : ℕ) → digits_of s ≡ Some n → n < 10 ^ 9
small s n e = few-digits s n 9 (sym e) (written s n e).few

-- the steps of a whole part w and decimals f, where u steps make 1
pub steps-most : (x y : List ℕ) (w f u : ℕ) → digits_of x ≡ Some w → digits_of y ≡ Some f → u ≤ 1000 → w * u + f ≤ 10 ^ 12 + 10 ^ 9
steps-most x y w f u g h k = omega (arith, mul-le-mul {n₁ = w} {m₁ = u} {n₂ = 10 ^ 9} {m₂ = 10 ^ 3} (le_of_lt (small x w g)) k, small y f h)

-- the bounds of a form, of any number
bounds : (p : ℕ) → ((rule_of p).decimals ≤ 3) × ((rule_of p).most ≤ 12000)
bounds zero = omega arith
bounds (suc zero) = omega arith
bounds (suc (suc zero)) = omega arith
bounds (suc (suc (suc zero))) = omega arith
bounds (suc (suc (suc (suc p)))) = omega arith

-- what the form of a parameter says
module _ (p : ℕ) {f : Form} (e : f ≡ form_of (rule_of p)) where
  pub as-ruled : (f.decimals ≡ (rule_of p).decimals) × (f.least ≡ (rule_of p).least) × (f.most ≡ (rule_of p).most)
  as-ruled = rw e (refl, refl, refl)

  pub unit-ruled : (f.decimals ≤ 3) × (f.unit ≡ 10 ^ f.decimals)
  unit-ruled = rw e ((bounds p).0, refl)

  pub most-ruled : f.most ≤ 12000
  most-ruled = rw e (bounds p).1

-- at most a thousand steps make 1
pub unit-most : (d u : ℕ) → (d ≤ 3) × (u ≡ 10 ^ d) → u ≤ 1000
unit-most d u h = rw h.1 (pow-le-pow_right {n = 10} (omega arith) {i = d} {j = 3} h.0)

-- ---- the parameter of a name

module _ (s : List ℕ) where
  pub unnamed : None ≡ parameter_named s → ltb (parameter_of s) 4 ≡ false
  unfolding parameter_named
  unnamed e = go (ltb (parameter_of s) 4) e
    where
      go : (t : Bool) → None ≡ cond t (Some (parameter_of s)) None → t ≡ false
      go true e = cc
      go false e = refl

  pub named : (p : ℕ) → Some p ≡ parameter_named s → (ltb (parameter_of s) 4 ≡ true) × (p ≡ parameter_of s)
  unfolding parameter_named
  named p e = go (ltb (parameter_of s) 4) e
    where
      go : (t : Bool) → Some p ≡ cond t (Some (parameter_of s)) None → (t ≡ true) × (p ≡ parameter_of s)
      go true e = (refl, cc)
      go false e = cc

-- bytes that are not a name's
pub unlike : (s z : List ℕ) → (s ≡ z → ⊥) → eq_bytes s z ≡ false
unlike s z h = go (eq_bytes s z) refl
  where
    go : (t : Bool) → eq_bytes s z ≡ t → t ≡ false
    go true e = absurd (h (equal s z (subst T (sym e) tt)))
    go false e = refl

-- for a name that is matched byte by byte
pub ruleset naming = (unlike, text_from_reads)
