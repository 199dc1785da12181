-- Laws of the text of a setting that is taken: its parameter is known, and its body is short and fits a sentence.
-- Assumes nothing.
use Prim.Native.Nat.{ℕ, zero, suc, ◌+◌, ◌/◌, ◌^◌, ◌≤◌, ◌<◌}
use mathlib.Core.Path.{◌≡◌, refl, sym, ap, ap₂, subst, ◌∙◌}
use mathlib.Core.Bool.{Bool, true, false, ◌&&◌, ◌||◌, and_assoc, and-eq-true_iff}
use mathlib.Core.List.{List, [], ◌∷◌, ◌++◌}
use native.Mathlib.Omega.{arith}
use lib.Dec.{leb, eqb}
use lib.ListN.{length, length-append}
use borrow.Author.Tests.{leb-true, le-leb, eqb-true, ne_eqb}
use Rattle.decimal.specs.Decimal.{last_digits, digit_count, decimal_text}
use Rattle.decimal.proofs.DecimalLaws.{count_most, length_last}
use Rattle.decimal.proofs.DigitTexts.{Digits, last_digits_lem, text-digits, text-length}
use Rattle.framing.specs.Nmea.{permitted}
use Rattle.framing.specs.declared.Format.TheVariants.{Nmea}
use Rattle.frame_writer.specs.Frames.{all_permitted, takes}
use Rattle.nmea_plars.specs.declared.Setting.{Setting}
use Rattle.nmea_plars.specs.Plars.{rule_of, is_source}
use Rattle.nmea_plars_writer.specs.Text.{value_text, setting_body, takes_setting}

-- ---- what the test says

-- source L or H, and a value in the range of the parameter
pub record Taken (x : Setting) : Type 0 where
  pub source : is_source x.source ≡ true
  pub least : (rule_of x.parameter).least ≤ x.value
  pub most : x.value ≤ (rule_of x.parameter).most

pub taken-means : (x : Setting) → takes_setting x ≡ true → Taken x
unfolding takes_setting
taken-means x e =
    let a = is_source x.source in
    let b = leb (rule_of x.parameter).least x.value in
    let c = leb x.value (rule_of x.parameter).most in
    let t = (and-eq-true_iff (a && b) c).0 e in
    let u = (and-eq-true_iff a b).0 t.0 in
    record { source = u.0; least = leb-true _ _ u.1; most = leb-true _ _ t.1 }

-- what holds of L and of H holds of every source
pub either-source : (P : ℕ → Type 0) → P 0x4C → P 0x48 → (b : ℕ) → is_source b ≡ true → P b
unfolding is_source
either-source P l h b e = go (eqb b 0x4C) refl (eqb b 0x48) refl e
  where
    go : (t : Bool) → eqb b 0x4C ≡ t → (u : Bool) → eqb b 0x48 ≡ u → (t || u) ≡ true → P b
    go true p u q e = subst P (sym (eqb-true b 0x4C p)) l
    go false p true q e = subst P (sym (eqb-true b 0x48 q)) h
    go false p false q e = let z : ◌≡◌ {A = ℕ} 0 1 = cc in absurd (omega arith)

-- the parameters whose range is not empty
in-range : (p v : ℕ) → (rule_of p).least ≤ v → v ≤ (rule_of p).most → p < 4
in-range zero v l m = omega arith
in-range (suc zero) v l m = omega arith
in-range (suc (suc zero)) v l m = omega arith
in-range (suc (suc (suc zero))) v l m = omega arith
in-range (suc (suc (suc (suc p)))) v l m = absurd (omega arith)

pub parameter-known : (x : Setting) → takes_setting x ≡ true → x.parameter < 4
parameter-known x e = let t = taken-means x e in in-range x.parameter x.value t.least t.most

-- ---- how long

pub value-length : (d n : ℕ) → length (value_text (suc d) n) ≡ digit_count (n / 10 ^ suc d) + d + 2
unfolding value_text
value-length d n = rw length-append (omega (arith, text-length (n / 10 ^ suc d), length_last (suc d) n))

whole-value-length : (n : ℕ) → length (value_text 0 n) ≡ digit_count n
unfolding value_text
whole-value-length n = text-length n

-- name and value: QNH and 1200.0 are the longest
longest : (p v : ℕ) → (rule_of p).least ≤ v → v ≤ (rule_of p).most → length (rule_of p).name + length (value_text (rule_of p).decimals v) ≤ 9
longest zero v l m = omega (arith, value-length 0 v, count_most 0 (v / 10) (omega arith))
longest (suc zero) v l m = omega (arith, value-length 2 v, count_most 0 (v / 1000) (omega arith))
longest (suc (suc zero)) v l m = omega (arith, whole-value-length v, count_most 1 v (omega arith))
longest (suc (suc (suc zero))) v l m = omega (arith, value-length 0 v, count_most 3 (v / 10) (omega arith))
longest (suc (suc (suc (suc p)))) v l m = absurd (omega arith)

pub body-length : (x : Setting) → length (setting_body x) ≡ 9 + (length (rule_of x.parameter).name + length (value_text (rule_of x.parameter).decimals x.value))
unfolding setting_body
body-length x =
    let name = (rule_of x.parameter).name in
    let value = value_text (rule_of x.parameter).decimals x.value in
    omega (arith, length-append name (0x2C ∷ value))

pub body-short : (x : Setting) → takes_setting x ≡ true → length (setting_body x) ≤ 18
body-short x e = let t = taken-means x e in omega (arith, body-length x, longest x.parameter x.value t.least t.most)

-- ---- what may stand in a sentence

permitted-append : (s t : List ℕ) → all_permitted (s ++ t) ≡ (all_permitted s && all_permitted t)
unfolding all_permitted
permitted-append [] t = refl
permitted-append (b ∷ s) t = ap (λ (u : Bool). permitted b && u) (permitted-append s t) ∙ sym (and_assoc (permitted b) (all_permitted s) (all_permitted t))

digits-permitted : (s : List ℕ) → Digits s → all_permitted s ≡ true
unfolding all_permitted
digits-permitted [] d = refl
digits-permitted (b ∷ s) d =
    let l = d.0.0 in
    let m = d.0.1 in
    simp (le-leb 0x20 b (omega arith), le-leb b 0x7E (omega arith), ne_eqb b 0x24 (λ e. omega arith), ne_eqb b 0x2A (λ e. omega arith), digits-permitted s d.1)

value-permitted : (d n : ℕ) → all_permitted (value_text d n) ≡ true
unfolding value_text all_permitted
value-permitted zero n = digits-permitted (decimal_text n) (text-digits n)
value-permitted (suc d) n =
    permitted-append (decimal_text (n / 10 ^ suc d)) (0x2E ∷ last_digits (suc d) n)
    ∙ simp (digits-permitted (decimal_text (n / 10 ^ suc d)) (text-digits (n / 10 ^ suc d)), digits-permitted (last_digits (suc d) n) (last_digits_lem (suc d) n))

-- a parameter's name, and the comma after it
name-permitted : (p : ℕ) (t : List ℕ) → all_permitted ((rule_of p).name ++ 0x2C ∷ t) ≡ all_permitted t
unfolding all_permitted
name-permitted zero t = refl
name-permitted (suc zero) t = refl
name-permitted (suc (suc zero)) t = refl
name-permitted (suc (suc (suc zero))) t = refl
name-permitted (suc (suc (suc (suc p)))) t = refl

body-permitted : (x : Setting) → Taken x → all_permitted (setting_body x) ≡ true
unfolding setting_body all_permitted
body-permitted x t =
    let value = value_text (rule_of x.parameter).decimals x.value in
    ap₂ (λ (u v : Bool). u && v) (either-source (λ b. permitted b ≡ true) refl refl x.source t.source)
    (name-permitted x.parameter value ∙ value-permitted (rule_of x.parameter).decimals x.value)

pub body-taken : (x : Setting) → takes_setting x ≡ true → takes Nmea (setting_body x) ≡ true
unfolding takes
body-taken x e =
    let s = body-short x e in
    let l = body-length x in
    simp (le-leb 1 (length (setting_body x)) (omega arith), le-leb (length (setting_body x)) 76 (omega arith), body-permitted x (taken-means x e))
