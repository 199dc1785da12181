-- A setting's value written and read back, and read and written again.
-- Assumes nothing.
use Prim.Native.Nat.{ℕ, zero, suc, ◌+◌, ◌-◌, ◌*◌, ◌/◌, ◌^◌, ◌≤◌, ◌<◌}
use mathlib.Core.Path.{◌≡◌, refl, sym, ap, ap₂, subst, ◌∙◌}
use mathlib.Core.Bool.{Bool, true, false, cond, ◌&&◌, or-true, and-eq-true_iff}
use mathlib.Core.List.{List, [], ◌∷◌, ◌++◌}
use native.Mathlib.Decide.{dec_le}
use native.Mathlib.Nat.{add-zero, div-eq_of_lt, mul-add-div_right}
use native.Mathlib.Numerals.{add-one}
use native.Mathlib.Omega.{arith}
use lib.Dec.{leb, eqb}
use lib.ListN.{length, get_or, take, drop, length-append, length-drop}
use lib.Seq.{take_at, get_or_at, drop-append-add, split_at}
use borrow.Author.Tests.{le-leb, eq-eqb, ne_eqb, eqb-true, leb-true, lt-leb}
use Rattle.decimal.specs.Decimal.{last_digits, digit_count, decimal_text}
use Rattle.decimal.proofs.DecimalLaws.{count-some, count_most, length_last}
use Rattle.decimal.proofs.DigitTexts.{last_digits_lem, text-digits, text-length}
use Rattle.std.specs.Prelude.{Option, Some, None}
use Rattle.nmea_sentence.specs.Digits.{all_digits, decimal, digits_of}
use Rattle.nmea_sentence.proofs.DigitLaws.{Written, written, reads, digits-below}
use Rattle.nmea_plars.specs.Plars.{is_whole_part, steps, value_of}
use Rattle.nmea_plars_writer.specs.Text.{value_text}
use Rattle.roundtrip_theorems.proofs.DigitTrips.{all_digits_lem, text-decimal, decimals-split, written_all, written_last, leading, count-text}

-- ---- written, then read

-- a text of as many digits as its number has is a whole part
whole-text : (s : List ℕ) → all_digits s ≡ true → length s ≡ digit_count (decimal s) → is_whole_part s ≡ true
unfolding is_whole_part
whole-text [] e h = absurd (omega (arith, count-some (decimal [])))
whole-text (b ∷ []) e h = refl
whole-text (b ∷ c ∷ s) e h =
    simp (le-leb 1 (suc (suc (length s))) (omega arith), ne_eqb b 0x30 (leading b (c ∷ s) e (go (dec_le (10 ^ suc (length s)) (decimal (b ∷ c ∷ s))))), or-true)
  where
    go : Dec (10 ^ suc (length s) ≤ decimal (b ∷ c ∷ s)) → 10 ^ suc (length s) ≤ decimal (b ∷ c ∷ s)
    go (yes p) = p
    go (no p) = absurd (omega (arith, count_most (length s) (decimal (b ∷ c ∷ s)) (omega arith)))

last-reads : (k n : ℕ) → k ≤ 9 → digits_of (last_digits k n) ≡ Some (decimal (last_digits k n))
last-reads k n h =
    let s = last_digits k n in
    sym (reads s (decimal s) (record { digits = all_digits_lem s (last_digits_lem k n); value = refl; few = omega (arith, length_last k n) }))

module _ (n : ℕ) where
  text-whole : is_whole_part (decimal_text n) ≡ true
  text-whole = whole-text (decimal_text n) (all_digits_lem (decimal_text n) (text-digits n)) (text-length n ∙ ap digit_count (sym (text-decimal n)))

  text-reads : digit_count n ≤ 9 → digits_of (decimal_text n) ≡ Some n
  unfolding decimal_text
  text-reads h = last-reads (digit_count n) n h ∙ ap Some (text-decimal n)

-- a whole part, the point, and decimals
at-point : (d : ℕ) (w f : List ℕ) → 0 < length w → length f ≡ suc d
    → value_of (suc d) (w ++ 0x2E ∷ f) ≡ cond (is_whole_part w) (steps (10 ^ suc d) (digits_of w) (digits_of f)) None
unfolding value_of
at-point d w f h l =
    let n : length (w ++ 0x2E ∷ f) ≡ length w + suc (suc d) = length-append w (0x2E ∷ f) ∙ ap (λ (k : ℕ). length w + suc k) l in
    let k : length (w ++ 0x2E ∷ f) - (d + 2) ≡ length w = omega arith in
    rw (k, get_or_at w 0x2E f 0 (length w) refl, take_at w (0x2E ∷ f) (length w) refl, drop-append-add w (0x2E ∷ f) 1, le-leb (d + 3) (length (w ++ 0x2E ∷ f)) (omega arith))

pub value-reads : (d n : ℕ) → digit_count (n / 10 ^ d) ≤ 9 → d ≤ 9 → value_of d (value_text d n) ≡ Some n
unfolding value_text value_of
value-reads zero n h k =
    let e : n / 10 ^ 0 ≡ n = omega arith in
    rw (text-whole n) (text-reads n (rw e at h))
value-reads (suc d) n h k =
    let w = n / 10 ^ suc d in
    at-point d (decimal_text w) (last_digits (suc d) n) (omega (arith, text-length w, count-some w)) (length_last (suc d) n)
    ∙ rw (text-whole w, text-reads w h, last-reads (suc d) n k) (ap Some (decimals-split (suc d) n))

-- ---- read, then written

-- a test that guards a result
guarded : (t : Bool) (r : Option ℕ) (n : ℕ) → cond t r None ≡ Some n → (t ≡ true) × (r ≡ Some n)
guarded true r n e = (refl, e)
guarded false r n e = let z : ◌≡◌ {A = ℕ} 0 1 = cc in absurd (omega arith)

-- a whole part has as many digits as its number
whole-count : (s : List ℕ) → is_whole_part s ≡ true → all_digits s ≡ true → digit_count (decimal s) ≡ length s
unfolding is_whole_part
whole-count [] w e = let z : ◌≡◌ {A = ℕ} 0 1 = cc in absurd (omega arith)
whole-count (b ∷ s) w e =
    count-text b s e
    (λ p z.
    let f : false ≡ true = simp (le-leb 1 (suc (length s)) (omega arith), lt-leb (suc (length s)) 1 (omega arith), eq-eqb b 0x30 z) at w in
    let q : ◌≡◌ {A = ℕ} 0 1 = cc in
    omega arith)

-- so the number is written as it was
whole-written : (s : List ℕ) (n : ℕ) → is_whole_part s ≡ true → Written s n → decimal_text n ≡ s
unfolding decimal_text
whole-written s n w r =
    sym (ap (λ (m : ℕ). last_digits (digit_count m) m) r.value)
    ∙ ap (λ (k : ℕ). last_digits k (decimal s)) (whole-count s w r.digits)
    ∙ written_all s r.digits

-- a whole part and decimals that make n
record Stepped (u : ℕ) (x y : Option ℕ) (n : ℕ) : Type 0 where
  whole : ℕ
  part : ℕ
  wholes : x ≡ Some whole
  parts : y ≡ Some part
  sum : whole * u + part ≡ n

stepped : (u : ℕ) (x y : Option ℕ) (n : ℕ) → steps u x y ≡ Some n → Stepped u x y n
stepped u (Some w) (Some f) n e = record { whole = w; part = f; wholes = refl; parts = refl; sum = cc }
stepped u (Some w) None n e = let z : ◌≡◌ {A = ℕ} 0 1 = cc in absurd (omega arith)
stepped u None y n e = let z : ◌≡◌ {A = ℕ} 0 1 = cc in absurd (omega arith)

module _ (d n : ℕ) (w f : List ℕ) (l : length f ≡ suc d) (r : Stepped (10 ^ suc d) (digits_of w) (digits_of f) n) where
  whole_of : n / 10 ^ suc d ≡ r.whole
  whole_of =
      let u = 10 ^ suc d in
      let b : r.part < u = subst (λ (k : ℕ). r.part < 10 ^ k) l (digits-below f r.part r.parts) in
      ap (λ (m : ℕ). m / u) (sym r.sum)
      ∙ mul-add-div_right {m = u} (omega arith) r.whole r.part
      ∙ ap (λ (m : ℕ). r.whole + m) (div-eq_of_lt b)
      ∙ add-zero r.whole

  decimals-of : last_digits (suc d) n ≡ f
  decimals-of =
      let y = written f r.part r.parts in
      let e : r.whole * 10 ^ length f + decimal f ≡ n = rw (l, y.value) r.sum in
      ap₂ last_digits (sym l) (sym e) ∙ written_last f y.digits r.whole

  parts-written : is_whole_part w ≡ true → value_text (suc d) n ≡ w ++ 0x2E ∷ f
  unfolding value_text
  parts-written h =
      ap₂ (λ (x y : List ℕ). x ++ 0x2E ∷ y)
      (ap decimal_text whole_of ∙ whole-written w r.whole h (written w r.whole r.wholes))
      decimals-of

-- the text, cut at its point
cut : (s : List ℕ) (k : ℕ) → k < length s → get_or s k 0 ≡ 0x2E → take k s ++ 0x2E ∷ drop (k + 1) s ≡ s
cut s k h e = sym (split_at s k 0 h ∙ ap₂ (λ (b j : ℕ). take k s ++ b ∷ drop j s) e (sym (add-one k)))

pub value_written : (d : ℕ) (s : List ℕ) (n : ℕ) → value_of d s ≡ Some n → value_text d n ≡ s
unfolding value_text value_of
value_written zero s n e = let g = guarded (is_whole_part s) (digits_of s) n e in whole-written s n g.0 (written s n g.1)
value_written (suc d) s n e =
    let k = length s - (d + 2) in
    let w = take k s in
    let f = drop (k + 1) s in
    let g = guarded (leb (d + 3) (length s) && eqb (get_or s k 0) 0x2E && is_whole_part w) (steps (10 ^ suc d) (digits_of w) (digits_of f)) n e in
    let t = (and-eq-true_iff (leb (d + 3) (length s) && eqb (get_or s k 0) 0x2E) (is_whole_part w)).0 g.0 in
    let v = (and-eq-true_iff (leb (d + 3) (length s)) (eqb (get_or s k 0) 0x2E)).0 t.0 in
    let h = leb-true (d + 3) (length s) v.0 in
    parts-written d n w f (length-drop (k + 1) s ∙ omega arith) (stepped (10 ^ suc d) (digits_of w) (digits_of f) n g.1) t.1
    ∙ cut s k (omega arith) (eqb-true (get_or s k 0) 0x2E v.1)
