-- Sums of rows, column by column. The checksum of a sentence, where bytes follow it: the columns of five rows of 16 bytes, with 0 for each
-- byte behind the body.
-- Assumes nothing.
use Rattle.std.proofs.Common.{◌≡◌, ℕ, zero, suc, ◌+◌, ◌-◌, ◌*◌, ◌%◌, ◌<◌, ◌≤◌, Bool, true, false, cond, eqb, ltb, List, [], ◌∷◌, length, get_or, take, drop, sym, refl, ◌∙◌, suc-add, zero-add, arith, lit≤, length-drop, length-take-le, take_all, get_or-take, take-take, ltb-false, ltb-true}
use mathlib.Core.List.{foldl}
use lib.Bits.{bit_xor, xor_zero_r}
use lib.ListN.{get_or-eq_default}
use lib.Seq.{take-nil, drop-nil}
use Rattle.checksum.specs.Xor.{xor_of}
use Rattle.checksum.proofs.Fold.{fold_end}
use Rattle.checksum.proofs.XorLaws.{xor_assoc, xor4}
use Rattle.framing.specs.Nmea.{hex_value}
use Rattle.framing.specs.declared.Format.TheVariants.{Nmea}
use Rattle.framing.specs.Format.{good}

-- an operation that sums: 0 adds nothing, and no order counts
pub record Sums (op : ℕ → ℕ → ℕ) : Type 0 where
  pub right : (a : ℕ) → op a 0 ≡ a
  pub assoc : (a b c : ℕ) → op (op a b) c ≡ op a (op b c)
  pub four : (a b c d : ℕ) → op (op a b) (op c d) ≡ op (op a c) (op b d)

pub xor-sums : Sums bit_xor
xor-sums = record { right = xor_zero_r; assoc = xor_assoc; four = xor4 }

pub add-sums : Sums ◌+◌
add-sums = record { right = λ a. omega arith; assoc = λ a b c. omega arith; four = λ a b c d. omega arith }

-- the sum of the first n numbers of a row
unfoldable pub sum_to : (ℕ → ℕ → ℕ) → (ℕ → ℕ) → ℕ → ℕ
sum_to op g zero = 0
sum_to op g (suc n) = op (sum_to op g n) (g n)

module _ {op : ℕ → ℕ → ℕ} (o : Sums op) where
  pub sum_to-join : (f g : ℕ → ℕ) (n : ℕ) → sum_to op (λ j. op (f j) (g j)) n ≡ op (sum_to op f n) (sum_to op g n)
  unfolding sum_to
  sum_to-join f g zero = sym (o.right 0)
  sum_to-join f g (suc n) = rw (sum_to-join f g n) (o.four (sum_to op f n) (sum_to op g n) (f n) (g n))

  pub sum_to-add : (g : ℕ → ℕ) (m n : ℕ) → sum_to op g (n + m) ≡ op (sum_to op g m) (sum_to op (λ j. g (j + m)) n)
  unfolding sum_to
  sum_to-add g m zero = rw zero-add (sym (o.right (sum_to op g m)))
  sum_to-add g m (suc n) = rw (suc-add, sum_to-add g m n) (o.assoc (sum_to op g m) (sum_to op (λ j. g (j + m)) n) (g (n + m)))

  -- A row more: where the columns of f come to the first m of g, with the n behind them they come to the first n + m.
  pub row_more : (f g : ℕ → ℕ) (m n : ℕ) → sum_to op f n ≡ sum_to op g m → sum_to op (λ j. op (f j) (g (j + m))) n ≡ sum_to op g (n + m)
  row_more f g m n e = sum_to-join f (λ j. g (j + m)) n ∙ rw e (sym (sum_to-add g m n))

-- column j of five rows of 16
abbrev pub column : (ℕ → ℕ) → ℕ → ℕ
column g j = bit_xor (bit_xor (bit_xor (bit_xor (g j) (g (j + 16))) (g (j + 32))) (g (j + 48))) (g (j + 64))

columns : (g : ℕ → ℕ) → sum_to bit_xor (column g) 16 ≡ sum_to bit_xor g 80
columns g = more _ g 64 16 (more _ g 48 16 (more _ g 32 16 (more g g 16 16 refl)))
  where
    more : (f h : ℕ → ℕ) (m n : ℕ) → sum_to bit_xor f n ≡ sum_to bit_xor h m → sum_to bit_xor (λ j. bit_xor (f j) (h (j + m))) n ≡ sum_to bit_xor h (n + m)
    more = row_more xor-sums

-- byte j, and 0 behind the first 128 - over
abbrev pub masked : List ℕ → ℕ → ℕ → ℕ
masked s over j = cond (ltb ((j + over) % 256) 128) (get_or s j 0) 0

fold_next : (x : ℕ) (t : List ℕ) (i : ℕ) → foldl bit_xor (bit_xor x (get_or t i 0)) (drop (suc i) t) ≡ foldl bit_xor x (drop i t)
fold_next x [] i = rw drop-nil (xor_zero_r x)
fold_next x (b ∷ t) zero = refl
fold_next x (b ∷ t) (suc i) = fold_next x t i

module _ (s : List ℕ) (n : ℕ) (h : n ≤ 80) (l : n ≤ length s) where
  masked-is : (j : ℕ) → j < 80 → masked s (128 - n) j ≡ get_or (take n s) j 0
  masked-is j b = pick (ltb ((j + (128 - n)) % 256) 128) refl
    where
      pick : (t : Bool) → ltb ((j + (128 - n)) % 256) 128 ≡ t → cond t (get_or s j 0) 0 ≡ get_or (take n s) j 0
      pick true t = let g : (j + (128 - n)) % 256 < 128 = ltb-true _ _ t in sym (get_or-take n s j 0 (omega arith))
      pick false t =
          let g : 128 ≤ (j + (128 - n)) % 256 = ltb-false _ _ t in
          sym (get_or-eq_default (take n s) 0 (rw (length-take-le n s l) (omega arith)))

  folded : (i : ℕ) → i ≤ 80 → foldl bit_xor (sum_to bit_xor (masked s (128 - n)) i) (drop i (take n s)) ≡ xor_of (take n s)
  unfolding sum_to xor_of
  folded zero b = refl
  folded (suc i) b = rw (masked-is i b) (fold_next _ (take n s) i ∙ folded i (omega arith))

  pub columns-are : sum_to bit_xor (column (masked s (128 - n))) 16 ≡ xor_of (take n s)
  columns-are = columns (masked s (128 - n)) ∙ sym (fold_end bit_xor _ (take n s) 80 (rw (length-take-le n s l) h)) ∙ folded 80 (lit≤ tt)

-- ---- its checksum, where bytes follow the sentence

behind-first : (s : List ℕ) (n : ℕ) → 0 < n → drop 1 (take n s) ≡ take (n - 1) (drop 1 s)
behind-first s zero h = absurd (omega arith)
behind-first [] (suc n) h = sym (take-nil (suc n - 1))
behind-first (x ∷ s) (suc n) h = let e : suc n - 1 ≡ n = omega arith in rw e

pub good-at : (s : List ℕ) (n : ℕ) → 7 ≤ n → n ≤ length s
    → good Nmea (take n s) ≡ eqb (xor_of (take (n - 6) (take (length s - 1) (drop 1 s)))) (hex_value (get_or s (n - 4) 0) * 16 + hex_value (get_or s (n - 3) 0))
unfolding good
good-at s n h l =
    let e : n - 5 - 1 ≡ n - 6 = omega arith in
    rw (
      length-take-le n s l,
      get_or-take n s (n - 4) 0 (omega arith),
      get_or-take n s (n - 3) 0 (omega arith),
      e,
      behind-first s n (omega arith),
      take-take (n - 6) (n - 1) (drop 1 s) (omega arith),
      take_all (length s - 1) (drop 1 s) (simp length-drop (omega arith)),
    )
