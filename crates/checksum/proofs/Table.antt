-- A table's rule: what stands at each place of the table that antt computes; and two lists that a computed test finds equal.
-- Assumes nothing.
use Rattle.std.proofs.Common.{◌≡◌, ℕ, zero, suc, ◌+◌, ◌<◌, Bool, true, false, T, eqb, List, [], ◌∷◌, get_or, sym, refl, ap, ◌∙◌, ap₂, le_of_suc-le-suc, not-suc-le-zero, add-zero, add-suc, suc-add, zero-add, eqb→eq}
use Rattle.checksum.specs.Crc.{bit_steps}
use Rattle.checksum.specs.Private.{table_from}

held : (n i k m : ℕ) → m < k → get_or (table_from n i k) m 0 ≡ bit_steps n (i + m)
unfolding table_from
held n i zero m h = absurd (not-suc-le-zero h)
held n i (suc k) zero h = ap (bit_steps n) (sym (add-zero i))
held n i (suc k) (suc m) h = held n (suc i) k m (le_of_suc-le-suc h) ∙ ap (bit_steps n) (suc-add i m ∙ sym (add-suc i m))

pub table_rule : (n m : ℕ) → m < 256 → get_or (table_from n 0 256) m 0 ≡ bit_steps n m
table_rule n m h = held n 0 256 m h ∙ ap (bit_steps n) (zero-add m)

-- ---- two lists of numbers are equal where a test that antt computes says so

abbrev pub both : Bool → Bool → Bool
both true b = b
both false b = false

pub both_left : (a b : Bool) → T (both a b) → T a
both_left true b t = tt
both_left false b t = t

pub both_right : (a b : Bool) → T (both a b) → T b
both_right true b t = t
both_right false b t = absurd t

abbrev pub eq_list : List ℕ → List ℕ → Bool
eq_list [] [] = true
eq_list [] (y ∷ ys) = false
eq_list (x ∷ xs) [] = false
eq_list (x ∷ xs) (y ∷ ys) = both (eqb x y) (eq_list xs ys)

pub same : (xs ys : List ℕ) → T (eq_list xs ys) → xs ≡ ys
same [] [] t = refl
same [] (y ∷ ys) t = absurd t
same (x ∷ xs) [] t = absurd t
same (x ∷ xs) (y ∷ ys) t =
    ap₂ (λ (a : ℕ) (l : List ℕ). a ∷ l) (eqb→eq x y (both_left (eqb x y) (eq_list xs ys) t)) (same xs ys (both_right (eqb x y) (eq_list xs ys) t))
