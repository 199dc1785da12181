-- The bytes from a field on: their fields, how they are found, and how the next field is found from the one at hand.
-- Assumes nothing.
use Prim.Native.Nat.{ℕ, zero, suc, ◌+◌, ◌-◌, ◌<◌, ◌≤◌}
use mathlib.Core.Path.{◌≡◌, refl, sym, ap, subst, ◌∙◌}
use mathlib.Core.Bool.{Bool, true, false, cond}
use mathlib.Core.List.{List, [], ◌∷◌}
use native.Mathlib.Numerals.{add-one}
use native.Mathlib.Omega.{arith}
use lib.Dec.{T, eqb}
use lib.ListN.{length, get_or, take, drop, length-drop, drop_of_length-le}
use lib.Seq.{drop-cons, take_all}
use borrow.Author.Tests.{eq-eqb, ne_eqb}
use Rattle.nmea_sentence.specs.Fields.{before, fields, field_at, from_field}
use Rattle.nmea_sentence.specs.Judge.{has_tag}
use Rattle.nmea_sentence.proofs.JoinLaws.{fields-some}
use Rattle.nmea_sentence.proofs.JudgeLaws.{equal}

-- ---- what they are

from_first : (s : List ℕ) → from_field s 0 ≡ s
unfolding from_field
from_first [] = refl
from_first (b ∷ s) = refl

all-empty : (i : ℕ) → field_at [] i ≡ []
unfolding field_at fields
all-empty zero = refl
all-empty (suc i) = refl

-- another byte before them changes the first field alone
later_same : (b : ℕ) (fs : List (List ℕ)) (m : ℕ) → get_or fs (suc m) [] ≡ get_or (before false b fs) (suc m) []
unfolding before
later_same b [] m = refl
later_same b (f ∷ fs) m = refl

-- their field i is field n + i of all
pub from_at : (s : List ℕ) (n i : ℕ) → field_at (from_field s n) i ≡ field_at s (n + i)
unfolding from_field field_at fields before
from_at [] n i = all-empty i ∙ sym (all-empty (n + i))
from_at (b ∷ s) zero i = let e : i ≡ 0 + i = omega arith in ap (λ (j : ℕ). get_or (fields (b ∷ s)) j []) e
from_at (b ∷ s) (suc n) i = go (eqb b 0x2C) (from_at s n i) (from_at s (suc n) i)
  where
    go : (t : Bool) → field_at (from_field s n) i ≡ field_at s (n + i) → field_at (from_field s (suc n)) i ≡ field_at s (suc n + i)
        → get_or (fields (from_field s (cond t n (suc n)))) i [] ≡ get_or (before t b (fields s)) (suc n + i) []
    go true ih jh = let e : suc n + i ≡ suc (n + i) = omega arith in rw e ih
    go false ih jh = let e : suc n + i ≡ suc (n + i) = omega arith in jh ∙ rw e (later_same b (fields s) (n + i))

-- ---- the next field

longer : (b : ℕ) (fs : List (List ℕ)) → 0 < length fs → length (get_or (before false b fs) 0 []) ≡ suc (length (get_or fs 0 []))
unfolding before
longer b [] h = absurd (omega arith)
longer b (f ∷ fs) h = refl

-- it follows the first and its comma
behind : (s : List ℕ) → drop (length (field_at s 0) + 1) s ≡ from_field s 1
unfolding from_field field_at fields before
behind [] = refl
behind (b ∷ s) = go (eqb b 0x2C) (behind s)
  where
    go : (t : Bool) → drop (length (field_at s 0) + 1) s ≡ from_field s 1
        → drop (length (get_or (before t b (fields s)) 0 []) + 1) (b ∷ s) ≡ from_field s (cond t 0 1)
    go true ih = sym (from_first s)
    go false ih =
        let e : length (get_or (before false b (fields s)) 0 []) + 1 ≡ suc (length (get_or (fields s) 0 []) + 1) = omega (arith, longer b (fields s) (fields-some s)) in
        rw e ih

-- where the first is the tag
pub behind-tag : (tag body : List ℕ) → has_tag tag body ≡ true → drop (length tag + 1) body ≡ from_field body 1
unfolding has_tag
behind-tag tag body h = ap (λ (f : List ℕ). drop (length f + 1) body) (sym (equal (field_at body 0) tag (subst T (sym h) tt))) ∙ behind body

-- t is s from field n on
pub record From (s : List ℕ) (n : ℕ) (t : List ℕ) : Type 0 where
  pub at : (i : ℕ) → field_at t i ≡ field_at s (n + i)

pub from_start : (s : List ℕ) (n : ℕ) {t : List ℕ} → t ≡ from_field s n → From s n t
from_start s n e = record { at = λ i. ap (λ (l : List ℕ). field_at l i) e ∙ from_at s n i }

-- u is t from its field m on
pub from-later : {s t u : List ℕ} {n : ℕ} (m : ℕ) → From s n t → u ≡ from_field t m → From s (n + m) u
from-later {s} {t} {u} {n} m w e = record {
  at = λ i.
      let a : n + (m + i) ≡ n + m + i = omega arith in
      ap (λ (l : List ℕ). field_at l i) e ∙ from_at t m i ∙ w.at (m + i) ∙ ap (field_at s) a;
}

-- f is its first field, and u what follows that
pub from_next : {s t f u : List ℕ} {n : ℕ} → From s n t → f ≡ field_at t 0 → u ≡ drop (length f + 1) t → From s (n + 1) u
from_next {s} {t} w p q = from-later 1 w (q ∙ ap (λ (g : List ℕ). drop (length g + 1) t) p ∙ behind t)

-- ---- the search

-- the search has passed the first k bytes of s, and n commas more come before field i
pub record Passed (s : List ℕ) (i n k : ℕ) : Type 0 where
  pub within : k ≤ length s
  pub rest : from_field (drop k s) n ≡ from_field s i

pub pass-start : (s : List ℕ) (i : ℕ) → Passed s i i 0
pass-start s i = record { within = omega arith; rest = refl }

module _ (s : List ℕ) (i n k : ℕ) (w : Passed s i n k) where
  -- a byte: n₁ is what the code holds after it
  module _ (z : 0 < n) (h : k < length s) where
    pass-byte : (t : Bool) → eqb (get_or s k 0) 0x2C ≡ t → (n₁ : ℕ) → n₁ ≡ cond t (n - 1) n → Passed s i n₁ (k + 1)
    unfolding from_field
    pass-byte t e n₁ p =
        let m : n ≡ suc (n - 1) = omega arith in
        let c : cond t (n - 1) (suc (n - 1)) ≡ n₁ = rw (← m) (sym p) in
        record {
          within = omega arith;
          rest =
              ap (from_field (drop (k + 1) s)) (sym c)
              ∙ ap (λ (u : Bool). from_field (drop (k + 1) s) (cond u (n - 1) (suc (n - 1)))) (sym e)
              ∙ rw add-one (sym (ap (λ (l : List ℕ). from_field l (suc (n - 1))) (drop-cons s k 0 h)))
              ∙ ap (from_field (drop k s)) (sym m)
              ∙ w.rest;
        }

    pub pass-comma : get_or s k 0 ≡ 0x2C → (n₁ : ℕ) → n₁ ≡ n - 1 → Passed s i n₁ (k + 1)
    pass-comma e = pass-byte true (eq-eqb (get_or s k 0) 0x2C e)

    pub pass-plain : (get_or s k 0 ≡ 0x2C → ⊥) → (n₁ : ℕ) → n₁ ≡ n → Passed s i n₁ (k + 1)
    pass-plain e = pass-byte false (ne_eqb (get_or s k 0) 0x2C e)

  pub pass-done : n ≡ 0 → take (length s - k) (drop k s) ≡ from_field s i
  pass-done z =
      take_all (length s - k) (drop k s) (simp length-drop (omega arith))
      ∙ sym (from_first (drop k s))
      ∙ ap (from_field (drop k s)) (sym z)
      ∙ w.rest

  pub pass-short : length s ≤ k → [] ≡ from_field s i
  unfolding from_field
  pass-short h = ap (λ (l : List ℕ). from_field l n) (sym (drop_of_length-le s h)) ∙ w.rest
