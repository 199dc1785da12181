-- A walk through a body, field by field: where field i stands, and how many fields there are.
-- Assumes nothing.
use mathlib.Core.Path.{◌≡◌, refl, sym, ap, subst₂, ◌∙◌}
use mathlib.Core.Bool.{Bool, true, false, cond}
use mathlib.Core.List.{List, [], ◌∷◌, ◌++◌, append_assoc, append-nil}
use mathlib.Core.Option.{Option, none, some}
use Prim.Native.Nat.{ℕ, zero, suc, ◌+◌, ◌-◌, ◌<◌, ◌≤◌}
use native.Mathlib.Nat.{sub_self}
use native.Mathlib.Numerals.{add-one}
use native.Mathlib.Omega.{arith}
use lib.Dec.{eqb}
use lib.ListN.{length, length-append, get_or, take, drop, get_elem?, length-drop, drop_of_length-le}
use lib.Seq.{drop-cons, take-suc, get_or-drop}
use borrow.Author.Tests.{eq-eqb, ne_eqb}
use Rattle.framing.specs.Nmea.{comma_count}
use Rattle.nmea_sentence.specs.Fields.{before, fields, field_at}

-- field i, from 0
unfoldable pub field_of : List ℕ → ℕ → Option (List ℕ)
field_of s i = get_elem? (fields s) i

-- field n of what begins with the bytes p and goes on with the fields fs
unfoldable pub pick : List ℕ → List (List ℕ) → ℕ → Option (List ℕ)
pick p [] n = none
pick p (f ∷ fs) zero = some (p ++ f)
pick p (f ∷ fs) (suc n) = get_elem? fs n

-- from a field that may be missing to one that is empty then
or-empty : (fs : List (List ℕ)) (i : ℕ) (f : List ℕ) → some f ≡ get_elem? fs i → f ≡ get_or fs i []
or-empty [] i f e = let z : ◌≡◌ {A = ℕ} 0 1 = cc in absurd (omega arith)
or-empty (g ∷ fs) zero f e = cc
or-empty (g ∷ fs) (suc i) f e = or-empty fs i f e

none-empty : (fs : List (List ℕ)) (i : ℕ) → none ≡ get_elem? fs i → [] ≡ get_or fs i []
none-empty [] i e = refl
none-empty (g ∷ fs) zero e = let z : ◌≡◌ {A = ℕ} 0 1 = cc in absurd (omega arith)
none-empty (g ∷ fs) (suc i) e = none-empty fs i e

module _ (s : List ℕ) (i : ℕ) where
  present : {f : List ℕ} → some f ≡ field_of s i → f ≡ field_at s i
  unfolding field_of field_at
  present e = or-empty (fields s) i _ e

  absent : none ≡ field_of s i → [] ≡ field_at s i
  unfolding field_of field_at
  absent e = none-empty (fields s) i e

-- the walk has passed the first k bytes of s; the field at hand begins at a, and n more come before field i
pub record Walk (s : List ℕ) (i a n k : ℕ) : Type 0 where
  pub order : a ≤ k
  pub within : k ≤ length s
  pub rest : pick (take (k - a) (drop a s)) (fields (drop k s)) n ≡ field_of s i

from-none : (fs : List (List ℕ)) (n : ℕ) → pick [] fs n ≡ get_elem? fs n
unfolding pick
from-none [] n = refl
from-none (f ∷ fs) zero = refl
from-none (f ∷ fs) (suc n) = refl

-- how `pick` passes a byte
module _ (p : List ℕ) (b : ℕ) where
  pick-plain : (fs : List (List ℕ)) (n : ℕ) → pick p (before false b fs) n ≡ pick (p ++ (b ∷ [])) fs n
  unfolding pick before
  pick-plain [] n = refl
  pick-plain (f ∷ fs) zero = ap some (sym (append_assoc p (b ∷ []) f))
  pick-plain (f ∷ fs) (suc n) = refl

  pick-comma : (fs : List (List ℕ)) (n : ℕ) → (n ≡ 0 → ⊥) → pick p (before true b fs) n ≡ pick [] fs (n - 1)
  unfolding pick before
  pick-comma fs zero h = absurd (h refl)
  pick-comma fs (suc n) h = sym (from-none fs n) ∙ ap (pick [] fs) (let e : n ≡ suc n - 1 = omega arith in e)

  pick-done : (fs : List (List ℕ)) (n : ℕ) → n ≡ 0 → pick p (before true b fs) n ≡ some p
  unfolding pick before
  pick-done fs zero h = ap some (append-nil p)
  pick-done fs (suc n) h = absurd (omega arith)

-- and the end
module _ (p : List ℕ) where
  pick-last : (n : ℕ) → n ≡ 0 → some p ≡ pick p (fields []) n
  unfolding pick fields
  pick-last zero z = ap some (sym (append-nil p))
  pick-last (suc n) z = absurd (omega arith)

  pick-past : (n : ℕ) → (n ≡ 0 → ⊥) → none ≡ pick p (fields []) n
  unfolding pick fields
  pick-past zero z = absurd (z refl)
  pick-past (suc n) z = refl

-- the byte at k
module _ (s : List ℕ) (k : ℕ) (h : k < length s) where
  opened : (t : Bool) → eqb (get_or s k 0) 0x2C ≡ t → fields (drop k s) ≡ before t (get_or s k 0) (fields (drop (k + 1) s))
  unfolding fields
  opened t e = rw (add-one, drop-cons s k 0 h) (ap (λ (u : Bool). before u (get_or s k 0) (fields (drop (suc k) s))) e)

  pub at_plain : (get_or s k 0 ≡ 0x2C → ⊥) → fields (drop k s) ≡ before false (get_or s k 0) (fields (drop (k + 1) s))
  at_plain e = opened false (ne_eqb (get_or s k 0) 0x2C e)

  pub at-comma : get_or s k 0 ≡ 0x2C → fields (drop k s) ≡ before true (get_or s k 0) (fields (drop (k + 1) s))
  at-comma e = opened true (eq-eqb (get_or s k 0) 0x2C e)

  one_more : (a : ℕ) → a ≤ k → take (k - a) (drop a s) ++ (get_or s k 0 ∷ []) ≡ take (k + 1 - a) (drop a s)
  one_more a g =
      let e : suc (k - a) ≡ k + 1 - a = omega arith in
      let at : a + (k - a) ≡ k = omega arith in
      sym
      (ap (λ (n : ℕ). take n (drop a s)) (sym e)
      ∙ take-suc (drop a s) (k - a) 0 (rw length-drop (omega arith))
      ∙ ap (λ (b : ℕ). take (k - a) (drop a s) ++ (b ∷ [])) (get_or-drop a s (k - a) 0 ∙ ap (λ (n : ℕ). get_or s n 0) at))

pub walk_start : (s : List ℕ) (i : ℕ) → Walk s i 0 i 0
unfolding field_of
walk_start s i = record { order = omega arith; within = omega arith; rest = from-none (fields s) i }

module _ (s : List ℕ) (i a n k : ℕ) (w : Walk s i a n k) where
  module _ (h : k < length s) where
    -- any other byte; a₁ and n₁ are what the code holds after it
    pub walk-plain : (get_or s k 0 ≡ 0x2C → ⊥) → (a₁ n₁ : ℕ) → a₁ ≡ a → n₁ ≡ n → Walk s i a₁ n₁ (k + 1)
    walk-plain e a₁ n₁ p q =
        subst₂ (λ (x y : ℕ). Walk s i x y (k + 1)) (sym p) (sym q)
        (record {
          order = let o = w.order in omega arith;
          within = omega arith;
          rest =
              ap (λ (f : List ℕ). pick f (fields (drop (k + 1) s)) n) (sym (one_more s k h a w.order))
              ∙ sym (pick-plain (take (k - a) (drop a s)) (get_or s k 0) (fields (drop (k + 1) s)) n)
              ∙ ap (λ (fs : List (List ℕ)). pick (take (k - a) (drop a s)) fs n) (sym (at_plain s k h e))
              ∙ w.rest;
        })

    -- a comma before the field asked for
    pub walk-comma : get_or s k 0 ≡ 0x2C → (n ≡ 0 → ⊥) → (a₁ n₁ : ℕ) → a₁ ≡ k + 1 → n₁ ≡ n - 1 → Walk s i a₁ n₁ (k + 1)
    walk-comma e z a₁ n₁ p q =
        subst₂ (λ (x y : ℕ). Walk s i x y (k + 1)) (sym p) (sym q)
        (record {
          order = omega arith;
          within = omega arith;
          rest =
              ap (λ (m : ℕ). pick (take m (drop (k + 1) s)) (fields (drop (k + 1) s)) (n - 1)) (sub_self (k + 1))
              ∙ sym (pick-comma (take (k - a) (drop a s)) (get_or s k 0) (fields (drop (k + 1) s)) n z)
              ∙ ap (λ (fs : List (List ℕ)). pick (take (k - a) (drop a s)) fs n) (sym (at-comma s k h e))
              ∙ w.rest;
        })

    -- the comma that ends it
    pub found : get_or s k 0 ≡ 0x2C → n ≡ 0 → take (k - a) (drop a s) ≡ field_at s i
    found e z =
        present s i
        (sym (pick-done (take (k - a) (drop a s)) (get_or s k 0) (fields (drop (k + 1) s)) n z)
        ∙ ap (λ (fs : List (List ℕ)). pick (take (k - a) (drop a s)) fs n) (sym (at-comma s k h e))
        ∙ w.rest)

  -- the end of the body
  module _ (h : length s ≤ k) where
    ended : pick (take (k - a) (drop a s)) (fields []) n ≡ field_of s i
    ended = ap (λ (r : List ℕ). pick (take (k - a) (drop a s)) (fields r) n) (sym (drop_of_length-le s h)) ∙ w.rest

    pub last : n ≡ 0 → take (k - a) (drop a s) ≡ field_at s i
    last z = present s i (pick-last (take (k - a) (drop a s)) n z ∙ ended)

    pub missing : (n ≡ 0 → ⊥) → [] ≡ field_at s i
    missing z = absent s i (pick-past (take (k - a) (drop a s)) n z ∙ ended)

-- n less one is the count of commas in the first k bytes of s
pub record Count (s : List ℕ) (n k : ℕ) : Type 0 where
  pub within : k ≤ length s
  pub few : n ≤ k + 1
  pub rest : n + length (fields (drop k s)) ≡ 1 + length (fields s)

count-before : (b : ℕ) (fs : List (List ℕ)) → length (before false b fs) ≡ length fs
unfolding before
count-before b [] = refl
count-before b (f ∷ fs) = refl

count-ended : (b : ℕ) (fs : List (List ℕ)) → length (before true b fs) ≡ suc (length fs)
unfolding before
count-ended b fs = refl

pub count-start : (s : List ℕ) → Count s 1 0
count-start s = record { within = omega arith; few = omega arith; rest = refl }

module _ (s : List ℕ) (n k : ℕ) (c : Count s n k) where
  module _ (h : k < length s) where
    pub count-plain : (get_or s k 0 ≡ 0x2C → ⊥) → (n₁ : ℕ) → n₁ ≡ n → Count s n₁ (k + 1)
    count-plain e n₁ p =
        let o : length (fields (drop k s)) ≡ length (fields (drop (k + 1) s)) = ap length (at_plain s k h e) ∙ count-before (get_or s k 0) (fields (drop (k + 1) s)) in
        let f = c.few in
        let r = c.rest in
        record { within = omega arith; few = omega arith; rest = omega arith }

    pub count-comma : get_or s k 0 ≡ 0x2C → (n₁ : ℕ) → n₁ ≡ n + 1 → Count s n₁ (k + 1)
    count-comma e n₁ p =
        let o : length (fields (drop k s)) ≡ suc (length (fields (drop (k + 1) s))) = ap length (at-comma s k h e) ∙ count-ended (get_or s k 0) (fields (drop (k + 1) s)) in
        let f = c.few in
        let r = c.rest in
        record { within = omega arith; few = omega arith; rest = omega arith }

  pub count-done : length s ≤ k → n ≡ length (fields s)
  unfolding fields
  count-done h =
      let r = c.rest in
      let e : length (fields (drop k s)) ≡ 1 = ap (λ (l : List ℕ). length (fields l)) (drop_of_length-le s h) in
      omega arith

-- ---- part by part

-- the comma between two bodies is missing where they stand together
count-joined : (x y : List ℕ) → length (fields (x ++ y)) + 1 ≡ length (fields x) + length (fields y)
unfolding fields before
count-joined [] y = omega arith
count-joined (b ∷ x) y = go (eqb b 0x2C) (count-joined x y)
  where
    go : (t : Bool) → length (fields (x ++ y)) + 1 ≡ length (fields x) + length (fields y)
        → length (before t b (fields (x ++ y))) + 1 ≡ length (before t b (fields x)) + length (fields y)
    go true ih = omega arith
    go false ih = omega (arith, count-before b (fields (x ++ y)), count-before b (fields x))

count-few : (x : List ℕ) → length (fields x) ≤ length x + 1
unfolding fields before
count-few [] = omega arith
count-few (b ∷ x) = go (eqb b 0x2C) (count-few x)
  where
    go : (t : Bool) → length (fields x) ≤ length x + 1 → length (before t b (fields x)) ≤ suc (length x) + 1
    go true ih = omega arith
    go false ih = omega (arith, count-before b (fields x))

-- one field more than commas
pub comma-fields : (s : List ℕ) → suc (comma_count s) ≡ length (fields s)
unfolding comma_count fields before
comma-fields [] = refl
comma-fields (b ∷ s) = go (eqb b 0x2C) (comma-fields s)
  where
    go : (t : Bool) → suc (comma_count s) ≡ length (fields s) → suc (cond t 1 0 + comma_count s) ≡ length (before t b (fields s))
    go true ih = omega arith
    go false ih = omega (arith, count-before b (fields s))

-- n less one is the count of commas before `rest`, which is looked through in parts of `size` bytes
pub record Parted (s : List ℕ) (n : ℕ) (rest : List ℕ) (size : ℕ) : Type 0 where
  pub few : n + length rest ≤ length s + 1
  pub sum : n + length (fields rest) ≡ 1 + length (fields s)
  pub parts : size ≡ 255

pub parted-start : (s : List ℕ) {rest : List ℕ} {size : ℕ} → rest ≡ s → size ≡ 255 → Parted s 1 rest size
parted-start s e h = rw e (record { few = omega arith; sum = refl; parts = h })

-- m commas in the part x, and `next` after it
pub parted-next : (s : List ℕ) (n m : ℕ) {rest next : List ℕ} {size size₁ : ℕ} (x : List ℕ) → Parted s n rest size
    → rest ≡ x ++ next → m + 1 ≡ length (fields x) → size₁ ≡ size → Parted s (n + m) next size₁
parted-next s n m {rest} {next} x w e h z =
    let j = count-joined x next in
    let k = count-few x in
    let few : n + length (x ++ next) ≤ length s + 1 = rw e at w.few in
    let sum : n + length (fields (x ++ next)) ≡ 1 + length (fields s) = rw e at w.sum in
    record { few = omega (arith, length-append {A = ℕ}); sum = omega arith; parts = z ∙ w.parts }

pub parted-done : (s : List ℕ) (n : ℕ) {rest : List ℕ} {size : ℕ} → Parted s n rest size → length rest ≡ 0 → n ≡ length (fields s)
unfolding fields
parted-done s n {rest = []} w h = omega (arith, w.sum)
parted-done s n {rest = b ∷ rest} w h = absurd (omega arith)
