-- A body is its fields with commas between; and the fields of a body that is put together so.
-- Assumes nothing.
use Prim.Native.Nat.{ℕ, ◌<◌}
use mathlib.Core.Path.{◌≡◌, refl, sym, ap, ◌∙◌}
use mathlib.Core.Bool.{Bool, true, false, not, ◌&&◌}
use mathlib.Core.List.{List, [], ◌∷◌, ◌++◌, append-nil}
use native.Mathlib.Omega.{arith}
use lib.Dec.{eqb}
use lib.ListN.{length, get_or}
use borrow.Author.Tests.{eqb-true}
use Rattle.nmea_sentence.specs.Fields.{before, fields, field_at}

-- ---- from a body to its fields

-- no byte is a comma
unfoldable pub plain : List ℕ → Bool
plain [] = true
plain (b ∷ s) = not (eqb b 0x2C) && plain s

-- what has no comma goes to the first field of what follows
pub fields-ahead : (a s f : List ℕ) (fs : List (List ℕ)) → plain a ≡ true → fields s ≡ f ∷ fs → fields (a ++ s) ≡ (a ++ f) ∷ fs
unfolding plain fields before
fields-ahead [] s f fs e h = h
fields-ahead (b ∷ a) s f fs e h = go (eqb b 0x2C) e (λ p. fields-ahead a s f fs p h)
  where
    go : (t : Bool) → (not t && plain a) ≡ true → (plain a ≡ true → fields (a ++ s) ≡ (a ++ f) ∷ fs)
        → before t b (fields (a ++ s)) ≡ (b ∷ (a ++ f)) ∷ fs
    go true e ih = let z : ◌≡◌ {A = ℕ} 0 1 = cc in absurd (omega arith)
    go false e ih = ap (before false b) (ih e)

module _ (a : List ℕ) (e : plain a ≡ true) where
  -- one field
  pub fields-plain : fields a ≡ a ∷ []
  unfolding fields
  fields-plain = rw append-nil at (fields-ahead a [] [] [] e refl)

  -- a field, and the fields after its comma
  pub fields-comma : (s : List ℕ) → fields (a ++ 0x2C ∷ s) ≡ a ∷ fields s
  unfolding fields before
  fields-comma s = rw (append-nil a) at (fields-ahead a (0x2C ∷ s) [] (fields s) e refl)

-- ---- from fields to the body

-- fields with commas between
unfoldable pub joined : List (List ℕ) → List ℕ
joined [] = []
joined (f ∷ []) = f
joined (f ∷ g ∷ fs) = f ++ 0x2C ∷ joined (g ∷ fs)

pub fields-some : (s : List ℕ) → 0 < length (fields s)
unfolding fields before
fields-some [] = omega arith
fields-some (b ∷ s) = go (eqb b 0x2C) (fields s) (fields-some s)
  where
    go : (t : Bool) (fs : List (List ℕ)) → 0 < length fs → 0 < length (before t b fs)
    go true fs h = omega arith
    go false [] h = h
    go false (f ∷ fs) h = omega arith

before-joined : (t : Bool) (b : ℕ) (fs : List (List ℕ)) → eqb b 0x2C ≡ t → 0 < length fs → joined (before t b fs) ≡ b ∷ joined fs
unfolding joined before
before-joined true b [] e h = absurd (omega arith)
before-joined true b (f ∷ fs) e h = ap (λ (c : ℕ). c ∷ joined (f ∷ fs)) (sym (eqb-true b 0x2C e))
before-joined false b [] e h = absurd (omega arith)
before-joined false b (f ∷ []) e h = refl
before-joined false b (f ∷ g ∷ fs) e h = refl

pub fields-joined : (s : List ℕ) → joined (fields s) ≡ s
unfolding joined fields
fields-joined [] = refl
fields-joined (b ∷ s) = before-joined (eqb b 0x2C) b (fields s) refl (fields-some s) ∙ ap (λ (r : List ℕ). b ∷ r) (fields-joined s)

-- a body of four fields
pub four-fields : (s : List ℕ) → length (fields s) ≡ 4
    → field_at s 0 ++ 0x2C ∷ (field_at s 1 ++ 0x2C ∷ (field_at s 2 ++ 0x2C ∷ field_at s 3)) ≡ s
unfolding joined field_at
four-fields s e = four (fields s) e ∙ fields-joined s
  where
    four : (fs : List (List ℕ)) → length fs ≡ 4 → get_or fs 0 [] ++ 0x2C ∷ (get_or fs 1 [] ++ 0x2C ∷ (get_or fs 2 [] ++ 0x2C ∷ get_or fs 3 [])) ≡ joined fs
    four (f ∷ g ∷ h ∷ i ∷ []) e = refl
    four [] e = absurd (omega arith)
    four (f ∷ []) e = absurd (omega arith)
    four (f ∷ g ∷ []) e = absurd (omega arith)
    four (f ∷ g ∷ h ∷ []) e = absurd (omega arith)
    four (f ∷ g ∷ h ∷ i ∷ j ∷ fs) e = absurd (omega arith)
