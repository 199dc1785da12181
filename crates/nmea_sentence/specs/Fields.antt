-- The fields of a body: what stands between its commas (docs/FORMATS.md, "NMEA content").
use Rattle.std.specs.Prelude.{ℕ, zero, suc, Bool, true, false, cond, List, [], ◌∷◌, eqb, get_or}

-- a byte before the fields that follow: a comma ends an empty field, and any other byte goes to the first
unfoldable pub before : Bool → ℕ → List (List ℕ) → List (List ℕ)
before true b fs = [] ∷ fs
before false b [] = []
before false b (f ∷ fs) = (b ∷ f) ∷ fs

-- the empty body has one field, the empty one; a comma is 2C
unfoldable pub fields : List ℕ → List (List ℕ)
fields [] = [] ∷ []
fields (b ∷ s) = before (eqb b 0x2C) b (fields s)

-- field i, from 0, and the empty one where there is none
unfoldable pub field_at : List ℕ → ℕ → List ℕ
field_at s i = get_or (fields s) i []

-- the bytes from field n on, after n commas; none where there are fewer
unfoldable pub from_field : List ℕ → ℕ → List ℕ
from_field [] n = []
from_field (b ∷ s) zero = b ∷ s
from_field (b ∷ s) (suc n) = from_field s (cond (eqb b 0x2C) n (suc n))
