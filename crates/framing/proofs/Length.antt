-- How long shapes and their starts are, over every format.
-- Assumes nothing.
use Rattle.std.proofs.Common.{◌≡◌, ℕ, suc, ◌+◌, ◌<◌, ◌≤◌, Bool, true, false, T, eqb, List, [], ◌∷◌, length, get_or, refl, subst, arith, eqb-true}
use Rattle.framing.specs.declared.Reason.TheVariants.{StartByte}
use Rattle.framing.specs.declared.Scanned.{Scanned}
use Rattle.framing.specs.declared.Scanned.TheVariants.{Whole, Partial, Broken}
use Rattle.framing.specs.Rules.{Next, more, done, bad, must}
use Rattle.framing.specs.declared.Format.{Format}
use Rattle.framing.specs.Format.{known, first, longest, shortest, pending_bound, next}
use Rattle.framing.specs.Shape.{follow, scan_from, scan}
use Rattle.framing.specs.Meaning.{IsShape, LayoutMeans}
use Rattle.framing.proofs.ShapeLaws.{WholeIn, inside}
use Rattle.framing.proofs.Lawful.{After}
use Rattle.framing.proofs.FormatLaws.{lawful}

-- of j bytes: a whole shape has at least the fewest that a shape has, and a start at most the most that can be pending
abbrev LengthIn : Format → ℕ → Scanned → Type 0
LengthIn f j (Whole n) = (shortest f ≤ n) × (n ≤ suc (pending_bound f))
LengthIn f j Partial = j ≤ pending_bound f
LengthIn f j (Broken r) = Unit {0}

abbrev Any : ℕ → Type 0
Any b = Unit {0}

follow-length : (f : Format) (k m x j : ℕ) (go : ℕ → Scanned) → (lawful f).Sound Any k m → ((n : ℕ) → (lawful f).Sound Any (suc k) n → LengthIn f j (go n))
    → LengthIn f j (follow k (next f k m x) go)
follow-length f k m x j go s h = pick (next f k m x) ((lawful f).sound-next Any k m x tt s)
  where
    pick : (n : Next) → After ((lawful f).Sound Any (suc k)) (shortest f ≤ suc k) n → LengthIn f j (follow k n go)
    pick (more n) a = h n a
    pick done a = let b = (lawful f).sound-bound Any k m s in (a, omega arith)
    pick (bad r) a = tt

from-length : (f : Format) (k m : ℕ) (xs : List ℕ) (j : ℕ) → k + length xs ≡ j → (lawful f).Sound Any k m → LengthIn f j (scan_from f k m xs)
unfolding scan_from
from-length f k m [] j e s = let b = (lawful f).sound-bound Any k m s in omega arith
from-length f k m (x ∷ xs) j e s =
    follow-length f k m x j (λ n. scan_from f (suc k) n xs) s (λ n t. from-length f (suc k) n xs j (omega arith) t)

scan-length : (f : Format) (xs : List ℕ) → LengthIn f (length xs) (scan f xs)
unfolding scan
scan-length f xs = from-length f 0 0 xs (length xs) (omega arith) ((lawful f).sound-zero Any)

-- The longest shape is one byte longer than the most that can be pending.
pub longest-pending : (f : Format) → T (known f) → longest f ≡ suc (pending_bound f)
unfolding longest pending_bound
longest-pending f h = omega (arith, (lawful f).body-space h, (lawful f).in_order)

-- An empty string or a proper start of a shape has at most so many bytes as can be pending.
pub start-bound : (f : Format) (xs : List ℕ) → scan f xs ≡ Partial → length xs ≤ pending_bound f
start-bound f xs e = subst (LengthIn f (length xs)) e (scan-length f xs)

-- A whole shape lies within the shortest and the longest, and inside the bytes.
pub record Within (f : Format) (j n : ℕ) : Type 0 where
  pub some : 0 < n
  pub least : shortest f ≤ n
  pub most : n ≤ suc (pending_bound f)
  pub inside : n ≤ j

pub whole-within : (f : Format) (n : ℕ) (xs : List ℕ) → scan f xs ≡ Whole n → Within f (length xs) n
whole-within f n xs e =
    let l = subst (LengthIn f (length xs)) e (scan-length f xs) in
    let i = subst (WholeIn 0 (length xs)) e (inside f xs) in
    record { some = omega arith; least = l.0; most = l.1; inside = omega arith }

-- ---- the numbers of the layout

first_byte : (f : Format) (xs : List ℕ) → T (known f) → IsShape f xs → get_or xs 0 0 ≡ first f
unfolding scan scan_from
first_byte f [] t e = let z : ◌≡◌ {A = ℕ} 0 1 = cc in absurd (omega arith)
first_byte f (x ∷ xs) t e = go (eqb x (first f)) refl (rw ((lawful f).opens t x) at e)
  where
    go : (b : Bool) → eqb x (first f) ≡ b → follow 0 (must b (more 0) StartByte) (λ n. scan_from f 1 n xs) ≡ Whole (suc (length xs)) → x ≡ first f
    go true q e = eqb-true x (first f) q
    go false q e = let z : ◌≡◌ {A = ℕ} 0 1 = cc in absurd (omega arith)

pub layout-means : LayoutMeans
layout-means f xs t e =
    let w = whole-within f (length xs) xs e in
    record { begins = first_byte f xs t e; least = w.least; most = omega (arith, w.most, longest-pending f t) }
