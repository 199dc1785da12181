-- Laws of `scan` over every format: what it finds whole or broken stays so when bytes follow, a whole shape lies inside the bytes,
-- no shape begins another, and how a scan goes on through a list.
-- Assumes nothing.
use Rattle.std.proofs.Common.{◌≡◌, ℕ, zero, suc, ◌+◌, ◌<◌, ◌≤◌, true, false, cond, eqb, leb, List, [], ◌∷◌, ◌++◌, length, get_or, take, drop, sym, refl, ap, ◌∙◌, subst, add-zero, add-one, arith, length-append, length-drop, take-append-drop, drop_of_length-le, length-take-le, drop-cons, eqb-true, le-leb}
use borrow.Author.Tests.{eqb-false, lt-leb}
use Rattle.framing.specs.declared.Reason.{Reason}
use Rattle.framing.specs.declared.Scanned.{Scanned}
use Rattle.framing.specs.declared.Scanned.TheVariants.{Whole, Partial, Broken}
use Rattle.framing.specs.Rules.{Next, more, done, bad, up_to}
use Rattle.framing.specs.declared.Format.{Format}
use Rattle.framing.specs.Format.{next}
use Rattle.framing.specs.Shape.{follow, scan_from, scan}
use Rattle.framing.specs.Meaning.{IsShape, PrefixFree, WholeMeans}

-- ---- bytes that follow

-- whole or broken
abbrev pub Settled : Scanned → Type 0
Settled (Whole n) = Unit {0}
Settled Partial = ⊥
Settled (Broken r) = Unit {0}

follow-stays : (k : ℕ) (n : Next) (go go' : ℕ → Scanned) → ((m : ℕ) → Settled (go m) → go' m ≡ go m)
    → Settled (follow k n go) → follow k n go' ≡ follow k n go
follow-stays k (more m) go go' h s = h m s
follow-stays k done go go' h s = refl
follow-stays k (bad r) go go' h s = refl

from-stays : (f : Format) (k m : ℕ) (xs ys : List ℕ) → Settled (scan_from f k m xs) → scan_from f k m (xs ++ ys) ≡ scan_from f k m xs
unfolding scan_from
from-stays f k m [] ys s = absurd s
from-stays f k m (x ∷ xs) ys s =
    follow-stays k (next f k m x) (λ n. scan_from f (suc k) n xs) (λ n. scan_from f (suc k) n (xs ++ ys)) (λ n. from-stays f (suc k) n xs ys) s

-- What is judged whole or broken stays so when bytes follow.
pub stays : (f : Format) (xs ys : List ℕ) → Settled (scan f xs) → scan f (xs ++ ys) ≡ scan f xs
unfolding scan
stays f xs ys s = from-stays f 0 0 xs ys s

-- ---- a whole shape lies inside

-- a whole shape has more than k bytes, and at most k and j more
abbrev pub WholeIn : ℕ → ℕ → Scanned → Type 0
WholeIn k j (Whole n) = (k < n) × (n ≤ k + j)
WholeIn k j Partial = Unit {0}
WholeIn k j (Broken r) = Unit {0}

deeper : (k j : ℕ) (o : Scanned) → WholeIn (suc k) j o → WholeIn k (suc j) o
deeper k j (Whole n) h = omega arith
deeper k j Partial h = tt
deeper k j (Broken r) h = tt

follow-inside : (k j : ℕ) (n : Next) (go : ℕ → Scanned) → ((m : ℕ) → WholeIn (suc k) j (go m)) → WholeIn k (suc j) (follow k n go)
follow-inside k j (more m) go h = deeper k j (go m) (h m)
follow-inside k j done go h = omega arith
follow-inside k j (bad r) go h = tt

from-inside : (f : Format) (k m : ℕ) (xs : List ℕ) → WholeIn k (length xs) (scan_from f k m xs)
unfolding scan_from
from-inside f k m [] = tt
from-inside f k m (x ∷ xs) = follow-inside k (length xs) (next f k m x) (λ n. scan_from f (suc k) n xs) (λ n. from-inside f (suc k) n xs)

pub inside : (f : Format) (xs : List ℕ) → WholeIn 0 (length xs) (scan f xs)
unfolding scan
inside f xs = from-inside f 0 0 xs

-- ---- a shape alone

-- a whole shape that begins with partial bytes reaches past them
from_past : (f : Format) (k m : ℕ) (xs ys : List ℕ) → scan_from f k m xs ≡ Partial → WholeIn (k + length xs) (length ys) (scan_from f k m (xs ++ ys))
unfolding scan_from
from_past f k m [] ys e = subst (λ (n : ℕ). WholeIn n (length ys) (scan_from f k m ys)) (sym (add-zero k)) (from-inside f k m ys)
from_past f k m (x ∷ xs) ys e = go (next f k m x) e (λ j q. from_past f (suc k) j xs ys q)
  where
    go : (n : Next) → follow k n (λ j. scan_from f (suc k) j xs) ≡ Partial
        → ((j : ℕ) → scan_from f (suc k) j xs ≡ Partial → WholeIn (suc k + length xs) (length ys) (scan_from f (suc k) j (xs ++ ys)))
        → WholeIn (k + suc (length xs)) (length ys) (follow k n (λ j. scan_from f (suc k) j (xs ++ ys)))
    go (more j) q ih = let n : suc k + length xs ≡ k + suc (length xs) = omega arith in rw n at (ih j q)
    go done q ih = let z : ◌≡◌ {A = ℕ} 0 1 = cc in absurd (omega arith)
    go (bad r) q ih = let z : ◌≡◌ {A = ℕ} 0 1 = cc in absurd (omega arith)

-- The bytes of a whole shape are one by themselves.
pub whole-alone : (f : Format) (n : ℕ) (xs : List ℕ) → scan f xs ≡ Whole n → scan f (take n xs) ≡ Whole n
unfolding scan
whole-alone f n xs e = pick (scan f (take n xs)) refl
  where
    pick : (o : Scanned) → scan f (take n xs) ≡ o → scan f (take n xs) ≡ Whole n
    pick (Whole j) q = sym (rw (take-append-drop n xs) at (stays f (take n xs) (drop n xs) (subst Settled (sym q) tt))) ∙ e
    pick Partial q =
        let p = subst (WholeIn (0 + length (take n xs)) (length (drop n xs))) (ap (scan f) (take-append-drop n xs) ∙ e) (from_past f 0 0 (take n xs) (drop n xs) q) in
        let i = subst (WholeIn 0 (length xs)) e (inside f xs) in
        absurd (omega (arith, length-take-le n xs (omega arith)))
    pick (Broken r) q = sym (rw (take-append-drop n xs) at (stays f (take n xs) (drop n xs) (subst Settled (sym q) tt))) ∙ e

pub whole-means : WholeMeans
whole-means f n xs = (
  λ e.
      let i = subst (WholeIn 0 (length xs)) e (inside f xs) in
      let l : n ≤ length xs = omega arith in
      (l, whole-alone f n xs e ∙ ap Whole (sym (length-take-le n xs l))),
  λ h.
      let q : scan f (take n xs) ≡ Whole n = h.1 ∙ ap Whole (length-take-le n xs h.0) in
      ap (scan f) (sym (take-append-drop n xs)) ∙ stays f (take n xs) (drop n xs) (subst Settled (sym q) tt) ∙ q,
)

-- ---- no shape begins another

not-settled : (o : Scanned) → (Settled o → ⊥) → o ≡ Partial
not-settled (Whole n) h = absurd (h tt)
not-settled Partial h = refl
not-settled (Broken r) h = absurd (h tt)

-- What is shorter than a shape that it begins is partial.
pub partial-of-shape : (f : Format) (xs ys : List ℕ) → 0 < length ys → IsShape f (xs ++ ys) → scan f xs ≡ Partial
partial-of-shape f xs ys l e =
    not-settled (scan f xs) (λ s.
    let i = subst (WholeIn 0 (length xs)) (sym (stays f xs ys s) ∙ e) (inside f xs) in
    omega (arith, length-append xs ys))

-- Shapes are prefix-free.
pub prefix-free : PrefixFree
prefix-free f xs [] e g = refl
prefix-free f xs (y ∷ ys) e g = let p = partial-of-shape f xs (y ∷ ys) (omega arith) g in let z : Whole (length xs) ≡ Partial = cc in cc

-- ---- a scan that goes on, through a list

scan_step : (f : Format) (k m : ℕ) (s : List ℕ) → k < length s
    → scan_from f k m (drop k s) ≡ follow k (next f k m (get_or s k 0)) (λ n. scan_from f (suc k) n (drop (suc k) s))
unfolding scan_from
scan_step f k m s h = rw (drop-cons s k 0 h)

pub scan-end : (f : Format) (k m : ℕ) (s : List ℕ) → length s ≤ k → scan_from f k m (drop k s) ≡ Partial
unfolding scan_from
scan-end f k m s h = rw (drop_of_length-le s h)

pub scan-done : (f : Format) (k m : ℕ) (s : List ℕ) → k < length s → next f k m (get_or s k 0) ≡ done → scan_from f k m (drop k s) ≡ Whole (k + 1)
scan-done f k m s h e = scan_step f k m s h ∙ rw (e, add-one k)

pub scan-bad : (f : Format) (k m : ℕ) {r : Reason} (s : List ℕ) → k < length s → next f k m (get_or s k 0) ≡ bad r
    → scan_from f k m (drop k s) ≡ Broken r
scan-bad f k m s h e = scan_step f k m s h ∙ rw e

pub scan-more : (f : Format) (k m : ℕ) {n : ℕ} (s : List ℕ) → k < length s → next f k m (get_or s k 0) ≡ more n
    → scan_from f k m (drop k s) ≡ scan_from f (k + 1) n (drop (k + 1) s)
scan-more f k m s h e = scan_step f k m s h ∙ rw (e, add-one k)

-- ---- shapes that count

-- from byte h on, a shape of the format counts its bytes up to a number kept
abbrev pub CountsFrom : Format → ℕ → Type 0
CountsFrom f h = (k m b : ℕ) → h ≤ k → next f k m b ≡ up_to m k

-- So it is whole exactly if there are bytes enough, whatever they are.
pub counted : (f : Format) (h : ℕ) → CountsFrom f h → (k m : ℕ) (xs : List ℕ) → h ≤ k → k < m
    → scan_from f k m xs ≡ cond (leb m (k + length xs)) (Whole m) Partial
unfolding scan_from
counted f h c k m [] l g = rw (lt-leb m (k + 0) (omega arith))
counted f h c k m (x ∷ xs) l g =
    ap (λ (n : Next). follow k n (λ j. scan_from f (suc k) j xs)) (c k m x l)
    ∙ pick (eqb (suc k) m) refl (λ j. counted f h c (suc k) m xs (omega arith) j)
  where
    pick : (t : _) → eqb (suc k) m ≡ t → (suc k < m → scan_from f (suc k) m xs ≡ cond (leb m (suc k + length xs)) (Whole m) Partial)
        → follow k (cond t done (more m)) (λ j. scan_from f (suc k) j xs) ≡ cond (leb m (k + suc (length xs))) (Whole m) Partial
    pick true e ih = let q = eqb-true (suc k) m e in rw (le-leb m (k + suc (length xs)) (omega arith)) (ap Whole q)
    pick false e ih =
        let n : suc k + length xs ≡ k + suc (length xs) = omega arith in
        rw n at (ih (omega (arith, eqb-false (suc k) m e)))

-- the same in a list, from its place k on
pub counted-at : (f : Format) (h : ℕ) → CountsFrom f h → (k m : ℕ) (s : List ℕ) → h ≤ k → k ≤ length s → k < m
    → scan_from f k m (drop k s) ≡ cond (leb m (length s)) (Whole m) Partial
counted-at f h c k m s l i g =
    let e : k + length (drop k s) ≡ length s = rw (length-drop k s) (omega arith) in
    rw e at (counted f h c k m (drop k s) l g)

pub from-four : (f : Format) → ((k m b : ℕ) → next f (suc (suc (suc (suc k)))) m b ≡ up_to m (suc (suc (suc (suc k))))) → CountsFrom f 4
from-four f h zero m b l = absurd (omega arith)
from-four f h (suc zero) m b l = absurd (omega arith)
from-four f h (suc (suc zero)) m b l = absurd (omega arith)
from-four f h (suc (suc (suc zero))) m b l = absurd (omega arith)
from-four f h (suc (suc (suc (suc k)))) m b l = h k m b
