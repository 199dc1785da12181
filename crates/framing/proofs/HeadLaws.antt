-- The two bytes that start a binary frame, as code goes through them.
-- Assumes nothing.
use Rattle.std.proofs.Common.{◌≡◌, ℕ, suc, Bool, true, false, cond, eqb, ◌⊎◌, List, [], ◌∷◌, length, drop, sym, refl, ap, ◌∙◌, ⊎_elim, arith, ne_eqb}
use denote.Enum.Declared.{tag_of}
use Rattle.framing.specs.declared.Reason.TheVariants.{StartByte, SecondByte}
use Rattle.framing.specs.declared.Scanned.{Scanned}
use Rattle.framing.specs.declared.Scanned.TheVariants.{Whole, Partial, Broken}
use Rattle.framing.specs.Rules.{more, must}
use Rattle.framing.specs.declared.Format.{Format}
use Rattle.framing.specs.Format.{next}
use Rattle.framing.specs.Shape.{follow, scan_from, scan}
use Rattle.framing.specs.Private.{sync_of}
use Rattle.framing.specs.contracts.Scanned.{the_type}

-- what follows where they are there, and else what they come to
abbrev pub onward : Scanned → Scanned → Scanned
onward (Whole n) o = o
onward Partial o = Partial
onward (Broken r) o = Broken r

-- a format whose frames start with a and b
pub record StartsWith (f : Format) (a b : ℕ) : Type 0 where
  pub first : (m x : ℕ) → next f 0 m x ≡ must (eqb x a) (more 0) StartByte
  pub second : (m x : ℕ) → next f 1 m x ≡ must (eqb x b) (more 0) SecondByte

sync-scan : (f : Format) (a b : ℕ) → StartsWith f a b → (s : List ℕ) → scan f s ≡ onward (sync_of a b s) (scan_from f 2 0 (drop 2 s))
unfolding scan scan_from sync_of
sync-scan f a b h [] = refl
sync-scan f a b h (x ∷ []) = rw (h.first 0 x) (pick (eqb x a))
  where
    pick : (t : Bool) → follow 0 (must t (more 0) StartByte) (λ n. Partial) ≡ onward (cond t Partial (Broken StartByte)) Partial
    pick true = refl
    pick false = refl
sync-scan f a b h (x ∷ y ∷ s) =
    rw (h.first 0 x, ne_eqb (suc (suc (length s))) 0 (λ e. omega arith), ne_eqb (suc (suc (length s))) 1 (λ e. omega arith)) (first (eqb x a))
  where
    second : (t : Bool)
        → follow 1 (must t (more 0) SecondByte) (λ j. scan_from f 2 j s) ≡ onward (cond t (Whole 2) (Broken SecondByte)) (scan_from f 2 0 s)
    second true = refl
    second false = refl

    first : (t : Bool)
        → follow 0 (must t (more 0) StartByte) (λ n. follow 1 (next f 1 n y) (λ j. scan_from f 2 j s))
        ≡ onward (cond t (cond (eqb y b) (Whole 2) (Broken SecondByte)) (Broken StartByte)) (scan_from f 2 0 s)
    first true = rw (h.second 0 y) (second (eqb y b))
    first false = refl

module _ {f : Format} {a b : ℕ} (h : StartsWith f a b) (s : List ℕ) {o : Scanned} (e : o ≡ sync_of a b s) where
  reached : scan f s ≡ onward o (scan_from f 2 0 (drop 2 s))
  reached = sync-scan f a b h s ∙ ap (λ (q : Scanned). onward q (scan_from f 2 0 (drop 2 s))) (sym e)

  -- where they are not there, by the tag of what they come to
  pub sync-else : (tag_of the_type o ≡ 1) ⊎ (tag_of the_type o ≡ 2) → scan f s ≡ o
  sync-else k = reached ∙ itself o k
    where
      itself : (q : Scanned) → (tag_of the_type q ≡ 1) ⊎ (tag_of the_type q ≡ 2) → onward q (scan_from f 2 0 (drop 2 s)) ≡ q
      itself (Whole n) k = absurd (⊎_elim (λ p. omega arith) (λ p. omega arith) k)
      itself Partial k = refl
      itself (Broken r) k = refl

  -- where they are
  pub sync-on : {n : ℕ} → o ≡ Whole n → scan f s ≡ scan_from f 2 0 (drop 2 s)
  sync-on q = reached ∙ ap (λ (r : Scanned). onward r (scan_from f 2 0 (drop 2 s))) q
