-- MGL: a scan through the head, as code goes through it, and what its rules owe.
-- Assumes nothing.
use Rattle.std.proofs.Common.{◌≡◌, ℕ, zero, suc, ◌+◌, ◌-◌, ◌<◌, ◌≤◌, Bool, true, false, cond, eqb, ltb, leb, List, length, get_or, drop, refl, ap, ◌∙◌, inl, arith, eqb→eq, ltb-false, ltb-true, eq-eqb, ne_eqb, eqb-true, Some, None}
use borrow.Author.Tests.{eqb-false}
use Rattle.framing.specs.declared.Reason.TheVariants.{HeaderByte}
use Rattle.framing.specs.declared.Scanned.TheVariants.{Whole, Partial, Broken}
use Rattle.framing.specs.Rules.{more}
use Rattle.framing.specs.Mgl.{length_from_byte, mgl_next}
use Rattle.framing.specs.declared.Format.TheVariants.{Mgl}
use Rattle.framing.specs.Format.{known, first, shortest, longest, pending_bound, body_start, body_end, next}
use Rattle.framing.specs.Shape.{scan_from}
use Rattle.framing.specs.Meaning.{IsByte}
use Rattle.framing.specs.Private.{told_length}
use Rattle.framing.proofs.ShapeLaws.{scan-end, scan-bad, scan-more, CountsFrom, counted-at, from-four}
use Rattle.framing.proofs.HeadLaws.{StartsWith}
use Rattle.framing.proofs.Lawful.{After, must-after, Completes, one_more, Lawful, Below, Counted, up_to-after, counted-bound, the-missing, head-completes}

pub mgl-counts : CountsFrom Mgl 4
unfolding next mgl_next
mgl-counts = from-four Mgl (λ k m b. refl)

pub mgl-starts : StartsWith Mgl 0x05 0x02
unfolding next mgl_next
mgl-starts = record { first = λ m x. refl; second = λ m x. refl }

-- ---- MGL: the length and its complement

pub length-itself : (l : ℕ) → (l ≡ 0 → ⊥) → length_from_byte l ≡ l
length-itself zero h = absurd (h refl)
length-itself (suc l) h = refl

module _ (s : List ℕ) where
  third : 2 < length s → scan_from Mgl 2 0 (drop 2 s) ≡ scan_from Mgl 3 (get_or s 2 0) (drop 3 s)
  unfolding next mgl_next
  third l = scan-more Mgl 2 0 s l refl

  pub mgl-short : length s < 4 → scan_from Mgl 2 0 (drop 2 s) ≡ Partial
  mgl-short h = pick (ltb 2 (length s)) refl
    where
      pick : (t : Bool) → ltb 2 (length s) ≡ t → scan_from Mgl 2 0 (drop 2 s) ≡ Partial
      pick true e = third (ltb-true 2 (length s) e) ∙ scan-end Mgl 3 (get_or s 2 0) s (omega arith)
      pick false e = scan-end Mgl 2 0 s (ltb-false 2 (length s) e)

  pub mgl-broken : 4 ≤ length s → (get_or s 2 0 + get_or s 3 0 ≡ 255 → ⊥) → scan_from Mgl 2 0 (drop 2 s) ≡ Broken HeaderByte
  unfolding next mgl_next
  mgl-broken l h = third (omega arith) ∙ scan-bad Mgl 3 (get_or s 2 0) s (omega arith) (rw (ne_eqb (get_or s 2 0 + get_or s 3 0) 255 h))

  pub mgl-whole : 4 ≤ length s → get_or s 2 0 + get_or s 3 0 ≡ 255 → (m : ℕ) → length_from_byte (get_or s 2 0) + 20 ≡ m
      → scan_from Mgl 2 0 (drop 2 s) ≡ cond (leb m (length s)) (Whole m) Partial
  unfolding next mgl_next
  mgl-whole l h m e =
      third (omega arith)
      ∙ scan-more Mgl 3 (get_or s 2 0) s (omega arith) (rw (eq-eqb (get_or s 2 0 + get_or s 3 0) 255 h) (ap more e))
      ∙ counted-at Mgl 4 mgl-counts 4 m s (omega arith) l (omega arith)

-- ---- what is owed

mgl-length : (m : ℕ) → m ≤ 255 → Below 21 276 4 (length_from_byte m + 20)
mgl-length zero h = omega arith
mgl-length (suc m) h = omega arith

mgl-after : (P : ℕ → Type 0) (k m b : ℕ) → P b → Counted P 21 276 k m → After (Counted P 21 276 (suc k)) (21 ≤ suc k) (mgl_next k m b)
unfolding mgl_next
mgl-after P zero m b p h = must-after _ _ (eqb b 0x05) _ _ (λ t. tt)
mgl-after P (suc zero) m b p h = must-after _ _ (eqb b 0x02) _ _ (λ t. tt)
mgl-after P (suc (suc zero)) m b p h = p
mgl-after P (suc (suc (suc zero))) m b p h = must-after _ _ (eqb (m + b) 255) _ _ (λ t. mgl-length m (omega (arith, eqb→eq (m + b) 255 t)))
mgl-after P (suc (suc (suc (suc k)))) m b p h = up_to-after 21 276 (suc (suc (suc (suc k)))) m h

-- MGL: the complement of the length, and the length
mgl-fourth : (m : ℕ) → IsByte m → Completes Mgl 3 m
unfolding next mgl_next
mgl-fourth m h =
    one_more (255 - m) (length_from_byte m + 20) (omega arith) (rw (eq-eqb (m + (255 - m)) 255 (omega arith)))
    (the-missing Mgl 4 mgl-counts 4 (length_from_byte m + 20) (omega arith) (omega arith))

mgl-third : (m : ℕ) → Completes Mgl 2 m
unfolding next mgl_next
mgl-third m = one_more 1 1 (omega arith) refl (mgl-fourth 1 (omega arith))

pub mgl-lawful : Lawful Mgl
unfolding known first shortest longest pending_bound body_start body_end next mgl_next
mgl-lawful =
    record {
      known-or-none = inl tt;
      opens = λ t x. refl;
      Sound = λ P. Counted P 21 276;
      sound-zero = λ P. tt;
      sound-next = mgl-after;
      sound-bound = λ P k m h. counted-bound P 21 275 k m (omega arith) h;
      completes = λ t k m h. head-completes mgl-starts mgl-counts (omega arith) (omega arith) mgl-third IsByte 21 276 mgl-fourth k m h;
      body-space = λ t. omega arith;
      in_order = omega arith;
      most = omega arith;
    }

-- what the length byte tells, and what it is that it tells nothing
module _ (s : List ℕ) where
  pub told : (n : ℕ) → told_length s ≡ Some n → (get_or s 2 0 + get_or s 3 0 ≡ 255) × (length_from_byte (get_or s 2 0) + 20 ≡ n)
  told n e = go (eqb (get_or s 2 0 + get_or s 3 0) 255) refl e
    where
      go : (b : Bool) → eqb (get_or s 2 0 + get_or s 3 0) 255 ≡ b → cond b (Some (length_from_byte (get_or s 2 0) + 20)) None ≡ Some n
          → (get_or s 2 0 + get_or s 3 0 ≡ 255) × (length_from_byte (get_or s 2 0) + 20 ≡ n)
      go true t k = (eqb-true (get_or s 2 0 + get_or s 3 0) 255 t, cc)
      go false t k = cc

  pub told-not : told_length s ≡ None → get_or s 2 0 + get_or s 3 0 ≡ 255 → ⊥
  told-not e = go (eqb (get_or s 2 0 + get_or s 3 0) 255) refl e
    where
      go : (b : Bool) → eqb (get_or s 2 0 + get_or s 3 0) 255 ≡ b → cond b (Some (length_from_byte (get_or s 2 0) + 20)) None ≡ None
          → get_or s 2 0 + get_or s 3 0 ≡ 255 → ⊥
      go true t k = cc
      go false t k = eqb-false (get_or s 2 0 + get_or s 3 0) 255 t
