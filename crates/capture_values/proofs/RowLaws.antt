-- Laws of a row of values: rows of equal values are equal, what a call returned is its answer, and where a body is fits.
-- Assumes nothing.
use Prim.Native.Nat.{ℕ, ◌+◌, ◌-◌, ◌^◌, ◌<◌, ◌≤◌}
use mathlib.Core.Bool.{Bool, true, false}
use mathlib.Core.List.{List, [], ◌∷◌, ◌++◌}
use mathlib.Core.Path.{◌≡◌, refl, sym, ap, subst, ◌∙◌}
use native.Mathlib.Omega.{arith}
use lib.IntN.{ℤ, pos}
use lib.ListN.{length, take, drop, replicate}
use lib.Seq.{length-take-le}
use mir.Facts.{to_z_pos}
use mir.Syntax.{w64}
use mir.Val.{to_z}
use Rattle.std.specs.Prelude.{Result, Ok, Err}
use Rattle.std.proofs.lemmas.List.{drop-replicate, length-replicate, replicate-append-replicate}
use Rattle.framing.specs.declared.Format.{Format}
use Rattle.framing.specs.Format.{longest, body_start, body_end}
use Rattle.framing.proofs.FormatLaws.{lawful, body-fits}
use Rattle.answer.specs.declared.Refusal.{Refusal}
use Rattle.answer.specs.Answer.{Answer, given, unless, refusal_number, answer_of}
use Rattle.content.specs.declared.Span.{Span}
use Rattle.content.specs.Body.{nowhere, is_frame, place_of}
use Rattle.content.proofs.BodyLaws.{frame-short}
use Rattle.capture_values.specs.Values.{padded_values, numbered, values_of, listed}
use Rattle.capture_values.proofs.TableLaws.{past}
use Rattle.capture_values.specs.declared.Values.{Values}

-- ---- casts

-- an unsigned number
pub unsigned : {n : ℕ} → n < 2 ^ 63 → to_z w64 n ≡ pos n
unsigned h = to_z_pos w64 h

-- ---- rows

-- a list, written over the first of the 21 zeros
pub filled : (n : ℕ) (xs ys : List ℤ) → n ≤ 21 → length ys ≡ length (take n (replicate 21 (pos 0))) → ys ≡ xs → ys ++ drop n (replicate 21 (pos 0)) ≡ padded_values xs
filled n xs ys h l e =
    let m : length xs ≡ n = ap length (sym e) ∙ l ∙ length-take-le n (replicate 21 (pos 0)) h in
    rw (e, drop-replicate n 21 (pos 0), ← m) refl

-- zeros before those zeros
pub zeros : (m n : ℕ) → n ≤ 21 → numbered m (replicate n (pos 0)) ≡ numbered m []
zeros m n h =
    let e : n + (21 - n) ≡ 21 = omega arith in
    rw (length-replicate n (pos 0), replicate-append-replicate n (21 - n) (pos 0), e) refl

-- a row that a call made, with each value as it was before its cast
pub same_row : {v : Values} {n : ℕ} {a b c d e f a' b' c' d' e' f' : ℤ}
    → v ≡ numbered n (a ∷ b ∷ c ∷ d ∷ e ∷ f ∷ []) → a ≡ a' → b ≡ b' → c ≡ c' → d ≡ d' → e ≡ e' → f ≡ f'
    → v ≡ numbered n (a' ∷ b' ∷ c' ∷ d' ∷ e' ∷ f' ∷ [])
same_row {n = n} h pa pb pc pd pe pf = h ∙ (λ j. numbered n (pa j ∷ pb j ∷ pc j ∷ pd j ∷ pe j ∷ pf j ∷ []))

-- ---- what a call returned

-- Listed or as an answer it is the same, where the values beside a refusal are zeros.
pub as_answer : {R A : Type 0} (f : A → List ℤ) (zeros : A) (value : R → A) (r : Result R Refusal) {v : Values} {a : Answer A}
    → ((n : ℕ) → numbered n [] ≡ numbered n (f zeros)) → v ≡ listed (λ x. f (value x)) r → answer_of zeros value r ≡ a → v ≡ values_of f a
as_answer f zeros value r same h e = h ∙ go r ∙ ap (values_of f) e
  where
    go : (r : _) → listed (λ x. f (value x)) r ≡ values_of f (answer_of zeros value r)
    go (Ok x) = refl
    go (Err q) = same (refusal_number q)

pub ruleset answering = (as_answer, past)

-- ---- where a body is: in a frame, which is short

pub record Near (x : Span) : Type 0 where
  pub start : x.start ≤ 276
  pub end : x.end ≤ 276

frame-near : (f : Format) (s : List ℕ) → length s ≤ longest f → Near (record { start = body_start f; end = length s - body_end f })
frame-near f s h =
    let m = (lawful f).most in
    record { start = omega (arith, body-fits f, (lawful f).in_order); end = omega arith }

place-near : (f : Format) (s : List ℕ) → Near (place_of f s).value
unfolding place_of
place-near f s = go (is_frame f s) refl
  where
    go : (b : Bool) → is_frame f s ≡ b → Near (unless nowhere b 7 (given (record { start = body_start f; end = length s - body_end f }))).value
    go true e = frame-near f s (frame-short f s e)
    go false e = record { start = omega arith; end = omega arith }

-- a place that a call located
pub near : (f : Format) (s : List ℕ) {x : Span} → given x ≡ place_of f s → Near x
near f s h = subst Near (ap (λ (x : Answer Span). x.value) (sym h)) (place-near f s)
