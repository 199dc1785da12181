-- `eq_bytes` is the test that is true exactly of equal bytes; and what `judge` answered, carried into a field function.
-- Assumes nothing.
use Prim.Native.Nat.{ℕ}
use mathlib.Core.Path.{◌≡◌, refl, sym, ap, ap₂, ◌∙◌}
use mathlib.Core.Bool.{Bool, true, false, ◌&&◌}
use lib.Pointwise.{pointwise}
use mathlib.Core.List.{List, [], ◌∷◌}
use native.Mathlib.Omega.{arith}
use lib.Dec.{T, eqb, eqb→eq}
use lib.Ieee.Fits.{and_l, and_r}
use lib.ListN.{length}
use borrow.Author.Tests.{eq-eqb}
use Rattle.framing.specs.declared.Format.TheVariants.{Nmea}
use Rattle.answer.specs.declared.Refusal.{Refusal}
use Rattle.std.specs.Prelude.{Result, Ok, Err, IsErrAnd}
use Rattle.answer.specs.Answer.{Answer, given, refused, unless, refusal_number, answer_of}
use Rattle.answer.proofs.AnswerLaws.{never-0}
use Rattle.content.specs.Body.{is_frame, body_of, between_of}
use Rattle.content.proofs.BodyLaws.{body-between}
use Rattle.nmea_sentence.specs.Fields.{fields}
use Rattle.nmea_sentence.specs.Judge.{eq_bytes, has_tag, in_sentence, refusal_of}

-- ---- the same bytes

pub equal : (x y : List ℕ) → T (eq_bytes x y) → x ≡ y
equal [] [] t = refl
equal [] (b ∷ y) t = absurd t
equal (a ∷ x) [] t = absurd t
equal (a ∷ x) (b ∷ y) t =
    ap₂ (λ (c : ℕ) (l : List ℕ). c ∷ l) (eqb→eq a b (and_l (eqb a b) (eq_bytes x y) t)) (equal x y (and_r (eqb a b) (eq_bytes x y) t))

-- `==` of two slices
pub by-bytes : (x y : List ℕ) → pointwise eqb x y ≡ eq_bytes x y
by-bytes [] [] = refl
by-bytes [] (b ∷ y) = refl
by-bytes (a ∷ x) [] = refl
by-bytes (a ∷ x) (b ∷ y) = ap (λ (t : Bool). eqb a b && t) (by-bytes x y)

reflexive : (x : List ℕ) → eq_bytes x x ≡ true
reflexive [] = refl
reflexive (a ∷ x) = simp (eq-eqb a a refl, reflexive x)

-- a test that is true exactly of equal bytes is `eq_bytes`
pub tested : (r : Bool) (x y : List ℕ) → (r ≡ true → x ≡ y) → (x ≡ y → r ≡ true) → r ≡ eq_bytes x y
tested true x y f g = sym (ap (λ (z : List ℕ). eq_bytes x z) (sym (f refl)) ∙ reflexive x)
tested false x y f g = go (eq_bytes x y) (λ t. g (equal x y t))
  where
    go : (b : Bool) → (T b → false ≡ true) → false ≡ b
    go true h = h tt
    go false h = refl

-- what `same` promises, where it answered b
pub compared : {r b : Bool} {x y : List ℕ} → (r ≡ true → x ≡ y) × (x ≡ y → r ≡ true) → r ≡ b → eq_bytes x y ≡ b
compared e h = sym (tested _ _ _ e.0 e.1) ∙ h

-- ---- three tests in order: their number alone, and before an answer

abbrev in_order : {A : Type 0} → A → Bool → Bool → Bool → Answer A → Answer A
in_order zeros t u v answer = unless zeros t 7 (unless zeros u 8 (unless zeros v 9 answer))

abbrev pub number_in_order : Bool → Bool → Bool → ℕ
number_in_order t u v = (in_order {A = ℕ} 0 t u v (given 0)).number

module _ {A : Type 0} (zeros : A) (answer : Answer A) where
  refusing : (t u v : Bool) (n : ℕ) → (n ≡ 0 → ⊥) → n ≡ number_in_order t u v → refused zeros n ≡ in_order zeros t u v answer
  refusing true true true n h e = absurd (h e)
  refusing true true false n h e = ap (refused zeros) e
  refusing true false v n h e = ap (refused zeros) e
  refusing false u v n h e = ap (refused zeros) e

  passing : (t u v : Bool) (n : ℕ) → n ≡ 0 → n ≡ number_in_order t u v → answer ≡ in_order zeros t u v answer
  passing true true true n h e = refl
  passing true true false n h e = absurd (omega arith)
  passing true false v n h e = absurd (omega arith)
  passing false u v n h e = absurd (omega arith)

-- what the three tests say is what `judge` answers
pub tests-say : (tag : List ℕ) (count : ℕ) (s : List ℕ) {t u v : Bool} → is_frame Nmea s ≡ t → has_tag tag (body_of Nmea s) ≡ u
    → eqb (length (fields (body_of Nmea s))) count ≡ v → number_in_order t u v ≡ refusal_of tag count s
unfolding refusal_of
tests-say tag count s e f g = rw (← e, ← f, ← g)

module _ {A : Type 0} (zeros : A) (answer : Answer A) (tag : List ℕ) (count : ℕ) (s : List ℕ) where
  -- q is what `judge` refused, which the field function hands on
  pub sentence_refused : {R : Type 0} (value : R → A) (x : Result R Refusal) (q : Refusal) → IsErrAnd x (λ y. y ≡ q) → refusal_number q ≡ refusal_of tag count s
      → answer_of zeros value x ≡ in_sentence zeros tag count s answer
  unfolding refusal_of
  sentence_refused value (Ok x) q h e = absurd h
  sentence_refused value (Err y) q h e =
      refusing zeros answer (is_frame Nmea s) (has_tag tag (body_of Nmea s)) (eqb (length (fields (body_of Nmea s))) count)
      (refusal_number y) (never-0 y) (ap refusal_number h ∙ e)

  -- nothing: the field function answers what it computes
  pub sentence_done : {x : Answer A} → ◌≡◌ {A = ℕ} 0 (refusal_of tag count s) → x ≡ answer → x ≡ in_sentence zeros tag count s answer
  unfolding refusal_of
  sentence_done e h =
      h ∙ passing zeros answer (is_frame Nmea s) (has_tag tag (body_of Nmea s)) (eqb (length (fields (body_of Nmea s))) count) 0 refl e

frame-and-tag : (t u v : Bool) → 0 ≡ number_in_order t u v → (t ≡ true) × (u ≡ true)
frame-and-tag true true v e = (refl, refl)
frame-and-tag true false v e = absurd (omega arith)
frame-and-tag false u v e = absurd (omega arith)

-- where `judge` refused nothing
module _ (tag : List ℕ) (count : ℕ) (s : List ℕ) (e : ◌≡◌ {A = ℕ} 0 (refusal_of tag count s)) where
  held : (is_frame Nmea s ≡ true) × (has_tag tag (body_of Nmea s) ≡ true)
  unfolding refusal_of
  held = frame-and-tag (is_frame Nmea s) (has_tag tag (body_of Nmea s)) (eqb (length (fields (body_of Nmea s))) count) e

  -- the sentence is one frame: its body is what is between its head and its tail
  pub judged-body : between_of Nmea s ≡ body_of Nmea s
  judged-body = body-between Nmea s held.0

  -- and begins with the tag
  pub judged-tag : {b : List ℕ} → b ≡ between_of Nmea s → has_tag tag b ≡ true
  judged-tag b = ap (has_tag tag) (b ∙ judged-body) ∙ held.1
