-- Laws of one whole frame over every format: what the test says, how long a frame is, and that its body lies inside.
-- Assumes nothing.
use Prim.Native.Nat.{ℕ, ◌+◌, ◌-◌, ◌≤◌, ◌<◌}
use mathlib.Core.Path.{◌≡◌, refl, sym, ap, ◌∙◌}
use mathlib.Core.Logic.{◌↔◌}
use mathlib.Core.Bool.{true}
use mathlib.Core.List.{List, []}
use native.Mathlib.Omega.{arith}
use lib.Dec.{T}
use lib.ListN.{length, length-drop}
use lib.Seq.{length-take-le, take_all}
use Rattle.std.specs.Prelude.{Option, Some, None, MatchOption, unwrap_or, ◌⊎◌}
use Rattle.std.proofs.Common.{subst, inl, inr}
use borrow.Author.Tests.{eqb-true, eq-eqb}
use Rattle.framing.specs.declared.Found.{Found}
use Rattle.framing.specs.declared.Found.TheVariants.{Frame, Start, Neither}
use Rattle.framing.specs.Rules.{part}
use Rattle.framing.specs.declared.Format.{Format}
use Rattle.framing.specs.declared.Format.TheVariants.{Onflight}
use Rattle.framing.specs.Format.{known, shortest, longest, good, body_start, body_end, layout_of}
use Rattle.framing.specs.Frame.{front, IsFrame}
use Rattle.framing.proofs.FormatLaws.{lawful, good-known, body-fits, layout-none}
use Rattle.framing.proofs.FrameLaws.{frame-means}
use Rattle.framing.proofs.Length.{Within, whole-within, longest-pending}
use Rattle.answer.specs.Answer.{given}
use Rattle.content.specs.Body.{spans, is_frame, place_of, body_of, between_of}
use Rattle.answer.proofs.AnswerLaws.{passes}

-- ---- the test

spans-frame : (o : Found) (n : ℕ) → spans o n ≡ true → o ≡ Frame n
spans-frame (Frame m) n e = ap Frame (eqb-true m n e)
spans-frame Start n e = cc
spans-frame (Neither r) n e = cc

-- Bytes pass exactly where they are one frame.
pub frame-test : (f : Format) (s : List ℕ) → (is_frame f s ≡ true) ↔ IsFrame f s
unfolding is_frame
frame-test f s = (spans-frame (front f s) (length s), λ e. rw e (eq-eqb (length s) (length s) refl))

-- ---- how many bytes

module _ (f : Format) (s : List ℕ) (h : is_frame f s ≡ true) where
  frame-within : Within f (length s) (length s)
  frame-within = whole-within f (length s) s ((frame-means f s).0 ((frame-test f s).0 h)).0

  checksum-right : T (good f s)
  checksum-right = ((frame-means f s).0 ((frame-test f s).0 h)).1

  pub frame-long : shortest f ≤ length s
  frame-long = frame-within.least

pub frame-short : (f : Format) (s : List ℕ) → is_frame f s ≡ true → length s ≤ longest f
frame-short f s h =
    omega (arith, (frame-within f s h).most, longest-pending f (good-known f s (checksum-right f s h)))

pub onflight-length : (s : List ℕ) → is_frame Onflight s ≡ true → length s ≡ 158
unfolding shortest longest
onflight-length s h = omega (arith, frame-long Onflight s h, frame-short Onflight s h)

-- ---- the body

-- What stands before the body and after it lies inside the frame.
pub body-inside : (f : Format) (s : List ℕ) → is_frame f s ≡ true → body_start f + body_end f ≤ length s
body-inside f s h = omega (arith, body-fits f, frame-long f s h)

-- Who has judged the frame finds its body between its head and its tail.
pub body-between : (f : Format) (s : List ℕ) → is_frame f s ≡ true → between_of f s ≡ body_of f s
unfolding body_of between_of
body-between f s h = rw h

-- a bytes before the body of a format, and e after it
module _ (f : Format) (s : List ℕ) {a e : ℕ} (p : a ≡ body_start f) (q : e ≡ body_end f) where
  pub between-at : part a (length s - e) s ≡ between_of f s
  unfolding between_of
  between-at = rw (p, q)

-- the same of a frame
module _ (f : Format) (s : List ℕ) {a e : ℕ} (h : is_frame f s ≡ true) (p : a ≡ body_start f) (q : e ≡ body_end f) where
  pub tail-inside : e ≤ length s
  tail-inside = omega (arith, body-inside f s h)

  pub place_at : given (record { start = a; end = length s - e }) ≡ place_of f s
  unfolding place_of
  place_at = rw (p, q) (passes _ _ h)

  pub body_at : part a (length s - e) s ≡ body_of f s
  body_at = between-at f s p q ∙ body-between f s h

-- the code has no layout of the format
module _ (f : Format) (s : List ℕ) (d : None ≡ layout_of f) where
  pub all-between : s ≡ between_of f s
  unfolding between_of body_start body_end
  all-between = rw (layout-none f (sym d)) (sym (take_all (length s - 0 - 0) s (omega arith)))

  pub no-frame : is_frame f s ≡ true → ⊥
  unfolding known
  no-frame h = let k = good-known f s (checksum-right f s h) in subst (λ (g : Format). T (known g)) (layout-none f (sym d)) k

-- a part that is asked for, and none where it does not lie inside
pub part-or-none : {B : Type 0} (now : B → List ℕ) (s : List ℕ) (a e : ℕ) (o : Option B) (d : B) (P : B → Type 0) → now d ≡ [] → e ≤ length s
    → MatchOption o ((e < a) ⊎ (length s < e)) (λ x. (a ≤ e) × (e ≤ length s) × (now x ≡ part a e s) × P x) → now (unwrap_or o d) ≡ part a e s
part-or-none now s a e None d P n h (inl g) = let z : e - a ≡ 0 = omega arith in n ∙ rw z
part-or-none now s a e None d P n h (inr g) = absurd (omega arith)
part-or-none now s a e (Some x) d P n h g = g.2

-- how long it is
part_length : (a e : ℕ) (s : List ℕ) → a ≤ e → e ≤ length s → length (part a e s) ≡ e - a
part_length a e s h k = length-take-le (e - a) _ (simp length-drop (omega arith))

pub body-length : (f : Format) (s : List ℕ) → is_frame f s ≡ true → length (body_of f s) ≡ length s - body_end f - body_start f
body-length f s h =
    let n = body-inside f s h in
    ap length (sym (body_at f s h refl refl)) ∙ part_length (body_start f) (length s - body_end f) s (omega arith) (omega arith)

-- The body of a frame is not empty: a byte more than what stands around it is there in the shortest.
pub body-some : (f : Format) (s : List ℕ) → is_frame f s ≡ true → 0 < length (body_of f s)
body-some f s h = omega (arith, body-length f s h, (lawful f).body-space (good-known f s (checksum-right f s h)), frame-long f s h)
