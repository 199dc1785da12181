-- Laws of `front` over every format: a frame lies inside the bytes, and what is no start stays when bytes follow.
-- Assumes nothing.
use Rattle.std.proofs.Common.{◌≡◌, ℕ, suc, ◌<◌, ◌≤◌, Bool, true, false, cond, T, eqb, List, [], ◌∷◌, ◌++◌, length, take, sym, refl, ap, ◌∙◌, subst, arith, length-take-le, ne_eqb}
use lib.Seq.{take-append-le, take-length}
use Rattle.framing.specs.declared.Reason.TheVariants.{StartByte, Checksum}
use Rattle.framing.specs.declared.Scanned.{Scanned}
use Rattle.framing.specs.declared.Scanned.TheVariants.{Whole, Partial, Broken}
use Rattle.framing.specs.declared.Found.{Found}
use Rattle.framing.specs.declared.Found.TheVariants.{Frame, Start, Neither}
use Rattle.framing.specs.declared.Format.{Format}
use Rattle.framing.specs.declared.Format.TheVariants.{Unknown}
use Rattle.framing.specs.Format.{next, good}
use Rattle.framing.specs.Shape.{scan_from, scan}
use Rattle.framing.specs.Meaning.{FrameMeans}
use Rattle.framing.specs.Frame.{front_of, front, IsFrame}
use Rattle.framing.proofs.TestLaws.{true_of}
use Rattle.framing.proofs.ShapeLaws.{Settled, stays, WholeIn, inside, whole-alone}

-- ---- what a scan and a checksum come to

pub front_at : (f : Format) (xs : List ℕ) {o : Scanned} → scan f xs ≡ o → front f xs ≡ front_of f xs o
unfolding front
front_at f xs e = ap (front_of f xs) e

pub front-whole : (f : Format) (xs : List ℕ) {n : ℕ} {t : Bool} → scan f xs ≡ Whole n → good f (take n xs) ≡ t
    → front f xs ≡ cond t (Frame n) (Neither Checksum)
front-whole f xs {n} e g = front_at f xs e ∙ ap (λ (b : Bool). cond b (Frame n) (Neither Checksum)) g

-- a format that is not known has no shape
pub no_front : (xs : List ℕ) → front Unknown xs ≡ cond (eqb (length xs) 0) Start (Neither StartByte)
unfolding front scan scan_from next
no_front [] = refl
no_front (x ∷ xs) = rw (ne_eqb (suc (length xs)) 0 (λ e. omega arith))

-- the other way round
record Framed (f : Format) (xs : List ℕ) (n : ℕ) : Type 0 where
  shape : scan f xs ≡ Whole n
  checksum : T (good f (take n xs))

front_of-frame : (f : Format) (xs : List ℕ) (n : ℕ) (o : Scanned) → scan f xs ≡ o → front_of f xs o ≡ Frame n → Framed f xs n
front_of-frame f xs n (Whole k) q e = pick (good f (take k xs)) refl e
  where
    pick : (t : Bool) → good f (take k xs) ≡ t → cond t (Frame k) (Neither Checksum) ≡ Frame n → Framed f xs n
    pick true g p =
        let s : k ≡ n = cc in
        record { shape = q ∙ ap Whole s; checksum = subst (λ (j : ℕ). T (good f (take j xs))) s (subst T (sym g) tt) }
    pick false g p = let z : ◌≡◌ {A = ℕ} 0 1 = cc in absurd (omega arith)
front_of-frame f xs n Partial q e = let z : ◌≡◌ {A = ℕ} 0 1 = cc in absurd (omega arith)
front_of-frame f xs n (Broken r) q e = let z : ◌≡◌ {A = ℕ} 0 1 = cc in absurd (omega arith)

-- A frame is a whole shape whose checksum is right.
pub frame-means : FrameMeans
unfolding front
frame-means f xs = (
  λ e.
      let g = front_of-frame f xs (length xs) (scan f xs) refl e in
      (g.shape, rw (take-length xs) at g.checksum),
  λ h. front-whole f xs {t = true} h.0 (rw (take-length xs) (true_of (good f xs) h.1)),
)

-- ---- a frame lies inside

-- a frame has a byte or more, and at most j
abbrev pub FrameIn : ℕ → Found → Type 0
FrameIn j (Frame n) = (0 < n) × (n ≤ j)
FrameIn j Start = Unit {0}
FrameIn j (Neither r) = Unit {0}

front_of-inside : (f : Format) (xs : List ℕ) (o : Scanned) → WholeIn 0 (length xs) o → FrameIn (length xs) (front_of f xs o)
front_of-inside f xs (Whole n) h = pick (good f (take n xs))
  where
    pick : (t : Bool) → FrameIn (length xs) (cond t (Frame n) (Neither Checksum))
    pick true = omega arith
    pick false = tt
front_of-inside f xs Partial h = tt
front_of-inside f xs (Broken r) h = tt

pub front-inside : (f : Format) (xs : List ℕ) → FrameIn (length xs) (front f xs)
unfolding front
front-inside f xs = front_of-inside f xs (scan f xs) (inside f xs)

-- The bytes of a frame are one by themselves.
pub frame-alone : (f : Format) (n : ℕ) (xs : List ℕ) → front f xs ≡ Frame n → IsFrame f (take n xs)
unfolding front
frame-alone f n xs e =
    let g = front_of-frame f xs n (scan f xs) refl e in
    let i = subst (WholeIn 0 (length xs)) g.shape (inside f xs) in
    let l : length (take n xs) ≡ n = length-take-le n xs (omega arith) in
    (frame-means f (take n xs)).1 (rw l (whole-alone f n xs g.shape), g.checksum)

-- ---- bytes that follow

-- a frame, or a byte that is skipped
abbrev pub Decided : Found → Type 0
Decided (Frame n) = Unit {0}
Decided Start = ⊥
Decided (Neither r) = Unit {0}

decided-settled : (f : Format) (xs : List ℕ) (o : Scanned) → Decided (front_of f xs o) → Settled o
decided-settled f xs (Whole n) h = tt
decided-settled f xs Partial h = h
decided-settled f xs (Broken r) h = tt

front_of-stays : (f : Format) (xs ys : List ℕ) (o : Scanned) → WholeIn 0 (length xs) o → front_of f (xs ++ ys) o ≡ front_of f xs o
front_of-stays f xs ys (Whole n) h = rw (take-append-le n xs ys (omega arith))
front_of-stays f xs ys Partial h = refl
front_of-stays f xs ys (Broken r) h = refl

-- A frame stays one, and a skipped byte keeps its reason, whatever follows.
pub front-stays : (f : Format) (xs ys : List ℕ) → Decided (front f xs) → front f (xs ++ ys) ≡ front f xs
unfolding front
front-stays f xs ys h =
    ap (front_of f (xs ++ ys)) (stays f xs ys (decided-settled f xs (scan f xs) h)) ∙ front_of-stays f xs ys (scan f xs) (inside f xs)

-- ---- a start is partial

front_of-start : (f : Format) (xs : List ℕ) (o : Scanned) → front_of f xs o ≡ Start → o ≡ Partial
front_of-start f xs (Whole n) e = pick (good f (take n xs)) e
  where
    pick : (t : Bool) → cond t (Frame n) (Neither Checksum) ≡ Start → Whole n ≡ Partial
    pick true p = cc
    pick false p = cc
front_of-start f xs Partial e = refl
front_of-start f xs (Broken r) e = cc

pub start_partial : (f : Format) (xs : List ℕ) → front f xs ≡ Start → scan f xs ≡ Partial
unfolding front
start_partial f xs e = front_of-start f xs (scan f xs) e
