-- Laws of the bytes that begin no shape: how many they are, how code counts them, and what the reading makes of them.
-- Assumes nothing.
use Rattle.std.proofs.Common.{◌≡◌, ℕ, zero, suc, ◌+◌, ◌*◌, ◌<◌, ◌≤◌, Bool, true, false, cond, T, eqb, List, [], ◌∷◌, ◌++◌, length, get_or, drop, replicate, sym, refl, ap, ◌∙◌, subst, ⊎_elim, suc-mul, add-one, arith, drop_of_length-le, drop-cons, eq-eqb, ne_eqb, Some}
use borrow.Author.Tests.{eqb-false, not-true}
use Rattle.framing.specs.declared.Reason.{Reason}
use Rattle.framing.specs.declared.Reason.TheVariants.{StartByte}
use Rattle.framing.specs.declared.Found.TheVariants.{Neither}
use Rattle.framing.specs.Rules.{Next, more, bad, Rules, must}
use Rattle.framing.specs.declared.Format.{Format}
use Rattle.framing.specs.declared.Layout.{Layout}
use Rattle.framing.specs.Format.{layout_of, known, first, next}
use Rattle.framing.specs.Shape.{follow, scan_from, scan}
use Rattle.framing.specs.Frame.{front}
use Rattle.framing.specs.Reading.{ongoing, Event, skipped, Reading, ◌then◌, read, joined, total, one_frame, framed_bytes, skipped_bytes}
use Rattle.framing.specs.FindStart.{fits, begins, find_start}
use Rattle.framing.specs.Private.{Each, differs, find_byte}
use Rattle.framing.proofs.Lawful.{Opens}
use Rattle.framing.proofs.FormatLaws.{lawful, layout-some}
use Rattle.framing.proofs.FrameLaws.{front_at}
use Rattle.framing.proofs.ReadingLaws.{read_at}

-- ---- how many they are

pub find-start-most : (f : Format) (xs : List ℕ) → find_start f xs ≤ length xs
unfolding find_start
find-start-most f [] = omega arith
find-start-most f (x ∷ xs) = pick (begins f x) (find-start-most f xs)
  where
    pick : (t : Bool) → find_start f xs ≤ length xs → cond t 0 (suc (find_start f xs)) ≤ suc (length xs)
    pick true h = omega arith
    pick false h = omega arith

-- ---- the one byte that begins a shape

module _ (f : Format) (a : ℕ) (o : Opens f a) where
  pub find-start-before : (xs : List ℕ) → find_start f xs ≡ find_byte a xs
  unfolding find_start begins find_byte
  find-start-before [] = refl
  find-start-before (x ∷ xs) = rw (o x, find-start-before xs) (pick (eqb x a))
    where
      pick : (t : Bool) → cond (fits (must t (more 0) StartByte)) 0 (suc (find_byte a xs)) ≡ cond t 0 (suc (find_byte a xs))
      pick true = refl
      pick false = refl

  other : (x : ℕ) → begins f x ≡ false → next f 0 0 x ≡ bad StartByte
  unfolding begins
  other x e = o x ∙ pick (eqb x a) (rw (o x) at e)
    where
      pick : (t : Bool) → fits (must t (more 0) StartByte) ≡ false → must t (more 0) StartByte ≡ bad StartByte
      pick true e = cc
      pick false e = refl

-- by the first byte of a format's layout
pub find-start-by : (f : Format) (xs : List ℕ) {l : Layout} → Some l ≡ layout_of f → find_byte l.first xs ≡ find_start f xs
find-start-by f xs {l} e =
    let w = layout-some f (sym e) in
    ap (λ a. find_byte a xs) w.first ∙ sym (find-start-before f (first f) ((lawful f).opens (subst T (sym w.known) tt)) xs)

-- a format that is not known has no shape
nothing : (f : Format) → known f ≡ false → (k m x : ℕ) → next f k m x ≡ bad StartByte
unfolding next
nothing f e k m x =
    ⊎_elim (λ t. absurd (subst T e t)) (λ q. ap (λ (r : Rules). r.next k m x) q) (lawful f).known-or-none

pub find-start-all : (f : Format) → known f ≡ false → (xs : List ℕ) → find_start f xs ≡ length xs
unfolding find_start begins
find-start-all f e [] = refl
find-start-all f e (x ∷ xs) = rw (nothing f e 0 0 x, find-start-all f e xs)

-- ---- how code counts them, from place k on

module _ (a : ℕ) (s : List ℕ) (k : ℕ) (h : k < length s) where
  pub before_here : get_or s k 0 ≡ a → k + find_byte a (drop k s) ≡ k
  unfolding find_byte
  before_here e = rw (drop-cons s k 0 h, eq-eqb (get_or s k 0) a e) (omega arith)

  pub before_more : (get_or s k 0 ≡ a → ⊥) → k + find_byte a (drop k s) ≡ k + 1 + find_byte a (drop (k + 1) s)
  unfolding find_byte
  before_more e = rw (drop-cons s k 0 h, ne_eqb (get_or s k 0) a e, add-one k) (omega arith)

pub before-end : (a : ℕ) (s : List ℕ) (k : ℕ) → length s ≤ k → k + find_byte a (drop k s) ≡ k
unfolding find_byte
before-end a s k h = rw (drop_of_length-le s h) (omega arith)

-- none before place k
pub before-passed : (a : ℕ) (s : List ℕ) (k : ℕ) → k ≤ length s → Each (differs a) 0 k s → find_byte a s ≡ k + find_byte a (drop k s)
before-passed a s zero h e = omega arith
before-passed a s (suc k) h e =
    let here = eqb-false _ _ (not-true _ (e k (omega arith) (omega arith))) in
    before-passed a s k (omega arith) (λ j g l. e j g (omega arith))
    ∙ (rw (add-one k) at (before_more a s k h here))

-- ---- the reading skips them

not_first : (f : Format) (x : ℕ) → begins f x ≡ false → next f 0 0 x ≡ bad StartByte
not_first f x e = go (known f) refl
  where
    go : (t : Bool) → known f ≡ t → next f 0 0 x ≡ bad StartByte
    go true k = other f (first f) ((lawful f).opens (subst T (sym k) tt)) x e
    go false k = nothing f k 0 0 x

front-find-start : (f : Format) (x : ℕ) (xs : List ℕ) → begins f x ≡ false → front f (x ∷ xs) ≡ Neither StartByte
unfolding scan scan_from
front-find-start f x xs e = front_at f (x ∷ xs) (ap (λ (n : Next). follow 0 n (λ m. scan_from f 1 m xs)) (not_first f x e))

-- The reading skips each of them for its first byte, and then reads what is left.
pub find-start-reads : (f : Format) (xs : List ℕ)
    → read ongoing f xs
    ≡ record { events = replicate (find_start f xs) (skipped StartByte) ++ (read ongoing f (drop (find_start f xs) xs)).events; rest = (read ongoing f (drop (find_start f xs) xs)).rest }
unfolding find_start
find-start-reads f [] = refl
find-start-reads f (x ∷ xs) = pick (begins f x) refl (find-start-reads f xs)
  where
    skips : ℕ → List ℕ → Reading
    skips k ys = record { events = replicate k (skipped StartByte) ++ (read ongoing f (drop k ys)).events; rest = (read ongoing f (drop k ys)).rest }

    pick : (t : Bool) → begins f x ≡ t → read ongoing f xs ≡ skips (find_start f xs) xs
        → read ongoing f (x ∷ xs) ≡ skips (cond t 0 (suc (find_start f xs))) (x ∷ xs)
    pick true e ih = refl
    pick false e ih = read_at ongoing f x xs (front-find-start f x xs e) ∙ ap (◌then◌ (skipped StartByte)) ih

-- ---- the counts of so many skips

pub joined-skips : (k : ℕ) (r : Reason) → joined (replicate k (skipped r)) ≡ []
joined-skips zero r = refl
joined-skips (suc k) r = joined-skips k r

total-skips : (w : Event → ℕ) (k : ℕ) (r : Reason) → total w (replicate k (skipped r)) ≡ k * w (skipped r)
total-skips w zero r = omega arith
total-skips w (suc k) r = let h = total-skips w k r in omega (arith, suc-mul k (w (skipped r)))

pub framed-skips : (k : ℕ) (r : Reason) → total framed_bytes (replicate k (skipped r)) ≡ 0
framed-skips k r = omega (arith, total-skips framed_bytes k r)

pub frames-skips : (k : ℕ) (r : Reason) → total one_frame (replicate k (skipped r)) ≡ 0
frames-skips k r = omega (arith, total-skips one_frame k r)

pub skipped-skips : (k : ℕ) (r : Reason) → total skipped_bytes (replicate k (skipped r)) ≡ k
skipped-skips k r = omega (arith, total-skips skipped_bytes k r)
