-- Frames one behind the other, as code goes through them.
-- Assumes nothing.
use Rattle.std.proofs.Common.{◌≡◌, ℕ, zero, suc, ◌+◌, ◌-◌, ◌<◌, ◌≤◌, min, true, false, List, [], ◌∷◌, length, take, drop, sym, refl, ap, ◌∙◌, subst, add-zero, zero-add, arith, length-drop, length-take-le, take_all, drop-drop, Some, None}
use native.Mathlib.Nat.{sub-zero, zero-sub}
use lib.Seq.{take-nil}
use Rattle.framing.specs.declared.Reason.{Reason}
use Rattle.framing.specs.declared.Found.{Found}
use Rattle.framing.specs.declared.Found.TheVariants.{Frame, Start, Neither}
use Rattle.framing.specs.declared.frame_run.Run.{Run}
use Rattle.framing.specs.declared.Format.{Format}
use Rattle.framing.specs.Frame.{front}
use Rattle.framing.specs.FrameRun.{run_by, frame_run, length_found, frame_length}
use Rattle.framing.specs.Meaning.{LengthTells}
use Rattle.framing.proofs.FrameLaws.{FrameIn, front-inside}

-- k frames of a bytes, and those of r behind them
abbrev pub behind : ℕ → ℕ → Run → Run
behind a k r = record { bytes = a + r.bytes; frames = k + r.frames; waits = r.waits }

-- `&s[a..]`
pub tail : (s : List ℕ) (a : ℕ) → take (length s - a) (drop a s) ≡ drop a s
tail s a = take_all (length s - a) (drop a s) (simp length-drop (omega arith))

-- the first bytes, and what stands behind a of them
drop-first : (a e : ℕ) (s : List ℕ) → take (e - a) (drop a s) ≡ drop a (take e s)
drop-first zero e s = rw (sub-zero e)
drop-first (suc a) zero s = rw (zero-sub (suc a))
drop-first (suc a) (suc e) [] = take-nil (suc e - suc a)
drop-first (suc a) (suc e) (x ∷ s) = let m : suc e - suc a ≡ e - a = omega arith in rw m (drop-first a e s)

-- the first bytes of `&s[a..]`
pub tail_within : (s : List ℕ) (a e : ℕ) → take (e - a) (take (length s - a) (drop a s)) ≡ drop a (take e s)
tail_within s a e = rw (tail s a) (drop-first a e s)

-- more bytes than there are, are all
pub take-least : (s : List ℕ) (e : ℕ) → take (min (length s) e) s ≡ take e s
take-least [] e = take-nil (min 0 e) ∙ sym (take-nil e)
take-least (x ∷ s) zero = let z : min (length (x ∷ s)) 0 ≡ 0 = omega arith in rw z
take-least (x ∷ s) (suc e) = let m : min (length (x ∷ s)) (suc e) ≡ suc (min (length s) e) = omega arith in rw m (ap (λ r. x ∷ r) (take-least s e))

-- how far the code is: at place a, behind k frames
pub record Led (f : Format) (s : List ℕ) (most a k : ℕ) : Type 0 where
  pub inside : a ≤ length s
  pub few : k ≤ most
  pub less : k ≤ a
  pub same : frame_run f most s ≡ behind a k (frame_run f (most - k) (drop a s))

pub led-start : (f : Format) (s : List ℕ) (most : ℕ) → Led f s most 0 0
led-start f s most =
    record { inside = omega arith; few = omega arith; less = omega arith; same = rw (sub-zero most, zero-add (frame_run f most s).bytes, zero-add (frame_run f most s).frames) }

module _ (f : Format) (s : List ℕ) (most a k : ℕ) (l : Led f s most a k) where
  -- one step
  step : k < most → {o : Found} → front f (drop a s) ≡ o → frame_run f most s ≡ behind a k (run_by o (λ n. frame_run f (most - (k + 1)) (drop n (drop a s))))
  unfolding frame_run
  step h {o} e =
      let m : most - k ≡ suc (most - (k + 1)) = omega arith in
      l.same ∙ rw (m, e)

  frame-ends : (n : ℕ) → front f (drop a s) ≡ Frame n → (0 < n) × (a + n ≤ length s)
  frame-ends n e =
      let i = subst (FrameIn (length (drop a s))) e (front-inside f (drop a s)) in
      (i.0, omega (arith, i.1, l.inside, length-drop a s))

  led-frame : (n : ℕ) → k < most → front f (drop a s) ≡ Frame n → Led f s most (a + n) (k + 1)
  led-frame n h e =
      let i = frame-ends n e in
      let r = frame_run f (most - (k + 1)) (drop (a + n) s) in
      let b : a + (n + r.bytes) ≡ a + n + r.bytes = omega arith in
      let c : k + suc r.frames ≡ k + 1 + r.frames = omega arith in
      record { inside = i.1; few = omega arith; less = omega (arith, l.less, i.0); same = step h e ∙ rw (drop-drop n a s, b, c) }

  led-start-here : k < most → front f (drop a s) ≡ Start → record { bytes = a; frames = k; waits = true } ≡ frame_run f most s
  led-start-here h e =
      let b : a + 0 ≡ a = omega arith in
      let c : k + 0 ≡ k = omega arith in
      sym (step h e ∙ rw (b, c))

  led-neither : (r : Reason) → k < most → front f (drop a s) ≡ Neither r → record { bytes = a; frames = k; waits = false } ≡ frame_run f most s
  led-neither r h e =
      let b : a + 0 ≡ a = omega arith in
      let c : k + 0 ≡ k = omega arith in
      sym (step h e ∙ rw (b, c))

  pub led-full : most ≤ k → record { bytes = a; frames = most; waits = false } ≡ frame_run f most s
  unfolding frame_run
  led-full h =
      let m : most - k ≡ 0 = omega arith in
      let b : a + 0 ≡ a = omega arith in
      let c : k + 0 ≡ most = omega (arith, l.few) in
      sym (l.same ∙ rw (m, b, c))

-- what the front of the rest of the first e bytes, as code reads it, comes to
module _ {f : Format} (s : List ℕ) {e most a k : ℕ} (l : Led f (take e s) most a k) (i : e ≤ length s) (h : k < most)
    {o : Found} (q : o ≡ front f (take (e - a) (take (length s - a) (drop a s)))) where
  told : front f (drop a (take e s)) ≡ o
  told = ap (front f) (sym (tail_within s a e)) ∙ sym q

  pub next-ends : {n : ℕ} → o ≡ Frame n → a + n ≤ length s
  next-ends {n} w = omega (arith, (frame-ends f (take e s) most a k l n (told ∙ w)).1, length-take-le e s i)

  pub next-led : {n : ℕ} → o ≡ Frame n → Led f (take e s) most (a + n) (k + 1)
  next-led {n} w = led-frame f (take e s) most a k l n h (told ∙ w)

  pub next-waits : o ≡ Start → record { bytes = a; frames = k; waits = true } ≡ frame_run f most (take e s)
  next-waits w = led-start-here f (take e s) most a k l h (told ∙ w)

  pub next-none : ((n : ℕ) → o ≡ Frame n → ⊥) → (o ≡ Start → ⊥) → record { bytes = a; frames = k; waits = false } ≡ frame_run f most (take e s)
  next-none x y = go o refl
    where
      go : (p : Found) → o ≡ p → record { bytes = a; frames = k; waits = false } ≡ frame_run f most (take e s)
      go (Frame n) w = absurd (x n w)
      go Start w = absurd (y w)
      go (Neither r) w = led-neither f (take e s) most a k l r h (told ∙ w)

-- ---- the first frame alone

abbrev pub one_of : Found → Run
one_of (Frame n) = record { bytes = n; frames = 1; waits = false }
one_of Start = record { bytes = 0; frames = 0; waits = true }
one_of (Neither r) = record { bytes = 0; frames = 0; waits = false }

pub run-one : (f : Format) (xs : List ℕ) → frame_run f 1 xs ≡ one_of (front f xs)
unfolding frame_run
run-one f xs = go (front f xs)
  where
    go : (o : Found) → run_by o (λ n. record { bytes = 0; frames = 0; waits = false }) ≡ one_of o
    go (Frame n) = rw (add-zero n)
    go Start = refl
    go (Neither r) = refl

-- a run of at most one frame, and whether it has one
module _ (f : Format) (xs : List ℕ) {r : Run} (q : r ≡ frame_run f 1 xs) where
  is_one : r ≡ one_of (front f xs)
  is_one = q ∙ run-one f xs

  pub one-none : r.frames ≡ 0 → None ≡ length_found (front f xs)
  one-none e = go (front f xs) (rw is_one at e)
    where
      go : (o : Found) → (one_of o).frames ≡ 0 → None ≡ length_found o
      go (Frame n) h = absurd (omega arith)
      go Start h = refl
      go (Neither r) h = refl

  pub one-some : (r.frames ≡ 0 → ⊥) → Some r.bytes ≡ length_found (front f xs)
  one-some e = ap (λ (p : Run). Some p.bytes) is_one ∙ go (front f xs) (rw is_one at e)
    where
      go : (o : Found) → ((one_of o).frames ≡ 0 → ⊥) → Some (one_of o).bytes ≡ length_found o
      go (Frame n) h = refl
      go Start h = absurd (h refl)
      go (Neither r) h = absurd (h refl)

length-frame : (o : Found) (n : ℕ) → frame_length o ≡ n → 0 < n → o ≡ Frame n
length-frame (Frame m) n e h = ap Frame e
length-frame Start n e h = absurd (omega arith)
length-frame (Neither r) n e h = absurd (omega arith)

pub length-tells : LengthTells
length-tells f n xs = (λ e. (ap frame_length e, (subst (FrameIn (length xs)) e (front-inside f xs)).0), λ h. length-frame (front f xs) n h.0 h.1)
