-- A frame is found wherever it stands, unless one that begins before reaches into it.
-- Assumes nothing.
use Rattle.std.proofs.Common.{◌≡◌, ℕ, ◌+◌, ◌<◌, ◌≤◌, List, ◌∷◌, ◌++◌, length, take, drop, sym, refl, ap, ◌∙◌, subst, arith, length-drop, take-append-drop, length-take-le, drop-drop}
use lib.Seq.{take-append-le, drop-append-le}
use Rattle.framing.specs.declared.Reason.{Reason}
use Rattle.framing.specs.declared.Found.{Found}
use Rattle.framing.specs.declared.Found.TheVariants.{Frame, Start, Neither}
use Rattle.framing.specs.declared.Format.{Format}
use Rattle.framing.specs.Frame.{front}
use Rattle.framing.specs.Reading.{closing, read, frames}
use Rattle.framing.specs.Meaning.{Clear, StillFound}
use Rattle.framing.proofs.FrameLaws.{Decided, front-stays, frame-alone}
use Rattle.framing.proofs.LineLaws.{read-frame}
use Rattle.framing.proofs.ReadingLaws.{read-nil, read_at, by-fronts}

-- a frame that lies in the first bytes is one of these alone
frame-before : (f : Format) (n : ℕ) (xs ys : List ℕ) → n ≤ length xs → front f (xs ++ ys) ≡ Frame n → front f xs ≡ Frame n
frame-before f n xs ys l e =
    let a = ap (front f) (sym (take-append-le n xs ys l)) ∙ frame-alone f n (xs ++ ys) e in
    let m : length (take n (xs ++ ys)) ≡ n = ap length (take-append-le n xs ys l) ∙ length-take-le n xs l in
    let q : front f (take n xs) ≡ Frame n = a ∙ ap Frame m in
    ap (front f) (sym (take-append-drop n xs)) ∙ front-stays f (take n xs) (drop n xs) (subst Decided (sym q) tt) ∙ q

module _ (f : Format) (ys : List ℕ) where
  -- behind the first n bytes
  clear-drop : (n : ℕ) (xs : List ℕ) → n ≤ length xs → Clear f xs ys → Clear f (drop n xs) ys
  clear-drop n xs l c i m h e =
      let q : drop i (drop n xs ++ ys) ≡ drop (n + i) (xs ++ ys) = ap (drop i) (sym (drop-append-le n xs ys l)) ∙ drop-drop i n (xs ++ ys) in
      let d = length-drop n xs in
      let b = c (n + i) m (omega arith) (ap (front f) (sym q) ∙ e) in
      omega arith

  abbrev Apart : List ℕ → Type 0
  Apart xs = Clear f xs ys → frames (read closing f (xs ++ ys)).events ≡ frames (read closing f xs).events ++ frames (read closing f ys).events

  -- a byte that is skipped where ys follow
  skips : (x : ℕ) (xs : List ℕ) → Clear f (x ∷ xs) ys → (front f (x ∷ xs) ≡ Start) → frames (read closing f (x ∷ (xs ++ ys))).events ≡ frames (read closing f (xs ++ ys)).events
  skips x xs c s = go (front f (x ∷ (xs ++ ys))) refl
    where
      go : (o : Found) → front f (x ∷ (xs ++ ys)) ≡ o → frames (read closing f (x ∷ (xs ++ ys))).events ≡ frames (read closing f (xs ++ ys)).events
      go (Frame n) e =
          let l = c 0 n (omega arith) e in
          let q = frame-before f n (x ∷ xs) ys (omega arith) e in
          let z : Start ≡ Frame n = sym s ∙ q in
          let w : ◌≡◌ {A = ℕ} 0 1 = cc in
          absurd (omega arith)
      go Start e = rw (read_at closing f x (xs ++ ys) e)
      go (Neither r) e = rw (read_at closing f x (xs ++ ys) e)

  apart : (xs : List ℕ) → Apart xs
  apart = by-fronts f Apart (λ c. rw (read-nil closing f)) on_frame on_start on_neither
    where
      on_frame : (n x : ℕ) (xs : List ℕ) → front f (x ∷ xs) ≡ Frame n → (0 < n) × (n ≤ length (x ∷ xs)) → Apart (drop n (x ∷ xs)) → Apart (x ∷ xs)
      on_frame n x xs e h ih c =
          rw (
            read_at closing f x xs e,
            read_at closing f x (xs ++ ys) (front-stays f (x ∷ xs) ys (subst Decided (sym e) tt) ∙ e),
            take-append-le n (x ∷ xs) ys h.1,
            drop-append-le n (x ∷ xs) ys h.1,
          )
          (ap (λ (l : List (List ℕ)). take n (x ∷ xs) ∷ l) (ih (clear-drop n (x ∷ xs) h.1 c)))

      on_start : (x : ℕ) (xs : List ℕ) → front f (x ∷ xs) ≡ Start → Apart xs → Apart (x ∷ xs)
      on_start x xs e ih c = skips x xs c e ∙ ih (clear-drop 1 (x ∷ xs) (omega arith) c) ∙ rw (read_at closing f x xs e)

      on_neither : (r : Reason) (x : ℕ) (xs : List ℕ) → front f (x ∷ xs) ≡ Neither r → Apart xs → Apart (x ∷ xs)
      on_neither r x xs e ih c =
          rw (
            read_at closing f x xs e,
            read_at closing f x (xs ++ ys) (front-stays f (x ∷ xs) ys (subst Decided (sym e) tt) ∙ e),
          )
          (ih (clear-drop 1 (x ∷ xs) (omega arith) c))

pub still-found : StillFound
still-found f xs b ys h c = apart f (b ++ ys) xs c ∙ rw (read-frame closing f b ys h)
