-- The closing reading from its first step and that of the rest, its frames put into the output. Assumes nothing.
use Prim.Native.Nat.{ℕ, ◌+◌, ◌-◌, ◌≤◌, ◌<◌}
use mathlib.Core.Path.{◌≡◌, refl, ap, ◌∙◌}
use mathlib.Core.List.{List, [], ◌∷◌, ◌++◌}
use native.Mathlib.Omega.{arith}
use Rattle.std.proofs.Common.{Some, None}
use lib.ListN.{length, take, drop}
use lib.Seq.{length-take-le}
use Rattle.buffer.specs.Buffer.{put, copied}
use Rattle.buffer.proofs.BufferLaws.{start-copied}
use Rattle.framing.specs.declared.Reason.{Reason}
use Rattle.framing.specs.declared.Reason.TheVariants.{RanOut}
use Rattle.framing.specs.declared.Found.{Found}
use Rattle.framing.specs.declared.Found.TheVariants.{Frame, Start, Neither}
use Rattle.framing.specs.declared.Format.{Format}
use Rattle.framing.specs.Frame.{front}
use Rattle.framing.specs.Reading.{closing, skipped, read, joined}
use Rattle.framing.proofs.ReadingLaws.{read-nil, closing-rest, balance}
use Rattle.reader.specs.declared.lines.LineCounts.{LineCounts}
use Rattle.framing.specs.FrameRun.{length_found}
use Rattle.reader.specs.Private.{line_counts_of}
use Rattle.reader.proofs.HeldLaws.{laid_on}
use Rattle.std.proofs.lemmas.List.{take_rest}
use Rattle.reader.proofs.StepLaws.{Step, frame-inside, frame_step, skip_step, close-step, frames-most}

-- what going through xs to the end answers and leaves
abbrev pub ReadsClosing : Format → List ℕ → List ℕ → LineCounts → List ℕ → Type 0
ReadsClosing f xs out w out' = (w ≡ line_counts_of (read closing f xs)) × (out' ≡ put (joined (read closing f xs).events) out)

pub read-closing-none : (f : Format) (xs out : List ℕ) → length xs ≡ 0 → ReadsClosing f xs out (record { framed = 0; skipped = 0; frames = 0 }) out
read-closing-none f [] out e = rw (read-nil closing f) (refl, refl)
read-closing-none f (x ∷ xs) out e = absurd (omega arith)

-- no number passes the bytes
pub record Most (xs : List ℕ) (w : LineCounts) : Type 0 where
  pub bytes : w.framed + w.skipped ≡ length xs
  pub few : w.frames ≤ w.framed

pub closing-most : (f : Format) (xs out out' : List ℕ) (w : LineCounts) → ReadsClosing f xs out w out' → Most xs w
closing-most f xs out out' w h =
    rw h.0
    (record {
      bytes = omega (arith, balance closing f xs, ap length (closing-rest f xs));
      few = frames-most closing f xs;
    })

-- ---- what the code finds at the start of xs

-- a frame, which ends in xs
module _ (f : Format) (xs : List ℕ) {n : ℕ} (e : length_found (front f xs) ≡ Some n) where
  pub frame-there : front f xs ≡ Frame n
  frame-there = go (front f xs) e
    where
      go : (o : Found) → length_found o ≡ Some n → o ≡ Frame n
      go (Frame k) p = let q : k ≡ n = cc p in ap Frame q
      go Start p = cc p
      go (Neither r) p = cc p

  pub frame-ends : (0 < n) × (n ≤ length xs)
  frame-ends = frame-inside f xs n frame-there

-- where no frame stands, a byte is skipped for some reason
record Skips (f : Format) (xs : List ℕ) : Type 0 where
  reason : Reason
  step : Step closing f xs 1 (skipped reason)

skips : (f : Format) (xs : List ℕ) → 0 < length xs → length_found (front f xs) ≡ None → Skips f xs
skips f [] h z = absurd (omega arith)
skips f (x ∷ xs) h z = go (front f (x ∷ xs)) refl z
  where
    go : (o : Found) → front f (x ∷ xs) ≡ o → length_found o ≡ None → Skips f (x ∷ xs)
    go (Frame n) e p = cc p
    go Start e p = record { reason = RanOut; step = close-step f x xs e }
    go (Neither r) e p = record { reason = r; step = skip_step closing f (x ∷ xs) r e }

same : {a b c d e g : ℕ} → a ≡ b → c ≡ d → e ≡ g
    → ◌≡◌ {A = LineCounts} (record { framed = a; skipped = c; frames = e }) (record { framed = b; skipped = d; frames = g })
same p q r = λ i. record { framed = p i; skipped = q i; frames = r i }

module _ (f : Format) (xs out : List ℕ) (w : LineCounts) where
  pub read-closing-skip : (out' : List ℕ) → 0 < length xs → length_found (front f xs) ≡ None → ReadsClosing f (take (length xs - 1) (drop 1 xs)) out w out'
      → ReadsClosing f xs out (record { framed = w.framed; skipped = w.skipped + 1; frames = w.frames }) out'
  read-closing-skip out' h z rest =
      let s = skips f xs h z in
      let g : ReadsClosing f (drop 1 xs) out w out' = rw (take_rest xs 1) at rest in
      rw (s.step.reads, g.0) (same (omega arith) (omega arith) (omega arith), g.1)

  pub read-closing-frame : (n : ℕ) (out₁ ys : List ℕ) → length xs ≤ length out → length_found (front f xs) ≡ Some n → out₁ ≡ copied (take n xs) out 0
      → ReadsClosing f (take (length xs - n) (drop n xs)) (take (length out₁ - n) (drop n out₁)) w ys
      → ReadsClosing f xs out (record { framed = w.framed + n; skipped = w.skipped; frames = w.frames + 1 })
      (take n out₁ ++ (ys ++ drop (length out₁ - n) (drop n out₁)))
  read-closing-frame n out₁ ys h e copies rest =
      let s = frame_step closing f xs n (frame-there f xs e) in
      let l : length (take n xs) ≡ n = length-take-le n xs s.inside in
      let p : out₁ ≡ take n xs ++ drop (length (take n xs)) out = copies ∙ start-copied (take n xs) out (omega (arith, l, s.inside)) in
      let g : ReadsClosing f (drop n xs) (take (length out₁ - n) (drop n out₁)) w ys = rw (take_rest xs n) at rest in (
        rw (s.reads, g.0, l) (same (omega arith) (omega arith) (omega arith)),
        rw s.reads (laid_on (take n xs) (joined (read closing f (drop n xs)).events) out out₁ ys n l p g.1),
      )
