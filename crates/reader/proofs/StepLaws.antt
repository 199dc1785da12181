-- One step of a reading, and what follows for all of it. Assumes nothing.
use Prim.Native.Nat.{ℕ, ◌+◌, ◌≤◌, ◌<◌}
use mathlib.Core.Path.{◌≡◌, refl, sym, ap, ◌∙◌, subst}
use mathlib.Core.List.{List, [], ◌∷◌}
use native.Mathlib.Omega.{arith}
use lib.ListN.{length, take, drop}
use lib.Seq.{length-take-le, drop-drop}
use Rattle.framing.specs.declared.Reason.{Reason}
use Rattle.framing.specs.declared.Reason.TheVariants.{RanOut}
use Rattle.framing.specs.declared.Found.TheVariants.{Frame, Start, Neither}
use Rattle.framing.specs.declared.Format.{Format}
use Rattle.framing.specs.Shape.{scan_from, scan}
use Rattle.framing.specs.Frame.{front}
use Rattle.framing.specs.Reading.{Mode, ongoing, closing, Event, framed, skipped, stop, ◌then◌, read, one_frame, framed_bytes, skipped_bytes, frame_count, framed_count, skipped_count}
use Rattle.framing.proofs.FrameLaws.{FrameIn, front-inside}
use Rattle.framing.proofs.ReadingLaws.{read-nil, read_at, by-fronts}

-- The reading of xs begins with the event e, which takes n bytes.
pub record Step (c : Mode) (f : Format) (xs : List ℕ) (n : ℕ) (e : Event) : Type 0 where
  pub some : 0 < n
  pub inside : n ≤ length xs
  pub width : framed_bytes e + skipped_bytes e ≡ n
  pub few : one_frame e ≤ framed_bytes e
  pub reads : read c f xs ≡ ◌then◌ e (read c f (drop n xs))

pub frame-inside : (f : Format) (xs : List ℕ) (n : ℕ) → front f xs ≡ Frame n → (0 < n) × (n ≤ length xs)
frame-inside f xs n e = subst (FrameIn (length xs)) e (front-inside f xs)

-- nothing is a start
none-starts : (f : Format) → front f [] ≡ Start
unfolding front scan scan_from
none-starts f = refl

pub frame_step : (c : Mode) (f : Format) (xs : List ℕ) (n : ℕ) → front f xs ≡ Frame n → Step c f xs n (framed (take n xs))
frame_step c f [] n e = let z : ◌≡◌ {A = ℕ} 0 1 = cc (none-starts f) in absurd (omega arith)
frame_step c f (x ∷ xs) n e =
    let i = frame-inside f (x ∷ xs) n e in
    let l = length-take-le n (x ∷ xs) i.1 in
    record { some = i.0; inside = i.1; width = rw l (omega arith); few = rw l i.0; reads = read_at c f x xs e }

-- one byte is skipped
one_byte : (c : Mode) (f : Format) (x : ℕ) (xs : List ℕ) (r : Reason) → read c f (x ∷ xs) ≡ ◌then◌ (skipped r) (read c f xs)
    → Step c f (x ∷ xs) 1 (skipped r)
one_byte c f x xs r e = record { some = omega arith; inside = omega arith; width = refl; few = omega arith; reads = e }

pub skip_step : (c : Mode) (f : Format) (xs : List ℕ) (r : Reason) → front f xs ≡ Neither r → Step c f xs 1 (skipped r)
skip_step c f [] r e = let z : ◌≡◌ {A = ℕ} 0 1 = cc (none-starts f) in absurd (omega arith)
skip_step c f (x ∷ xs) r e = one_byte c f x xs r (read_at c f x xs e)

-- at a start the closing reading skips a byte
pub close-step : (f : Format) (x : ℕ) (xs : List ℕ) → front f (x ∷ xs) ≡ Start → Step closing f (x ∷ xs) 1 (skipped RanOut)
close-step f x xs e = one_byte closing f x xs RanOut (read_at closing f x xs e)

pub start-stops : (f : Format) (xs : List ℕ) → front f xs ≡ Start → read ongoing f xs ≡ stop xs
start-stops f [] e = read-nil ongoing f
start-stops f (x ∷ xs) e = read_at ongoing f x xs e

-- What holds where a reading stops, and before a step if it holds of what is left.
by-steps {ℓ} : (c : Mode) (f : Format) (P : List ℕ → Type ℓ) → ((xs : List ℕ) → read c f xs ≡ stop xs → P xs)
    → ((xs : List ℕ) (n : ℕ) (e : Event) → Step c f xs n e → P (drop n xs) → P xs) → (xs : List ℕ) → P xs
by-steps c f P end more =
    by-fronts f P (end [] (read-nil c f))
    (λ n x xs e h ih. more (x ∷ xs) n (framed (take n (x ∷ xs))) (frame_step c f (x ∷ xs) n e) ih)
    (λ x xs e ih. on_start c x xs e refl ih)
    (λ r x xs e ih. more (x ∷ xs) 1 (skipped r) (skip_step c f (x ∷ xs) r e) ih)
  where
    on_start : (d : Mode) (x : ℕ) (xs : List ℕ) → front f (x ∷ xs) ≡ Start → c ≡ d → P xs → P (x ∷ xs)
    on_start ongoing x xs e q ih = end (x ∷ xs) (subst (λ (d : Mode). read d f (x ∷ xs) ≡ stop (x ∷ xs)) (sym q) (start-stops f (x ∷ xs) e))
    on_start closing x xs e q ih =
        more (x ∷ xs) 1 (skipped RanOut) (subst (λ (d : Mode). Step d f (x ∷ xs) 1 (skipped RanOut)) (sym q) (close-step f x xs e)) ih

-- there are no more frames than bytes framed
pub frames-most : (c : Mode) (f : Format) (xs : List ℕ) → frame_count (read c f xs) ≤ framed_count (read c f xs)
frames-most c f =
    by-steps c f (λ xs. frame_count (read c f xs) ≤ framed_count (read c f xs)) (λ xs e. rw e (omega arith))
    (λ xs n e s ih. rw s.reads (omega (arith, s.few, ih)))

behind : (k n m : ℕ) (l : List ℕ) {rest : List ℕ} → k ≡ n + m → drop m (drop n l) ≡ rest → drop k l ≡ rest
behind k n m l e h = ap (λ (j : ℕ). drop j l) e ∙ sym (drop-drop m n l) ∙ h

-- what is pending stands behind what is framed and skipped
pub rest-stands : (c : Mode) (f : Format) (xs : List ℕ) → drop (framed_count (read c f xs) + skipped_count (read c f xs)) xs ≡ (read c f xs).rest
rest-stands c f =
    by-steps c f (λ xs. drop (framed_count (read c f xs) + skipped_count (read c f xs)) xs ≡ (read c f xs).rest) (λ xs e. rw e)
    (λ xs n e s ih.
    let g = read c f (drop n xs) in
    rw s.reads
    (behind (framed_bytes e + framed_count g + (skipped_bytes e + skipped_count g)) n (framed_count g + skipped_count g) xs (omega (arith, s.width)) ih))
