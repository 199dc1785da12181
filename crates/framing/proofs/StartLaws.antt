-- What a proper start is: the bytes that `scan` finds partial are exactly those that some bytes which follow make a whole shape. And what
-- `front` finds.
-- Assumes nothing.
use Rattle.std.proofs.Common.{◌≡◌, ℕ, suc, ◌≤◌, T, List, [], ◌∷◌, length, take, drop, sym, refl, ap, ◌∙◌, subst, arith, take-append-drop, length-take-le}
use Rattle.framing.specs.declared.Scanned.TheVariants.{Whole, Partial}
use Rattle.framing.specs.declared.Found.TheVariants.{Frame}
use Rattle.framing.specs.Rules.{Next, more, done, bad}
use Rattle.framing.specs.declared.Format.{Format}
use Rattle.framing.specs.Format.{known, shortest, next}
use Rattle.framing.specs.Shape.{follow, scan_from, scan}
use Rattle.framing.specs.Frame.{front, IsFrame}
use Rattle.framing.specs.Meaning.{IsByte, Bytes, StartMeans, FrontExactly}
use Rattle.framing.proofs.ShapeLaws.{partial-of-shape}
use Rattle.framing.proofs.FrameLaws.{FrameIn, front-inside, front_at, frame-alone, Decided, front-stays, start_partial}
use Rattle.framing.proofs.Lawful.{After, GoesOn}
use Rattle.framing.proofs.FormatLaws.{lawful}

-- the bytes that are partial go on to a shape

goes_on : (f : Format) (k m : ℕ) (xs : List ℕ) → T (known f) → Bytes xs → (lawful f).Sound IsByte k m → scan_from f k m xs ≡ Partial → GoesOn f k m xs
unfolding scan_from
goes_on f k m [] t b h e = (lawful f).completes t k m h
goes_on f k m (x ∷ xs) t b h e = go (next f k m x) refl ((lawful f).sound-next IsByte k m x b.0 h) e (λ n s q. goes_on f (suc k) n xs t b.1 s q)
  where
    go : (n : Next) → next f k m x ≡ n → After ((lawful f).Sound IsByte (suc k)) (shortest f ≤ suc k) n → follow k n (λ j. scan_from f (suc k) j xs) ≡ Partial
        → ((j : ℕ) → (lawful f).Sound IsByte (suc k) j → scan_from f (suc k) j xs ≡ Partial → GoesOn f (suc k) j xs) → GoesOn f k m (x ∷ xs)
    go (more j) q s e ih =
        let g = ih j s e in
        record { rest = g.rest; some = g.some; bytes = g.bytes; shape = rw q (g.shape ∙ ap Whole (omega arith)) }
    go done q s e ih = let z : ◌≡◌ {A = ℕ} 0 1 = cc in absurd (omega arith)
    go (bad r) q s e ih = let z : ◌≡◌ {A = ℕ} 0 1 = cc in absurd (omega arith)

-- Some bytes are empty or a proper start of a shape exactly if they are partial.
pub start-means : StartMeans
unfolding scan
start-means f xs t b = (
  λ e.
      let g = goes_on f 0 0 xs t b ((lawful f).sound-zero IsByte) e in
      record { rest = g.rest; some = g.some; bytes = g.bytes; shape = g.shape ∙ ap Whole (omega arith) },
  λ c. partial-of-shape f xs c.rest c.some c.shape,
)

-- ---- what `front` finds

frame-first : (f : Format) (xs : List ℕ) (n : ℕ) → n ≤ length xs → IsFrame f (take n xs) → front f xs ≡ Frame n
frame-first f xs n l e =
    let q : front f (take n xs) ≡ Frame n = e ∙ ap Frame (length-take-le n xs l) in
    ap (front f) (sym (take-append-drop n xs)) ∙ front-stays f (take n xs) (drop n xs) (subst Decided (sym q) tt) ∙ q

pub front-exactly : FrontExactly
front-exactly f xs =
    record {
      frame = λ n. (
        λ e. ((subst (FrameIn (length xs)) e (front-inside f xs)).1, frame-alone f n xs e),
        λ h. frame-first f xs n h.0 h.1,
      );
      start = λ t b. (λ e. (start-means f xs t b).0 (start_partial f xs e), λ c. front_at f xs ((start-means f xs t b).1 c));
    }
