-- Laws of frames back to back on a line, over every format and in both readings.
-- Assumes nothing.
use Rattle.std.proofs.Common.{◌≡◌, ℕ, List, [], ◌∷◌, ◌++◌, sym, ◌∙◌, subst, arith}
use lib.Seq.{take-append_seam, drop-append_seam}
use Rattle.framing.specs.declared.Format.{Format}
use Rattle.framing.specs.Frame.{IsFrame}
use Rattle.framing.specs.Reading.{Mode, framed, ◌then◌, read}
use Rattle.framing.proofs.FrameLaws.{FrameIn, front-inside, Decided, front-stays}
use Rattle.framing.proofs.ReadingLaws.{read_at}

-- A frame that other bytes follow is read first, and then the others.
pub read-frame : (c : Mode) (f : Format) (b ys : List ℕ) → IsFrame f b → read c f (b ++ ys) ≡ ◌then◌ (framed b) (read c f ys)
read-frame c f [] ys e = let h = subst (FrameIn 0) e (front-inside f []) in absurd (omega arith)
read-frame c f (x ∷ xs) ys e =
    read_at c f x (xs ++ ys) (front-stays f (x ∷ xs) ys (subst Decided (sym e) tt) ∙ e)
    ∙ rw (take-append_seam (x ∷ xs) ys, drop-append_seam (x ∷ xs) ys)
