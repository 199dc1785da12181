-- What a writer made where it answers 0.
-- Assumes nothing.
use Prim.Native.Nat.{ℕ, suc}
use mathlib.Core.Path.{◌≡◌, refl}
use mathlib.Core.Bool.{Bool, true, false}
use mathlib.Core.List.{List}
use native.Mathlib.Omega.{arith}
use lib.Dec.{leb}
use lib.ListN.{length, drop}
use lib.Seq.{take-append_seam}
use Rattle.buffer.specs.Buffer.{put}
use Rattle.answer.specs.Answer.{Answer, given, unless}
use Rattle.frame_writer.specs.Output.{Output, untouched, write}
use Rattle.roundtrip_theorems.specs.FrameTrips.{made}

-- what is answered where the content is taken, by whether the frame fits
abbrev laid : List ℕ → List ℕ → Bool → Answer Output
laid frame out t = unless (untouched out) t 6 (given (record { written = length frame; out = put frame out }))

laid-is : (frame out : List ℕ) (t : Bool) → (laid frame out t).number ≡ 0 → made (laid frame out t) ≡ frame
laid-is frame out true e = take-append_seam frame (drop (length frame) out)
laid-is frame out false e = absurd (omega arith)

-- The content was taken, and what was made is the frame.
pub made-is : (n : ℕ) (taken : Bool) (frame out : List ℕ) → (write (suc n) taken frame out).number ≡ 0
    → (taken ≡ true) × (made (write (suc n) taken frame out) ≡ frame)
unfolding write
made-is n true frame out e = (refl, laid-is frame out (leb (length frame) (length out)) e)
made-is n false frame out e = absurd (omega arith)
