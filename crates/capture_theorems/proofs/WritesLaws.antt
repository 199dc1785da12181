-- What a writer answers and makes where it takes the content.
-- Assumes nothing.
use Prim.Native.Nat.{ℕ, suc}
use mathlib.Core.Path.{◌≡◌, refl}
use mathlib.Core.Bool.{Bool, true, false, cond}
use mathlib.Core.List.{List}
use lib.Dec.{leb}
use lib.ListN.{length}
use Rattle.buffer.specs.Buffer.{put}
use Rattle.answer.specs.Answer.{given, unless}
use Rattle.frame_writer.specs.Output.{untouched, write}
use Rattle.roundtrip_theorems.proofs.MadeLaws.{made-is}
use Rattle.capture_theorems.specs.Trips.{Writes}

pub writes : (n : ℕ) (s out : List ℕ) → Writes s out (write (suc n) true s out)
unfolding write
writes n s out = record { answer = answered (leb (length s) (length out)); same = λ e. (made-is n true s out e).1 }
  where
    answered : (t : Bool) → (unless (untouched out) t 6 (given (record { written = length s; out = put s out }))).number ≡ cond t 0 6
    answered true = refl
    answered false = refl
