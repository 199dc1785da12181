-- The frames that some bytes begin with, one behind the other (docs/FORMATS.md, "The reading of a line").
use Rattle.std.specs.Prelude.{ℕ, zero, suc, ◌+◌, true, false, List, drop, Option, Some, None, unwrap_or}
use Rattle.framing.specs.declared.Found.{Found}
use Rattle.framing.specs.declared.Found.TheVariants.{Frame, Start, Neither}
use Rattle.framing.specs.declared.frame_run.Run.{Run}
use Rattle.framing.specs.declared.Format.{Format}
use Rattle.framing.specs.Frame.{front}

-- a frame of n bytes, and then what go finds behind it; or none, and whether what is there is nothing or a proper start
abbrev pub run_by : Found → (ℕ → Run) → Run
run_by (Frame n) go = record { bytes = n + (go n).bytes; frames = suc (go n).frames; waits = (go n).waits }
run_by Start go = record { bytes = 0; frames = 0; waits = true }
run_by (Neither r) go = record { bytes = 0; frames = 0; waits = false }

-- at most so many of them
unfoldable pub frame_run : Format → ℕ → List ℕ → Run
frame_run f zero xs = record { bytes = 0; frames = 0; waits = false }
frame_run f (suc m) xs = run_by (front f xs) (λ n. frame_run f m (drop n xs))

-- the length of the frame found
abbrev pub length_found : Found → Option ℕ
length_found (Frame n) = Some n
length_found Start = None
length_found (Neither r) = None

-- the same as a number: 0 where no frame is
abbrev pub frame_length : Found → ℕ
frame_length o = unwrap_or (length_found o) 0
