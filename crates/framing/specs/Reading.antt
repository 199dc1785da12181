-- Document 01's reading of a byte string, its closing reading, and their framed, skipped and pending (docs/FORMATS.md, "The reading
-- of a line").
use Rattle.std.specs.Prelude.{ℕ, zero, suc, ◌+◌, List, [], ◌∷◌, ◌++◌, length, take, drop}
use mathlib.Core.List.{foldr}
use Rattle.framing.specs.declared.Reason.{Reason}
use Rattle.framing.specs.declared.Reason.TheVariants.{RanOut}
use Rattle.framing.specs.declared.Found.{Found}
use Rattle.framing.specs.declared.Found.TheVariants.{Frame, Start, Neither}
use Rattle.framing.specs.declared.Format.{Format}
use Rattle.framing.specs.Frame.{front}

-- The reading stops at a proper start of a shape (ongoing); the closing reading skips its first byte and goes on (closing).
pub data Mode : Type 0 where
  ongoing closing : Mode

-- One step of a reading: these bytes are framed, or one byte is skipped for a reason.
pub data Event : Type 0 where
  framed : List ℕ → Event
  skipped : Reason → Event

-- A reading: its steps in order, and the pending bytes.
pub record Reading : Type 0 where
  pub events : List Event
  pub rest : List ℕ

abbrev pub stop : List ℕ → Reading
stop xs = record { events = []; rest = xs }

abbrev pub ◌then◌ : Event → Reading → Reading
◌then◌ e r = record { events = e ∷ r.events; rest = r.rest }

-- One step at the bytes x ∷ xs; go reads what is left after it.
abbrev pub step : Mode → Found → ℕ → List ℕ → (List ℕ → Reading) → Reading
step c (Frame n) x xs go = ◌then◌ (framed (take n (x ∷ xs))) (go (drop n (x ∷ xs)))
step ongoing Start x xs go = stop (x ∷ xs)
step closing Start x xs go = ◌then◌ (skipped RanOut) (go xs)
step c (Neither r) x xs go = ◌then◌ (skipped r) (go xs)

-- The recursion counts down a number of steps that is large enough, the length: `read-cons` of proofs/ReadingLaws.antt is the
-- equation that a reader expects.
unfoldable pub read_steps : ℕ → Mode → Format → List ℕ → Reading
read_steps zero c f xs = stop xs
read_steps (suc n) c f [] = stop []
read_steps (suc n) c f (x ∷ xs) = step c (front f (x ∷ xs)) x xs (λ ys. read_steps n c f ys)

-- the reading of some bytes (ongoing), and their closing reading (closing)
unfoldable pub read : Mode → Format → List ℕ → Reading
read c f xs = read_steps (length xs) c f xs

-- a reading r, extended by a reading s that goes on from its pending bytes
abbrev pub extend : Reading → Reading → Reading
extend r s = record { events = r.events ++ s.events; rest = s.rest }

-- ---- the frames and the counts of a reading

abbrev pub frames : List Event → List (List ℕ)
frames [] = []
frames (framed b ∷ es) = b ∷ frames es
frames (skipped r ∷ es) = frames es

-- the bytes of the frames, back to back
abbrev pub joined : List Event → List ℕ
joined es = foldr ◌++◌ [] (frames es)

-- the sum of a number of each step
abbrev pub total : (Event → ℕ) → List Event → ℕ
total w [] = 0
total w (e ∷ es) = w e + total w es

abbrev pub one_frame : Event → ℕ
one_frame (framed b) = 1
one_frame (skipped r) = 0

abbrev pub framed_bytes : Event → ℕ
framed_bytes (framed b) = length b
framed_bytes (skipped r) = 0

abbrev pub skipped_bytes : Event → ℕ
skipped_bytes (framed b) = 0
skipped_bytes (skipped r) = 1

-- how many frames; how many bytes are framed, skipped and pending
abbrev pub frame_count : Reading → ℕ
frame_count r = total one_frame r.events

abbrev pub framed_count : Reading → ℕ
framed_count r = total framed_bytes r.events

abbrev pub skipped_count : Reading → ℕ
skipped_count r = total skipped_bytes r.events

abbrev pub pending_count : Reading → ℕ
pending_count r = length r.rest
