-- Written frames, back to back on a line (docs/FORMATS.md, "Round trips"). From demand 3.
use Rattle.std.specs.Prelude.{ℕ, ◌≡◌, true, List, [], ◌∷◌, ◌++◌, T, length}
use Rattle.framing.specs.declared.Format.{Format}
use Rattle.framing.specs.Format.{known, format_of}
use Rattle.framing.specs.Reading.{Event, framed}
use Rattle.reader.specs.State.{fresh_of}
use Rattle.reader.specs.Calls.{Call}
use Rattle.reader_theorems.specs.Lists.{frame_total}
use Rattle.reader_theorems.specs.Demand3.{machine_after, reading_after, reader_after, output}
use Rattle.reader_theorems.specs.Chunking.{AcceptedPieces, delivery}
use Rattle.frame_writer.specs.Frames.{takes, Content, frame_of}
use Rattle.roundtrip_theorems.specs.FrameTrips.{IsContent}

-- contents that the writer of a format takes
abbrev pub Taken : Format → List Content → Type 0
Taken f [] = Unit {0}
Taken f (c ∷ cs) = IsContent c × (takes f c.body ≡ true) × Taken f cs

-- their frames, back to back
abbrev pub line : Format → List Content → List ℕ
line f [] = []
line f (c ∷ cs) = frame_of f c ++ line f cs

-- one step for each frame
abbrev pub each_framed : Format → List Content → List Event
each_framed f [] = []
each_framed f (c ∷ cs) = framed (frame_of f c) ∷ each_framed f cs

-- After the calls, exactly the frames of these contents are read, in this order, and nothing is skipped or pending.
pub record ExactlyRead (n : ℕ) (ws : List Content) (calls : List Call) : Type 0 where
  pub events : (reading_after n calls).events ≡ each_framed (format_of n) ws
  pub handed : output n calls ≡ line (format_of n) ws
  pub frames : frame_total (fresh_of n).reader calls ≡ length ws
  pub framed : (reader_after n calls).framed ≡ length (line (format_of n) ws)
  pub skipped : (reader_after n calls).skipped ≡ 0
  pub pending : (reader_after n calls).pending ≡ 0

-- For every list of calls, refused ones and closes included, that delivers the line.
abbrev pub BackToBack : Type 0
BackToBack =
    (n : ℕ) (ws : List Content) (calls : List Call) → T (known (format_of n)) → Taken (format_of n) ws
    → (machine_after n calls).delivered ≡ line (format_of n) ws → ExactlyRead n ws calls

-- The line chopped in any way into pieces that are accepted.
abbrev pub Chopped : Type 0
Chopped =
    (n : ℕ) (ws : List Content) (calls : List Call) → T (known (format_of n)) → Taken (format_of n) ws
    → AcceptedPieces n calls → delivery calls ≡ line (format_of n) ws → ExactlyRead n ws calls
