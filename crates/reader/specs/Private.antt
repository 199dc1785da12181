-- What private functions ask and promise. Nothing public rests on these definitions.
use Rattle.std.specs.Prelude.{ℕ, ◌+◌, ◌-◌, ◌≤◌, ◌≡◌, Bool, true, false, cond, not, ◌&&◌, ◌||◌, List, ◌++◌, ltb, length, take, drop}
use Rattle.answer.specs.declared.Refusal.TheVariants.{PieceTooLong, Closed, LineTooLong, PieceOutputTooSmall, BrokenReader}
use Rattle.answer.specs.Answer.{refusal_number}
use Rattle.framing.specs.declared.Format.{Format}
use Rattle.framing.specs.Format.{known, format_of, pending_bound}
use Rattle.framing.specs.declared.Scanned.TheVariants.{Partial}
use Rattle.framing.specs.Shape.{scan}
use Rattle.framing.specs.Reading.{Reading, frame_count, framed_count, skipped_count}
use Rattle.reader.specs.declared.in_place.Words.{Words}
use Rattle.reader.specs.declared.in_place.Advance.{Advance}
use Rattle.reader.specs.declared.lines.LineCounts.{LineCounts}
use Rattle.reader.specs.declared.refusal.Start.{Start}
use Rattle.reader.specs.declared.refusal.Start.TheVariants.{Grows, Waits, Broken}
use Rattle.reader.specs.State.{held_length}
use Rattle.reader.specs.Refusal.{is_start, longest_piece, most_bytes}

-- the first refusal in the order 11, 2, 1, 3, 4, or 0
abbrev pub first_of : Bool → Bool → Bool → Bool → Bool → ℕ
first_of unsound closed long over small =
    cond unsound (refusal_number BrokenReader)
    (cond closed (refusal_number Closed)
    (cond long (refusal_number PieceTooLong)
    (cond over (refusal_number LineTooLong)
    (cond small (refusal_number PieceOutputTooSmall) 0))))

-- whether what is pending is nothing or a proper start of a shape: a test that counts only where so many bytes are held
abbrev pub TellsStart : Format → List ℕ → ℕ → Bool → Type 0
TellsStart f held pending b = pending ≤ length held → b ≡ is_start (scan f (take pending held))

-- whether some bytes are a proper start with more after them: false promises nothing
abbrev pub StartWith : Format → List ℕ → List ℕ → Bool → Type 0
StartWith f s bytes b = b ≡ true → scan f (s ++ bytes) ≡ Partial

-- what `start_of` says of the pending bytes: whether they wait, and whether they surely do so together with the piece
abbrev pub waits_of : Start → Bool
waits_of Grows = true
waits_of Waits = true
waits_of Broken = false

abbrev pub grows_of : Start → Bool
grows_of Grows = true
grows_of Waits = false
grows_of Broken = false

-- `broken` and `refusal` of a reader's words and that test
abbrev pub broken_by : Words → Bool → Bool
broken_by n waits =
    not (known (format_of n.format))
    || (ltb (pending_bound (format_of n.format)) n.pending
    || (not waits
    || (n.closed && ltb 0 n.pending
    || ltb most_bytes (n.framed + n.skipped + n.pending))))

abbrev pub refusal_by : Words → Bool → ℕ → ℕ → ℕ
refusal_by n waits bytes out =
    first_of (broken_by n waits) n.closed (ltb longest_piece bytes) (ltb most_bytes (n.framed + n.skipped + n.pending + bytes)) (ltb out (n.pending + bytes))

-- the counts of a reading
abbrev pub line_counts_of : Reading → LineCounts
line_counts_of g = record { framed = framed_count g; skipped = skipped_count g; frames = frame_count g }

-- What an accepted call answers: the counts have grown by w's, and so many bytes are pending.
abbrev pub advanced_of : Words → Bool → LineCounts → ℕ → Advance
advanced_of n closed w pending =
    record {
      frames = w.frames;
      words = record {
        format = n.format;
        closed = closed;
        framed = n.framed + w.framed;
        skipped = n.skipped + w.skipped;
        pending = pending;
      };
    }

-- the counts of w and so many bytes fit into a reader
pub record Fits (n : Words) (w : LineCounts) (pending : ℕ) : Type 0 where
  pub few : w.frames ≤ w.framed
  pub held : pending ≤ held_length
  pub counted : n.framed + w.framed + (n.skipped + w.skipped) ≤ most_bytes

-- an accepted piece fits the reader and the output
pub record Accepted (n : Words) (held bytes out : List ℕ) : Type 0 where
  pub all : length held ≡ held_length
  pub pending : n.pending ≤ held_length
  pub large-enough : n.pending + length bytes ≤ length out
  pub counted : n.framed + n.skipped + n.pending + length bytes ≤ most_bytes

-- The line is some pending bytes and as much of a piece as they can need, and the output takes all.
pub record Joined (f : Format) (line : List ℕ) (pending : ℕ) (bytes out : List ℕ) : Type 0 where
  pub held : pending ≤ length line
  pub enough : pending_bound f ≤ length line - pending
  pub short : length line ≤ pending + length bytes
  pub more : drop pending line ≡ take (length line - pending) bytes
  pub large-enough : pending + length bytes ≤ length out
