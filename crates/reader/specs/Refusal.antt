-- Document 01's refusals of a piece or a close, exactly when they are given (docs/FORMATS.md, "Refusal numbers").
use Rattle.std.specs.Prelude.{ℕ, ◌+◌, Bool, true, false, cond, not, ◌&&◌, ◌||◌, ltb}
use Rattle.answer.specs.declared.Refusal.TheVariants.{PieceTooLong, Closed, LineTooLong, PieceOutputTooSmall, BrokenReader}
use Rattle.answer.specs.Answer.{refusal_number}
use Rattle.framing.specs.declared.Scanned.{Scanned}
use Rattle.framing.specs.declared.Scanned.TheVariants.{Whole, Partial, Broken}
use Rattle.framing.specs.Format.{known, format_of, pending_bound}
use Rattle.framing.specs.Shape.{scan}
use Rattle.reader.specs.declared.Reader.{Reader as State}
use Rattle.reader.specs.State.{sum, pending_bytes}

-- nothing, or a proper start of a shape; no checksum is looked at
abbrev pub is_start : Scanned → Bool
is_start (Whole n) = false
is_start Partial = true
is_start (Broken r) = false

-- the longest piece (refusal 1)
abbrev pub longest_piece : ℕ
longest_piece = 4096

-- the most bytes that a reader counts (refusals 3 and 11)
abbrev pub most_bytes : ℕ
most_bytes = 4294967295

-- Refusal 11: "a reader with an unknown format, pending over its bound, pending bytes neither empty nor a proper start of a shape,
-- closed with bytes pending, or the three numbers together over 4,294,967,295".
unfoldable pub broken : State → Bool
broken r =
    not (known (format_of r.format))
    || (ltb (pending_bound (format_of r.format)) r.pending
    || (not (is_start (scan (format_of r.format) (pending_bytes r)))
    || (r.closed && ltb 0 r.pending
    || ltb most_bytes (sum r))))

-- The refusal of a call that brings n bytes and lends an output of so many, or 0. "Order for readers: 11, 2, 1, 3, 4."
unfoldable pub refusal : State → ℕ → ℕ → ℕ
refusal r n out =
    cond (broken r) (refusal_number BrokenReader)  -- 11
    (cond r.closed (refusal_number Closed)  -- 2
    (cond (ltb longest_piece n) (refusal_number PieceTooLong)  -- 1
    (cond (ltb most_bytes (sum r + n)) (refusal_number LineTooLong)  -- 3
    (cond (ltb out (r.pending + n)) (refusal_number PieceOutputTooSmall) 0))))  -- 4
