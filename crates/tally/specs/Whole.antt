-- A capture read to its end: its sheet is that of document 01's closing reading of all its bytes, however they were divided.
use Rattle.std.specs.Prelude.{◌≡◌, ℕ, ◌≤◌, T, List, [], ◌∷◌, length}
use Rattle.framing.specs.Format.{known, format_of}
use Rattle.framing.specs.Reading.{closing, Reading, read, frame_count, framed_count, skipped_count}
use Rattle.reader.specs.Calls.{Call, a_piece, a_close}
use Rattle.reader.specs.Refusal.{longest_piece, most_bytes}
use Rattle.reader_theorems.specs.Chunking.{delivery}
use Rattle.benchfile.specs.declared.sheet.Sheet.{Sheet}
use Rattle.tally.specs.declared.Tally.{Tally}
use Rattle.tally.specs.Step.{max_output, fresh_tally, tally_step, sheet_of}

-- the tally after a list of calls, each on the tally as the call before returned it
unfoldable pub tallied : Tally → List Call → Tally
tallied t [] = t
tallied t (c ∷ cs) = tallied (tally_step t c).tally cs

-- the sheet of a closing reading
abbrev pub closing_sheet : ℕ → Reading → Sheet
closing_sheet n g = record { format = n; frames = frame_count g; framed = framed_count g; skipped = skipped_count g; pending = 0 }

-- every call is a piece that is not too long, with an output that takes it and what can be pending
abbrev pub Feeding : List Call → Type 0
Feeding [] = Unit {0}
Feeding (a_piece bs out ∷ cs) = (length bs ≤ longest_piece) × ((max_output ≤ length out) × Feeding cs)
Feeding (a_close out ∷ cs) = ⊥

-- What holds of a capture's tally t, fed and closed.
pub record Complete (n : ℕ) (bytes : List ℕ) (t : Tally) : Type 0 where
  pub accepted : t.answer ≡ 0
  pub sheet : sheet_of t ≡ closing_sheet n (read closing (format_of n) bytes)

-- For every capture of a known format, of at most as many bytes as a reader counts, and every division of it into pieces.
abbrev pub WholeCapture : Type 0
WholeCapture =
    (n : ℕ) (cs : List Call) (out : List ℕ)
    → T (known (format_of n)) → Feeding cs → max_output ≤ length out → length (delivery cs) ≤ most_bytes
    → Complete n (delivery cs) (tally_step (tallied (fresh_tally n) cs) (a_close out)).tally
