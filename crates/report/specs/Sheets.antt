-- What is printed of a bench file (docs/FORMATS.md, "Bench file", "Sheets"): its entries' sheets, in order; or `refused
-- 10`.
use Rattle.std.specs.Prelude.{ℕ, zero, suc, ◌*◌, cond, List, [], ◌∷◌, ◌++◌, length, take, drop}
use Rattle.framing.specs.Format.{format_of}
use Rattle.framing.specs.Reading.{closing, read}
use Rattle.benchfile.specs.declared.sheet.Sheet.{Sheet}
use Rattle.benchfile.specs.Toc.{entries, format_at, length_at, entry_start, most_entries, is_whole_file}
use Rattle.benchfile.specs.Sheet.{sheet_text, longest_sheet}
use Rattle.tally.specs.Whole.{closing_sheet}

-- the capture of entry i, from 0
abbrev pub body_at : List ℕ → ℕ → List ℕ
body_at s i = take (length_at s i) (drop (entry_start s i) s)

-- its sheet: that of the closing reading of its capture
unfoldable pub sheet_at : List ℕ → ℕ → Sheet
sheet_at s i = closing_sheet (format_at s i) (read closing (format_of (format_at s i)) (body_at s i))

-- the sheets of the first k entries, in order
unfoldable pub sheet_texts : List ℕ → ℕ → List ℕ
sheet_texts s zero = []
sheet_texts s (suc k) = sheet_texts s k ++ sheet_text (sheet_at s k)

-- `refused 10`, LF
abbrev pub refused_text : List ℕ
refused_text = 0x72 ∷ 0x65 ∷ 0x66 ∷ 0x75 ∷ 0x73 ∷ 0x65 ∷ 0x64 ∷ 0x20 ∷ 0x31 ∷ 0x30 ∷ 0x0A ∷ []

-- What is printed of a file. "A broken file prints only `refused 10`."
unfoldable pub sheets_of : List ℕ → List ℕ
sheets_of s = cond (is_whole_file s (length s)) (sheet_texts s (entries s)) refused_text

-- the most bytes that are printed of a file
abbrev pub longest_text : ℕ
longest_text = most_entries * longest_sheet
