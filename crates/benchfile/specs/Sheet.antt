-- The text of a sheet (docs/FORMATS.md, "Sheets").
use Rattle.std.specs.Prelude.{ℕ, List, [], ◌∷◌, ◌++◌}
use Rattle.decimal.specs.Decimal.{decimal_text}
use Rattle.benchfile.specs.declared.sheet.Sheet.{Sheet}

-- a label, a space, a number in decimal digits, LF
unfoldable pub sheet_line : List ℕ → ℕ → List ℕ
sheet_line label n = label ++ 0x20 ∷ (decimal_text n ++ 0x0A ∷ [])

-- the labels, in ASCII
abbrev pub format_label : List ℕ
format_label = 0x66 ∷ 0x6F ∷ 0x72 ∷ 0x6D ∷ 0x61 ∷ 0x74 ∷ []

abbrev pub frames_label : List ℕ
frames_label = 0x66 ∷ 0x72 ∷ 0x61 ∷ 0x6D ∷ 0x65 ∷ 0x73 ∷ []

abbrev pub framed_label : List ℕ
framed_label = 0x66 ∷ 0x72 ∷ 0x61 ∷ 0x6D ∷ 0x65 ∷ 0x64 ∷ []

abbrev pub skipped_label : List ℕ
skipped_label = 0x73 ∷ 0x6B ∷ 0x69 ∷ 0x70 ∷ 0x70 ∷ 0x65 ∷ 0x64 ∷ []

abbrev pub pending_label : List ℕ
pending_label = 0x70 ∷ 0x65 ∷ 0x6E ∷ 0x64 ∷ 0x69 ∷ 0x6E ∷ 0x67 ∷ []

-- five lines, each with its number
unfoldable pub sheet_text : Sheet → List ℕ
sheet_text x =
    sheet_line format_label x.format
    ++ sheet_line frames_label x.frames
    ++ sheet_line framed_label x.framed
    ++ sheet_line skipped_label x.skipped
    ++ sheet_line pending_label x.pending

-- The longest sheet: labels of 32 letters, five spaces and line ends, and five numbers of ten digits.
abbrev pub longest_sheet : ℕ
longest_sheet = 92
