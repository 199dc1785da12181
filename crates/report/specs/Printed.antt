-- Theorems about the functions that the program `sheet` calls: however a file is divided into reads, what they
-- print is `sheets_of` of the file; and a file that is too long is refused. No contract can say what the program
-- itself reads and writes. So read `sheets_of` (Sheets.antt), and see that `main` (crates/sheet/src/main.rt) starts with
-- `Report::fresh`, hands every read to `take`, stops only at the end of the file, where `is_refused` says so, or where
-- `is_too_long` does, which comes to the same (`LongRefused`), and prints what `text` gives. `fresh_report`,
-- `take_bytes`, `is_refused` and `printed` are what these four functions promise; how Step.antt defines them does not
-- matter.
use Rattle.std.specs.Prelude.{ℕ, ◌+◌, ◌*◌, ◌<◌, ◌≡◌, true, ◌⊎◌, length}
use mathlib.Core.List.{List, [], ◌++◌, foldl, flatten}
use Rattle.framing.specs.Meaning.{Bytes}
use Rattle.reader.specs.Refusal.{most_bytes}
use Rattle.benchfile.specs.Toc.{most_entries, longest_toc}
use Rattle.report.specs.declared.Report.{Report}
use Rattle.report.specs.Sheets.{sheets_of}
use Rattle.report.specs.Step.{fresh_report, take_bytes, is_refused, printed}

-- the report after some reads: each is taken by the report that the read before left
abbrev pub after_reads : List (List ℕ) → Report
after_reads reads = foldl take_bytes fresh_report reads

-- Reading stops at the end of the file, or where the report is refused already; the rest of the file is not read.
abbrev pub Stopped : List (List ℕ) → List ℕ → Type 0
Stopped reads rest = (rest ≡ []) ⊎ (is_refused (after_reads reads) ≡ true)

-- For every file, whole, broken, cut, too long or empty, and every division of it into reads of any length.
abbrev pub PrintedSheets : Type 0
PrintedSheets =
    (reads : List (List ℕ)) (rest : List ℕ) → Bytes (flatten reads ++ rest) → Stopped reads rest
    → printed (after_reads reads) ≡ sheets_of (flatten reads ++ rest)

-- the longest whole file: a table of contents of 16 entries, and 16 captures
abbrev pub longest_file : ℕ
longest_file = longest_toc + most_entries * most_bytes

-- A report that took more bytes is refused: `main` need not read on.
abbrev pub LongRefused : Type 0
LongRefused =
    (reads : List (List ℕ)) → Bytes (flatten reads) → longest_file < length (flatten reads)
    → is_refused (after_reads reads) ≡ true
