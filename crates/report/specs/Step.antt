-- A bench file read by read: the table of contents as far as it came, the entry that is open, and the sheets of those before
-- it.
use Rattle.std.specs.Prelude.{ℕ, zero, suc, ◌+◌, ◌-◌, min, Option, Some, None, is_some, is_none, Bool, true, false, cond, not, ◌&&◌, ltb, leb, eqb, length, take, drop, set, replicate}
use mathlib.Core.List.{List, [], ◌∷◌, flat_map}
use Rattle.reader.specs.Refusal.{longest_piece}
use Rattle.reader.specs.Calls.{a_piece, a_close}
use Rattle.benchfile.specs.declared.sheet.Sheet.{Sheet}
use Rattle.benchfile.specs.Toc.{entries, format_at, length_at, most_entries, longest_toc, is_toc, file_length}
use Rattle.benchfile.specs.Sheet.{sheet_text}
use Rattle.tally.specs.declared.Tally.{Tally}
use Rattle.tally.specs.Step.{max_output, fresh_tally, tally_step, sheet_of}
use Rattle.report.specs.declared.Report.{Report}
use Rattle.report.specs.Sheets.{refused_text}

-- ---- a tally

-- an output that takes every piece; what it holds does not matter
abbrev pub empty_output : List ℕ
empty_output = replicate max_output 0

-- the tally after a piece of its capture
unfoldable pub add_piece : Tally → List ℕ → Tally
add_piece t bs = (tally_step t (a_piece bs empty_output)).tally

-- the sheet of a capture that ends here
unfoldable pub final_sheet : Tally → Sheet
final_sheet t = sheet_of (tally_step t (a_close empty_output)).tally

-- ---- a report, and parts of it renewed

-- a place for a sheet that did not come yet
abbrev pub no_sheet : Sheet
no_sheet = record { format = 0; frames = 0; framed = 0; skipped = 0; pending = 0 }

-- nothing has come yet
unfoldable pub fresh_report : Report
fresh_report =
    record {
      length = None;
      excess = false;
      count = 0;
      toc = replicate longest_toc 0;
      entry = 0;
      left = 0;
      tally = fresh_tally 0;
      sheets = replicate most_entries no_sheet;
    }

-- r with other facts of the file: its length, where the table of contents is whole, whether more bytes came, and the table as far
-- as it came
abbrev pub with_file : Report → Option ℕ → Bool → ℕ → List ℕ → Report
with_file r n excess count toc =
    record {
      length = n;
      excess = excess;
      count = count;
      toc = toc;
      entry = r.entry;
      left = r.left;
      tally = r.tally;
      sheets = r.sheets;
    }

-- r with other facts of the entries: which is open, how many bytes of its capture are to come, its tally, and the sheets
abbrev pub with_entry : Report → ℕ → ℕ → Tally → List Sheet → Report
with_entry r i left tally sheets =
    record {
      length = r.length;
      excess = r.excess;
      count = r.count;
      toc = r.toc;
      entry = i;
      left = left;
      tally = tally;
      sheets = sheets;
    }

-- ---- one entry after the other

-- how many bytes are to come of entry i: those of its capture; past the last entry none
abbrev pub left_at : List ℕ → ℕ → ℕ
left_at s i = cond (ltb i (entries s)) (length_at s i) 0

-- entry i is opened, with a fresh tally of its format
unfoldable pub open_entry : Report → ℕ → Report
open_entry r i = with_entry r i (left_at r.toc i) (fresh_tally (format_at r.toc i)) r.sheets

-- the capture of the open entry ends, and its sheet is kept
unfoldable pub keep_sheet : Report → Report
keep_sheet r = with_entry r r.entry r.left r.tally (set r.sheets r.entry (final_sheet r.tally))

-- the open entry is closed, and the next one is opened
abbrev pub close_entry : Report → Report
close_entry r = open_entry (keep_sheet r) (r.entry + 1)

-- entries of which nothing is to come are closed, at most k of them
unfoldable pub close_steps : ℕ → Report → Report
close_steps zero r = r
close_steps (suc k) r = cond (eqb r.left 0) (close_steps k (close_entry r)) r

-- all of them, up to the first of which bytes are to come
unfoldable pub close_finished : Report → Report
close_finished r = close_steps (entries r.toc - r.entry) r

-- ---- bytes

-- the table of contents, as far as it came
abbrev pub first_bytes : Report → List ℕ
first_bytes r = take r.count r.toc

-- one byte more of the table of contents came
unfoldable pub keep_byte : Report → ℕ → Report
keep_byte r b = with_file r r.length r.excess (r.count + 1) (set r.toc r.count b)

-- the table of contents is whole, and gives this length to the file
unfoldable pub with_length : Report → ℕ → Report
with_length r n = with_file r (Some n) r.excess r.count r.toc

-- where the table of contents is whole, the first entry is opened
unfoldable pub open_first : Report → Report
open_first r = cond (is_toc (first_bytes r)) (close_finished (open_entry (with_length r (file_length (first_bytes r))) 0)) r

-- one byte of the table of contents, where there is place
unfoldable pub take_toc : Report → ℕ → Report
take_toc r b = cond (ltb r.count longest_toc) (open_first (keep_byte r b)) r

-- a piece of the open entry's capture
unfoldable pub take_piece : Report → List ℕ → Report
take_piece r bs = with_entry r r.entry (r.left - length bs) (add_piece r.tally bs) r.sheets

-- how many of the next n bytes are a piece
abbrev pub portion : Report → ℕ → ℕ
portion r n = min (min n r.left) longest_piece

-- more bytes than the table of contents says
unfoldable pub overrun : Report → Report
overrun r = with_file r r.length true r.count r.toc

-- One step at the bytes b ∷ bs: a byte of the table of contents, or a piece of a capture; go takes what is left after it.
unfoldable pub take_next : Report → ℕ → List ℕ → (Report → List ℕ → Report) → Report
take_next r b bs go =
    cond (is_none r.length) (go (take_toc r b) bs)
    (cond (eqb r.left 0) (overrun r)
    (let n = portion r (length (b ∷ bs)) in
    go (close_finished (take_piece r (take n (b ∷ bs)))) (drop n (b ∷ bs))))

-- The recursion counts down a number of steps that is large enough, the length.
unfoldable pub take_steps : ℕ → Report → List ℕ → Report
take_steps zero r bs = r
take_steps (suc k) r [] = r
take_steps (suc k) r (b ∷ bs) = take_next r b bs (take_steps k)

-- the report after the bytes of a read
unfoldable pub take_bytes : Report → List ℕ → Report
take_bytes r bs = take_steps (length bs) r bs

-- ---- what is printed

-- the file ended where its table of contents says
abbrev pub is_done : Report → Bool
is_done r = is_some r.length && not r.excess && eqb r.entry (entries r.toc)

-- the file is broken, whatever comes: no table of contents in 97 bytes, or bytes behind the last capture
unfoldable pub is_refused : Report → Bool
is_refused r = cond (is_none r.length) (leb longest_toc r.count) r.excess

-- what is printed of a file that ends here
unfoldable pub printed : Report → List ℕ
printed r = cond (is_done r) (flat_map sheet_text (take r.entry r.sheets)) refused_text
