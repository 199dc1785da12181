-- Laws of the text of a sheet: how long it is, and that it is put line by line, and a line part by part.
-- Assumes nothing.
use Prim.Native.Nat.{ℕ, ◌+◌, ◌^◌, ◌≤◌, ◌<◌}
use mathlib.Core.Path.{◌≡◌}
use mathlib.Core.List.{List, [], ◌∷◌, ◌++◌}
use native.Mathlib.Omega.{arith}
use lib.ListN.{length, length-append, take}
use Rattle.buffer.proofs.TextLaws.{both_pushed}
use Rattle.decimal.specs.Decimal.{digit_count, decimal_text}
use Rattle.decimal.proofs.DecimalLaws.{count_most}
use Rattle.decimal.proofs.DigitTexts.{text-length}
use Rattle.benchfile.specs.declared.sheet.Sheet.{Sheet}
use Rattle.benchfile.specs.Sheet.{sheet_line, format_label, frames_label, framed_label, skipped_label, pending_label, sheet_text, longest_sheet}

-- ---- a line

abbrev space : List ℕ
space = 0x20 ∷ []

abbrev line_end : List ℕ
line_end = 0x0A ∷ []

pub line-length : (label : List ℕ) (n : ℕ) → length (sheet_line label n) ≡ length label + digit_count n + 2
unfolding sheet_line
line-length label n =
    omega (arith, length-append label (0x20 ∷ (decimal_text n ++ line_end)), length-append (decimal_text n) line_end, text-length n)

-- a number of 32 bits has at most ten digits
line-short : (label : List ℕ) {n : ℕ} → n < 2 ^ 32 → length (sheet_line label n) ≤ length label + 12
line-short label {n} h = omega (arith, line-length label n, count_most 9 n (omega arith))

-- pushed part by part
pub line-pushed : (n : ℕ) (t label : List ℕ) (m : ℕ) {u v w z : List ℕ} → u ≡ take n (t ++ label) → v ≡ take n (u ++ space)
    → w ≡ take n (v ++ decimal_text m) → z ≡ take n (w ++ line_end) → z ≡ take n (t ++ sheet_line label m)
unfolding sheet_line
line-pushed n t label m {u} {v} p q r s =
    let digits = decimal_text m in
    both_pushed n t label (space ++ (digits ++ line_end)) p
    (both_pushed n u space (digits ++ line_end) q (both_pushed n v digits line_end r s))

-- ---- a sheet

module _ (x : Sheet) where
  pub sheet-length : length (sheet_text x)
      ≡ length (sheet_line format_label x.format) + length (sheet_line frames_label x.frames) + length (sheet_line framed_label x.framed)
      + length (sheet_line skipped_label x.skipped) + length (sheet_line pending_label x.pending)
  unfolding sheet_text
  sheet-length = simp length-append

  pub sheet-short : x.format < 2 ^ 32 → x.frames < 2 ^ 32 → x.framed < 2 ^ 32 → x.skipped < 2 ^ 32 → x.pending < 2 ^ 32 → length (sheet_text x) ≤ longest_sheet
  sheet-short a b c d e =
      omega (arith, sheet-length, line-short format_label a, line-short frames_label b, line-short framed_label c, line-short skipped_label d, line-short pending_label e)

  -- pushed line by line
  pub sheet-pushed : (n : ℕ) (t : List ℕ) {u v w y z : List ℕ} → u ≡ take n (t ++ sheet_line format_label x.format)
      → v ≡ take n (u ++ sheet_line frames_label x.frames) → w ≡ take n (v ++ sheet_line framed_label x.framed)
      → y ≡ take n (w ++ sheet_line skipped_label x.skipped) → z ≡ take n (y ++ sheet_line pending_label x.pending)
      → z ≡ take n (t ++ sheet_text x)
  unfolding sheet_text
  sheet-pushed n t p q r s o =
      let a = sheet_line format_label x.format in
      let b = sheet_line frames_label x.frames in
      let c = sheet_line framed_label x.framed in
      let d = sheet_line skipped_label x.skipped in
      let three = both_pushed n t (a ++ b) c (both_pushed n t a b p q) r in
      both_pushed n t (a ++ b ++ c ++ d) (sheet_line pending_label x.pending) (both_pushed n t (a ++ b ++ c) d three s) o
