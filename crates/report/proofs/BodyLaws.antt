-- The captures and sheets of a file that goes on: those that are whole stay as they are.
-- Assumes nothing.
use Prim.Native.Nat.{ℕ, zero, suc, ◌+◌, ◌≤◌, ◌<◌}
use mathlib.Core.Path.{◌≡◌, refl}
use mathlib.Core.List.{List, [], ◌∷◌, ◌++◌, append-nil, flat_map}
use native.Mathlib.Decide.{dec_le, dec_lt}
use native.Mathlib.Omega.{arith}
use lib.ListN.{length, drop, length-drop}
use lib.Seq.{take-append-le, drop-append-le}
use borrow.Author.Tests.{lt-ltb, le-ltb}
use Rattle.benchfile.specs.declared.sheet.Sheet.{Sheet}
use Rattle.benchfile.specs.Toc.{entries, format_at, length_at, toc_length, total_length, entry_start}
use Rattle.benchfile.specs.Sheet.{sheet_text}
use Rattle.report.specs.Sheets.{sheet_at, sheet_texts}
use Rattle.report.specs.Step.{left_at}
use Rattle.report.proofs.TextLaws.{texts-append}
use Rattle.report.proofs.AgreeLaws.{Agree, Whole, goes_on, entries-agree, format-agree, length-agree, start-agree}

-- the sheets of the first k entries, in order
unfoldable pub sheets_at : List ℕ → ℕ → List Sheet
sheets_at s zero = []
sheets_at s (suc k) = sheets_at s k ++ sheet_at s k ∷ []

pub texts-are : (s : List ℕ) (k : ℕ) → flat_map sheet_text (sheets_at s k) ≡ sheet_texts s k
unfolding sheets_at sheet_texts flat_map
texts-are s zero = refl
texts-are s (suc k) =
    rw (texts-append (sheets_at s k) (sheet_at s k ∷ []), append-nil (sheet_text (sheet_at s k)), texts-are s k)

-- where a capture starts, and where the next one
pub start_first : (s : List ℕ) → entry_start s 0 ≡ toc_length (entries s)
unfolding entry_start total_length
start_first s = omega arith

pub start-next : (s : List ℕ) (i : ℕ) → entry_start s (suc i) ≡ entry_start s i + length_at s i
unfolding entry_start total_length
start-next s i = omega arith

pub start-later : (s : List ℕ) (i n : ℕ) → i ≤ n → entry_start s i ≤ entry_start s n
start-later s i zero h = let z : i ≡ 0 = omega arith in rw z (omega arith)
start-later s i (suc n) h = go (dec_le i n) (λ l. start-later s i n l)
  where
    go : Dec (i ≤ n) → (i ≤ n → entry_start s i ≤ entry_start s n) → entry_start s i ≤ entry_start s (suc n)
    go (yes l) f = omega (arith, f l, start-next s n)
    go (no l) f = let z : i ≡ suc n = omega arith in rw z (omega arith)

-- how many bytes a capture has
pub left_in : (s : List ℕ) (i : ℕ) → i < entries s → left_at s i ≡ length_at s i
left_in s i h = rw (lt-ltb i (entries s) h)

pub left-past : (s : List ℕ) (i : ℕ) → entries s ≤ i → left_at s i ≡ 0
left-past s i h = rw (le-ltb i (entries s) h)

pub left-agree : (s t : List ℕ) (m : ℕ) → Agree s t m → toc_length (entries t) ≤ m → (i : ℕ) → left_at s i ≡ left_at t i
left-agree s t m a h i = go (dec_lt i (entries t))
  where
    go : Dec (i < entries t) → left_at s i ≡ left_at t i
    go (yes l) = rw (entries-agree s t m a (omega arith), lt-ltb i (entries t) l) (length-agree s t m a i (omega arith))
    go (no l) = rw (entries-agree s t m a (omega arith), le-ltb i (entries t) (omega arith))

module _ (d x : List ℕ) (w : Whole d) where
  pub entries-on : entries (d ++ x) ≡ entries d
  entries-on = entries-agree (d ++ x) d (length d) (goes_on d x) (omega (arith, w.uncut))

  pub format-on : (i : ℕ) → i < entries d → format_at (d ++ x) i ≡ format_at d i
  format-on i h = format-agree (d ++ x) d (length d) (goes_on d x) i (omega (arith, w.uncut))

  length-on : (i : ℕ) → i < entries d → length_at (d ++ x) i ≡ length_at d i
  length-on i h = length-agree (d ++ x) d (length d) (goes_on d x) i (omega (arith, w.uncut))

  pub start-on : (k : ℕ) → k ≤ entries d → entry_start (d ++ x) k ≡ entry_start d k
  start-on k h = start-agree (d ++ x) d (length d) (goes_on d x) k (omega (arith, w.uncut))

  pub left-on : (i : ℕ) → left_at (d ++ x) i ≡ left_at d i
  left-on i = left-agree (d ++ x) d (length d) (goes_on d x) w.uncut i

  sheet-on : (i : ℕ) → i < entries d → entry_start d (suc i) ≤ length d → sheet_at (d ++ x) i ≡ sheet_at d i
  unfolding sheet_at
  sheet-on i h l =
      let n = start-next d i in
      let k : length_at d i ≤ length (drop (entry_start d i) d) = rw (length-drop (entry_start d i) d) (omega arith) in
      rw (
        format-on i h,
        length-on i h,
        start-on i (omega arith),
        drop-append-le (entry_start d i) d x (omega arith),
        take-append-le (length_at d i) (drop (entry_start d i) d) x k,
      )

  pub sheets-on : (k : ℕ) → k ≤ entries d → entry_start d k ≤ length d → sheets_at (d ++ x) k ≡ sheets_at d k
  unfolding sheets_at
  sheets-on zero h l = refl
  sheets-on (suc k) h l = let n = start-next d k in rw (sheets-on k (omega arith) (omega arith), sheet-on k (omega arith) l)
