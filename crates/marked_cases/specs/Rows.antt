-- The marked cases: kinds of rows, the test that each row has to pass, and the table (docs/FORMATS.md, "Marked cases").
use Rattle.std.specs.Prelude.{ℕ, ◌+◌, ◌<◌, ◌≡◌, List, [], ◌∷◌, ◌++◌, ℤ, pos, negsuc, length}
use Rattle.checksum.specs.Fletcher.{fletcher_of}
use Rattle.checksum.specs.Xor.{xor_of}
use Rattle.framing.specs.declared.Scanned.TheVariants.{Whole, Partial}
use Rattle.framing.specs.Format.{format_of}
use Rattle.framing.specs.Shape.{scan}
use Rattle.framing.specs.Reading.{Mode, ongoing, closing, read, framed_count, skipped_count, pending_count}
use Rattle.calendar.specs.declared.DateTime.{DateTime}
use Rattle.calendar.specs.declared.Field.TheVariants.{Day}
use Rattle.calendar.specs.declared.Clock.{Clock}
use Rattle.calendar.specs.declared.Clock.TheVariants.{Good, Wrong}
use Rattle.mgl.specs.Clock.{mgl_clock}
use Rattle.onflight.specs.Time.{onflight_clock}
use Rattle.mgl_gyro.specs.Gyro.{hundredths_of}

pub data Row : Type 0 where
  -- these bytes of a format want n bytes
  wants : ℕ → List ℕ → ℕ → Row
  -- a reading of these bytes of a format has so many framed, skipped and pending
  reads : Mode → ℕ → List ℕ → ℕ → ℕ → ℕ → Row
  -- Fletcher's sums of these bytes, the plain one first
  fletcher : List ℕ → ℕ → ℕ → Row
  -- a gyro number stands for so many hundredths
  gyro : ℤ → ℤ → Row
  -- by the rule of a format, a date and time in the format's numbers has this clock
  clock : (DateTime → Clock) → DateTime → Clock → Row
  -- the exclusive or of these bytes
  xor : List ℕ → ℕ → Row

-- The test of a row. Bytes want n bytes if they are fewer and a proper start, and with any bytes more up to n a whole shape of n.
abbrev pub Holds : Row → Type 0
Holds (wants f xs n) =
    (length xs < n) × (scan (format_of f) xs ≡ Partial) × ((ys : List ℕ) → length xs + length ys ≡ n → scan (format_of f) (xs ++ ys) ≡ Whole n)
Holds (reads c f xs a s p) =
    (framed_count (read c (format_of f) xs) ≡ a) × (skipped_count (read c (format_of f) xs) ≡ s) × (pending_count (read c (format_of f) xs) ≡ p)
Holds (fletcher xs a b) = fletcher_of xs ≡ record { plain = a; weighted = b }
Holds (gyro v d) = hundredths_of v ≡ d
Holds (clock rule t c) = rule t ≡ c
Holds (xor xs x) = xor_of xs ≡ x

-- the year's number, month, day, hour, minute, second
abbrev pub at : ℕ → ℕ → ℕ → ℕ → ℕ → ℕ → DateTime
at y m d h n s = record { year = y; month = m; day = d; hour = h; minute = n; second = s }

-- every row holds
abbrev pub All : List Row → Type 0
All [] = Unit {0}
All (r ∷ rs) = Holds r × All rs

abbrev pub table : List Row
table =
    wants 1 (0x05 ∷ 0x02 ∷ 0x01 ∷ 0xFE ∷ []) 21  -- (a)
    ∷ wants 1 (0x05 ∷ 0x02 ∷ 0x00 ∷ 0xFF ∷ []) 276  -- (b)
    ∷ reads ongoing 1 (0x05 ∷ 0x02 ∷ 0x01 ∷ 0xFF ∷ []) 0 4 0  -- (c)
    ∷ reads ongoing 1 (0x05 ∷ 0x05 ∷ 0x02 ∷ []) 0 1 2  -- (d)
    ∷ reads ongoing 2 (0x42 ∷ 0x42 ∷ 0x46 ∷ []) 0 1 2  -- (e)
    ∷ fletcher (0x42 ∷ 0x46 ∷ []) 136 202  -- (f)
    ∷ gyro (pos 8945) (pos 8945)  -- (g)
    ∷ gyro (pos 16953) (pos 34530)
    ∷ gyro (pos 15000) (pos 15000)
    ∷ gyro (negsuc 32767) (negsuc 192679)  -- -32768 and -192,680
    ∷ clock mgl_clock (at 0 1 1 0 0 0) (Good (pos 946684800))  -- (h)
    ∷ clock mgl_clock (at 23 6 17 13 49 43) (Good (pos 1687009783))  -- (i)
    ∷ clock mgl_clock (at 100 2 29 0 0 0) (Wrong Day)  -- (j): 2100 is 2000 + 100, and 1970 + 130
    ∷ clock onflight_clock (at 130 2 29 0 0 0) (Wrong Day)
    ∷ xor (0x50 ∷ 0x4C ∷ 0x41 ∷ 0x52 ∷ 0x42 ∷ 0x2C ∷ 0x31 ∷ 0x32 ∷ 0x2E ∷ 0x33 ∷ 0x33 ∷ []) 0x4C  -- (k) PLARB,12.33
    ∷ reads closing 3 (0x24 ∷ 0x2A ∷ 0x30 ∷ 0x30 ∷ 0x0D ∷ 0x0A ∷ []) 0 6 0  -- (l) $*00 CR LF
    ∷ []

-- "Proved together as one table with one statement"
abbrev pub MarkedCases : Type 0
MarkedCases = All table
