-- What private functions promise. Nothing public rests on these definitions.
use Rattle.std.specs.Prelude.{◌≡◌, ℕ, zero, suc, ◌+◌, ◌*◌, ◌<◌, ◌≤◌, Bool, true, false, cond, not, List, [], ◌∷◌, ◌++◌, length, ◌==◌, nat_lt, slice_index, slice_index_or, Option, Some, None}
use Rattle.checksum.specs.Xor.{xor_of}
use Rattle.framing.specs.declared.rows.Passed.{Passed}
use Rattle.framing.specs.declared.Reason.TheVariants.{StartByte, SecondByte}
use Rattle.framing.specs.declared.Scanned.{Scanned}
use Rattle.framing.specs.declared.Scanned.TheVariants.{Whole, Partial, Broken}
use Rattle.framing.specs.declared.Growth.{Growth}
use Rattle.framing.specs.declared.Growth.TheVariants.{Grows, Waits, Unsaid}
use Rattle.framing.specs.Mgl.{length_from_byte}
use Rattle.framing.specs.Nmea.{permitted, hex_digit, hex_value, comma_count}
use Rattle.framing.specs.declared.Format.{Format}
use Rattle.framing.specs.Shape.{scan}
use Rattle.framing.specs.Growth.{Grown}

-- what some bytes are to a shape of the two bytes a and b
unfoldable pub sync_of : ℕ → ℕ → List ℕ → Scanned
sync_of a b s =
    cond (length s == 0) Partial
    (cond (slice_index s 0 == a)
    (cond (length s == 1) Partial (cond (slice_index s 1 == b) (Whole 2) (Broken SecondByte)))
    (Broken StartByte))

-- whether a byte follows m bytes of the end of a sentence: the `*`, two digits, CR, LF
unfoldable pub ending_byte : ℕ → ℕ → Bool
ending_byte zero b = b == 0x0A
ending_byte (suc zero) b = hex_digit b
ending_byte (suc (suc zero)) b = hex_digit b
ending_byte (suc (suc (suc zero))) b = b == 0x0D
ending_byte (suc (suc (suc (suc m)))) b = b == 0x0A

-- the bytes of s from place a on and before place e pass a test
abbrev pub Each : (ℕ → Bool) → ℕ → ℕ → List ℕ → Type 0
Each p a e s = (j : ℕ) → a ≤ j → j < e → p (slice_index s j) ≡ true

-- they may stand in the body of a sentence
abbrev pub Permitted : ℕ → ℕ → List ℕ → Type 0
Permitted = Each permitted

-- the five bytes from place e on end a sentence
pub record Ended (s : List ℕ) (e : ℕ) : Type 0 where
  pub star : slice_index_or s e 0 ≡ 0x2A
  pub high : hex_digit (slice_index s (e + 1)) ≡ true
  pub low : hex_digit (slice_index s (e + 2)) ≡ true
  pub return : slice_index_or s (e + 3) 0 ≡ 0x0D
  pub feed : slice_index_or s (e + 4) 0 ≡ 0x0A

-- they do, and their two digits write x
pub record EndedBy (x : ℕ) (s : List ℕ) (e : ℕ) : Type 0 where
  pub ended : Ended s e
  pub writes : hex_value (slice_index s (e + 1)) * 16 + hex_value (slice_index s (e + 2)) ≡ x

-- what a pass over a body finds
pub record Passes (s : List ℕ) (p : Passed) : Type 0 where
  pub body : p.refused ≡ 0 → Permitted 0 (length s) s
  pub xor : p.xor ≡ xor_of s
  pub commas : p.commas ≡ comma_count s

-- a body that starts at place 1 reaches place k
pub record Reached (k : ℕ) (s : List ℕ) : Type 0 where
  pub some : 0 < k
  pub inside : k ≤ length s
  pub body : Permitted 1 k s

-- byte k, where there is one and it is at place 77 or before, may not stand in a body
abbrev pub Stops : ℕ → List ℕ → Type 0
Stops k s = k ≤ 77 → k < length s → permitted (slice_index s k) ≡ false

-- b is not a
abbrev pub differs : ℕ → ℕ → Bool
differs a b = not (b == a)

-- how many bytes stand before the first a
unfoldable pub find_byte : ℕ → List ℕ → ℕ
find_byte a [] = 0
find_byte a (x ∷ xs) = cond (x == a) 0 (suc (find_byte a xs))

-- how many bytes an MGL frame has by its length byte, where the complement is right
abbrev pub told_length : List ℕ → Option ℕ
told_length s = cond (slice_index s 2 + slice_index s 3 == 255) (Some (length_from_byte (slice_index s 2) + 20)) None

-- With fewer than m bytes in all, s and whatever follows it are a proper start of a shape.
abbrev pub Needs : Format → List ℕ → ℕ → Type 0
Needs f s m = (ys : List ℕ) → length (s ++ ys) < m → scan f (s ++ ys) ≡ Partial

-- what an answer promises of s and of any so many bytes after it
abbrev pub GrownBy : Format → List ℕ → ℕ → Growth → Type 0
GrownBy f s more g = (ys : List ℕ) → length ys ≡ more → Grown f s ys g

-- what n bytes and so many more are to a shape of m bytes
abbrev pub told_by : ℕ → ℕ → ℕ → Growth
told_by n more m = cond (nat_lt (n + more) m) Grows (cond (nat_lt n m) Waits Unsaid)
