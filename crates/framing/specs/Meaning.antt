-- What the definitions of this crate mean. With `ShapesExactly` and `FramesExactly` (crates/roundtrip_theorems/specs/Exactly.antt), which say what
-- shapes and frames are, these statements say all that `scan`, `front` and `read` do with bytes of a known format, but for the reasons of
-- skipped bytes: nobody has to follow their clauses. Each is proved once over the format, in the file of proofs/ that is named.
use Rattle.std.specs.Prelude.{◌≡◌, ℕ, ◌+◌, ◌<◌, ◌≤◌, T, ◌↔◌, List, [], ◌∷◌, ◌++◌, length, take, drop, slice_index_or}
use Rattle.framing.specs.declared.Scanned.TheVariants.{Whole, Partial}
use Rattle.framing.specs.declared.Found.TheVariants.{Frame, Start}
use Rattle.framing.specs.declared.Format.{Format}
use Rattle.framing.specs.Format.{known, first, shortest, longest, good}
use Rattle.framing.specs.Shape.{scan}
use Rattle.framing.specs.Frame.{front, IsFrame}
use Rattle.framing.specs.FrameRun.{frame_length}
use Rattle.framing.specs.Reading.{Mode, closing, stop, step, read, frames}

-- ---- shapes and frames

-- The bytes are one shape.
abbrev pub IsShape : Format → List ℕ → Type 0
IsShape f xs = scan f xs ≡ Whole (length xs)

abbrev pub IsByte : ℕ → Type 0
IsByte b = b ≤ 255

abbrev pub Bytes : List ℕ → Type 0
Bytes [] = Unit {0}
Bytes (x ∷ xs) = IsByte x × Bytes xs

-- Some bytes that follow xs, one or more, make it a whole shape: xs is empty or document 01's proper start of a shape.
pub record Continues (f : Format) (xs : List ℕ) : Type 0 where
  pub rest : List ℕ
  pub some : 0 < length rest
  pub bytes : Bytes rest
  pub shape : IsShape f (xs ++ rest)

-- No shape begins another. (ShapeLaws)
abbrev pub PrefixFree : Type 0
PrefixFree = (f : Format) (xs ys : List ℕ) → IsShape f xs → IsShape f (xs ++ ys) → ys ≡ []

-- Bytes begin with a whole shape of n bytes exactly if their first n are one. (ShapeLaws)
abbrev pub WholeMeans : Type 0
WholeMeans = (f : Format) (n : ℕ) (xs : List ℕ) → (scan f xs ≡ Whole n) ↔ ((n ≤ length xs) × IsShape f (take n xs))

-- `Partial` is nothing or a proper start of a shape: some bytes that follow, one or more, make it whole. (StartLaws)
abbrev pub StartMeans : Type 0
StartMeans = (f : Format) (xs : List ℕ) → T (known f) → Bytes xs → (scan f xs ≡ Partial) ↔ Continues f xs

-- A frame is a whole shape whose checksum is right. (FrameLaws)
abbrev pub FrameMeans : Type 0
FrameMeans = (f : Format) (xs : List ℕ) → IsFrame f xs ↔ (IsShape f xs × T (good f xs))

-- Bytes begin with a frame of n bytes exactly if their first n are one; they are nothing or a proper start exactly if `front` says
-- `Start`. It is `Neither` in all other cases. (StartLaws)
pub record FrontMeans (f : Format) (xs : List ℕ) : Type 0 where
  pub frame : (n : ℕ) → (front f xs ≡ Frame n) ↔ ((n ≤ length xs) × IsFrame f (take n xs))
  pub start : T (known f) → Bytes xs → (front f xs ≡ Start) ↔ Continues f xs

abbrev pub FrontExactly : Type 0
FrontExactly = (f : Format) (xs : List ℕ) → FrontMeans f xs

-- The numbers of a format's layout hold of each of its shapes. (Length)
pub record LayoutHolds (f : Format) (xs : List ℕ) : Type 0 where
  pub begins : slice_index_or xs 0 0 ≡ first f
  pub least : shortest f ≤ length xs
  pub most : length xs ≤ longest f

abbrev pub LayoutMeans : Type 0
LayoutMeans = (f : Format) (xs : List ℕ) → T (known f) → IsShape f xs → LayoutHolds f xs

-- 0 is the length of no frame: `front` finds a frame of n bytes exactly if the length is n and not 0. (FrameRunLaws)
abbrev pub LengthTells : Type 0
LengthTells = (f : Format) (n : ℕ) (xs : List ℕ) → (front f xs ≡ Frame n) ↔ ((frame_length (front f xs) ≡ n) × (0 < n))

-- ---- readings

-- A reading of no bytes stops at once. (ReadingLaws)
abbrev pub ReadNil : Type 0
ReadNil = (c : Mode) (f : Format) → read c f [] ≡ stop []

-- A reading of x ∷ xs takes the step that their front says, and then reads what is left: no count of steps is in it. (ReadingLaws)
abbrev pub ReadCons : Type 0
ReadCons = (c : Mode) (f : Format) (x : ℕ) (xs : List ℕ) → read c f (x ∷ xs) ≡ step c (front f (x ∷ xs)) x xs (read c f)

-- The closing reading leaves nothing pending. (ReadingLaws)
abbrev pub ClosingRest : Type 0
ClosingRest = (f : Format) (xs : List ℕ) → (read closing f xs).rest ≡ []

-- No frame that begins among the bytes xs goes past them into the bytes ys that follow.
abbrev pub Clear : Format → List ℕ → List ℕ → Type 0
Clear f xs ys = (i n : ℕ) → i < length xs → front f (drop i (xs ++ ys)) ≡ Frame n → i + n ≤ length xs

-- "A whole frame inside a broken longer one is thus still found": whatever precedes a frame b, shapes with a wrong checksum and starts
-- of longer ones included, and whatever follows it, the closing reading frames b if no frame that begins at any place before b reaches
-- into it. (The premise covers every place, also those inside a frame, which the reading does not visit.) Before b it frames what the
-- bytes before b have alone, and after b what the bytes after it have. (FoundLaws)
abbrev pub StillFound : Type 0
StillFound =
    (f : Format) (xs b ys : List ℕ) → IsFrame f b → Clear f xs (b ++ ys)
    → frames (read closing f (xs ++ (b ++ ys))).events ≡ frames (read closing f xs).events ++ (b ∷ frames (read closing f ys).events)
