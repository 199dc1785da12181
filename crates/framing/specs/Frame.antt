-- Document 01's frames: shapes whose checksum is right (docs/FORMATS.md, "Formats" and "Checksums").
use Rattle.std.specs.Prelude.{◌≡◌, ℕ, cond, List, length, take}
use Rattle.framing.specs.declared.Reason.TheVariants.{Checksum}
use Rattle.framing.specs.declared.Scanned.{Scanned}
use Rattle.framing.specs.declared.Scanned.TheVariants.{Whole, Partial, Broken}
use Rattle.framing.specs.declared.Found.{Found}
use Rattle.framing.specs.declared.Found.TheVariants.{Frame, Start, Neither}
use Rattle.framing.specs.declared.Format.{Format}
use Rattle.framing.specs.Format.{good}
use Rattle.framing.specs.Shape.{scan}

abbrev pub front_of : Format → List ℕ → Scanned → Found
front_of f xs (Whole n) = cond (good f (take n xs)) (Frame n) (Neither Checksum)
front_of f xs Partial = Start
front_of f xs (Broken r) = Neither r

-- What some bytes begin with: a frame of n bytes; nothing or a proper start of a shape; or neither.
unfoldable pub front : Format → List ℕ → Found
front f xs = front_of f xs (scan f xs)

-- The bytes are one frame.
abbrev pub IsFrame : Format → List ℕ → Type 0
IsFrame f xs = front f xs ≡ Frame (length xs)
