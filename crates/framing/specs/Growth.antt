-- What more bytes make of a proper start. Readers use it for speed; no other public definition rests on it.
use Rattle.std.specs.Prelude.{◌≡◌, ℕ, List, ◌++◌}
use Rattle.framing.specs.declared.Scanned.TheVariants.{Partial}
use Rattle.framing.specs.declared.Growth.{Growth}
use Rattle.framing.specs.declared.Growth.TheVariants.{Grows, Waits, Unsaid}
use Rattle.framing.specs.declared.Format.{Format}
use Rattle.framing.specs.Shape.{scan}

-- what an answer promises of s and of the bytes after it
abbrev pub Grown : Format → List ℕ → List ℕ → Growth → Type 0
Grown f s bytes Grows = (scan f s ≡ Partial) × (scan f (s ++ bytes) ≡ Partial)
Grown f s bytes Waits = scan f s ≡ Partial
Grown f s bytes Unsaid = Unit {0}
