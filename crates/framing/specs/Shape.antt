-- Document 01's shapes: what a byte string is to those of a format, byte by byte.
use Rattle.std.specs.Prelude.{ℕ, suc, List, [], ◌∷◌}
use Rattle.framing.specs.declared.Scanned.{Scanned}
use Rattle.framing.specs.declared.Scanned.TheVariants.{Whole, Partial, Broken}
use Rattle.framing.specs.Rules.{Next, more, done, bad}
use Rattle.framing.specs.declared.Format.{Format}
use Rattle.framing.specs.Format.{next}

-- docs/FORMATS.md, "The reading of a line"
abbrev pub follow : ℕ → Next → (ℕ → Scanned) → Scanned
follow k (more m) go = go m
follow k done go = Whole (suc k)
follow k (bad r) go = Broken r

unfoldable pub scan_from : Format → ℕ → ℕ → List ℕ → Scanned
scan_from f k m [] = Partial
scan_from f k m (x ∷ xs) = follow k (next f k m x) (λ n. scan_from f (suc k) n xs)

-- They begin with a whole shape of n bytes (Whole n); they are empty or a proper start of one (Partial: for bytes and a known
-- format this is `StartMeans` of Meaning.antt);
-- or neither (Broken).
unfoldable pub scan : Format → List ℕ → Scanned
scan f xs = scan_from f 0 0 xs
