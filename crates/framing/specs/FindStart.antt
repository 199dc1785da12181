-- The bytes that begin no shape, which a reading skips one by one (docs/FORMATS.md, "The reading of a line").
use Rattle.std.specs.Prelude.{ℕ, suc, Bool, true, false, cond, List, [], ◌∷◌}
use Rattle.framing.specs.Rules.{Next, more, done, bad}
use Rattle.framing.specs.declared.Format.{Format}
use Rattle.framing.specs.Format.{next}

-- whether a shape has the byte that was judged so
abbrev pub fits : Next → Bool
fits (more m) = true
fits done = true
fits (bad r) = false

-- whether a byte is the first of a shape
unfoldable pub begins : Format → ℕ → Bool
begins f x = fits (next f 0 0 x)

-- how many bytes stand before the first that begins a shape
unfoldable pub find_start : Format → List ℕ → ℕ
find_start f [] = 0
find_start f (x ∷ xs) = cond (begins f x) 0 (suc (find_start f xs))
