use Rattle.std.proofs.Common.{◌≡◌, ℕ, ◌%◌, List, drop}
use mathlib.Core.List.{foldl}
use Rattle.checksum.specs.Fletcher.{add_mod255, sum_mod255, plain_sums}
use Rattle.checksum.proofs.fletcher16.Given as goal

-- the weighted sum, from a and b on over what is left from i on
unfoldable pub weighted-left : ℕ → ℕ → List ℕ → ℕ → ℕ
weighted-left a b s i = foldl add_mod255 b (plain_sums a (drop i s))

-- The invariant: each sum of what is left, from the sum so far, is the sum of the whole.
abbrev pub invariant-loop-x : goal.invariant-loop-x
invariant-loop-x l = record {
  plain : foldl add_mod255 (l.a % 255) (drop l.x-index l.s) ≡ sum_mod255 l.s;
  weighted : weighted-left (l.a % 255) (l.b % 255) l.s l.x-index ≡ sum_mod255 (plain_sums 0 l.s);
}
