-- How long an MGL frame is. `judging` is what a function names in `using`.
-- Assumes nothing.
use Prim.Native.Nat.{ℕ, ◌≤◌}
use mathlib.Core.Path.{◌≡◌}
use mathlib.Core.List.{List}
use native.Mathlib.Omega.{arith}
use lib.ListN.{length}
use Rattle.std.specs.Prelude.{Ok}
use Rattle.framing.specs.declared.Format.TheVariants.{Mgl}
use Rattle.framing.specs.Format.{shortest, longest}
use Rattle.answer.specs.declared.Refusal.{Refusal}
use Rattle.content.specs.Body.{is_frame}
use Rattle.content.specs.Shared.{judged}
use Rattle.content.proofs.BodyLaws.{frame-long, frame-short}
use Rattle.content.proofs.JudgeLaws as content

module _ (s : List ℕ) (r : Refusal) {u : Unit {0}} (e : Ok u ≡ judged (is_frame Mgl s) r) where
  pub judged_long : 21 ≤ length s
  unfolding shortest
  judged_long = omega (arith, frame-long Mgl s (content.passed (is_frame Mgl s) r e))

  pub judged_short : length s ≤ 276
  unfolding longest
  judged_short = omega (arith, frame-short Mgl s (content.passed (is_frame Mgl s) r e))

pub ruleset judging = (content.judging, judged_long, judged_short)
