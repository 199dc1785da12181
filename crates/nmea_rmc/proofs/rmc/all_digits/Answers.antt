use borrow.Author.Rules.{rules}
use mathlib.Core.Path.{ap, ◌∙◌}
use Prim.Native.Nat.{ℕ}
use Rattle.std.specs.Prelude.{Option, is_some}
use Rattle.nmea_rmc.proofs.RmcLaws.{digits-some}
use Rattle.nmea_rmc.proofs.rmc.all_digits.Goals as goal

pub returns : goal.returns
returns c = c.is_some.ensures ∙ ap (λ (o : Option ℕ). is_some o) c.parse_digits.ensures ∙ digits-some _ (search rules)
