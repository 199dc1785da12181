use mathlib.Core.Path.{refl}
use Rattle.checksum_slicing.proofs.BlockLaws.{shifted-first}
use Rattle.checksum_slicing.proofs.first_block.Goals as goal

pub returns : goal.returns
returns c = rw c.opening.ensures (shifted-first c.args.s.now _ _ _ _ refl refl c.requires (λ k. (c.type_inv.s k).fits) c.from_le_bytes-all.ensures refl)
