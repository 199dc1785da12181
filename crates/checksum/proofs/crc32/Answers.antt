use Rattle.std.proofs.Common.{ℕ, refl, ap, ◌∙◌}
use lib.Bits.{bit_xor}
use Rattle.checksum.specs.Crc.{bit_step, bit_steps, byte_step, crc_of}
use Rattle.checksum.specs.Private.{table_from, crc_table}
use Rattle.checksum.proofs.CrcLaws.{by-table}
use Rattle.checksum.proofs.Table.{same}
use Rattle.checksum.proofs.Fold.{fold_more}
use Rattle.checksum.proofs.crc32.Goals as goal

-- antt computes the table by its rule, and finds it to be the static.
pub entry-requires : goal.entry-requires
unfolding crc_table table_from bit_steps bit_step
entry-requires c = same _ _ tt

pub loop-b-init : goal.loop-b-init
unfolding crc_of
loop-b-init c = refl

pub loop-b-preserved : goal.loop-b-preserved
unfolding crc_of
loop-b-preserved c =
    ap (λ (x : ℕ). bit_xor x 0xFFFFFFFF)
    (fold_more byte_step _ _ c.loop-b-test.true (rw (c.entry.ensures, c.from.ensures) (by-table _ _ (c.type_inv.s c.loop-b.b-index).fits)))
    ∙ c.loop-b.invariant
