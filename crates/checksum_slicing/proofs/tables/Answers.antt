-- antt computes the tables by their rule, and finds them to be the static.
use Rattle.checksum.specs.Crc.{bit_step, bit_steps}
use Rattle.checksum.specs.Private.{table_from}
use Rattle.checksum_slicing.specs.Private.{step_tables}
use Rattle.checksum_slicing.proofs.StepLaws.{same_all}
use Rattle.checksum_slicing.proofs.tables.Goals as goal

pub returns : goal.returns
unfolding step_tables table_from bit_steps bit_step
returns c = same_all _ _ tt
