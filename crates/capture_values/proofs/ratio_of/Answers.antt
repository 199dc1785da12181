use lib.Ieee.{of_int, of_bits}
use Rattle.capture_values.proofs.ratio_of.Goals as goal

pub returns-in-Err : goal.returns-in-Err
unfolding of_int of_bits
returns-in-Err c = rw c.in-Err.is (cc)
