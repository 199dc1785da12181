use lib.Ieee.{of_int, of_bits}
use borrow.Author.Tests.{ne_eqb}
use Rattle.capture_values.specs.FieldFunctions.{ratio_of}
use Rattle.capture_values.proofs.read_ratio.Goals as goal

pub returns-in-214 : goal.returns-in-214
unfolding of_int of_bits ratio_of
returns-in-214 c = rw c.in-214.is (cc)

pub returns-in-215 : goal.returns-in-215
unfolding of_int of_bits ratio_of
returns-in-215 c = rw c.in-215.is (cc)

pub returns-in_default : goal.returns-in_default
unfolding of_int of_bits ratio_of
returns-in_default c = rw (ne_eqb _ _ c.in_default.in_default-own.rest.0.1, ne_eqb _ _ c.in_default.in_default-own.rest.1) (cc)
