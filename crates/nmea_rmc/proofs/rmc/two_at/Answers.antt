use borrow.Author.Rules.{rules}
use native.Mathlib.Omega.{arith}
use Rattle.nmea_rmc.specs.Rmc.{two_at}
use Rattle.nmea_rmc.proofs.RmcLaws.{two_digits}
use Rattle.nmea_rmc.proofs.rmc.two_at.Goals as goal

pub overflow_sub-result : goal.overflow_sub-result
unfolding two_at
overflow_sub-result c = let w = two_digits c.args.s.now c.args.i c.requires in omega arith

pub overflow_mul-result : goal.overflow_mul-result
unfolding two_at
overflow_mul-result c = let w = two_digits c.args.s.now c.args.i c.requires in omega arith

pub overflow_sub-result-2 : goal.overflow_sub-result-2
unfolding two_at
overflow_sub-result-2 c = let w = two_digits c.args.s.now c.args.i c.requires in omega arith

pub overflow_add-result-2 : goal.overflow_add-result-2
unfolding two_at
overflow_add-result-2 c = let w = two_digits c.args.s.now c.args.i c.requires in omega arith

pub returns : goal.returns
unfolding two_at
returns c = search rules
