use Rattle.std.proofs.Common.{◌+◌, ◌∙◌, arith}
use Rattle.checksum_slicing.proofs.BlockLaws.{block_more, all_read}
use Rattle.checksum_slicing.proofs.crc32.Goals as goal
use Rattle.checksum_slicing.proofs.crc32.Goals.{else-loop-i-test, then-loop-i-test+else-i-end-i-gt8}

pub loop-i-init : goal.loop-i-init
loop-i-init c = record { whole = c.first_block-first.ensures.whole; same = rw c.steps-c.ensures c.first_block-first.ensures.same }

pub loop-i-preserved : goal.loop-i-preserved
loop-i-preserved c = record {
  whole = omega arith;
  same =
      block_more _ c.loop-i.i _ (λ k. (c.type_inv.s k).fits) c.loop-i.invariant.whole c.loop-i-test.true c.word_at.ensures c.word_at-in-loop-i.ensures c.steps-c-in-loop-i.ensures
      ∙ c.loop-i.invariant.same;
}

-- no block is left, or the last one is behind the loop's last turn
pub returns : goal.returns
returns c = elim c.loop-i-test.branch [
  | else-loop-i-test w ↦ rw w.c-is (all_read _ _ c.loop-i.i w.loop-i-test.false c.loop-i.invariant.same)
  | then-loop-i-test+else-i-end-i-gt8 w ↦ rw w.c-is
      (all_read _ _ (c.loop-i.i + 8) (omega arith)
      (block_more _ c.loop-i.i _ (λ k. (c.type_inv.s k).fits) c.loop-i.invariant.whole w.loop-i-test.true w.word_at.ensures w.word_at-in-loop-i.ensures w.steps-c-in-loop-i.ensures
      ∙ c.loop-i.invariant.same))
]
