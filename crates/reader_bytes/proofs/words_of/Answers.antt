use mathlib.Core.Bool.{not}
use lib.Dec.{eqb}
use lib.ListN.{take, drop}
use Rattle.reader.specs.State.{held_length}
use Rattle.reader_bytes.specs.Bytes.{held_at, decode}
use Rattle.reader_bytes.proofs.words_of.Goals as goal

pub returns : goal.returns
unfolding decode
returns c = λ i.
    record {
      format = c.word.ensures i;
      closed = not (eqb (c.word-2.ensures i) 0);
      framed = c.word-3.ensures i;
      skipped = c.word-4.ensures i;
      pending = c.word-5.ensures i;
      held = take held_length (drop held_at c.args.bytes.now);
    }
