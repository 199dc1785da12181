-- A capture read call by call, for its sheet: the first refusal, the frames so far, and the reader (docs/FORMATS.md, "Sheets").
use Rattle.std.specs.Prelude.{ℕ, ◌+◌, ◌%◌, ◌^◌, cond, List, ◌==◌}
use Rattle.reader.specs.State.{held_length, fresh_of}
use Rattle.reader.specs.Refusal.{longest_piece}
use Rattle.reader.specs.Calls.{Call, out_of, Outcome, Returned, serve}
use Rattle.benchfile.specs.declared.sheet.Sheet.{Sheet}
use Rattle.tally.specs.declared.Tally.{Tally}

-- the output that takes every piece: as many bytes as can be pending, and as a piece can have (refusal 4)
abbrev pub max_output : ℕ
max_output = held_length + longest_piece

-- a fresh reader, and no frames
unfoldable pub fresh_tally : ℕ → Tally
fresh_tally n = record { answer = (fresh_of n).answer; frames = 0; reader = (fresh_of n).reader }

-- A tally as a call returns it, and the output.
pub record Stepped : Type 0 where
  pub tally : Tally
  pub out : List ℕ

abbrev pub stepped : Tally → List ℕ → Stepped
stepped t out = record { tally = t; out = out }

-- what the reader answered is taken over, and its frames are counted, within 32 bits
abbrev pub after_outcome : Tally → Outcome → Tally
after_outcome t o = record { answer = o.answer; frames = (t.frames + o.frames) % 2 ^ 32; reader = o.reader }

abbrev pub after_return : Tally → Returned → Stepped
after_return t g = stepped (after_outcome t g.outcome) g.out

-- One call. After a refusal nothing is read any more: its number stays.
unfoldable pub tally_step : Tally → Call → Stepped
tally_step t c = cond (t.answer == 0) (after_return t (serve t.reader c)) (stepped t (out_of c))

-- the sheet's five numbers
unfoldable pub sheet_of : Tally → Sheet
sheet_of t = record {
  format = t.reader.format;
  frames = t.frames;
  framed = t.reader.framed;
  skipped = t.reader.skipped;
  pending = t.reader.pending;
}
