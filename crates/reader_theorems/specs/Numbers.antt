-- Document 01's numbers (docs/FORMATS.md, "Refusal numbers"), each written out beside its name. The definitions of the reader and of
-- the plain machine use the names, so that demand 3 holds whatever number a name has: this statement says that it is the right one.
use Rattle.std.specs.Prelude.{◌≡◌}
use Rattle.answer.specs.declared.Refusal.TheVariants.{PieceTooLong, Closed, LineTooLong, PieceOutputTooSmall, NotWritable, OutputTooSmall, NotOneFrame, OtherMessage, OutOfForm, BrokenToc, BrokenReader}
use Rattle.answer.specs.Answer.{refusal_number}
use Rattle.reader.specs.Refusal.{longest_piece, most_bytes}

pub record DocumentNumbers : Type 0 where
  -- the limits of refusals 1 and 3
  pub longest : longest_piece ≡ 4096
  pub most : most_bytes ≡ 4294967295
  -- the refusals
  pub piece_too_long : refusal_number PieceTooLong ≡ 1
  pub closed : refusal_number Closed ≡ 2
  pub line_too_long : refusal_number LineTooLong ≡ 3
  pub piece_output_too_small : refusal_number PieceOutputTooSmall ≡ 4
  pub not_writable : refusal_number NotWritable ≡ 5
  pub output_too_small : refusal_number OutputTooSmall ≡ 6
  pub not_one_frame : refusal_number NotOneFrame ≡ 7
  pub other_message : refusal_number OtherMessage ≡ 8
  pub out_of_form : refusal_number OutOfForm ≡ 9
  pub broken_toc : refusal_number BrokenToc ≡ 10
  pub broken_reader : refusal_number BrokenReader ≡ 11
