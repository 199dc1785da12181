-- Document 01's numbers: each name computes to its number.
-- Assumes nothing.
use mathlib.Core.Path.{refl}
use Rattle.reader_theorems.specs.Numbers.{DocumentNumbers}

pub document-numbers : DocumentNumbers
document-numbers =
    record {
      longest = refl;
      most = refl;
      piece_too_long = refl;
      closed = refl;
      line_too_long = refl;
      piece_output_too_small = refl;
      not_writable = refl;
      output_too_small = refl;
      not_one_frame = refl;
      other_message = refl;
      out_of_form = refl;
      broken_toc = refl;
      broken_reader = refl;
    }
