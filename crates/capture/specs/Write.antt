-- What the exported writers take and answer (docs/INTERFACE.md, "Writers"). What they write is defined in the writers' specs.
use Rattle.std.specs.Prelude.{ℕ, List, get_or}
use Rattle.numbers.specs.Low.{low_bytes}
use Rattle.answer.specs.Answer.{Answer}
use Rattle.mgl.specs.declared.Header.{Header}
use Rattle.frame_writer.specs.Frames.{Content}
use Rattle.frame_writer.specs.Output.{Output}
use Rattle.capture.specs.declared.Written.{Written}

-- what a call answered, and the output as it is then
abbrev pub written_answer : Written → List ℕ → Answer Output
written_answer w out = record { number = w.number; value = record { written = w.length; out = out } }

-- the four bytes of a number, low byte first: message type, rate, count, version
abbrev pub header_in : ℕ → Header
header_in n = record {
  message_type = get_or (low_bytes 4 n) 0 0;
  rate = get_or (low_bytes 4 n) 1 0;
  count = get_or (low_bytes 4 n) 2 0;
  version = get_or (low_bytes 4 n) 3 0;
}

-- what is given to `capture_write`: the header as a number, and the body
abbrev pub content_in : ℕ → List ℕ → Content
content_in header body = record { header = header_in header; body = body }
