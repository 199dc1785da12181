-- What a writer gives: document 01's number, how many bytes it wrote, and the output as it returns (docs/FORMATS.md,
-- "Refusal numbers" and "Writers").
use Rattle.std.specs.Prelude.{ℕ, Bool, List, Result, leb, length}
use Rattle.buffer.specs.Buffer.{put}
use Rattle.framing.specs.declared.Format.{Format}
use Rattle.answer.specs.declared.Refusal.{Refusal}
use Rattle.answer.specs.Answer.{Answer, given, unless, answer_of}
use Rattle.frame_writer.specs.Frames.{takes, Content, frame_of}

pub record Output : Type 0 where
  pub written : ℕ
  pub out : List ℕ

abbrev pub untouched : List ℕ → Output
untouched out = record { written = 0; out = out }

-- an answer, and the output as it is then
abbrev pub writing_answer : Result ℕ Refusal → List ℕ → Answer Output
writing_answer w out = answer_of (untouched out) (λ n. record { written = n; out = out }) w

-- "For writers: 5 or 9, then 6": n where the content is not taken, then 6 where the output is smaller than the frame. A refusal
-- leaves the output as lent; otherwise the frame is put at its start, and the rest is unchanged.
unfoldable pub write : ℕ → Bool → List ℕ → List ℕ → Answer Output
write n taken frame out =
    unless (untouched out) taken n
    (unless (untouched out) (leb (length frame) (length out)) 6
    (given (record { written = length frame; out = put frame out })))

-- what the writer of a format gives in an output buffer, as the contracts of `write_mgl`, `write_onflight` and `write_nmea`
-- promise it
abbrev pub write_frame : Format → Content → List ℕ → Answer Output
write_frame f c out = write 5 (takes f c.body) (frame_of f c) out
