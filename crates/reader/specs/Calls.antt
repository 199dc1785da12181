-- What a piece and a close give (docs/FORMATS.md, "Readers").
use Rattle.std.specs.Prelude.{ℕ, ◌+◌, ◌≡◌, Bool, true, false, cond, List, [], ◌++◌, Result, Ok, Err, eqb, length}
use Rattle.answer.specs.declared.Refusal.{Refusal}
use Rattle.answer.specs.Answer.{refusal_number}
use Rattle.buffer.specs.Buffer.{put}
use Rattle.framing.specs.Format.{format_of}
use Rattle.framing.specs.Reading.{Mode, ongoing, closing, Reading, read, joined, frame_count, framed_count, skipped_count, pending_count}
use Rattle.reader.specs.declared.Reader.{Reader as State}
use Rattle.reader.specs.State.{pending_bytes, held_bytes}
use Rattle.reader.specs.Refusal.{refusal}

-- A call on a reader: a piece, its bytes and the output as lent; or a close, and the output as lent.
pub data Call : Type 0 where
  a_piece : List ℕ → List ℕ → Call
  a_close : List ℕ → Call

-- the bytes that a call brings: none for a close
abbrev pub bytes_of : Call → List ℕ
bytes_of (a_piece bs out) = bs
bytes_of (a_close out) = []

abbrev pub out_of : Call → List ℕ
out_of (a_piece bs out) = out
out_of (a_close out) = out

abbrev pub closes : Call → Bool
closes (a_piece bs out) = false
closes (a_close out) = true

-- What a call answers: 0 or the number of the refusal, how many frames it handed out, and the reader after it.
pub record Outcome : Type 0 where
  pub answer : ℕ
  pub frames : ℕ
  pub reader : State

-- A call as it returns: what it answers, and the output.
pub record Returned : Type 0 where
  pub outcome : Outcome
  pub out : List ℕ

abbrev pub returned : Outcome → List ℕ → Returned
returned o out = record { outcome = o; out = out }

-- the reading of a line that is open, and of one that is closed
abbrev pub mode_of : Bool → Mode
mode_of false = ongoing
mode_of true = closing

-- what a call reads: the pending bytes, and then those that it brings
abbrev pub gain : State → Call → Reading
gain r c = read (mode_of (closes c)) (format_of r.format) (pending_bytes r ++ bytes_of c)

-- the reader r, open or closed, after it read g more
abbrev pub grown : State → Bool → Reading → State
grown r closed g =
    record {
      format = r.format;
      closed = closed;
      framed = r.framed + framed_count g;
      skipped = r.skipped + skipped_count g;
      pending = pending_count g;
      held = held_bytes g.rest;
    }

-- An accepted call: the reader has read g more, and the frames of g are put at the start of the output.
abbrev pub taken : State → Bool → Reading → List ℕ → Returned
taken r closed g out = returned (record { answer = 0; frames = frame_count g; reader = grown r closed g }) (put (joined g.events) out)

-- A refusal hands out no frames, and hands back the reader as given and the output untouched.
abbrev pub refused_of : ℕ → State → Outcome
refused_of a r = record { answer = a; frames = 0; reader = r }

abbrev pub refused_call : ℕ → State → List ℕ → Returned
refused_call a r out = returned (refused_of a r) out

-- what a call answers that returned this and left this reader: a refusal hands out no frames
abbrev pub outcome_of : Result ℕ Refusal → State → Outcome
outcome_of (Ok frames) r = record { answer = 0; frames = frames; reader = r }
outcome_of (Err e) r = refused_of (refusal_number e) r

-- What a call on the reader r gives.
unfoldable pub serve : State → Call → Returned
serve r c =
    let a = refusal r (length (bytes_of c)) (length (out_of c)) in
    cond (eqb a 0) (taken r (closes c) (gain r c) (out_of c)) (refused_call a r (out_of c))

-- No call changes the length of its output: the frames that it hands out always fit. (`out-length-kept`, proofs/CallLaws.antt)
abbrev pub OutLengthKept : Type 0
OutLengthKept = (r : State) (c : Call) → length (serve r c).out ≡ length (out_of c)
