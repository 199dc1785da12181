-- Demand 3 (docs/FORMATS.md, "The plain machine").
use Rattle.std.specs.Prelude.{ℕ, ◌≤◌, ◌≡◌, true, List, T, length}
use Rattle.framing.specs.Format.{known, format_of, pending_bound}
use Rattle.framing.specs.Reading.{Reading, joined, frame_count, framed_count, skipped_count, pending_count}
use Rattle.reader.specs.declared.Reader.{Reader as State}
use Rattle.reader.specs.State.{sum, held_bytes, fresh_of}
use Rattle.reader.specs.Calls.{Call}
use Rattle.reader_theorems.specs.Machine.{Machine, start, machine_answers, final_machine, machine_reading}
use Rattle.reader_theorems.specs.Lists.{answers, final_reader, frame_total, handed_out}

-- the machine after a list of calls, its reading, and the reader after the same list
abbrev pub machine_after : ℕ → List Call → Machine
machine_after n cs = final_machine (format_of n) start cs

abbrev pub reading_after : ℕ → List Call → Reading
reading_after n cs = machine_reading (format_of n) (machine_after n cs)

abbrev pub reader_after : ℕ → List Call → State
reader_after n cs = final_reader (fresh_of n).reader cs

-- the bytes handed out by a list of calls, joined
abbrev pub output : ℕ → List Call → List ℕ
output n cs = handed_out (format_of n) start (fresh_of n).reader cs

-- What holds after the list of calls cs on the fresh reader of format n, as `Reader::fresh` promises it.
pub record Agrees (n : ℕ) (cs : List Call) : Type 0 where
  -- the fresh reader is given, and every answer is the machine's
  pub opened : (fresh_of n).answer ≡ 0
  pub answered : answers (fresh_of n).reader cs ≡ machine_answers (format_of n) start cs
  -- the bytes handed out are the joined frames of the reading (the closing reading, if a close was accepted), and are so many frames
  pub handed : output n cs ≡ joined (reading_after n cs).events
  pub frames : frame_total (fresh_of n).reader cs ≡ frame_count (reading_after n cs)
  -- the counts are the reading's, and the bytes held are its rest, with zeros behind
  pub framed : (reader_after n cs).framed ≡ framed_count (reading_after n cs)
  pub skipped : (reader_after n cs).skipped ≡ skipped_count (reading_after n cs)
  pub pending : (reader_after n cs).pending ≡ pending_count (reading_after n cs)
  pub held : (reader_after n cs).held ≡ held_bytes (reading_after n cs).rest
  -- the format stays, and the reader is closed exactly if a close was accepted
  pub format : (reader_after n cs).format ≡ n
  pub closed : (reader_after n cs).closed ≡ (machine_after n cs).closed
  -- the counts are together the number of bytes delivered; pending is within its bound, and none after an accepted close
  pub counted : sum (reader_after n cs) ≡ length (machine_after n cs).delivered
  pub bound : (reader_after n cs).pending ≤ pending_bound (format_of n)
  pub none : (machine_after n cs).closed ≡ true → (reader_after n cs).pending ≡ 0

-- Demand 3, a single claim about every whole list of calls, the empty one too.
abbrev pub Demand3 : Type 0
Demand3 = (n : ℕ) (cs : List Call) → T (known (format_of n)) → Agrees n cs
