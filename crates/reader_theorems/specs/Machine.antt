-- Document 01's plain machine (docs/FORMATS.md, "The plain machine"). It is fed a list of calls and nothing else.
use Rattle.std.specs.Prelude.{ℕ, ◌+◌, ◌-◌, Bool, false, cond, List, [], ◌∷◌, ◌++◌, ltb, eqb, length, take}
use Rattle.framing.specs.declared.Format.{Format}
use Rattle.framing.specs.Reading.{ongoing, Reading, read, framed_count, pending_count}
use Rattle.reader.specs.Calls.{Call, bytes_of, out_of, closes, mode_of}

-- The bytes delivered so far, and whether a close was accepted.
pub record Machine : Type 0 where
  pub delivered : List ℕ
  pub closed : Bool

abbrev pub start : Machine
start = record { delivered = []; closed = false }

-- Refusals 2, 1, 3 and 4, in this order, or 0. "Closed means that a close was accepted, the three numbers are together the count of
-- bytes delivered so far, and pending is that of their reading." The numbers are document 01's, written out, and not the names that
-- the reader's definitions use: a name with a wrong number is found.
unfoldable pub machine_answer : Format → Machine → Call → ℕ
machine_answer f m c =
    cond m.closed 2
    (cond (ltb 4096 (length (bytes_of c))) 1
    (cond (ltb 4294967295 (length m.delivered + length (bytes_of c))) 3
    (cond (ltb (length (out_of c)) (pending_count (read ongoing f m.delivered) + length (bytes_of c))) 4 0)))

-- "Bytes delivered are those of the accepted pieces, joined in order."
abbrev pub accepted : Machine → Call → Machine
accepted m c = record { delivered = m.delivered ++ bytes_of c; closed = closes c }

abbrev pub next_machine : Format → Machine → Call → Machine
next_machine f m c = cond (eqb (machine_answer f m c) 0) (accepted m c) m

-- the machine's answers to a list of calls, and the machine after them
unfoldable pub machine_answers : Format → Machine → List Call → List ℕ
machine_answers f m [] = []
machine_answers f m (c ∷ cs) = machine_answer f m c ∷ machine_answers f (next_machine f m c) cs

unfoldable pub final_machine : Format → Machine → List Call → Machine
final_machine f m [] = m
final_machine f m (c ∷ cs) = final_machine f (next_machine f m c) cs

-- the reading of all bytes delivered or, if a close was accepted, their closing reading
abbrev pub machine_reading : Format → Machine → Reading
machine_reading f m = read (mode_of m.closed) f m.delivered

-- "An accepted call hands out the first bytes of its room as it returns, as many as the reading's framed grew by; for a close, the
-- closing reading's framed less the reading's." The output is given as the call returns it.
abbrev pub handed_count : Format → Machine → Call → ℕ
handed_count f m c = framed_count (machine_reading f (accepted m c)) - framed_count (machine_reading f m)

abbrev pub handed : Format → Machine → Call → List ℕ → List ℕ
handed f m c out = cond (eqb (machine_answer f m c) 0) (take (handed_count f m c) out) []
