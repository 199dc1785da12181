-- A reader as bytes that a caller lends (docs/INTERFACE.md, "The reader's bytes").
use Rattle.std.specs.Prelude.{ℕ, ◌+◌, Bool, true, false, not, List, ◌++◌, eqb, take, drop}
use Rattle.numbers.specs.Low.{low, low_bytes}
use Rattle.reader.specs.declared.Reader.{Reader as State}
use Rattle.reader.specs.State.{held_length}

-- where the held bytes start: after five words of four bytes
abbrev pub held_at : ℕ
held_at = 20

-- how many bytes a reader has: the words, and the held bytes
abbrev pub reader_length : ℕ
reader_length = held_at + held_length

-- the word for open and closed
abbrev pub closed_word : Bool → ℕ
closed_word false = 0
closed_word true = 1

-- format, closed, framed, skipped, pending, low byte first, and the held bytes
unfoldable pub encode : State → List ℕ
encode r =
    low_bytes 4 r.format
    ++ low_bytes 4 (closed_word r.closed)
    ++ low_bytes 4 r.framed
    ++ low_bytes 4 r.skipped
    ++ low_bytes 4 r.pending
    ++ r.held

-- What bytes say of a reader, whatever they are: a closed word other than 0 is closed, and the format is the whole word.
unfoldable pub decode : List ℕ → State
decode bs = record {
  format = low 4 bs 0;
  closed = not (eqb (low 4 bs 4) 0);
  framed = low 4 bs 8;
  skipped = low 4 bs 12;
  pending = low 4 bs 16;
  held = take held_length (drop held_at bs);
}
