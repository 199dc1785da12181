-- A reader whose held bytes a caller lends (docs/FORMATS.md, "Readers").
use Rattle.std.specs.Prelude.{ℕ, cond, List, Result, Ok, Err, eqb, length}
use Rattle.answer.specs.declared.Refusal.{Refusal}
use Rattle.answer.specs.declared.Refusal.TheVariants.{BrokenReader}
use Rattle.answer.specs.Answer.{refusal_number}
use Rattle.reader.specs.declared.Reader.{Reader as State}
use Rattle.reader.specs.declared.in_place.Words.{Words}
use Rattle.reader.specs.declared.in_place.Advance.{Advance}
use Rattle.reader.specs.State.{held_length}
use Rattle.reader.specs.Calls.{Call, out_of, Outcome, Returned, returned, refused_of, refused_call, serve}

-- the reader that has these words and holds these bytes
abbrev pub state_of : Words → List ℕ → State
state_of n held =
    record { format = n.format; closed = n.closed; framed = n.framed; skipped = n.skipped; pending = n.pending; held = held }

-- what a call on the words n answers, with the bytes that it leaves held: a refusal leaves the words
abbrev pub placed_outcome : Words → Result Advance Refusal → List ℕ → Outcome
placed_outcome n (Ok a) held = record { answer = 0; frames = a.frames; reader = state_of a.words held }
placed_outcome n (Err e) held = refused_of (refusal_number e) (state_of n held)

-- A call as it returns: its answer, the held bytes, and the output.
abbrev pub placed : Words → Result Advance Refusal → List ℕ → List ℕ → Returned
placed n a held out = returned (placed_outcome n a held) out

-- A call on a reader in its place. Bytes of another length hold no reader: refusal 11, a case that document 01 does not have.
unfoldable pub serve_placed : Words → List ℕ → Call → Returned
serve_placed n held c = cond (eqb (length held) held_length) (serve (state_of n held) c) (refused_call (refusal_number BrokenReader) (state_of n held) (out_of c))
