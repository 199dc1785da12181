-- A reader's state (docs/FORMATS.md, "Readers").
use Rattle.std.specs.Prelude.{ℕ, ◌+◌, ◌-◌, Bool, true, false, cond, List, [], ◌++◌, length, take, replicate}
use Rattle.answer.specs.declared.Refusal.TheVariants.{BrokenReader}
use Rattle.answer.specs.Answer.{refusal_number, outcome_number}
use Rattle.framing.specs.Format.{known, format_of}
use Rattle.reader.specs.declared.Reader.{Reader as State}
use Rattle.reader.specs.declared.Opening.{Opening as Declared}

-- the counts together
abbrev pub sum : State → ℕ
sum r = r.framed + r.skipped + r.pending

-- the pending bytes
abbrev pub pending_bytes : State → List ℕ
pending_bytes r = take r.pending r.held

-- how many bytes a reader holds (docs/FORMATS.md, "Readers"): the largest pending bound (`bound-most`, `bound-held`, proofs/RefusalLaws.antt)
abbrev pub held_length : ℕ
held_length = 275

-- pending bytes as they are held: held_length bytes, those beyond them zero
abbrev pub held_bytes : List ℕ → List ℕ
held_bytes bs = bs ++ replicate (held_length - length bs) 0

-- a reader with all counts and held bytes 0
abbrev pub empty : ℕ → Bool → State
empty n closed = record { format = n; closed = closed; framed = 0; skipped = 0; pending = 0; held = held_bytes [] }

-- A request for a fresh reader as it returns: its answer, 0 or 11, and the reader.
pub record Opening : Type 0 where
  pub answer : ℕ
  pub reader : State

abbrev pub opening_of : Declared → Opening
opening_of o = record { answer = outcome_number o.answer; reader = o.reader }

-- A fresh reader of a known format is open. "A refused fresh request hands back a closed reader with format, numbers and held bytes 0."
unfoldable pub fresh_of : ℕ → Opening
fresh_of n = cond (known (format_of n)) (record { answer = 0; reader = empty n false }) (record { answer = refusal_number BrokenReader; reader = empty 0 true })
