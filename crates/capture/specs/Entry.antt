-- What the exported function for the entries of a bench file gives (docs/INTERFACE.md, "Bench files").
use Rattle.std.specs.Prelude.{ℕ, cond, List, [], ◌∷◌, eqb, ℤ, pos}
use Rattle.answer.specs.Answer.{Answer}
use Rattle.benchfile.specs.declared.Entry.{Entry}
use Rattle.benchfile.specs.Toc.{entry_count_of, entry_of}
use Rattle.capture_values.specs.declared.Values.{Values}
use Rattle.capture_values.specs.Values.{numbered}

-- the number of entries, and the entry's format, port, length and start
abbrev pub entry_values : ℕ → Entry → List ℤ
entry_values n e = pos n ∷ pos e.format ∷ pos e.port ∷ pos e.length ∷ pos e.start ∷ []

-- beside a refusal all are zeros, the number of entries too
abbrev pub listed : ℕ → Answer Entry → Values
listed n a = numbered a.number (cond (eqb a.number 0) (entry_values n a.value) [])

-- entry i of a file of `len` bytes
unfoldable pub entry_in : List ℕ → ℕ → ℕ → Values
entry_in s len i = listed (entry_count_of s len).value (entry_of s len i)
