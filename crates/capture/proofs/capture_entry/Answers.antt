use Prim.Native.Nat.{ℕ}
use mathlib.Core.List.{[]}
use mathlib.Core.Path.{refl, ap, ◌∙◌}
use native.Mathlib.Omega.{arith}
use Rattle.benchfile.specs.Toc.{entry_count_of}
use Rattle.capture_values.specs.Values.{numbered}
use Rattle.capture_values.proofs.RowLaws.{unsigned, same_row}
use Rattle.capture.specs.Entry.{entry_in}
use Rattle.capture.proofs.EntryLaws.{read_fits, listed-refused}
use Rattle.capture.proofs.capture_entry.Goals as goal

pub overflow_cast-e-in-Ok-3 : goal.overflow_cast-e-in-Ok-3
unfolding entry_in
overflow_cast-e-in-Ok-3 c = record { sfits = read_fits _ c.type_inv.first _ _ c.in-Ok.is c.read_entry.ensures }

pub returns-in-Ok : goal.returns-in-Ok
unfolding entry_in
returns-in-Ok c = rw (← c.entries.ensures, ← c.read_entry.ensures, c.in-Ok.is) (same_row c.row.ensures (unsigned (omega arith)) (unsigned (omega arith)) (unsigned (omega arith)) (unsigned (omega arith)) (unsigned (read_fits _ c.type_inv.first _ _ c.in-Ok.is c.read_entry.ensures)) refl)

pub returns-in-Err : goal.returns-in-Err
unfolding entry_in
returns-in-Err c = let a = c.args in rw (← c.read_entry.ensures, c.in-Err.is) (c.row-in-Err.ensures ∙ ap (λ (n : ℕ). numbered n []) c.from.ensures ∙ listed-refused (entry_count_of a.first.now a.file_len).value c.in-Err.refusal)
