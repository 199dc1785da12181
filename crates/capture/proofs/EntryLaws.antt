-- Laws of the entries of a bench file: where a body starts fits 63 bits, since lengths have four bytes and entries are counted in one.
-- Assumes nothing.
use Prim.Native.Nat.{ℕ, zero, suc, ◌+◌, ◌*◌, ◌^◌, ◌<◌, ◌≤◌}
use mathlib.Core.Bool.{Bool, true, false}
use mathlib.Core.List.{List, []}
use mathlib.Core.Path.{◌≡◌, refl, sym, ap, subst, ◌∙◌}
use native.Mathlib.Omega.{arith}
use lib.Dec.{ltb}
use lib.ListN.{get_or}
use borrow.Author.Tests.{ltb-true}
use mir.Syntax.{w8}
use mir.Val.{Fits}
use Rattle.numbers.specs.Low.{low}
use Rattle.answer.specs.declared.Refusal.{Refusal}
use Rattle.answer.specs.Answer.{Answer, given, refused, unless, refusal_number}
use Rattle.answer.proofs.AnswerLaws.{not_done}
use Rattle.benchfile.specs.Toc.{entries, total_length, entry_start, is_whole_file, no_entry, entry_answer, entry_at, entry_of}
use Rattle.benchfile.specs.declared.Entry.{Entry}
use Rattle.std.specs.Prelude.{Result, Ok}
use Rattle.capture_values.specs.Values.{numbered}
use Rattle.capture.specs.Entry.{listed}

module _ (s : List ℕ) (h : (i : ℕ) → Fits w8 (get_or s i 0)) where
  length-fits : (at : ℕ) → low 4 s at < 2 ^ 32
  unfolding low
  length-fits at = omega (arith, (h (at + 0)).fits, (h (at + 1)).fits, (h (at + 2)).fits, (h (at + 3)).fits)

  lengths-fit : (k : ℕ) → total_length s k ≤ k * 2 ^ 32
  unfolding total_length
  lengths-fit zero = omega arith
  lengths-fit (suc k) = omega (arith, lengths-fit k, length-fits (1 + 6 * k + 2))

  start_fits : (i : ℕ) → i < entries s → entry_start s i < 2 ^ 63
  unfolding entry_start
  start_fits i l = omega (arith, lengths-fit i, (h 0).fits)

  answer-fits : (len i : ℕ) → (entry_of s len i).value.start < 2 ^ 63
  unfolding entry_of entry_at
  answer-fits len i = go (is_whole_file s len) (ltb i (entries s)) refl
    where
      go : (a b : Bool) → ltb i (entries s) ≡ b → (unless no_entry a 10 (unless no_entry b 9 (given (entry_at s i)))).value.start < 2 ^ 63
      go false b e = omega arith
      go true false e = omega arith
      go true true e = start_fits i (ltb-true i (entries s) e)

  -- an entry that a call read
  pub read_fits : (len i : ℕ) {r : Result Entry Refusal} {e : Entry} → r ≡ Ok e → entry_answer r ≡ entry_of s len i → e.start < 2 ^ 63
  read_fits len i p q = subst (λ (n : ℕ). n < 2 ^ 63) (ap (λ (a : Answer Entry). a.value.start) (sym q ∙ ap entry_answer p)) (answer-fits len i)

-- beside a refusal the values are zeros
pub listed-refused : (n : ℕ) (r : Refusal) → numbered (refusal_number r) [] ≡ listed n (refused no_entry (refusal_number r))
listed-refused n r = rw (not_done r)
