-- Laws of the table of contents of a bench file: the formats and the lengths of the entries, one entry after the other.
-- Assumes nothing.
use Prim.Native.Nat.{ℕ, zero, suc, ◌+◌, ◌<◌}
use mathlib.Core.Path.{◌≡◌, ap, ◌∙◌}
use mathlib.Core.Bool.{Bool, true, false, and-false}
use mathlib.Core.List.{List}
use native.Mathlib.Decide.{dec_lt}
use native.Mathlib.Numerals.{add-one}
use native.Mathlib.Omega.{arith}
use lib.Dec.{ltb}
use Rattle.answer.specs.declared.Refusal.{Refusal}
use Rattle.answer.specs.Answer.{Answer, given, refused, unless, refusal_number}
use Rattle.answer.proofs.AnswerLaws.{never-0}
use Rattle.benchfile.specs.declared.Entry.{Entry}
use Rattle.benchfile.specs.Toc.{entries, length_at, known_at, all_known, total_length, entry_start, file_length, is_whole_file, no_entry, entry_count_of, entry_at, entry_of}

module _ (s : List ℕ) where
  -- one entry more
  pub known-next : (i : ℕ) → all_known s i ≡ true → known_at s i ≡ true → all_known s (i + 1) ≡ true
  unfolding all_known
  known-next i h k = rw (add-one i, h, k)

  pub total-length-next : (i : ℕ) → total_length s (i + 1) ≡ total_length s i + length_at s i
  unfolding total_length
  total-length-next i = rw (add-one i)

  -- an unknown format, anywhere
  pub not_known : (n i : ℕ) → i < n → known_at s i ≡ false → all_known s n ≡ false
  unfolding all_known
  not_known zero i h k = absurd (omega arith)
  not_known (suc n) i h k = go (dec_lt i n) (λ l. not_known n i l k)
    where
      go : Dec (i < n) → (i < n → all_known s n ≡ false) → all_known s (suc n) ≡ false
      go (yes l) before = rw (before l)
      go (no l) before = let e : i ≡ n = omega arith in rw (← e, k) (and-false (all_known s i))

  -- the length of the whole file, as the code finds it
  pub length-is : {r n : ℕ} → n ≡ entries s → r ≡ entry_start s n → r ≡ file_length s
  unfolding file_length
  length-is e h = rw (← e) h

  -- what is judged before an entry is read
  module _ (len i : ℕ) where
    pub uncounted : (e : Refusal) → refused 0 (refusal_number e) ≡ entry_count_of s len → refused no_entry (refusal_number e) ≡ entry_of s len i
    unfolding entry_count_of entry_of
    uncounted e q = go (is_whole_file s len) q
      where
        go : (b : Bool) → refused 0 (refusal_number e) ≡ unless 0 b 10 (given (entries s))
            → refused no_entry (refusal_number e) ≡ unless no_entry b 10 (unless no_entry (ltb i (entries s)) 9 (given (entry_at s i)))
        go true q = absurd (never-0 e (ap (λ (a : Answer ℕ). a.number) q))
        go false q = ap (refused no_entry) (ap (λ (a : Answer ℕ). a.number) q)

    -- the file is whole, and has n entries
    pub counted : {n : ℕ} {a : Answer Entry} → given n ≡ entry_count_of s len → a ≡ unless no_entry (ltb i n) 9 (given (entry_at s i)) → a ≡ entry_of s len i
    unfolding entry_count_of entry_of
    counted {n} {a} q h = go (is_whole_file s len) q
      where
        go : (b : Bool) → given n ≡ unless 0 b 10 (given (entries s)) → a ≡ unless no_entry b 10 (unless no_entry (ltb i (entries s)) 9 (given (entry_at s i)))
        go true q = h ∙ ap (λ (k : ℕ). unless no_entry (ltb i k) 9 (given (entry_at s i))) (ap (λ (a : Answer ℕ). a.value) q)
        go false q = let z : ◌≡◌ {A = ℕ} 0 10 = ap (λ (a : Answer ℕ). a.number) q in absurd (omega arith)
