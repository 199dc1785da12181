-- The status of an OnFlight frame (docs/FORMATS.md, "OnFlight content").
use Rattle.std.specs.Prelude.{ℕ, zero, suc, ◌+◌, ◌/◌, ◌%◌, ◌^◌, List, [], ◌∷◌, slice_index, Result}
use Rattle.framing.specs.declared.Format.TheVariants.{Onflight}
use Rattle.answer.specs.declared.Refusal.{Refusal}
use Rattle.answer.specs.Answer.{Answer, given, unless, answer_of}
use Rattle.content.specs.Body.{is_frame}

-- bytes 4 to 9
unfoldable pub status_bytes : List ℕ → List ℕ
status_bytes s = slice_index s 4 ∷ slice_index s 5 ∷ slice_index s 6 ∷ slice_index s 7 ∷ slice_index s 8 ∷ slice_index s 9 ∷ []

abbrev pub no_status : List ℕ
no_status = 0 ∷ 0 ∷ 0 ∷ 0 ∷ 0 ∷ 0 ∷ []

abbrev pub status_answer : Result (List ℕ) Refusal → Answer (List ℕ)
status_answer r = answer_of no_status (λ s. s) r

unfoldable pub status_of : List ℕ → Answer (List ℕ)
status_of s = unless no_status (is_frame Onflight s) 7 (given (status_bytes s))

-- ---- how many named bits are set

-- f 0 + .. + f (n - 1)
unfoldable pub sum_below : (ℕ → ℕ) → ℕ → ℕ
sum_below f zero = 0
sum_below f (suc n) = sum_below f n + f n

-- bit i of the status: bit i % 8 of byte i / 8
unfoldable pub bit_at : List ℕ → ℕ → ℕ
bit_at status i = slice_index status (i / 8) / 2 ^ (i % 8) % 2

-- the 42 named bits are the first 42
unfoldable pub set_bits : List ℕ → ℕ
set_bits status = sum_below (bit_at status) 42

unfoldable pub set_bits_of : List ℕ → Answer ℕ
set_bits_of s = unless 0 (is_frame Onflight s) 7 (given (set_bits (status_bytes s)))
