-- What a call answers: document 01's number, and a value (docs/FORMATS.md, "Refusal numbers").
use Rattle.std.specs.Prelude.{ℕ, Bool, true, false, Result, Ok, Err, List, ◌++◌, codes}
use Rattle.std.specs.Fmt.{decimal}
use Rattle.answer.specs.declared.Refusal.{Refusal}
use Rattle.answer.specs.declared.Refusal.TheVariants.{PieceTooLong, Closed, LineTooLong, PieceOutputTooSmall, NotWritable, OutputTooSmall, NotOneFrame, OtherMessage, OutOfForm, BrokenToc, BrokenReader}

-- Document 01's numbers. Contracts take the number of a refusal from here. Definitions that write a number out, as those of fields,
-- writers and the plain machine do, have to agree with it.
abbrev pub refusal_number : Refusal → ℕ
refusal_number PieceTooLong = 1
refusal_number Closed = 2
refusal_number LineTooLong = 3
refusal_number PieceOutputTooSmall = 4
refusal_number NotWritable = 5
refusal_number OutputTooSmall = 6
refusal_number NotOneFrame = 7
refusal_number OtherMessage = 8
refusal_number OutOfForm = 9
refusal_number BrokenToc = 10
refusal_number BrokenReader = 11

-- what a refusal displays: the word, a space and the number in decimal digits
abbrev pub refusal_text : Refusal → List ℕ
refusal_text r = codes "refused " ++ decimal (refusal_number r)

-- the number, 0 for done; beside a refusal the value is all zeros
pub record Answer (A : Type 0) : Type 0 where
  pub number : ℕ
  pub value : A

abbrev pub given : {A : Type 0} → A → Answer A
given a = record { number = 0; value = a }

abbrev pub refused : {A : Type 0} → A → ℕ → Answer A
refused zeros n = record { number = n; value = zeros }

-- the refusal n where the test fails
abbrev pub unless : {A : Type 0} → A → Bool → ℕ → Answer A → Answer A
unless zeros true n a = a
unless zeros false n a = refused zeros n

-- what a Rattle function returns, as an answer: `value` gives the value of an `Ok`
abbrev pub answer_of : {R A : Type 0} → A → (R → A) → Result R Refusal → Answer A
answer_of zeros value (Ok x) = given (value x)
answer_of zeros value (Err r) = refused zeros (refusal_number r)

-- the number alone, where there is no value
abbrev pub outcome_number : {R : Type 0} → Result R Refusal → ℕ
outcome_number (Ok x) = 0
outcome_number (Err r) = refusal_number r
