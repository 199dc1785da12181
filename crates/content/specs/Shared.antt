-- For the answers that several formats share: document 01's number and values of each case; and what a test with a refusal answers.
use Rattle.std.specs.Prelude.{ℕ, pos, Bool, true, false, Result, Ok, Err}
use Rattle.calendar.specs.declared.Clock.{Clock}
use Rattle.calendar.specs.Clocks.{ClockValues, clock_values}
use Rattle.content.specs.declared.Position.{Position}
use Rattle.answer.specs.declared.Refusal.{Refusal}
use Rattle.answer.specs.Answer.{Answer, answer_of}

abbrev pub number_answer : Result ℕ Refusal → Answer ℕ
number_answer r = answer_of 0 (λ n. n) r

abbrev pub no_clock : ClockValues
no_clock = record { which = 0; seconds = pos 0 }

abbrev pub clock_answer : Result Clock Refusal → Answer ClockValues
clock_answer r = answer_of no_clock clock_values r

abbrev pub no_position : Position
no_position = record { latitude = pos 0; longitude = pos 0 }

abbrev pub position_answer : Result Position Refusal → Answer Position
position_answer r = answer_of no_position (λ x. x) r

-- ---- a test: nothing where it holds, and else its refusal

abbrev pub judged : Bool → Refusal → Result (Unit {0}) Refusal
judged true r = Ok tt
judged false r = Err r
