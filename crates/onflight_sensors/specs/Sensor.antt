-- Voltages, accelerations, gyros and static pressure of an OnFlight frame (docs/FORMATS.md, "OnFlight content").
use Rattle.std.specs.Prelude.{ℕ, ◌+◌, ◌*◌, List, pos, get_or, Result}
use Rattle.std.specs.Int.{w16}
use Rattle.numbers.specs.Low.{low, signed}
use Rattle.framing.specs.declared.Format.TheVariants.{Onflight}
use Rattle.answer.specs.declared.Refusal.{Refusal}
use Rattle.answer.specs.Answer.{Answer, given, unless, answer_of}
use Rattle.content.specs.Body.{is_frame}
use Rattle.onflight_sensors.specs.declared.sensor.Voltages.{Voltages}
use Rattle.onflight_sensors.specs.declared.sensor.Axes.{Axes}

pub record Pair : Type 0 where
  pub first : ℕ
  pub second : ℕ

abbrev pub no_pair : Pair
no_pair = record { first = 0; second = 0 }

-- input and filtered
abbrev pub voltages_answer : Result Voltages Refusal → Answer Pair
voltages_answer r = answer_of no_pair (λ v. record { first = v.input; second = v.filtered }) r

unfoldable pub voltages_of : List ℕ → Answer Pair
voltages_of s = unless no_pair (is_frame Onflight s) 7 (given (record { first = get_or s 14 0; second = get_or s 15 0 }))

abbrev pub no_axes : Axes
no_axes = record { x = pos 0; y = pos 0; z = pos 0 }

abbrev pub axes_answer : Result Axes Refusal → Answer Axes
axes_answer r = answer_of no_axes (λ a. a) r

-- three signed numbers of two bytes from `at` on: accelerations at 18, gyros at 24
unfoldable pub axes_of : ℕ → List ℕ → Answer Axes
axes_of at s =
    unless no_axes (is_frame Onflight s) 7
    (given (record { x = signed w16 (low 2 s at); y = signed w16 (low 2 s (at + 2)); z = signed w16 (low 2 s (at + 4)) }))

-- raw times 2
unfoldable pub pressure_of : List ℕ → Answer ℕ
pressure_of s = unless 0 (is_frame Onflight s) 7 (given (low 2 s 38 * 2))
