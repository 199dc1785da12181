-- The two values that are 64-bit floats (docs/FORMATS.md, "OnFlight content").
use Rattle.std.specs.Prelude.{ℕ, List, ℤ, pos, Float, get_or, Result}
use Rattle.std.specs.Float.{binary64}
use Rattle.std.specs.Float.Ieee.{of_int, div}
use Rattle.std.specs.Int.{w16}
use Rattle.numbers.specs.Low.{low, signed}
use Rattle.framing.specs.declared.Format.TheVariants.{Onflight}
use Rattle.answer.specs.declared.Refusal.{Refusal}
use Rattle.answer.specs.Answer.{Answer, given, unless, answer_of}
use Rattle.content.specs.Body.{is_frame}

-- z over d: both converted, and one division, rounded once
unfoldable pub ratio : ℤ → ℕ → Float
ratio z d = div binary64 (of_int binary64 z) (of_int binary64 (pos d))

abbrev pub no_ratio : Float
no_ratio = of_int binary64 (pos 0)

abbrev pub ratio_answer : Result Float Refusal → Answer Float
ratio_answer r = answer_of no_ratio (λ x. x) r

-- input voltage, in volts: byte 14 over 25
unfoldable pub voltage_of : List ℕ → Answer Float
voltage_of s = unless no_ratio (is_frame Onflight s) 7 (given (ratio (pos (get_or s 14 0)) 25))

-- load factor, in g: the signed number at 80 over 1000
unfoldable pub load_of : List ℕ → Answer Float
load_of s = unless no_ratio (is_frame Onflight s) 7 (given (ratio (signed w16 (low 2 s 80)) 1000))
