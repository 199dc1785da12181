-- The fix, the positions and the altitudes of an OnFlight frame (docs/FORMATS.md, "OnFlight content").
use Rattle.std.specs.Prelude.{ℕ, ◌+◌, ◌/◌, ◌%◌, Bool, not, ◌&&◌, List, eqb, leb, ℤ, pos, ◌-ℤ◌, get_or, Result}
use Rattle.std.specs.Int.{w32}
use Rattle.numbers.specs.Low.{low, signed}
use Rattle.framing.specs.declared.Format.TheVariants.{Onflight}
use Rattle.answer.specs.declared.Refusal.{Refusal}
use Rattle.answer.specs.Answer.{Answer, given, unless, answer_of}
use Rattle.content.specs.Body.{is_frame}
use Rattle.content.specs.declared.Position.{Position}
use Rattle.content.specs.Shared.{no_position}
use Rattle.onflight_sensors.specs.Sensor.{Pair, no_pair}
use Rattle.onflight_sensors.specs.declared.position.Fix.{Fix}

-- 0, 2, 3 and 4; not 1, 5, 6 and 7
unfoldable pub is_fix : ℕ → Bool
is_fix n = not (eqb n 1) && leb n 4

abbrev pub fix_answer : Result Fix Refusal → Answer Pair
fix_answer r = answer_of no_pair (λ x. record { first = x.fix; second = x.satellites }) r

-- fix and satellites: the low 3 and the high 5 bits of byte 40
unfoldable pub fix_of : List ℕ → Answer Pair
fix_of s =
    unless no_pair (is_frame Onflight s) 7
    (unless no_pair (is_fix (get_or s 40 0 % 8)) 9
    (given (record { first = get_or s 40 0 % 8; second = get_or s 40 0 / 8 })))

-- latitude and longitude, signed numbers of four bytes from `at` on: GNSS at 60, INS at 116
unfoldable pub position_of : ℕ → List ℕ → Answer Position
position_of at s =
    unless no_position (is_frame Onflight s) 7
    (given (record { latitude = signed w32 (low 4 s at); longitude = signed w32 (low 4 s (at + 4)) }))

abbrev pub altitude_answer : Result ℤ Refusal → Answer ℤ
altitude_answer r = answer_of (pos 0) (λ a. a) r

-- raw minus 10,000: GNSS at 56, INS at 114
unfoldable pub altitude_of : ℕ → List ℕ → Answer ℤ
altitude_of at s = unless (pos 0) (is_frame Onflight s) 7 (given (pos (low 2 s at) -ℤ pos 10000))
