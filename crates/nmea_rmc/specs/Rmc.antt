-- Clock, position and status of an RMC sentence (docs/FORMATS.md, "NMEA content" and "Clock times").
use Rattle.std.specs.Prelude.{ℕ, ◌+◌, ◌-◌, ◌*◌, Bool, cond, ◌&&◌, ◌||◌, List, [], ◌∷◌, eqb, length, get_or, take, drop, ℤ, Option, Some, None, Result}
use Rattle.calendar.specs.declared.DateTime.{DateTime}
use Rattle.calendar.specs.declared.Clock.{Clock}
use Rattle.calendar.specs.declared.Clock.TheVariants.{Unset}
use Rattle.calendar.specs.Clocks.{ClockValues, clock_values, clock_of}
use Rattle.answer.specs.declared.Refusal.{Refusal}
use Rattle.answer.specs.Answer.{Answer, given, refused, unless, answer_of}
use Rattle.framing.specs.declared.Format.TheVariants.{Nmea}
use Rattle.content.specs.Body.{body_of}
use Rattle.content.specs.declared.Position.{Position}
use Rattle.content.specs.Shared.{no_clock, no_position}
use Rattle.nmea_sentence.specs.Fields.{field_at}
use Rattle.nmea_sentence.specs.Digits.{all_digits}
use Rattle.nmea_rmc.specs.declared.rmc.Status.{Status}
use Rattle.nmea_rmc.specs.declared.rmc.Status.TheVariants.{Valid, Warning}
use Rattle.nmea_sentence.specs.Judge.{in_sentence, field_in}
use Rattle.nmea_rmc.specs.Angle.{latitude_of, longitude_of}

-- GPRMC, and twelve fields after it
abbrev pub rmc_tag : List ℕ
rmc_tag = 0x47 ∷ 0x50 ∷ 0x52 ∷ 0x4D ∷ 0x43 ∷ []

abbrev pub in_rmc : {A : Type 0} → A → List ℕ → Answer A → Answer A
in_rmc zeros s answer = in_sentence zeros rmc_tag 13 s answer

-- ---- the clock: time is field 1, date field 9

-- hhmmss.ss
unfoldable pub is_time : List ℕ → Bool
is_time s = eqb (length s) 9 && eqb (get_or s 6 0) 0x2E && all_digits (take 6 s) && all_digits (drop 7 s)

-- ddmmyy
unfoldable pub is_date : List ℕ → Bool
is_date s = eqb (length s) 6 && all_digits s

-- the number of the two digits at i
unfoldable pub two_at : List ℕ → ℕ → ℕ
two_at s i = (get_or s i 0 - 0x30) * 10 + (get_or s (i + 1) 0 - 0x30)

-- the hundredths are dropped
abbrev pub rmc_date_time : List ℕ → List ℕ → DateTime
rmc_date_time time date = record {
  hour = two_at time 0;
  minute = two_at time 2;
  second = two_at time 4;
  day = two_at date 0;
  month = two_at date 2;
  year = two_at date 4;
}

-- the year is 2000 + its two digits, and never wrong: no two digits are over 99
abbrev pub rmc_clock : DateTime → Clock
rmc_clock t = clock_of t 2000 99

-- an empty time or date is unset, whatever the other is; else both are in form, or 9
unfoldable pub fields_clock : List ℕ → List ℕ → Answer ClockValues
fields_clock time date =
    cond (eqb (length time) 0 || eqb (length date) 0) (given (clock_values Unset))
    (unless no_clock (is_time time && is_date date) 9
    (given (clock_values (rmc_clock (rmc_date_time time date)))))

-- the clock of a sentence
unfoldable pub rmc_clock_of : List ℕ → Answer ClockValues
rmc_clock_of s = in_rmc no_clock s (fields_clock (field_in s 1) (field_in s 9))

-- ---- the position: latitude and its hemisphere are fields 3 and 4, longitude and its hemisphere 5 and 6

abbrev pub both : Option ℤ → Option ℤ → Answer Position
both None longitude = refused no_position 9
both (Some a) None = refused no_position 9
both (Some a) (Some b) = given (record { latitude = a; longitude = b })

abbrev pub body_position : List ℕ → Answer Position
body_position body =
    both (latitude_of (field_at body 3) (field_at body 4)) (longitude_of (field_at body 5) (field_at body 6))

unfoldable pub rmc_position_of : List ℕ → Answer Position
rmc_position_of s = in_rmc no_position s (body_position (body_of Nmea s))

-- ---- the status, field 2: the letter A or V

abbrev pub letter : Status → ℕ
letter Valid = 0x41
letter Warning = 0x56

abbrev pub rmc_status_answer : Result Status Refusal → Answer ℕ
rmc_status_answer r = answer_of 0 letter r

unfoldable pub field_status : List ℕ → Answer ℕ
field_status s =
    unless 0 (eqb (length s) 1 && (eqb (get_or s 0 0) 0x41 || eqb (get_or s 0 0) 0x56)) 9 (given (get_or s 0 0))

unfoldable pub rmc_status_of : List ℕ → Answer ℕ
rmc_status_of s = in_rmc 0 s (field_status (field_in s 2))
