-- The times of OnFlight frames (docs/FORMATS.md, "OnFlight content" and "Clock times").
use Rattle.std.specs.Prelude.{ℕ, ◌+◌, ◌-◌, ◌%◌, ◌^◌, List, slice_index}
use Rattle.numbers.specs.Low.{low}
use Rattle.framing.specs.declared.Format.TheVariants.{Onflight}
use Rattle.calendar.specs.declared.DateTime.{DateTime}
use Rattle.calendar.specs.declared.Clock.{Clock}
use Rattle.calendar.specs.Clocks.{ClockValues, clock_values, binary_clock_of}
use Rattle.answer.specs.Answer.{Answer, given, unless}
use Rattle.content.specs.Body.{is_frame}
use Rattle.content.specs.Shared.{no_clock}

-- milliseconds since boot
abbrev pub boot_time : List ℕ → ℕ
boot_time s = low 4 s 10

unfoldable pub boot_of : List ℕ → Answer ℕ
boot_of s = unless 0 (is_frame Onflight s) 7 (given (boot_time s))

-- the difference modulo 4,294,967,296
abbrev pub elapsed : ℕ → ℕ → ℕ
elapsed a b = (b + (2 ^ 32 - a)) % 2 ^ 32

-- from frame a to frame b
unfoldable pub elapsed_of : List ℕ → List ℕ → Answer ℕ
elapsed_of a b =
    unless 0 (is_frame Onflight a) 7
    (unless 0 (is_frame Onflight b) 7
    (given (elapsed (boot_time a) (boot_time b))))

-- bytes 41 to 46 are year, month, day, hour, minute and second
abbrev pub onflight_date_time : List ℕ → DateTime
onflight_date_time s = record {
  year = slice_index s 41;
  month = slice_index s 42;
  day = slice_index s 43;
  hour = slice_index s 44;
  minute = slice_index s 45;
  second = slice_index s 46;
}

-- the year is 1970 + its byte, and never wrong: no byte is over 255
abbrev pub onflight_clock : DateTime → Clock
onflight_clock t = binary_clock_of t 1970 255

-- the clock of a frame
unfoldable pub onflight_clock_of : List ℕ → Answer ClockValues
onflight_clock_of s = unless no_clock (is_frame Onflight s) 7 (given (clock_values (onflight_clock (onflight_date_time s))))
