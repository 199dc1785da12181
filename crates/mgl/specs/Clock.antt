-- The clock of an MGL frame (docs/FORMATS.md, "MGL content").
use Rattle.std.specs.Prelude.{ℕ, List}
use Rattle.framing.specs.declared.Format.TheVariants.{Mgl}
use Rattle.calendar.specs.declared.DateTime.{DateTime}
use Rattle.calendar.specs.declared.Clock.{Clock}
use Rattle.calendar.specs.Clocks.{ClockValues, clock_values, binary_clock_of}
use Rattle.answer.specs.Answer.{Answer, given, unless}
use Rattle.content.specs.Body.{is_frame}
use Rattle.content.specs.Shared.{no_clock}
use Rattle.mgl.specs.Header.{body_byte, is_message}

-- body bytes 24 to 29 are hour, minute, second, day, month and two-digit year
abbrev pub mgl_date_time : List ℕ → DateTime
mgl_date_time s = record {
  hour = body_byte s 24;
  minute = body_byte s 25;
  second = body_byte s 26;
  day = body_byte s 27;
  month = body_byte s 28;
  year = body_byte s 29;
}

-- the year is 2000 + its byte, and wrong where the byte is over 99
abbrev pub mgl_clock : DateTime → Clock
mgl_clock t = binary_clock_of t 2000 99

-- the clock of a frame: type 1, L = 24, 44 bytes
unfoldable pub mgl_clock_of : List ℕ → Answer ClockValues
mgl_clock_of s =
    unless no_clock (is_frame Mgl s) 7
    (unless no_clock (is_message 1 44 s) 8
    (given (clock_values (mgl_clock (mgl_date_time s)))))
