-- The field functions by their numbers, a hundred to a format: the rows of include/capture.h.
use Rattle.std.specs.Prelude.{ℕ, ◌/◌, ◌%◌, cond, List, [], ◌∷◌, eqb, Float, ℤ, get_or}
use Rattle.framing.specs.declared.Format.{Format}
use Rattle.framing.specs.declared.Format.TheVariants.{Mgl, Onflight, Nmea, Unknown}
use Rattle.framing.specs.Format.{format_of}
use Rattle.answer.specs.Answer.{Answer, refused}
use Rattle.content.specs.Body.{place_of}
use Rattle.mgl.specs.Header.{header_of}
use Rattle.mgl.specs.Gps.{gps_of}
use Rattle.mgl.specs.Fuel.{tank_count_of, tank_of}
use Rattle.mgl.specs.Clock.{mgl_clock_of}
use Rattle.mgl_gyro.specs.Gyro.{number_of}
use Rattle.onflight.specs.Status.{status_of, set_bits_of}
use Rattle.onflight.specs.Time.{boot_of, elapsed_of, onflight_clock_of}
use Rattle.onflight_sensors.specs.Sensor.{voltages_of, axes_of, pressure_of}
use Rattle.onflight_sensors.specs.Position.{fix_of, position_of, altitude_of}
use Rattle.onflight_sensors.specs.Ratio.{no_ratio, voltage_of, load_of}
use Rattle.nmea_rmc.specs.Rmc as rmc
use Rattle.nmea_plars.specs.Plars.{setting_of}
use Rattle.capture_values.specs.declared.Values.{Values}
use Rattle.capture_values.specs.declared.Ratio.{Ratio}
use Rattle.capture_values.specs.Values.{numbered, values_of, number_values, signed_values, span_values, clock_list, position_values, header_values, gps_values, tank_values, status_values, pair_values, axes_values, setting_values}

-- A number of no field function belongs to no format, and no bytes are a frame of no format: refusal 7. This is a case added to
-- document 01's list of 7.
abbrev pub no_function : Values
no_function = numbered 7 []

-- the field functions of a format, from 0; the item is the tank's
unfoldable pub field_functions : Format → ℕ → List ℕ → List Values
field_functions Mgl item s =
    values_of span_values (place_of Mgl s)  -- 100
    ∷ values_of header_values (header_of s)  -- 101
    ∷ values_of gps_values (gps_of s)  -- 102
    ∷ values_of number_values (tank_count_of s)  -- 103
    ∷ values_of tank_values (tank_of s item)  -- 104
    ∷ values_of clock_list (mgl_clock_of s)  -- 105
    ∷ []
field_functions Onflight item s =
    values_of span_values (place_of Onflight s)  -- 200
    ∷ values_of status_values (status_of s)  -- 201
    ∷ values_of number_values (set_bits_of s)  -- 202
    ∷ values_of number_values (boot_of s)  -- 203
    ∷ values_of clock_list (onflight_clock_of s)  -- 204
    ∷ values_of pair_values (voltages_of s)  -- 205
    ∷ values_of axes_values (axes_of 18 s)  -- 206, accelerations
    ∷ values_of axes_values (axes_of 24 s)  -- 207, gyros
    ∷ values_of number_values (pressure_of s)  -- 208
    ∷ values_of pair_values (fix_of s)  -- 209
    ∷ values_of position_values (position_of 60 s)  -- 210, GNSS
    ∷ values_of position_values (position_of 116 s)  -- 211, INS
    ∷ values_of signed_values (altitude_of 56 s)  -- 212, GNSS
    ∷ values_of signed_values (altitude_of 114 s)  -- 213, INS
    ∷ []
field_functions Nmea item s =
    values_of span_values (place_of Nmea s)  -- 300
    ∷ values_of clock_list (rmc.rmc_clock_of s)  -- 301
    ∷ values_of position_values (rmc.rmc_position_of s)  -- 302
    ∷ values_of number_values (rmc.rmc_status_of s)  -- 303
    ∷ values_of setting_values (setting_of s)  -- 304
    ∷ []
field_functions Unknown item s = []

unfoldable pub read_values : ℕ → ℕ → List ℕ → Values
read_values n item s = get_or (field_functions (format_of (n / 100)) item s) (n % 100) no_function

-- the field functions whose value is a 64-bit float
abbrev pub ratio_value : Answer Float → Ratio
ratio_value a = record { number = a.number; value = a.value }

unfoldable pub ratio_of : ℕ → List ℕ → Ratio
ratio_of n s =
    cond (eqb n 214) (ratio_value (voltage_of s))
    (cond (eqb n 215) (ratio_value (load_of s))
    (ratio_value (refused no_ratio 7)))

-- milliseconds from frame a to frame b
unfoldable pub elapsed_values : List ℕ → List ℕ → Values
elapsed_values a b = values_of number_values (elapsed_of a b)

-- the gyro number that stands for a rate
unfoldable pub gyro_values : ℤ → Values
gyro_values rate = values_of signed_values (number_of rate)
