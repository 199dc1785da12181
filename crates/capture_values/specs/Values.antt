-- The values of every kind of answer as signed numbers, in the order of include/capture.h.
use Rattle.std.specs.Prelude.{ℕ, ◌-◌, Bool, true, false, List, [], ◌∷◌, ◌++◌, ℤ, pos, length, get_or, replicate, Result}
use Rattle.calendar.specs.Clocks.{ClockValues}
use Rattle.answer.specs.declared.Refusal.{Refusal}
use Rattle.answer.specs.Answer.{Answer, answer_of}
use Rattle.content.specs.declared.Span.{Span}
use Rattle.content.specs.declared.Position.{Position}
use Rattle.mgl.specs.declared.Header.{Header}
use Rattle.mgl.specs.declared.gps.Gps.{Gps}
use Rattle.mgl.specs.declared.fuel.Tank.{Tank}
use Rattle.onflight_sensors.specs.declared.sensor.Axes.{Axes}
use Rattle.onflight_sensors.specs.Sensor.{Pair}
use Rattle.nmea_plars.specs.declared.Setting.{Setting}
use Rattle.capture_values.specs.declared.Values.{Values}

-- ---- a number and 21 values

-- zeros after them, up to 21
abbrev pub padded_values : List ℤ → List ℤ
padded_values xs = xs ++ replicate (21 - length xs) (pos 0)

abbrev pub numbered : ℕ → List ℤ → Values
numbered n xs = record { number = n; values = padded_values xs }

-- An answer, whose value is listed by f. The value beside a refusal is all zeros, and so are these.
abbrev pub values_of : {A : Type 0} → (A → List ℤ) → Answer A → Values
values_of f a = numbered a.number (f a.value)

-- What a call returned, where f lists the value of an `Ok`.
abbrev pub listed : {R : Type 0} → (R → List ℤ) → Result R Refusal → Values
listed f r = values_of (λ xs. xs) (answer_of [] f r)

-- ---- the values of each kind, in order

abbrev pub number_values : ℕ → List ℤ
number_values n = pos n ∷ []

abbrev pub signed_values : ℤ → List ℤ
signed_values z = z ∷ []

abbrev pub span_values : Span → List ℤ
span_values x = pos x.start ∷ pos x.end ∷ []

abbrev pub clock_list : ClockValues → List ℤ
clock_list c = pos c.which ∷ c.seconds ∷ []

abbrev pub position_values : Position → List ℤ
position_values p = p.latitude ∷ p.longitude ∷ []

abbrev pub header_values : Header → List ℤ
header_values h = pos h.message_type ∷ pos h.rate ∷ pos h.count ∷ pos h.version ∷ []

abbrev pub flag : Bool → ℤ
flag true = pos 1
flag false = pos 0

abbrev pub gps_values : Gps → List ℤ
gps_values g =
    g.latitude ∷ g.longitude ∷ g.altitude ∷ g.agl ∷ g.north ∷ g.east ∷ g.down
    ∷ pos g.ground_speed ∷ pos g.track ∷ g.variation
    ∷ pos g.mode ∷ pos g.tracked ∷ pos g.visible ∷ pos g.horizontal_accuracy ∷ pos g.vertical_accuracy
    ∷ pos g.capability ∷ pos g.raim ∷ pos g.raim_horizontal_error ∷ pos g.raim_vertical_error
    ∷ flag g.valid ∷ flag g.altitude_valid ∷ []

abbrev pub tank_values : Tank → List ℤ
tank_values t = t.level ∷ pos t.kind ∷ pos t.on ∷ pos t.sensors ∷ []

abbrev pub status_values : List ℕ → List ℤ
status_values s =
    pos (get_or s 0 0) ∷ pos (get_or s 1 0) ∷ pos (get_or s 2 0) ∷ pos (get_or s 3 0) ∷ pos (get_or s 4 0) ∷ pos (get_or s 5 0) ∷ []

abbrev pub pair_values : Pair → List ℤ
pair_values p = pos p.first ∷ pos p.second ∷ []

abbrev pub axes_values : Axes → List ℤ
axes_values a = a.x ∷ a.y ∷ a.z ∷ []

abbrev pub setting_values : Setting → List ℤ
setting_values x = pos x.source ∷ pos x.parameter ∷ pos x.value ∷ []
