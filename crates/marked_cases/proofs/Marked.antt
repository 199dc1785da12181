-- Every row of the table of marked cases holds. Where a row can be computed, antt computes it.
-- Assumes nothing.
use Prim.Native.Nat.{ℕ, ◌+◌, ◌<◌}
use mathlib.Core.Path.{◌≡◌, refl, ◌∙◌}
use mathlib.Core.List.{List}
use native.Mathlib.Omega.{arith}
use lib.ListN.{length}
use borrow.Author.Tests.{le-leb}
use Rattle.checksum.specs.Fletcher.{add_mod255, sum_mod255, plain_sums, fletcher_of}
use Rattle.checksum.specs.Xor.{xor_of}
use Rattle.framing.specs.declared.Scanned.TheVariants.{Whole}
use Rattle.framing.specs.Mgl.{mgl_next}
use Rattle.framing.specs.Onflight.{onflight_next}
use Rattle.framing.specs.Nmea.{body_next, nmea_next}
use Rattle.framing.specs.declared.Format.TheVariants.{Mgl}
use Rattle.framing.specs.Format.{format_of, next}
use Rattle.framing.specs.Shape.{scan_from, scan}
use Rattle.framing.specs.Frame.{front}
use Rattle.framing.specs.Reading.{read_steps, read}
use Rattle.framing.proofs.ShapeLaws.{counted}
use Rattle.framing.proofs.MglLaws.{mgl-counts}
use Rattle.calendar.specs.Calendar.{leap, leap_day, plain_days, month_days, months_to, years_to, days_to}
use Rattle.calendar.specs.Clocks.{clock_of, all_zero, binary_clock_of}
use Rattle.mgl_gyro.specs.Gyro.{scale, hundredths_of}
use Rattle.marked_cases.specs.Rows.{MarkedCases}

infixr 20 ◌and◌
◌and◌ : {A B : Type 0} → A → B → A × B
◌and◌ a b = (a, b)

-- an MGL head, and then any bytes up to the number that it wants
mgl-filled : (m : ℕ) → 4 < m → (ys : List ℕ) → 4 + length ys ≡ m → scan_from Mgl 4 m ys ≡ Whole m
mgl-filled m l ys e = counted Mgl 4 mgl-counts 4 m ys (omega arith) l ∙ rw (le-leb m (4 + length ys) (omega arith))

pub marked-cases : MarkedCases
unfolding format_of scan scan_from next mgl_next onflight_next nmea_next body_next front read read_steps fletcher_of sum_mod255 plain_sums add_mod255 xor_of leap leap_day plain_days month_days months_to years_to days_to clock_of all_zero binary_clock_of scale hundredths_of
marked-cases =
    (omega arith, refl, mgl-filled 21 (omega arith))
    and (omega arith, refl, mgl-filled 276 (omega arith))
    and (refl, refl, refl)
    and (refl, refl, refl)
    and (refl, refl, refl)
    and refl
    and refl
    and refl
    and refl
    and refl
    and refl
    and refl
    and refl
    and refl
    and refl
    and (refl, refl, refl)
    and tt
