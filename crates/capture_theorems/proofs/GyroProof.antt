-- Gyro numbers through the exported functions, both ways.
-- Assumes nothing.
use mathlib.Core.Path.{◌≡◌, sym, ap, subst, ◌∙◌}
use lib.IntN.{ℤ}
use mir.Syntax.{w16}
use mir.Val.{SFits}
use Rattle.answer.specs.Answer.{Answer}
use Rattle.mgl_gyro.specs.Gyro.{hundredths_of, number_of}
use Rattle.roundtrip_theorems.proofs.GyroTrips.{gyro-read-then-written, gyro-exactly}
use Rattle.capture_values.specs.Values.{values_of, signed_values}
use Rattle.capture_values.specs.FieldFunctions.{gyro_values}
use Rattle.capture_theorems.specs.Trips.{ExportedGyroWrittenThenRead, ExportedGyroReadThenWritten}

pub exported-gyro-read-then-written : ExportedGyroReadThenWritten
unfolding gyro_values
exported-gyro-read-then-written v f = ap (values_of signed_values) (gyro-read-then-written v f)

pub exported-gyro-written-then-read : ExportedGyroWrittenThenRead
unfolding gyro_values
exported-gyro-written-then-read rate e =
    let x = (gyro-exactly rate).given.0 e in
    let v : (number_of rate).value ≡ x.v =
    ap (λ (r : ℤ). (number_of r).value) (sym x.same) ∙ ap (λ (a : Answer ℤ). a.value) (gyro-read-then-written x.v x.fits) in
    (subst (SFits w16) (sym v) x.fits, ap hundredths_of v ∙ x.same)
