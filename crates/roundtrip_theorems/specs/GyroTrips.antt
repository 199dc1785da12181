-- Gyro numbers, written and read back, and read and written again (docs/FORMATS.md, "Round trips").
use Rattle.std.specs.Prelude.{◌≡◌, ◌↔◌, ℤ}
use Rattle.std.specs.Int.{w16}
use Rattle.std.proofs.Common.{SFits}
use Rattle.answer.specs.Answer.{given}
use Rattle.mgl_gyro.specs.Gyro.{hundredths_of, number_of}

-- the gyro number written for a rate stands for that rate
abbrev pub GyroWrittenThenRead : Type 0
GyroWrittenThenRead = (rate v : ℤ) → number_of rate ≡ given v → hundredths_of v ≡ rate

-- the rate of a gyro number is written as that number
abbrev pub GyroReadThenWritten : Type 0
GyroReadThenWritten = (v : ℤ) → SFits w16 v → number_of (hundredths_of v) ≡ given v

-- A gyro number, of 16 bits, that stands for a rate.
pub record StandsFor (rate : ℤ) : Type 0 where
  pub v : ℤ
  pub fits : SFits w16 v
  pub same : hundredths_of v ≡ rate

-- "Writing refuses (9) what no v gives": a rate is written exactly where a gyro number stands for it, and otherwise it is 9.
pub record WrittenExactly (rate : ℤ) : Type 0 where
  pub given : ((number_of rate).number ≡ 0) ↔ StandsFor rate
  pub refused : ((number_of rate).number ≡ 9) ↔ (StandsFor rate → ⊥)

abbrev pub GyroExactly : Type 0
GyroExactly = (rate : ℤ) → WrittenExactly rate
