-- Gyro numbers in hundredths of a degree a second, and back (docs/FORMATS.md, "Gyro numbers").
use Rattle.std.specs.Prelude.{ℕ, suc, ◌+◌, ◌-◌, ◌*◌, ◌/◌, ◌%◌, cond, leb, eqb, ℤ, pos, negsuc, neg_ℤ, Result}
use Rattle.answer.specs.declared.Refusal.{Refusal}
use Rattle.answer.specs.Answer.{Answer, given, unless, answer_of}

-- the size itself up to 14,999; above it (size - 13,500) times 10
unfoldable pub scale : ℕ → ℕ
scale n = cond (leb n 14999) n ((n - 13500) * 10)

-- and the sign
unfoldable pub hundredths_of : ℤ → ℤ
hundredths_of (pos n) = pos (scale n)
hundredths_of (negsuc n) = neg_ℤ (pos (scale (suc n)))

-- ---- written: "Writing refuses (9) what no v gives" (`gyro-exactly` of crates/roundtrip_theorems/proofs/GyroTrips.antt)

-- the size that `scale` takes to m; 65,535, which no gyro number has, where there is none
unfoldable pub unscale : ℕ → ℕ
unscale m = cond (leb m 14999) m (cond (eqb (m % 10) 0) (m / 10 + 13500) 65535)

-- with the sign, within 16 bits: 32,767 at most, and -32,768 at least
unfoldable pub number_of : ℤ → Answer ℤ
number_of (pos m) = unless (pos 0) (leb (unscale m) 32767) 9 (given (pos (unscale m)))
number_of (negsuc m) = unless (pos 0) (leb (unscale (suc m)) 32768) 9 (given (neg_ℤ (pos (unscale (suc m)))))

abbrev pub gyro_answer : Result ℤ Refusal → Answer ℤ
gyro_answer r = answer_of (pos 0) (λ v. v) r
