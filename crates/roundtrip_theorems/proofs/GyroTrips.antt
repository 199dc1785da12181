-- Gyro numbers there and back: a rate is written as the number that stands for it, and refused exactly where there is none.
-- Assumes nothing.
use Prim.Native.Nat.{ℕ, suc, ◌≤◌}
use mathlib.Core.Path.{◌≡◌, sym, ap, ◌∙◌}
use native.Mathlib.Decide.{dec_le}
use native.Mathlib.Omega.{arith}
use lib.IntN.{ℤ, pos, negsuc, neg_ℤ}
use borrow.Author.Tests.{le-leb, lt-leb}
use mir.Syntax.{w16}
use Rattle.numbers.proofs.Size.{minus-fits}
use Rattle.answer.specs.Answer.{Answer, given, refused}
use Rattle.mgl_gyro.specs.Gyro.{scale, unscale, hundredths_of, number_of}
use Rattle.mgl_gyro.proofs.GyroLaws.{unscale-scale, scale-unscale, hundredths-down, number-down}
use Rattle.roundtrip_theorems.specs.GyroTrips.{GyroWrittenThenRead, GyroReadThenWritten, GyroExactly, StandsFor}

-- what is written for a rate: a number that stands for it, or the refusal
data Written (rate : ℤ) : Type 0 where
  number : (x : StandsFor rate) → number_of rate ≡ given x.v → Written rate
  none : number_of rate ≡ refused (pos 0) 9 → Written rate

written : (rate : ℤ) → Written rate
unfolding number_of hundredths_of
written (pos m) = go (dec_le (unscale m) 32767)
  where
    go : Dec (unscale m ≤ 32767) → Written (pos m)
    go (yes h) =
        number
        (record { v = pos (unscale m); fits = record { sfits = omega arith }; same = ap pos (scale-unscale m (omega arith)) })
        (rw (le-leb (unscale m) 32767 h))
    go (no h) = none (rw (lt-leb (unscale m) 32767 (omega arith)))
written (negsuc m) = go (dec_le (unscale (suc m)) 32768)
  where
    go : Dec (unscale (suc m) ≤ 32768) → Written (negsuc m)
    go (yes h) =
        number
        (record { v = neg_ℤ (pos (unscale (suc m))); fits = minus-fits w16 _ h; same = hundredths-down (unscale (suc m)) ∙ rw (scale-unscale (suc m) h) })
        (rw (le-leb (unscale (suc m)) 32768 h))
    go (no h) = none (rw (lt-leb (unscale (suc m)) 32768 (omega arith)))

pub gyro-written-then-read : GyroWrittenThenRead
gyro-written-then-read rate v e = go (written rate)
  where
    go : Written rate → hundredths_of v ≡ rate
    go (number x d) = ap (λ (a : Answer ℤ). hundredths_of a.value) (sym e ∙ d) ∙ x.same
    go (none d) = absurd (let h : ◌≡◌ {A = ℕ} 0 9 = ap (λ (a : Answer ℤ). a.number) (sym e ∙ d) in omega arith)

pub gyro-read-then-written : GyroReadThenWritten
unfolding number_of hundredths_of
gyro-read-then-written (pos n) f = rw (unscale-scale n, le-leb n 32767 (omega arith))
gyro-read-then-written (negsuc n) f =
    number-down (scale (suc n)) ∙ rw (unscale-scale (suc n), le-leb (suc n) 32768 (omega arith))

pub gyro-exactly : GyroExactly
gyro-exactly rate = record { given = (stands (written rate), is-given); refused = (stands-not, is-refused (written rate)) }
  where
    stands : Written rate → (number_of rate).number ≡ 0 → StandsFor rate
    stands (number x d) e = x
    stands (none d) e = absurd (let h : ◌≡◌ {A = ℕ} 0 9 = cc in omega arith)

    is-given : StandsFor rate → (number_of rate).number ≡ 0
    is-given x = rw (← x.same) (ap (λ (a : Answer ℤ). a.number) (gyro-read-then-written x.v x.fits))

    stands-not : (number_of rate).number ≡ 9 → StandsFor rate → ⊥
    stands-not e x = omega (arith, is-given x)

    is-refused : Written rate → (StandsFor rate → ⊥) → (number_of rate).number ≡ 9
    is-refused (number x d) h = absurd (h x)
    is-refused (none d) h = cc
