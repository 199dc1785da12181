-- What the outcome of a test says. Assumes nothing.
use Rattle.std.proofs.Common.{◌≡◌, ℕ, ◌<◌, Bool, true, false, cond, T, refl, arith}

pub true_of : (t : Bool) → T t → t ≡ true
true_of true h = refl
true_of false h = absurd h

-- A refusal that was not given: its test failed, and a later one decided.
pub past : (t : Bool) (a y : ℕ) → 0 < a → cond t a y ≡ 0 → (t ≡ false) × (y ≡ 0)
past true a y h e = absurd (omega arith)
past false a y h e = (refl, e)
