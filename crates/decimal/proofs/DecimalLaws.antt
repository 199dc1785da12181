-- Laws of decimal digits: how many a number has, and the last of them.
-- Assumes nothing.
use Prim.Native.Nat.{ℕ, zero, suc, ◌+◌, ◌-◌, ◌/◌, ◌%◌, ◌^◌, ◌≤◌, ◌<◌, min}
use mathlib.Core.Path.{◌≡◌, refl, sym, ap, ◌∙◌}
use mathlib.Core.Bool.{cond}
use mathlib.Core.List.{List, [], ◌∷◌}
use native.Mathlib.Decide.{dec_le}
use native.Mathlib.Nat.{one-le-pow}
use native.Mathlib.Omega.{arith}
use lib.Dec.{leb}
use lib.ListN.{length, set, take, length-append}
use borrow.Author.Tests.{le-leb, lt-leb}
use Rattle.buffer.specs.Buffer.{copied}
use Rattle.buffer.proofs.BufferLaws.{copied-last, first-copied}
use Rattle.decimal.specs.Decimal.{last_digits, count_steps, digit_count}

-- ---- how many

-- any number of steps that is large enough gives the same
enough : (m l n : ℕ) → n ≤ m → n ≤ l → count_steps m n ≡ count_steps l n
unfolding count_steps
enough zero zero n p q = refl
enough zero (suc l) n p q = rw (le-leb n 9 (omega arith))
enough (suc m) zero n p q = rw (le-leb n 9 (omega arith))
enough (suc m) (suc l) n p q = ap (λ (k : ℕ). cond (leb n 9) 1 (suc k)) (enough m l (n / 10) (omega arith) (omega arith))

count-step : (n : ℕ) → digit_count n ≡ cond (leb n 9) 1 (suc (digit_count (n / 10)))
unfolding digit_count count_steps
count-step n =
    enough n (suc n) n (omega arith) (omega arith)
    ∙ ap (λ (k : ℕ). cond (leb n 9) 1 (suc k)) (enough n (n / 10) (n / 10) (omega arith) (omega arith))

pub count-one : (n : ℕ) → n ≤ 9 → digit_count n ≡ 1
count-one n h = count-step n ∙ rw (le-leb n 9 h)

pub count-more : (n : ℕ) → 9 < n → digit_count n ≡ suc (digit_count (n / 10))
count-more n h = count-step n ∙ rw (lt-leb n 9 h)

-- at most k + 1 digits below ten to the k + 1
pub count_most : (k n : ℕ) → n < 10 ^ suc k → digit_count n ≤ suc k
count_most zero n h = omega (arith, count-one n (omega arith))
count_most (suc k) n h = go (dec_le n 9) (count_most k (n / 10) (omega arith))
  where
    go : Dec (n ≤ 9) → digit_count (n / 10) ≤ suc k → digit_count n ≤ suc (suc k)
    go (yes p) q = omega (arith, count-one n p)
    go (no p) q = omega (arith, count-more n (omega arith))

-- a number of 64 bits has at most 20
pub count_wide : (n : ℕ) → n < 2 ^ 64 → min (digit_count n) 20 ≡ digit_count n
count_wide n h = omega (arith, count_most 19 n (omega arith))

-- one at least
pub count-some : (n : ℕ) → 0 < digit_count n
count-some n = go (dec_le n 9)
  where
    go : Dec (n ≤ 9) → 0 < digit_count n
    go (yes p) = omega (arith, count-one n p)
    go (no p) = omega (arith, count-more n (omega arith))

-- more than k digits from ten to the k on
pub count-least : (k n : ℕ) → 10 ^ k ≤ n → k < digit_count n
count-least zero n h = count-some n
count-least (suc k) n h =
    let q : 1 ≤ 10 ^ k = one-le-pow k 10 (omega arith) in
    omega (arith, count-more n (omega arith), count-least k (n / 10) (omega arith))

-- the number is below ten to its count
pub count-covers : (n : ℕ) → n < 10 ^ digit_count n
count-covers n = go (dec_le (10 ^ digit_count n) n)
  where
    go : Dec (10 ^ digit_count n ≤ n) → n < 10 ^ digit_count n
    go (yes p) = absurd (omega (arith, count-least (digit_count n) n p))
    go (no p) = omega arith

-- ---- the last digits

pub length_last : (k n : ℕ) → length (last_digits k n) ≡ k
unfolding last_digits
length_last zero n = refl
length_last (suc k) n = omega (arith, length-append (last_digits k (n / 10)) ((0x30 + n % 10) ∷ []), length_last k (n / 10))

-- the last of them put, and then those before it
pub last-laid : (j n : ℕ) (out : List ℕ) (at : ℕ) → 0 < j → at + j ≤ length out
    → copied (last_digits (j - 1) (n / 10)) (set out (at + (j - 1)) (0x30 + n % 10)) at ≡ copied (last_digits j n) out at
unfolding last_digits
last-laid zero n out at h f = absurd (omega arith)
last-laid (suc j) n out at h f =
    let e : suc j - 1 ≡ j = omega arith in
    rw e (copied-last (last_digits j (n / 10)) out (0x30 + n % 10) at j (length_last j (n / 10)) (omega arith))

-- they are put into a buffer
pub last-put : {k : ℕ} (m n : ℕ) (t : List ℕ) {u : List ℕ} → m ≡ k → k ≤ length t → u ≡ copied (last_digits m n) t 0 → take m u ≡ last_digits k n
last-put m n t e h w =
    let l = length_last m n in
    rw w (ap (λ (i : ℕ). take i (copied (last_digits m n) t 0)) (sym l) ∙ first-copied (last_digits m n) t (omega arith)) ∙ ap (λ (i : ℕ). last_digits i n) e
