-- Laws of the fuel functions: the body's first number as a count, the bytes of a tank, and how the answer for a tank goes on from that for the count.
-- Assumes nothing.
use Prim.Native.Nat.{ℕ, ◌+◌, ◌*◌, ◌^◌, ◌<◌, ◌≤◌}
use mathlib.Core.Path.{◌≡◌, refl, sym, ap, ◌∙◌}
use mathlib.Core.Bool.{Bool, true, false, cond}
use mathlib.Core.List.{List}
use native.Mathlib.Decide.{dec_lt}
use native.Mathlib.Omega.{arith}
use lib.Dec.{eqb, ltb}
use lib.IntN.{ℤ}
use lib.ListN.{length, get_or, take, drop}
use borrow.Author.Tests.{ne_eqb, lt-ltb, le-ltb}
use mir.Syntax.{w32}
use Rattle.numbers.specs.Low.{low, signed}
use Rattle.numbers.proofs.Part.{part-byte, part_low}
use Rattle.numbers.proofs.Signed.{small, below-zero}
use Rattle.framing.specs.declared.Format.TheVariants.{Mgl}
use Rattle.std.specs.Prelude.{Result, Ok, Err, IsErrAnd}
use Rattle.answer.specs.Answer.{Answer, given, refused, unless, refusal_number}
use Rattle.content.specs.Body.{is_frame}
use Rattle.answer.specs.declared.Refusal.{Refusal}
use Rattle.content.specs.Shared.{judged}
use Rattle.mgl.proofs.SizeLaws.{judged_short, judging}
use Rattle.answer.proofs.AnswerLaws.{after, fails, not_done}
use Rattle.mgl.specs.declared.fuel.Tank.{Tank}
use Rattle.mgl.specs.Fuel.{is_fuel, tanks, equals, count_agrees, tank_count_of, tank_at, no_tank, tank_answer, tank_of}

-- a number below half is the signed number of n exactly where it is n
same_number : (n k : ℕ) → k < 2 ^ 31 → equals (signed w32 n) k ≡ eqb n k
same_number n k h = go (dec_lt n (2 ^ 31))
  where
    go : Dec (n < 2 ^ 31) → equals (signed w32 n) k ≡ eqb n k
    go (yes p) = ap (λ (z : ℤ). equals z k) (small w32 p)
    go (no p) = ap (λ (z : ℤ). equals z k) (below-zero w32 {n = n} (omega arith)) ∙ sym (ne_eqb n k (λ e. omega arith))

-- a frame is short, so the sign of the body's first number does not matter
pub count_by_bits : (s : List ℕ) (r : Refusal) {u : Unit {0}} → Ok u ≡ judged (is_frame Mgl s) r → count_agrees s ≡ eqb (low 4 s 8) (tanks s)
unfolding count_agrees tanks
count_by_bits s r e = same_number (low 4 s 8) (tanks s) (omega (arith, judged_short s r e))

pub ruleset counting = (judging, count_by_bits)

-- the n bytes from `at` on are those of tank i: their numbers are the tank
module _ (s : List ℕ) (i : ℕ) {at n : ℕ} (a : at ≡ 12 + 8 * i) (b : n ≡ 8) where
  pub tank-part : {level : ℤ} {kind on sensors : ℕ}
      → level ≡ signed w32 (low 4 (take n (drop at s)) 0) → kind ≡ get_or (take n (drop at s)) 4 0
      → on ≡ get_or (take n (drop at s)) 5 0 → sensors ≡ low 2 (take n (drop at s)) 6
      → record { level = level; kind = kind; on = on; sensors = sensors } ≡ tank_at s i
  unfolding tank_at
  tank-part level kind on sensors =
      cc (
        level,
        part_low s at n 4 0 {m = 8 + (4 + 8 * i)} (omega arith) (omega arith),
        kind,
        part-byte s at n 4 {m = 8 + (4 + 8 * i + 4)} (omega arith) (omega arith),
        on,
        part-byte s at n 5 {m = 8 + (4 + 8 * i + 5)} (omega arith) (omega arith),
        sensors,
        part_low s at n 2 6 {m = 8 + (4 + 8 * i + 6)} (omega arith) (omega arith),
      )

-- ---- the answer for a tank, from that for the count: where the count is not refused it goes on, and else both refuse alike

abbrev onward : Answer ℕ → (ℕ → Answer Tank) → Answer Tank
onward a f = cond (eqb a.number 0) (f a.value) (refused no_tank a.number)

same_tests : (a b d : Bool) (k : ℕ) (f : ℕ → Answer Tank)
    → onward (unless 0 a 7 (unless 0 b 8 (unless 0 d 9 (given k)))) f ≡ unless no_tank a 7 (unless no_tank b 8 (unless no_tank d 9 (f k)))
same_tests false b d k f = refl
same_tests true false d k f = refl
same_tests true true false k f = refl
same_tests true true true k f = refl

count_most : (a b d : Bool) (k : ℕ) → (unless 0 a 7 (unless 0 b 8 (unless 0 d 9 (given k)))).value ≤ k
count_most false b d k = omega arith
count_most true false d k = omega arith
count_most true true false k = omega arith
count_most true true true k = omega arith

module _ (s : List ℕ) (i : ℕ) where
  abbrev indexed : ℕ → Answer Tank
  indexed k = unless no_tank (ltb i k) 9 (given (tank_at s i))

  goes_on : onward (tank_count_of s) indexed ≡ tank_of s i
  unfolding tank_count_of tank_of
  goes_on = same_tests (is_frame Mgl s) (is_fuel s) (count_agrees s) (tanks s) indexed

  -- q is the refusal of the count, which x hands on
  pub tank_refused : (q : Refusal) (x : Result Tank Refusal) → IsErrAnd x (λ y. y ≡ q) → refused 0 (refusal_number q) ≡ tank_count_of s
      → tank_answer x ≡ tank_of s i
  tank_refused q (Ok t) h e = absurd h
  tank_refused q (Err y) h e = rw (← goes_on, ← e, not_done) (ap (λ (z : Refusal). refused no_tank (refusal_number z)) h)

  -- k is the count
  module _ (k : ℕ) (e : given k ≡ tank_count_of s) where
    counted-on : indexed k ≡ tank_of s i
    counted-on = rw (← e) at goes_on

    pub tank_inside : i < k → 12 + 8 * i + 8 ≤ length s
    unfolding tank_count_of tanks
    tank_inside h =
        let v : k ≡ (tank_count_of s).value = ap (λ (x : Answer ℕ). x.value) e in
        let m : (tank_count_of s).value ≤ tanks s = count_most (is_frame Mgl s) (is_fuel s) (count_agrees s) (tanks s) in
        omega arith

    pub tank_past : k ≤ i → refused no_tank 9 ≡ tank_of s i
    tank_past h = fails _ (le-ltb i k h) ∙ counted-on

    pub tank_there : {t : Tank} → i < k → t ≡ tank_at s i → given t ≡ tank_of s i
    tank_there h q = after _ _ (lt-ltb i k h) (ap given q) ∙ counted-on
