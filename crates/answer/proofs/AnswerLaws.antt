-- Laws of `unless`, where its test holds and where it fails; what a call that answers the test says in `if !call { return .. }`;
-- `answers`, the rules by which `search` follows the tests of a field function to its answer; and that no refusal has
-- the number 0.
-- Assumes nothing.
use Prim.Native.Nat.{ℕ, ◌<◌, ◌≤◌}
use mathlib.Core.Path.{◌≡◌, sym, ap, ◌∙◌}
use mathlib.Core.Bool.{Bool, true, false, not}
use native.Mathlib.Omega.{arith}
use lib.Dec.{leb, eqb}
use borrow.Author.Tests.{not-true, not-false, le-leb, lt-leb, ne_eqb}
use Rattle.answer.specs.declared.Refusal.{Refusal}
use Rattle.answer.specs.declared.Refusal.TheVariants.{PieceTooLong, Closed, LineTooLong, PieceOutputTooSmall, NotWritable, OutputTooSmall, NotOneFrame, OtherMessage, OutOfForm, BrokenToc, BrokenReader}
use Rattle.answer.specs.Answer.{Answer, given, refused, unless, refusal_number}

module _ {A : Type 0} {b : Bool} where
  pub passes : {a : Answer A} (z : A) (n : ℕ) → b ≡ true → a ≡ unless z b n a
  passes z n e = rw e

  -- the test holds, and the tests after it answer x
  pub after : {x a : Answer A} (z : A) (n : ℕ) → b ≡ true → x ≡ a → x ≡ unless z b n a
  after z n e h = rw e h

  pub fails : {z : A} {n : ℕ} (a : Answer A) → b ≡ false → refused z n ≡ unless z b n a
  fails a e = rw e

-- r is what the call returned, b the test
module _ {r b : Bool} (e : r ≡ b) where
  pub held : not r ≡ false → b ≡ true
  held h = sym e ∙ not-false r h

  pub failed : not r ≡ true → b ≡ false
  failed h = sym e ∙ not-true r h

-- a number r, whose contract says b, and a test of it
module _ {r b n : ℕ} (e : r ≡ b) where
  pub at_most : r ≤ n → leb b n ≡ true
  at_most h = rw (← e) (le-leb r n h)

  pub above : n < r → leb b n ≡ false
  above h = rw (← e) (lt-leb r n h)

pub done : {A : Type 0} {x y : A} → x ≡ y → given x ≡ given y
done e = ap given e

pub ruleset answers = (after, fails, held, failed, at_most, above, done)

-- 0 is done, and the number of no refusal
pub never-0 : (r : Refusal) → refusal_number r ≡ 0 → ⊥
never-0 PieceTooLong e = omega arith
never-0 Closed e = omega arith
never-0 LineTooLong e = omega arith
never-0 PieceOutputTooSmall e = omega arith
never-0 NotWritable e = omega arith
never-0 OutputTooSmall e = omega arith
never-0 NotOneFrame e = omega arith
never-0 OtherMessage e = omega arith
never-0 OutOfForm e = omega arith
never-0 BrokenToc e = omega arith
never-0 BrokenReader e = omega arith

pub not_done : (r : Refusal) → eqb (refusal_number r) 0 ≡ false
not_done r = ne_eqb (refusal_number r) 0 (never-0 r)
