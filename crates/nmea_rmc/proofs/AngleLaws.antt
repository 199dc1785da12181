-- The size of an angle, from the tests of its field's shape and from the numbers of its three parts.
-- Assumes nothing.
use mathlib.Core.Path.{◌≡◌, refl}
use mathlib.Core.List.{List}
use Prim.Native.Nat.{ℕ, ◌+◌, ◌-◌, ◌*◌, ◌<◌, ◌≤◌}
use native.Mathlib.Nat.{sub-zero}
use native.Mathlib.Omega.{arith}
use lib.ListN.{length, get_or, take, drop, length-drop}
use lib.Seq.{take_all}
use borrow.Author.Tests.{le-leb, lt-leb, eq-eqb, ne_eqb, lt-ltb, le-ltb}
use Rattle.std.specs.Prelude.{Option, Some, None}
use Rattle.nmea_sentence.specs.Digits.{digits_of}
use Rattle.nmea_rmc.specs.Angle.{angle_sum, angle_of}

-- ---- the sum, where one part is enough to refuse it

sum-no-minutes : (d f : Option ℕ) → angle_sum d None f ≡ None
sum-no-minutes None f = refl
sum-no-minutes (Some d) f = refl

sum-no-parts : (d m : Option ℕ) → angle_sum d m None ≡ None
sum-no-parts None m = refl
sum-no-parts (Some d) None = refl
sum-no-parts (Some d) (Some m) = refl

sum-high-minutes : (d f : Option ℕ) (m : ℕ) → 60 ≤ m → angle_sum d (Some m) f ≡ None
sum-high-minutes None f m h = refl
sum-high-minutes (Some d) None m h = refl
sum-high-minutes (Some d) (Some f) m h = rw (le-ltb m 60 h)

-- ---- the parts of a field as the code cuts them, where the degrees end at k

abbrev degrees_at : ℕ → List ℕ → Option ℕ
degrees_at k s = digits_of (take (k - 0) (drop 0 s))

abbrev minutes_at : ℕ → List ℕ → Option ℕ
minutes_at k s = digits_of (take (k + 2 - k) (drop k s))

abbrev parts_at : ℕ → List ℕ → Option ℕ
parts_at k s = digits_of (take (length s - (k + 3)) (drop (k + 3) s))

-- ---- the field

module _ (most : ℕ) (s : List ℕ) where
  pub short : length s < 9 → None ≡ angle_of most s
  unfolding angle_of
  short h = rw (lt-leb 9 (length s) h)

  pub many : 9 ≤ length s → most < length s - 8 → None ≡ angle_of most s
  unfolding angle_of
  many h k = rw (le-leb 9 (length s) h, lt-leb (length s - 8) most k)

  pub no-point : 9 ≤ length s → length s - 8 ≤ most → (get_or s (length s - 8 + 2) 0 ≡ 0x2E → ⊥) → None ≡ angle_of most s
  unfolding angle_of
  no-point h k p = rw (le-leb 9 (length s) h, le-leb (length s - 8) most k, ne_eqb (get_or s (length s - 8 + 2) 0) 0x2E p)

  -- the length and the point are right
  pub record Shape : Type 0 where
    pub long : 9 ≤ length s
    pub few : length s - 8 ≤ most
    pub point : get_or s (length s - 8 + 2) 0 ≡ 0x2E

  module _ (g : Shape) where
    joined : angle_sum (degrees_at (length s - 8) s) (minutes_at (length s - 8) s) (parts_at (length s - 8) s) ≡ angle_of most s
    unfolding angle_of
    joined =
        rw (
          le-leb 9 (length s) g.long,
          le-leb (length s - 8) most g.few,
          eq-eqb (get_or s (length s - 8 + 2) 0) 0x2E g.point,
          sub-zero (length s - 8),
          let z : length s - 8 + 2 - (length s - 8) ≡ 2 = omega arith in z,
          take_all (length s - (length s - 8 + 3)) (drop (length s - 8 + 3) s) (simp length-drop (omega arith)),
        )

    pub no-degrees : None ≡ degrees_at (length s - 8) s → None ≡ angle_of most s
    no-degrees p = rw (← p) at joined

    pub no-minutes : None ≡ minutes_at (length s - 8) s → None ≡ angle_of most s
    no-minutes q = rw (← q, sum-no-minutes) at joined

    pub no-parts : None ≡ parts_at (length s - 8) s → None ≡ angle_of most s
    no-parts r = rw (← r, sum-no-parts) at joined

    module _ {m : ℕ} (q : Some m ≡ minutes_at (length s - 8) s) where
      pub high-minutes : 60 ≤ m → None ≡ angle_of most s
      high-minutes h = rw (← q, sum-high-minutes) at joined

      pub whole : {d f : ℕ} → Some d ≡ degrees_at (length s - 8) s → Some f ≡ parts_at (length s - 8) s → m < 60 → Some (d * 6000000 + m * 100000 + f) ≡ angle_of most s
      whole p r h = rw (← p, ← q, ← r, lt-ltb m 60 h) at joined
