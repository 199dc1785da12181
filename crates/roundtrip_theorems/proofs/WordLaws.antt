-- The tests of a sentence's bytes say what the layouts say.
-- Assumes nothing.
use Prim.Native.Nat.{ℕ, ◌≤◌}
use mathlib.Core.Path.{◌≡◌, refl}
use mathlib.Core.Bool.{Bool, true, false, not, ◌&&◌, ◌||◌, and-eq-true_iff}
use mathlib.Core.Logic.{◌↔◌, ◌⊎◌, inl, inr}
use mathlib.Core.List.{List, [], ◌∷◌}
use native.Mathlib.Omega.{arith}
use lib.Dec.{T, leb, eqb}
use borrow.Author.Tests.{leb-true, not-true, eqb-false, le-leb, lt-leb, ne_eqb}
use Rattle.framing.specs.Nmea.{permitted, hex_digit}
use Rattle.framing.proofs.TestLaws.{true_of}
use Rattle.frame_writer.specs.Frames.{all_permitted}
use Rattle.roundtrip_theorems.specs.Exactly.{IsBodyByte, AreBodyBytes, IsHexDigit}

pub body-byte-is : (b : ℕ) → (permitted b ≡ true) ↔ IsBodyByte b
body-byte-is b = (
  λ h.
      let x = (and-eq-true_iff (leb 0x20 b && leb b 0x7E && not (eqb b 0x24)) (not (eqb b 0x2A))).0 h in
      let y = (and-eq-true_iff (leb 0x20 b && leb b 0x7E) (not (eqb b 0x24))).0 x.0 in
      let z = (and-eq-true_iff (leb 0x20 b) (leb b 0x7E)).0 y.0 in (
        leb-true 0x20 b z.0,
        leb-true b 0x7E z.1,
        eqb-false b 0x24 (not-true (eqb b 0x24) y.1),
        eqb-false b 0x2A (not-true (eqb b 0x2A) x.1),
      ),
  λ h. rw (le-leb 0x20 b h.0, le-leb b 0x7E h.1, ne_eqb b 0x24 h.2, ne_eqb b 0x2A h.3),
)

pub body-bytes-are : (body : List ℕ) → (all_permitted body ≡ true) ↔ AreBodyBytes body
unfolding all_permitted
body-bytes-are [] = (λ h. tt, λ h. refl)
body-bytes-are (b ∷ body) =
    let a = and-eq-true_iff (permitted b) (all_permitted body) in (
      λ h. ((body-byte-is b).0 (a.0 h).0, (body-bytes-are body).0 (a.0 h).1),
      λ h. a.1 ((body-byte-is b).1 h.0, (body-bytes-are body).1 h.1),
    )

pub hex-digit-is : (d : ℕ) → T (hex_digit d) ↔ IsHexDigit d
hex-digit-is d = (pick (leb 0x30 d && leb d 0x39) (leb 0x41 d && leb d 0x46) (between 0x30 0x39) (between 0x41 0x46), back)
  where
    between : (l n : ℕ) → (leb l d && leb d n) ≡ true → (l ≤ d) × (d ≤ n)
    between l n e = let a = (and-eq-true_iff (leb l d) (leb d n)).0 e in (leb-true l d a.0, leb-true d n a.1)

    pick : {P Q : Type 0} (t u : Bool) → (t ≡ true → P) → (u ≡ true → Q) → T (t || u) → P ⊎ Q
    pick true u p q h = inl (p refl)
    pick false u p q h = inr (q (true_of u h))

    back : IsHexDigit d → T (hex_digit d)
    back (inl h) = rw (le-leb 0x30 d h.0, le-leb d 0x39 h.1) tt
    back (inr h) = rw (le-leb 0x30 d (omega arith), lt-leb d 0x39 (omega arith), le-leb 0x41 d h.0, le-leb d 0x46 h.1) tt
