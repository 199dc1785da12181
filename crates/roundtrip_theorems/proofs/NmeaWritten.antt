-- A written sentence is one frame.
-- Assumes nothing.
use Prim.Native.Nat.{ℕ, suc, ◌+◌, ◌/◌, ◌%◌, ◌<◌, ◌≤◌}
use mathlib.Core.Path.{◌≡◌, refl, ap, ◌∙◌}
use mathlib.Core.Bool.{true, not, ◌&&◌, and-eq-true_iff}
use mathlib.Core.List.{List, [], ◌∷◌, ◌++◌}
use native.Mathlib.Omega.{arith}
use native.Mathlib.Nat.{div-add-mod'}
use lib.Dec.{T, leb, eqb, eqb_refl}
use lib.ListN.{length, length-append}
use borrow.Author.Tests.{leb-true, not-true, eqb-false, ne_eqb, lt-ltb}
use Rattle.checksum.specs.Xor.{xor_of}
use Rattle.framing.specs.declared.Scanned.TheVariants.{Whole}
use Rattle.framing.specs.Rules.{more}
use Rattle.numbers.specs.Hex.{hex_digit_of}
use Rattle.framing.specs.Nmea.{permitted, hex_digit, body_next, nmea_next}
use Rattle.framing.specs.declared.Format.TheVariants.{Nmea}
use Rattle.framing.specs.Format.{next, good}
use Rattle.framing.specs.Shape.{scan_from, scan}
use Rattle.framing.specs.Meaning.{IsShape, Bytes}
use Rattle.framing.proofs.TestLaws.{true_of}
use Rattle.frame_writer.specs.Frames.{takes, all_permitted, nmea_frame}
use Rattle.roundtrip_theorems.proofs.Bounds.{xor_below}
use Rattle.framing.proofs.HexLaws.{value-of-digit, digit-is}
use Rattle.roundtrip_theorems.proofs.PartLaws.{between, from_end}
use Rattle.roundtrip_theorems.proofs.ShapeBack.{last_five}

-- ---- the body

pub record Body (body : List ℕ) : Type 0 where
  pub some : 1 ≤ length body
  pub most : length body ≤ 76
  pub permitted : all_permitted body ≡ true

pub taken-body : (body : List ℕ) → takes Nmea body ≡ true → Body body
unfolding takes
taken-body body h =
    let a = (and-eq-true_iff (leb 1 (length body) && leb (length body) 76) (all_permitted body)).0 h in
    let b = (and-eq-true_iff (leb 1 (length body)) (leb (length body) 76)).0 a.0 in
    record { some = leb-true 1 (length body) b.0; most = leb-true (length body) 76 b.1; permitted = a.1 }

-- a permitted byte is a byte, and no `*`
permitted-byte : (x : ℕ) → permitted x ≡ true → (x ≤ 0x7E) × (x ≡ 0x2A → ⊥)
permitted-byte x h =
    let a = (and-eq-true_iff (leb 0x20 x && leb x 0x7E && not (eqb x 0x24)) (not (eqb x 0x2A))).0 h in
    let b = (and-eq-true_iff (leb 0x20 x && leb x 0x7E) (not (eqb x 0x24))).0 a.0 in
    let c = (and-eq-true_iff (leb 0x20 x) (leb x 0x7E)).0 b.0 in
    (leb-true x 0x7E c.1, eqb-false x 0x2A (not-true (eqb x 0x2A) a.1))

permitted-bytes : (body : List ℕ) → all_permitted body ≡ true → Bytes body
unfolding all_permitted
permitted-bytes [] h = tt
permitted-bytes (x ∷ body) h =
    let a = (and-eq-true_iff (permitted x) (all_permitted body)).0 h in
    let b = permitted-byte x a.0 in
    (omega arith, permitted-bytes body a.1)

-- ---- the shape

body-byte : (n x : ℕ) → permitted x ≡ true → n < 76 → body_next n x ≡ more 0
unfolding body_next
body-byte n x h l = rw (h, ne_eqb x 0x2A (permitted-byte x h).1, lt-ltb n 76 l)

module _ (c d : ℕ) (first : T (hex_digit c)) (second : T (hex_digit d)) where
  -- from the `*` on, behind n body bytes
  end-scan : (n : ℕ) → 0 < n → scan_from Nmea (suc n) 0 (last_five c d) ≡ Whole (n + 6)
  unfolding scan_from next nmea_next body_next
  end-scan n h = rw (lt-ltb 0 n h, true_of (hex_digit c) first, true_of (hex_digit d) second) (ap Whole (omega arith))

  -- from byte n of the body on
  pub body-scan : (n : ℕ) (body : List ℕ) → all_permitted body ≡ true → 0 < n + length body → n + length body ≤ 76
      → scan_from Nmea (suc n) 0 (body ++ last_five c d) ≡ Whole (n + length body + 6)
  unfolding scan_from next nmea_next all_permitted
  body-scan n [] p h l = end-scan n (omega arith) ∙ ap Whole (omega arith)
  body-scan n (x ∷ body) p h l =
      let a = (and-eq-true_iff (permitted x) (all_permitted body)).0 p in
      rw (body-byte n x a.0 (omega arith)) (body-scan (suc n) body a.1 (omega arith) (omega arith) ∙ ap Whole (omega arith))

-- ---- the frame

module _ (body : List ℕ) (b : Body body) where
  high-below : xor_of body / 16 < 16
  high-below = let h = xor_below body (permitted-bytes body b.permitted) in omega arith

  low_below : xor_of body % 16 < 16
  low_below = omega arith

  pub nmea-shape : IsShape Nmea (nmea_frame body)
  unfolding nmea_frame scan scan_from next nmea_next
  nmea-shape =
      body-scan _ _ (digit-is _ high-below) (digit-is _ low_below) 0 body b.permitted (omega (arith, b.some)) (omega (arith, b.most))
      ∙ ap Whole (omega (arith, length-append body (last_five (hex_digit_of (xor_of body / 16)) (hex_digit_of (xor_of body % 16)))))

  pub nmea-good : T (good Nmea (nmea_frame body))
  unfolding nmea_frame good
  nmea-good =
      let y = last_five (hex_digit_of (xor_of body / 16)) (hex_digit_of (xor_of body % 16)) in
      rw (
        between (0x24 ∷ []) body y 1 5 refl refl,
        from_end (0x24 ∷ body) y 1 4 refl,
        from_end (0x24 ∷ body) y 2 3 refl,
        value-of-digit (xor_of body / 16) high-below,
        value-of-digit (xor_of body % 16) low_below,
        div-add-mod' (xor_of body) 16,
      ) (eqb_refl (xor_of body))
