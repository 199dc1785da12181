-- A sentence taken apart and written again is the same.
-- Assumes nothing.
use Prim.Native.Nat.{ℕ, ◌+◌, ◌-◌, ◌*◌, ◌/◌, ◌%◌}
use mathlib.Core.Path.{◌≡◌, refl, sym, ap, ◌∙◌, subst}
use mathlib.Core.Bool.{true}
use mathlib.Core.List.{List, [], ◌∷◌, ◌++◌}
use native.Mathlib.Omega.{arith}
use lib.Dec.{T, eqb→eq}
use lib.ListN.{length, get_or}
use Rattle.checksum.specs.Xor.{xor_of}
use Rattle.framing.specs.Rules.{part}
use Rattle.numbers.specs.Hex.{hex_digit_of}
use Rattle.framing.specs.Nmea.{hex_digit, hex_value}
use Rattle.framing.specs.declared.Format.TheVariants.{Nmea}
use Rattle.framing.specs.Format.{good, body_start, body_end}
use Rattle.framing.specs.Frame.{IsFrame}
use Rattle.framing.proofs.FrameLaws.{frame-means}
use Rattle.content.specs.Body.{body_of}
use Rattle.content.proofs.BodyLaws.{frame-test, body_at}
use Rattle.frame_writer.specs.Frames.{all_permitted, nmea_frame}
use Rattle.framing.proofs.HexLaws.{value-below, digit-of-value}
use Rattle.roundtrip_theorems.proofs.PartLaws.{between, from_end}
use Rattle.roundtrip_theorems.proofs.ShapeBack.{last_five, NmeaEnds, nmea-ends}

-- the two digits of a checksum
digits-again : (n d e : ℕ) → T (hex_digit d) → T (hex_digit e) → n ≡ hex_value d * 16 + hex_value e
    → (hex_digit_of (n / 16) ≡ d) × (hex_digit_of (n % 16) ≡ e)
digits-again n d e hd he q =
    let l = value-below e he in
    let a : n / 16 ≡ hex_value d = omega arith in
    let b : n % 16 ≡ hex_value e = omega arith in
    (ap hex_digit_of a ∙ digit-of-value d hd, ap hex_digit_of b ∙ digit-of-value e he)

-- a sentence with this body and these digits
abbrev line : List ℕ → ℕ → ℕ → List ℕ
line body d e = 0x24 ∷ (body ++ last_five d e)

module _ (body : List ℕ) (d e : ℕ) where
  line-body : part 1 (length (line body d e) - 5) (line body d e) ≡ body
  line-body = between (0x24 ∷ []) body (last_five d e) 1 5 refl refl

  line-xor : T (good Nmea (line body d e)) → xor_of body ≡ hex_value d * 16 + hex_value e
  unfolding good
  line-xor g =
      let l = line body d e in
      let high = from_end (0x24 ∷ body) (last_five d e) 1 4 refl in
      let low = from_end (0x24 ∷ body) (last_five d e) 2 3 refl in
      rw (line-body, high, low) at (eqb→eq (xor_of (part 1 (length l - 5) l)) (hex_value (get_or l (length l - 4) 0) * 16 + hex_value (get_or l (length l - 3) 0)) g)

  line-again : T (hex_digit d) → T (hex_digit e) → T (good Nmea (line body d e)) → nmea_frame body ≡ line body d e
  unfolding nmea_frame
  line-again hd he g = let q = digits-again (xor_of body) d e hd he (line-xor g) in rw (q.0, q.1)

module _ (s : List ℕ) (h : IsFrame Nmea s) where
  apart : NmeaEnds s
  apart = nmea-ends s ((frame-means Nmea s).0 h).0

  is-line : s ≡ line apart.after.body apart.after.high apart.after.low
  is-line = apart.same ∙ ap (λ (l : List ℕ). 0x24 ∷ l) apart.after.same

  is_body : body_of Nmea s ≡ apart.after.body
  unfolding body_start body_end
  is_body = sym (body_at Nmea s ((frame-test Nmea s).1 h) refl refl) ∙ ap (λ (l : List ℕ). part 1 (length l - 5) l) is-line ∙ line-body apart.after.body apart.after.high apart.after.low

  pub body-permitted : all_permitted (body_of Nmea s) ≡ true
  body-permitted = ap all_permitted is_body ∙ apart.after.permitted

  pub nmea-rewritten : nmea_frame (body_of Nmea s) ≡ s
  nmea-rewritten =
      let w = apart.after in
      ap nmea_frame is_body
      ∙ line-again w.body w.high w.low w.first w.second (subst (λ (l : List ℕ). T (good Nmea l)) is-line ((frame-means Nmea s).0 h).1)
      ∙ sym is-line
