-- Bytes are a shape exactly if they have the layout of one.
-- Assumes nothing.
use Prim.Native.Nat.{ℕ, zero, suc, ◌+◌, ◌≤◌}
use mathlib.Core.Path.{◌≡◌, refl, sym, ap, ◌∙◌, subst}
use mathlib.Core.Bool.{true}
use mathlib.Core.List.{List, [], ◌∷◌, ◌++◌}
use native.Mathlib.Omega.{arith}
use lib.ListN.{length, replicate, length-append, length-replicate}
use borrow.Author.Tests.{eq-eqb}
use Rattle.framing.specs.declared.Scanned.TheVariants.{Whole}
use Rattle.framing.specs.Mgl.{length_from_byte, mgl_next}
use Rattle.framing.specs.Onflight.{onflight_next}
use Rattle.framing.specs.Nmea.{nmea_next}
use Rattle.framing.specs.declared.Format.{Format}
use Rattle.framing.specs.declared.Format.TheVariants.{Mgl, Onflight, Nmea, Unknown}
use Rattle.framing.specs.Format.{known, shortest, longest, pending_bound, next}
use Rattle.framing.specs.Shape.{scan_from, scan}
use Rattle.framing.specs.Meaning.{IsShape}
use Rattle.framing.proofs.MglLaws.{mgl-counts}
use Rattle.framing.proofs.OnflightLaws.{onflight-counts}
use Rattle.framing.proofs.Length.{whole-within}
use Rattle.frame_writer.specs.Frames.{all_permitted}
use Rattle.roundtrip_theorems.specs.Exactly.{NmeaShape, Shaped, ShapesExactly, ShapeOf, LayoutTight}
use Rattle.roundtrip_theorems.proofs.WordLaws.{body-bytes-are, hex-digit-is}
use Rattle.roundtrip_theorems.proofs.ShapeBack.{last_five, mgl-head, onflight-head, nmea-ends}
use Rattle.roundtrip_theorems.proofs.BinaryWritten.{filled}
use Rattle.roundtrip_theorems.proofs.NmeaWritten.{body-scan}

-- ---- a shape has the layout

nmea-shaped : (s : List ℕ) → IsShape Nmea s → NmeaShape s
unfolding shortest longest pending_bound
nmea-shaped s e =
    let w = nmea-ends s e in
    let x = w.after in
    let b = whole-within Nmea (length s) s e in
    let n : length s ≡ length x.body + 6 =
    omega (arith, ap length w.same, ap length x.same, length-append x.body (last_five x.high x.low))
    in
    record {
      body = x.body;
      high = x.high;
      low = x.low;
      permitted = (omega (arith, b.least), omega (arith, b.most), (body-bytes-are x.body).0 x.permitted);
      first = (hex-digit-is x.high).0 x.first;
      second = (hex-digit-is x.low).0 x.second;
      same = w.same ∙ ap (λ (l : List ℕ). 0x24 ∷ l) x.same;
    }

no-shape : (s : List ℕ) → IsShape Unknown s → ⊥
unfolding scan scan_from next
no-shape [] e = let z : ◌≡◌ {A = ℕ} 0 1 = cc in omega arith
no-shape (x ∷ s) e = let z : ◌≡◌ {A = ℕ} 0 1 = cc in omega arith

laid_out : (f : Format) (s : List ℕ) → IsShape f s → Shaped f s
laid_out Mgl s e = mgl-head s e
laid_out Onflight s e = onflight-head s e
laid_out Nmea s e = nmea-shaped s e
laid_out Unknown s e = no-shape s e

-- ---- what has the layout is a shape

mgl-shape : (l x : ℕ) (rest : List ℕ) → l + x ≡ 255 → length_from_byte l + 20 ≡ 4 + length rest → IsShape Mgl (0x05 ∷ 0x02 ∷ l ∷ x ∷ rest)
unfolding scan scan_from next mgl_next
mgl-shape l x rest e n =
    rw (eq-eqb (l + x) 255 e) (filled Mgl mgl-counts (length_from_byte l + 20) rest (omega arith) n ∙ ap Whole (omega arith))

onflight-shape : (rest : List ℕ) → 158 ≡ 4 + length rest → IsShape Onflight (0x42 ∷ 0x46 ∷ 0x01 ∷ 0x98 ∷ rest)
unfolding scan scan_from next onflight_next
onflight-shape rest n = filled Onflight onflight-counts 158 rest (omega arith) n ∙ ap Whole (omega arith)

nmea-shape : (s : List ℕ) (w : NmeaShape s) → IsShape Nmea (0x24 ∷ (w.body ++ last_five w.high w.low))
unfolding scan scan_from next nmea_next
nmea-shape s w =
    let b = w.permitted in
    body-scan w.high w.low ((hex-digit-is w.high).1 w.first) ((hex-digit-is w.low).1 w.second) 0 w.body ((body-bytes-are w.body).1 b.2) (omega (arith, b.0)) (omega (arith, b.1))
    ∙ ap Whole (omega (arith, length-append w.body (last_five w.high w.low)))

shape : (f : Format) (s : List ℕ) → Shaped f s → IsShape f s
shape Mgl s w =
    subst (IsShape Mgl) (sym w.same) (mgl-shape w.len w.complement w.rest w.sum (omega (arith, w.long, ap length w.same)))
shape Onflight s w =
    subst (IsShape Onflight) (sym w.same) (onflight-shape w.rest (omega (arith, w.long, ap length w.same)))
shape Nmea s w = subst (IsShape Nmea) (sym w.same) (nmea-shape s w)
shape Unknown s w = absurd w

pub shapes-exactly : ShapesExactly
shapes-exactly f s = (laid_out f s, shape f s)

-- ---- the shortest and the longest

-- a head of four bytes that count, and zeros
mgl-of : (l x n : ℕ) → l + x ≡ 255 → length_from_byte l + 20 ≡ 4 + n → ShapeOf Mgl (4 + n)
mgl-of l x n e m =
    let rest : List ℕ = replicate n 0 in
    let z : length rest ≡ n = length-replicate n 0 in
    record { bytes = 0x05 ∷ 0x02 ∷ l ∷ x ∷ rest; shape = mgl-shape l x rest e (omega arith); long = omega arith }

onflight-of : ShapeOf Onflight 158
onflight-of = record { bytes = 0x42 ∷ 0x46 ∷ 0x01 ∷ 0x98 ∷ replicate 154 0; shape = onflight-shape (replicate 154 0) refl; long = refl }

letters : (n : ℕ) → all_permitted (replicate n 0x41) ≡ true
unfolding all_permitted
letters zero = refl
letters (suc n) = letters n

-- n letters, and the digits 00
nmea-of : (n : ℕ) → 1 ≤ n → n ≤ 76 → ShapeOf Nmea (n + 6)
unfolding scan scan_from next nmea_next
nmea-of n a b =
    let body : List ℕ = replicate n 0x41 in
    let z : length body ≡ n = length-replicate n 0x41 in
    let l = length-append body (last_five 0x30 0x30) in
    record {
      bytes = 0x24 ∷ (body ++ last_five 0x30 0x30);
      shape = body-scan 0x30 0x30 tt tt 0 body (letters n) (omega arith) (omega arith) ∙ ap Whole (omega arith);
      long = omega arith;
    }

pub layout-tight : LayoutTight
unfolding known shortest longest
layout-tight Mgl t = (mgl-of 1 254 17 refl refl, mgl-of 0 255 272 refl refl)
layout-tight Onflight t = (onflight-of, onflight-of)
layout-tight Nmea t = (nmea-of 1 (omega arith) (omega arith), nmea-of 76 (omega arith) (omega arith))
layout-tight Unknown t = absurd t
