-- A written MGL or OnFlight frame is one frame.
-- Assumes nothing.
use Prim.Native.Nat.{ℕ, ◌+◌, ◌-◌, ◌%◌, ◌<◌, ◌≤◌}
use mathlib.Core.Path.{◌≡◌, refl, sym, ap, ◌∙◌}
use mathlib.Core.Bool.{true}
use mathlib.Core.List.{List, [], ◌∷◌, ◌++◌}
use native.Mathlib.Decide.{dec_lt}
use native.Mathlib.Nat.{mod-eq_of_lt}
use native.Mathlib.Omega.{arith}
use lib.Dec.{T, eqb_refl}
use lib.ListN.{length, length-append}
use lib.Seq.{take_at}
use borrow.Author.Tests.{le-leb, eqb-true, eq-eqb}
use Rattle.numbers.specs.Low.{low_bytes}
use Rattle.numbers.proofs.LowBytes.{length-low_bytes, low-low_bytes}
use Rattle.checksum.specs.Crc.{crc_of}
use Rattle.checksum.specs.Fletcher.{fletcher_of}
use Rattle.framing.specs.declared.Scanned.TheVariants.{Whole}
use Rattle.framing.specs.Mgl.{length_from_byte, mgl_next}
use Rattle.framing.specs.Onflight.{onflight_next}
use Rattle.framing.specs.declared.Format.{Format}
use Rattle.framing.specs.declared.Format.TheVariants.{Mgl, Onflight}
use Rattle.framing.specs.Format.{next, good}
use Rattle.framing.specs.Shape.{scan_from, scan}
use Rattle.framing.specs.Meaning.{IsShape, Bytes}
use Rattle.framing.proofs.ShapeLaws.{CountsFrom, counted}
use Rattle.framing.proofs.MglLaws.{mgl-counts, length-itself}
use Rattle.framing.proofs.OnflightLaws.{onflight-counts}
use Rattle.mgl.specs.declared.Header.{Header}
use Rattle.frame_writer.specs.Frames.{takes, length_byte, mgl_covered, mgl_frame, onflight_covered, onflight_frame}
use Rattle.roundtrip_theorems.proofs.Bounds.{crc-below}
use Rattle.roundtrip_theorems.proofs.PartLaws.{behind, between, from_end}

-- a shape that counts, with exactly so many bytes behind its head
pub filled : (f : Format) → CountsFrom f 4 → (m : ℕ) (xs : List ℕ) → 4 < m → m ≡ 4 + length xs → scan_from f 4 m xs ≡ Whole m
filled f c m xs h e = counted f 4 c 4 m xs (omega arith) h ∙ rw (le-leb m (4 + length xs) (omega arith))

-- ---- MGL

-- a length that a byte says, where 0 stands for 256
length-said : (n : ℕ) → 0 < n → n ≤ 256 → length_from_byte (n % 256) ≡ n
length-said n h l = go (dec_lt n 256)
  where
    go : Dec (n < 256) → length_from_byte (n % 256) ≡ n
    go (yes p) = rw (mod-eq_of_lt p) (length-itself n (omega arith))
    go (no p) = let e : n ≡ 256 = omega arith in rw e

abbrev head : List ℕ → List ℕ
head body = 0x05 ∷ 0x02 ∷ length_byte body ∷ (255 - length_byte body) ∷ []

module _ (h : Header) (body : List ℕ) where
  covered-length : length (mgl_covered h body) ≡ 4 + length body
  unfolding mgl_covered
  covered-length = omega arith

  pub mgl-shape : 9 ≤ length body → length body ≤ 264 → IsShape Mgl (mgl_frame h body)
  unfolding mgl_frame length_byte scan scan_from next mgl_next
  mgl-shape p q =
      let y = low_bytes 4 (crc_of (mgl_covered h body)) in
      let l = length-said (length body - 8) (omega arith) (omega arith) in
      let m : length_from_byte ((length body - 8) % 256) + 20 ≡ 4 + length (mgl_covered h body ++ y) =
      omega (arith, covered-length, length-append (mgl_covered h body) y, length-low_bytes 4 (crc_of (mgl_covered h body)))
      in
      rw (eq-eqb ((length body - 8) % 256 + (255 - (length body - 8) % 256)) 255 (omega arith))
      (filled Mgl mgl-counts _ (mgl_covered h body ++ y) (omega arith) m ∙ ap Whole (omega arith))

  pub mgl-good : Bytes (mgl_covered h body) → T (good Mgl (mgl_frame h body))
  unfolding mgl_frame good
  mgl-good b =
      let n = crc_of (mgl_covered h body) in
      let e = length-low_bytes 4 n in
      rw (
        between (head body) (mgl_covered h body) (low_bytes 4 n) 4 4 refl e,
        behind (head body ++ mgl_covered h body) (low_bytes 4 n) 4 e,
        low-low_bytes 4 n (head body ++ mgl_covered h body),
        mod-eq_of_lt (crc-below (mgl_covered h body) b),
      ) (eqb_refl n)

-- ---- OnFlight

module _ (payload : List ℕ) where
  pub onflight-shape : takes Onflight payload ≡ true → IsShape Onflight (onflight_frame payload)
  unfolding takes onflight_frame onflight_covered scan scan_from next onflight_next
  onflight-shape t =
      let y = (fletcher_of (onflight_covered payload)).plain ∷ (fletcher_of (onflight_covered payload)).weighted ∷ [] in
      let m : 158 ≡ 4 + length (payload ++ y) = omega (arith, length-append payload y, eqb-true (length payload) 152 t) in
      filled Onflight onflight-counts 158 (payload ++ y) (omega arith) m ∙ ap Whole (omega arith)

  pub onflight-good : T (good Onflight (onflight_frame payload))
  unfolding onflight_frame good
  onflight-good =
      let c = onflight_covered payload in
      let p = (fletcher_of c).plain in
      let w = (fletcher_of c).weighted in
      rw (
        take_at c (p ∷ w ∷ []) _ (sym (behind c (p ∷ w ∷ []) 2 refl)),
        from_end c (p ∷ w ∷ []) 0 2 refl,
        from_end c (p ∷ w ∷ []) 1 1 refl,
        eq-eqb p p refl,
        eq-eqb w w refl,
      ) tt
