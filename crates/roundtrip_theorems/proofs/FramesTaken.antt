-- Which frames the writers take.
-- Assumes nothing.
use Prim.Native.Nat.{ℕ, ◌%◌, ◌≤◌}
use mathlib.Core.Path.{◌≡◌, refl}
use mathlib.Core.Bool.{Bool, true, false, ◌&&◌}
use native.Mathlib.Omega.{arith}
use lib.Dec.{eqb, leb}
use lib.ListN.{length}
use borrow.Author.Tests.{le-leb, eqb-true, eq-eqb}
use Rattle.framing.specs.declared.Format.TheVariants.{Mgl, Onflight, Nmea, Unknown}
use Rattle.framing.specs.Format.{shortest, longest, body_start, body_end}
use Rattle.content.specs.Body.{body_of}
use Rattle.content.proofs.BodyLaws.{frame-test, frame-long, frame-short, onflight-length, body-length}
use Rattle.frame_writer.specs.Frames.{takes}
use Rattle.roundtrip_theorems.specs.FrameTrips.{FramesTaken}
use Rattle.roundtrip_theorems.proofs.NmeaRewritten.{body-permitted}

-- between 9 and 264, a multiple of 4 is at least 12
mgl-taken : (n : ℕ) → 9 ≤ n → n ≤ 264 → (leb 12 n && leb n 264 && eqb (n % 4) 0) ≡ eqb (n % 4) 0
mgl-taken n a b = go (eqb (n % 4) 0) refl
  where
    none : (t : Bool) → (t && false) ≡ false
    none true = refl
    none false = refl

    go : (t : Bool) → eqb (n % 4) 0 ≡ t → (leb 12 n && leb n 264 && t) ≡ t
    go true e = let z = eqb-true (n % 4) 0 e in rw (le-leb 12 n (omega arith), le-leb n 264 b)
    go false e = none (leb 12 n && leb n 264)

pub frames-taken : FramesTaken
unfolding takes body_start body_end shortest longest
frames-taken Mgl s e =
    let h = (frame-test Mgl s).1 e in
    let l = body-length Mgl s h in
    mgl-taken (length (body_of Mgl s)) (omega (arith, frame-long Mgl s h)) (omega (arith, frame-short Mgl s h))
frames-taken Onflight s e =
    let h = (frame-test Onflight s).1 e in
    let l = body-length Onflight s h in
    eq-eqb (length (body_of Onflight s)) 152 (omega (arith, onflight-length s h))
frames-taken Nmea s e =
    let h = (frame-test Nmea s).1 e in
    let l = body-length Nmea s h in
    rw (
      le-leb 1 (length (body_of Nmea s)) (omega (arith, frame-long Nmea s h)),
      le-leb (length (body_of Nmea s)) 76 (omega (arith, frame-short Nmea s h)),
      body-permitted s e,
    )
frames-taken Unknown s e = refl
