-- "What a writer makes reads back as what it was given": whole frames of every format.
-- Assumes nothing.
use Prim.Native.Nat.{ℕ}
use mathlib.Core.Path.{◌≡◌, refl, sym, ◌∙◌, subst}
use mathlib.Core.Bool.{true}
use mathlib.Core.List.{List, [], ◌∷◌, ◌++◌}
use native.Mathlib.Omega.{arith}
use lib.ListN.{length}
use Rattle.numbers.proofs.LowBytes.{length-low_bytes}
use Rattle.framing.specs.declared.Format.{Format}
use Rattle.framing.specs.declared.Format.TheVariants.{Mgl, Onflight, Nmea, Unknown}
use Rattle.framing.specs.Format.{body_start, body_end}
use Rattle.framing.specs.Frame.{IsFrame}
use Rattle.framing.proofs.FrameLaws.{frame-means}
use Rattle.content.specs.Body.{is_frame, body_of}
use Rattle.answer.proofs.AnswerLaws.{passes}
use Rattle.content.proofs.BodyLaws.{frame-test, body_at}
use Rattle.mgl.specs.Header.{header_of}
use Rattle.frame_writer.specs.Frames.{takes, mgl_covered, mgl_frame, onflight_covered, onflight_frame, nmea_frame, Content, frame_of}
use Rattle.frame_writer.proofs.WriterLaws.{taken-long}
use Rattle.roundtrip_theorems.specs.FrameTrips.{IsContent, ReadsHeader, ReadsBack, WrittenThenRead}
use Rattle.roundtrip_theorems.proofs.BinaryWritten.{mgl-shape, mgl-good, onflight-shape, onflight-good}
use Rattle.roundtrip_theorems.proofs.MadeLaws.{made-is}
use Rattle.roundtrip_theorems.proofs.NmeaWritten.{taken-body, nmea-shape, nmea-good}
use Rattle.roundtrip_theorems.proofs.PartLaws.{between}

-- ---- the frame

nmea-frame : (body : List ℕ) → takes Nmea body ≡ true → IsFrame Nmea (nmea_frame body)
nmea-frame body t = let b = taken-body body t in (frame-means Nmea (nmea_frame body)).1 (nmea-shape body b, nmea-good body b)

-- What a writer takes, it makes one frame of.
pub frame-of-taken : (f : Format) (c : Content) → IsContent c → takes f c.body ≡ true → IsFrame f (frame_of f c)
unfolding takes mgl_covered
frame-of-taken Mgl c b t =
    let n = taken-long c.body t in
    (frame-means Mgl _).1 (mgl-shape c.header c.body (omega arith) (omega arith), mgl-good c.header c.body b)
frame-of-taken Onflight c b t = (frame-means Onflight _).1 (onflight-shape c.body t, onflight-good c.body)
frame-of-taken Nmea c b t = nmea-frame c.body t
frame-of-taken Unknown c b t = cc

-- ---- the body

-- a body b, with x before it and y behind it
body_reads : (f : Format) (x b y : List ℕ) → IsFrame f (x ++ (b ++ y)) → length x ≡ body_start f → length y ≡ body_end f
    → body_of f (x ++ (b ++ y)) ≡ b
body_reads f x b y h p q =
    sym (body_at f (x ++ (b ++ y)) ((frame-test f (x ++ (b ++ y))).1 h) refl refl) ∙ between x b y (body_start f) (body_end f) p q

nmea-body : (body : List ℕ) → IsFrame Nmea (nmea_frame body) → body_of Nmea (nmea_frame body) ≡ body
unfolding nmea_frame body_start body_end
nmea-body body h = body_reads Nmea (0x24 ∷ []) body _ h refl refl

body-of-frame : (f : Format) (c : Content) → takes f c.body ≡ true → IsFrame f (frame_of f c) → body_of f (frame_of f c) ≡ c.body
unfolding takes body_start body_end mgl_frame mgl_covered onflight_frame onflight_covered
body-of-frame Mgl c t h = body_reads Mgl (0x05 ∷ 0x02 ∷ _ ∷ _ ∷ _ ∷ _ ∷ _ ∷ _ ∷ []) c.body _ h refl (length-low_bytes 4 _)
body-of-frame Onflight c t h = body_reads Onflight (0x42 ∷ 0x46 ∷ 0x01 ∷ 0x98 ∷ []) c.body _ h refl refl
body-of-frame Nmea c t h = nmea-body c.body h
body-of-frame Unknown c t h = cc

-- A sentence that is written is one, and reads as its body.
pub nmea-frame-reads : (body : List ℕ) → takes Nmea body ≡ true
    → (is_frame Nmea (nmea_frame body) ≡ true) × (body_of Nmea (nmea_frame body) ≡ body)
nmea-frame-reads body t = let h = nmea-frame body t in ((frame-test Nmea (nmea_frame body)).1 h, nmea-body body h)

-- ---- the header

header-of-frame : (f : Format) (c : Content) → IsFrame f (frame_of f c) → ReadsHeader f c.header (frame_of f c)
unfolding header_of mgl_frame mgl_covered
header-of-frame Mgl c h = sym (passes _ _ ((frame-test Mgl (frame_of Mgl c)).1 h))
header-of-frame Onflight c h = tt
header-of-frame Nmea c h = tt
header-of-frame Unknown c h = tt

-- ---- all of it

pub frames-written-then-read : WrittenThenRead
frames-written-then-read f c out b e =
    let m = made-is 4 (takes f c.body) (frame_of f c) out e in
    let h = frame-of-taken f c b m.0 in
    subst (ReadsBack f c) (sym m.1) (record { frame = h; body = body-of-frame f c m.0 h; header = header-of-frame f c h })
