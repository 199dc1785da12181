-- Whole frames, taken apart and written again: the bytes are the same.
-- Assumes nothing.
use Prim.Native.Nat.{ℕ}
use mathlib.Core.Path.{◌≡◌, ◌∙◌}
use mathlib.Core.Bool.{true}
use mathlib.Core.List.{List}
use Rattle.framing.specs.declared.Format.{Format}
use Rattle.framing.specs.declared.Format.TheVariants.{Mgl, Onflight, Nmea, Unknown}
use Rattle.framing.specs.Meaning.{Bytes}
use Rattle.framing.specs.Frame.{IsFrame}
use Rattle.content.specs.Body.{body_of}
use Rattle.frame_writer.specs.Frames.{takes, frame_of}
use Rattle.roundtrip_theorems.specs.FrameTrips.{content_of, ReadThenWritten}
use Rattle.roundtrip_theorems.proofs.BinaryRewritten.{mgl-rewritten, onflight-rewritten}
use Rattle.roundtrip_theorems.proofs.MadeLaws.{made-is}
use Rattle.roundtrip_theorems.proofs.NmeaRewritten.{nmea-rewritten}

-- the frame of what a frame holds, whatever the output
pub rewritten : (f : Format) (s : List ℕ) → Bytes s → IsFrame f s → takes f (body_of f s) ≡ true → frame_of f (content_of f s) ≡ s
unfolding takes
rewritten Mgl s b h t = mgl-rewritten s b h
rewritten Onflight s b h t = onflight-rewritten s h
rewritten Nmea s b h t = nmea-rewritten s h
rewritten Unknown s b h t = cc

pub frames-read-then-written : ReadThenWritten
frames-read-then-written f s out b h e =
    let m = made-is 4 (takes f (body_of f s)) (frame_of f (content_of f s)) out e in
    m.1 ∙ rewritten f s b h m.0
