-- The frames that the writers make, and the bodies that they take (docs/FORMATS.md, "Writers").
use Rattle.std.specs.Prelude.{ℕ, ◌-◌, ◌/◌, ◌%◌, Bool, true, false, ◌&&◌, List, [], ◌∷◌, ◌++◌, leb, eqb, length}
use Rattle.numbers.specs.Low.{low_bytes}
use Rattle.numbers.specs.Hex.{hex_digit_of}
use Rattle.checksum.specs.Crc.{crc_of}
use Rattle.checksum.specs.Fletcher.{fletcher_of}
use Rattle.checksum.specs.Xor.{xor_of}
use Rattle.framing.specs.Nmea.{permitted}
use Rattle.framing.specs.declared.Format.{Format}
use Rattle.framing.specs.declared.Format.TheVariants.{Mgl, Onflight, Nmea, Unknown}
use Rattle.mgl.specs.declared.Header.{Header}

-- ---- what is taken: refusal 5 is given exactly for the others

-- every byte may stand in the body of a sentence
unfoldable pub all_permitted : List ℕ → Bool
all_permitted [] = true
all_permitted (b ∷ bs) = permitted b && all_permitted bs

unfoldable pub takes : Format → List ℕ → Bool
-- a multiple of 4 from 12 to 264, which keeps the checksum on a 4-byte boundary
takes Mgl body = leb 12 (length body) && leb (length body) 264 && eqb (length body % 4) 0
takes Onflight payload = eqb (length payload) 152
-- 1 to 76 permitted bytes
takes Nmea body = leb 1 (length body) && leb (length body) 76 && all_permitted body
-- No bytes are a frame of an unknown format, and its writer takes no body: refusal 5. This is a case added to document 01's list of 5.
takes Unknown body = false

-- ---- MGL: 05 02 L X, type, rate, count, version, body, and CRC-32 from the type on, low byte first

-- L is the body's length less 8, and 256 is sent as 0
unfoldable pub length_byte : List ℕ → ℕ
length_byte body = (length body - 8) % 256

-- what the checksum is over
unfoldable pub mgl_covered : Header → List ℕ → List ℕ
mgl_covered h body = h.message_type ∷ h.rate ∷ h.count ∷ h.version ∷ body

unfoldable pub mgl_frame : Header → List ℕ → List ℕ
mgl_frame h body =
    0x05 ∷ 0x02 ∷ length_byte body ∷ (255 - length_byte body) ∷ (mgl_covered h body ++ low_bytes 4 (crc_of (mgl_covered h body)))

-- ---- OnFlight: 42 46, version 1, length 152, payload, and Fletcher's sums of all before them, the plain one first

unfoldable pub onflight_covered : List ℕ → List ℕ
onflight_covered payload = 0x42 ∷ 0x46 ∷ 0x01 ∷ 0x98 ∷ payload

unfoldable pub onflight_frame : List ℕ → List ℕ
onflight_frame payload =
    onflight_covered payload ++ (fletcher_of (onflight_covered payload)).plain ∷ (fletcher_of (onflight_covered payload)).weighted ∷ []

-- ---- NMEA: `$`, body, `*`, the exclusive or of the body in two capital digits, CR, LF

unfoldable pub nmea_frame : List ℕ → List ℕ
nmea_frame body = 0x24 ∷ (body ++ 0x2A ∷ hex_digit_of (xor_of body / 16) ∷ hex_digit_of (xor_of body % 16) ∷ 0x0D ∷ 0x0A ∷ [])

-- ---- every format

-- What is given to a writer. MGL alone has a header, and the other writers don't look at it.
pub record Content : Type 0 where
  pub header : Header
  pub body : List ℕ

abbrev pub frame_of : Format → Content → List ℕ
frame_of Mgl c = mgl_frame c.header c.body
frame_of Onflight c = onflight_frame c.body
frame_of Nmea c = nmea_frame c.body
frame_of Unknown c = []
