-- What shapes and frames are, byte by byte (docs/FORMATS.md, "MGL frames", "OnFlight frames", "NMEA sentences"). Together with
-- `FrontExactly` of crates/framing/specs/Meaning.antt, which says what a proper start is, these statements say all that the rules for
-- single bytes (`next`) come to, but for the reasons of skipped bytes.
use Rattle.std.specs.Prelude.{ℕ, ◌+◌, ◌≤◌, ◌≡◌, ◌↔◌, ◌⊎◌, List, [], ◌∷◌, ◌++◌, T, length}
use Rattle.framing.specs.Mgl.{length_from_byte}
use Rattle.framing.specs.declared.Format.{Format}
use Rattle.framing.specs.declared.Format.TheVariants.{Mgl, Onflight, Nmea, Unknown}
use Rattle.framing.specs.Format.{known, shortest, longest}
use Rattle.framing.specs.Meaning.{IsShape, Bytes}
use Rattle.framing.specs.Frame.{IsFrame}
use Rattle.frame_writer.specs.Frames.{Content, frame_of}
use Rattle.roundtrip_theorems.specs.FrameTrips.{IsContent}

-- a byte of a sentence's body: 20 to 7E hex, other than `$` and `*`
abbrev pub IsBodyByte : ℕ → Type 0
IsBodyByte b = (0x20 ≤ b) × (b ≤ 0x7E) × (b ≡ 0x24 → ⊥) × (b ≡ 0x2A → ⊥)

abbrev pub AreBodyBytes : List ℕ → Type 0
AreBodyBytes [] = Unit {0}
AreBodyBytes (b ∷ bs) = IsBodyByte b × AreBodyBytes bs

-- one of 0-9 A-F
abbrev pub IsHexDigit : ℕ → Type 0
IsHexDigit d = ((0x30 ≤ d) × (d ≤ 0x39)) ⊎ ((0x41 ≤ d) × (d ≤ 0x46))

-- the bodies that frames of a format have
abbrev pub IsBody : Format → List ℕ → Type 0
IsBody Mgl body = (9 ≤ length body) × (length body ≤ 264)
IsBody Onflight payload = length payload ≡ 152
IsBody Nmea body = (1 ≤ length body) × (length body ≤ 76) × AreBodyBytes body
IsBody Unknown body = ⊥

-- ---- shapes: the checksum is not looked at

-- 05 02 L X and L + 16 bytes more, any; X is 255 less L, and L = 0 stands for 256
pub record MglShape (s : List ℕ) : Type 0 where
  pub len : ℕ
  pub complement : ℕ
  pub rest : List ℕ
  pub same : s ≡ 0x05 ∷ 0x02 ∷ len ∷ complement ∷ rest
  pub sum : len + complement ≡ 255
  pub long : length_from_byte len + 20 ≡ length s

-- 42 46 01 98 and 154 bytes more, any
pub record OnflightShape (s : List ℕ) : Type 0 where
  pub rest : List ℕ
  pub same : s ≡ 0x42 ∷ 0x46 ∷ 0x01 ∷ 0x98 ∷ rest
  pub long : 158 ≡ length s

-- `$`, a body, `*`, two digits, CR, LF
pub record NmeaShape (s : List ℕ) : Type 0 where
  pub body : List ℕ
  pub high : ℕ
  pub low : ℕ
  pub permitted : IsBody Nmea body
  pub first : IsHexDigit high
  pub second : IsHexDigit low
  pub same : s ≡ 0x24 ∷ (body ++ 0x2A ∷ high ∷ low ∷ 0x0D ∷ 0x0A ∷ [])

abbrev pub Shaped : Format → List ℕ → Type 0
Shaped Mgl s = MglShape s
Shaped Onflight s = OnflightShape s
Shaped Nmea s = NmeaShape s
Shaped Unknown s = ⊥

-- Bytes are a shape of a format exactly if they are these bytes.
abbrev pub ShapesExactly : Type 0
ShapesExactly = (f : Format) (s : List ℕ) → IsShape f s ↔ Shaped f s

-- A shape of n bytes.
pub record ShapeOf (f : Format) (n : ℕ) : Type 0 where
  pub bytes : List ℕ
  pub shape : IsShape f bytes
  pub long : length bytes ≡ n

-- Some shape of a format is as short as its layout says, and some is as long.
abbrev pub LayoutTight : Type 0
LayoutTight = (f : Format) → T (known f) → ShapeOf f (shortest f) × ShapeOf f (longest f)

-- ---- frames

-- The bytes s are some content, laid out as the writers do; an MGL writer takes fewer bodies than frames have.
pub record LaidOut (f : Format) (s : List ℕ) : Type 0 where
  pub content : Content
  pub bytes : IsContent content
  pub body : IsBody f content.body
  pub same : s ≡ frame_of f content

-- Bytes are a frame of a format exactly if they are some content, laid out:
-- MGL: 05 02 L X type rate count version, a body of 9 to 264 bytes, CRC-32; L is the body's length less 8, and 256 is sent as 0
-- OnFlight: 42 46 01 98, a payload of 152 bytes, Fletcher's sums
-- NMEA: `$`, a body of 1 to 76 permitted bytes, `*`, two digits, CR, LF
abbrev pub FramesExactly : Type 0
FramesExactly = (f : Format) (s : List ℕ) → Bytes s → IsFrame f s ↔ LaidOut f s
