-- Whole frames, written and read back, and taken apart and written again (docs/FORMATS.md, "Round trips").
use Rattle.std.specs.Prelude.{ℕ, ◌%◌, ◌≡◌, Bool, true, false, List, ◌∷◌, eqb, length, take}
use Rattle.framing.specs.declared.Format.{Format}
use Rattle.framing.specs.declared.Format.TheVariants.{Mgl, Onflight, Nmea, Unknown}
use Rattle.framing.specs.Meaning.{Bytes}
use Rattle.framing.specs.Frame.{IsFrame}
use Rattle.answer.specs.Answer.{Answer, given}
use Rattle.content.specs.Body.{body_of}
use Rattle.mgl.specs.declared.Header.{Header}
use Rattle.mgl.specs.Header.{header_of}
use Rattle.frame_writer.specs.Frames.{takes, Content}
use Rattle.frame_writer.specs.Output.{Output, write_frame}

-- everything given is bytes
abbrev pub IsContent : Content → Type 0
IsContent c = Bytes (c.header.message_type ∷ c.header.rate ∷ c.header.count ∷ c.header.version ∷ c.body)

-- the bytes that a writer wrote
abbrev pub made : Answer Output → List ℕ
made o = take o.value.written o.value.out

-- a frame taken apart, by the functions that read its header and its body
abbrev pub content_of : Format → List ℕ → Content
content_of f s = record { header = (header_of s).value; body = body_of f s }

abbrev pub ReadsHeader : Format → Header → List ℕ → Type 0
ReadsHeader Mgl h s = header_of s ≡ given h
ReadsHeader Onflight h s = Unit {0}
ReadsHeader Nmea h s = Unit {0}
ReadsHeader Unknown h s = Unit {0}

-- The bytes s are one frame, whole, and read back as the content c.
pub record ReadsBack (f : Format) (c : Content) (s : List ℕ) : Type 0 where
  pub frame : IsFrame f s
  pub body : body_of f s ≡ c.body
  pub header : ReadsHeader f c.header s

-- Demand 2: "What a writer makes reads back as what it was given."
abbrev pub WrittenThenRead : Type 0
WrittenThenRead = (f : Format) (c : Content) (out : List ℕ) → IsContent c → (write_frame f c out).number ≡ 0 → ReadsBack f c (made (write_frame f c out))

-- Demand 2: "A frame whose content that writer takes, taken apart and written again, gives the same bytes."
abbrev pub ReadThenWritten : Type 0
ReadThenWritten = (f : Format) (s out : List ℕ) → Bytes s → IsFrame f s → (write_frame f (content_of f s) out).number ≡ 0 → made (write_frame f (content_of f s) out) ≡ s

-- The frames whose content is taken: of MGL those whose body's length is a multiple of 4, and all of the others.
abbrev pub writable : Format → List ℕ → Bool
writable Mgl body = eqb (length body % 4) 0
writable Onflight body = true
writable Nmea body = true
writable Unknown body = false

abbrev pub FramesTaken : Type 0
FramesTaken = (f : Format) (s : List ℕ) → IsFrame f s → takes f (body_of f s) ≡ writable f (body_of f s)
