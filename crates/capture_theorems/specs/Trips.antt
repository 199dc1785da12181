-- Demand 2 for the functions that C and Rust call (docs/INTERFACE.md): the exported field functions read back what
-- the exported writers make, and the exported writers write again what the field functions read. The contracts of the
-- functions equal the definitions named here: `capture_read` is `read_values`, `capture_write` is `write_frame`,
-- `capture_write_setting` is `write_setting`, `capture_gyro` is `hundredths_of`, and `capture_write_gyro` is
-- `gyro_values`.
use Rattle.std.specs.Prelude.{ℕ, ◌+◌, ◌*◌, ◌%◌, ◌≡◌, cond, List, [], ◌∷◌, map, ◌↔◌, leb, ℤ, pos, length, get_or}
use Rattle.std.specs.Int.{w16}
use Rattle.std.proofs.Common.{SFits}
use Rattle.numbers.specs.Low.{low_bytes}
use Rattle.framing.specs.Rules.{part}
use Rattle.framing.specs.Format.{format_of}
use Rattle.framing.specs.Meaning.{Bytes}
use Rattle.framing.specs.Frame.{IsFrame}
use Rattle.answer.specs.Answer.{Answer}
use Rattle.mgl_gyro.specs.Gyro.{hundredths_of}
use Rattle.nmea_plars.specs.declared.Setting.{Setting}
use Rattle.frame_writer.specs.Output.{Output, write_frame}
use Rattle.nmea_plars_writer.specs.Text.{write_setting}
use Rattle.roundtrip_theorems.specs.FrameTrips.{made}
use Rattle.capture_values.specs.Values.{numbered}
use Rattle.capture_values.specs.FieldFunctions.{read_values, gyro_values}
use Rattle.capture.specs.Write.{content_in}

-- The field function with this number answers 0 for the bytes s, and the values xs, with zeros after them.
abbrev pub Reads : ℕ → List ℕ → List ℕ → Type 0
Reads function s xs = read_values function 0 s ≡ numbered 0 (map pos xs)

-- The answer w of a writer that wrote s in this output: 6 where the output is smaller than s, otherwise 0, and then it made
-- s.
pub record Writes (s out : List ℕ) (w : Answer Output) : Type 0 where
  pub answer : w.number ≡ cond (leb (length s) (length out)) 0 6
  pub same : w.number ≡ 0 → made w ≡ s

-- The item is looked at by field function 104 alone, the tank of its number. So the statements below, which give it as 0,
-- hold for every item.
abbrev pub ItemsOfTanks : Type 0
ItemsOfTanks = (function item : ℕ) (s : List ℕ) → (function ≡ 104 → ⊥) → read_values function item s ≡ read_values function 0 s

-- ---- whole frames

-- Field function n * 100 answers 0 exactly for the bytes that are one frame of format n.
abbrev pub ExportedFramesRead : Type 0
ExportedFramesRead = (n : ℕ) (s : List ℕ) → ((read_values (n * 100) 0 s).number ≡ 0) ↔ IsFrame (format_of n) s

-- `capture_read` takes the bytes s apart as a frame of format n: field function n * 100 gives the start and the
-- end of the body. For MGL, field function 101 gives the header, that is message type, rate, count and version.
pub record TakenApart (n : ℕ) (header body s : List ℕ) : Type 0 where
  pub start : ℕ
  pub end : ℕ
  pub place : Reads (n * 100) s (start ∷ end ∷ [])
  pub between : part start end s ≡ body
  pub head : n ≡ 1 → Reads 101 s header

-- "What a writer makes reads back as what it was given": the body and, for MGL, the four bytes of the header number,
-- low byte first.
abbrev pub ExportedFrameWrittenThenRead : Type 0
ExportedFrameWrittenThenRead =
    (n header : ℕ) (body out : List ℕ) → Bytes body → (write_frame (format_of n) (content_in header body) out).number ≡ 0
    → TakenApart n (low_bytes 4 header) body (made (write_frame (format_of n) (content_in header body) out))

-- "A frame whose content that writer takes, taken apart and written again, gives the same bytes." The writer refuses
-- with 5 exactly the MGL bodies whose length is no multiple of 4, and takes every other frame.
pub record WrittenAgain (n header : ℕ) (body s out : List ℕ) : Type 0 where
  pub refused : ((write_frame (format_of n) (content_in header body) out).number ≡ 5) ↔ ((n ≡ 1) × (length body % 4 ≡ 0 → ⊥))
  pub again : ((write_frame (format_of n) (content_in header body) out).number ≡ 5 → ⊥) → Writes s out (write_frame (format_of n) (content_in header body) out)

-- The header number is made of the four values of field function 101, low byte first. For the other formats it is any number.
abbrev pub ExportedFrameReadThenWritten : Type 0
ExportedFrameReadThenWritten =
    (n message_type rate count version : ℕ) (body s out : List ℕ) → Bytes s
    → TakenApart n (message_type ∷ rate ∷ count ∷ version ∷ []) body s
    → WrittenAgain n (message_type + rate * 256 + count * 65536 + version * 16777216) body s out

-- ---- PLARS settings

abbrev pub ExportedSettingWrittenThenRead : Type 0
ExportedSettingWrittenThenRead =
    (x : Setting) (out : List ℕ) → (write_setting x out).number ≡ 0
    → Reads 304 (made (write_setting x out)) (x.source ∷ x.parameter ∷ x.value ∷ [])

-- The writer takes every setting that is read: it never answers 9.
abbrev pub ExportedSettingReadThenWritten : Type 0
ExportedSettingReadThenWritten =
    (x : Setting) (s out : List ℕ) → Reads 304 s (x.source ∷ x.parameter ∷ x.value ∷ [])
    → Writes s out (write_setting x out)

-- ---- gyro numbers

-- the first value of what is written for a rate
abbrev pub gyro_number : ℤ → ℤ
gyro_number rate = get_or (gyro_values rate).values 0 (pos 0)

-- The gyro number that is written for a rate has 16 bits, and stands for that rate.
abbrev pub ExportedGyroWrittenThenRead : Type 0
ExportedGyroWrittenThenRead =
    (rate : ℤ) → (gyro_values rate).number ≡ 0 → SFits w16 (gyro_number rate) × (hundredths_of (gyro_number rate) ≡ rate)

-- The rate of every gyro number of 16 bits is written as that number.
abbrev pub ExportedGyroReadThenWritten : Type 0
ExportedGyroReadThenWritten = (v : ℤ) → SFits w16 v → gyro_values (hundredths_of v) ≡ numbered 0 (v ∷ [])
