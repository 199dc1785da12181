-- Bytes are a frame exactly if they are the layout of some content.
-- Assumes nothing.
use Prim.Native.Nat.{ℕ, ◌-◌}
use mathlib.Core.Path.{◌≡◌, refl, sym, subst}
use mathlib.Core.Bool.{true}
use mathlib.Core.List.{List}
use native.Mathlib.Omega.{arith}
use lib.ListN.{length, drop}
use borrow.Author.Tests.{eq-eqb}
use Rattle.framing.specs.declared.Format.{Format}
use Rattle.framing.specs.declared.Format.TheVariants.{Mgl, Onflight, Nmea, Unknown}
use Rattle.framing.specs.Format.{shortest, longest, good, body_start, body_end}
use Rattle.framing.specs.Meaning.{Bytes}
use Rattle.framing.specs.Frame.{IsFrame}
use Rattle.framing.proofs.ByteLaws.{bytes-at, bytes_drop, bytes_take}
use Rattle.framing.proofs.FrameLaws.{frame-means}
use Rattle.content.specs.Body.{is_frame, body_of}
use Rattle.content.proofs.BodyLaws.{frame-test, frame-long, frame-short, onflight-length, body-length, body_at}
use Rattle.mgl.specs.declared.Header.{Header}
use Rattle.frame_writer.specs.Frames.{takes, mgl_covered, Content, frame_of}
use Rattle.roundtrip_theorems.specs.FrameTrips.{IsContent}
use Rattle.roundtrip_theorems.specs.Exactly.{IsBody, LaidOut, FramesExactly}
use Rattle.roundtrip_theorems.proofs.WordLaws.{body-bytes-are}
use Rattle.roundtrip_theorems.proofs.BinaryWritten.{mgl-shape, mgl-good, onflight-shape, onflight-good}
use Rattle.roundtrip_theorems.proofs.BinaryRewritten.{header_at, mgl-laid, onflight-rewritten}
use Rattle.roundtrip_theorems.proofs.NmeaWritten.{Body, nmea-shape, nmea-good}
use Rattle.roundtrip_theorems.proofs.NmeaRewritten.{body-permitted, nmea-rewritten}

body_bytes : (f : Format) (s : List ℕ) → Bytes s → is_frame f s ≡ true → Bytes (body_of f s)
body_bytes f s b t = subst Bytes (body_at f s t refl refl) (bytes_take (length s - body_end f - body_start f) (drop (body_start f) s) (bytes_drop (body_start f) s b))

-- ---- a frame is laid out

-- what formats without a header have in its place
abbrev no_header : Header
no_header = record { message_type = 0; rate = 0; count = 0; version = 0 }

abbrev bare : List ℕ → Content
bare body = record { header = no_header; body = body }

bare-bytes : (body : List ℕ) → Bytes body → IsContent (bare body)
bare-bytes body b = (omega arith, (omega arith, (omega arith, (omega arith, b))))

taken-apart : (f : Format) (s : List ℕ) → Bytes s → IsFrame f s → LaidOut f s
unfolding shortest longest body_start body_end good
taken-apart Mgl s b h =
    let t = (frame-test Mgl s).1 h in
    let n = body-length Mgl s t in
    record {
      content = record { header = header_at s; body = body_of Mgl s };
      bytes = (bytes-at s b 4, (bytes-at s b 5, (bytes-at s b 6, (bytes-at s b 7, body_bytes Mgl s b t))));
      body = (omega (arith, n, frame-long Mgl s t), omega (arith, n, frame-short Mgl s t));
      same = sym (mgl-laid s b h);
    }
taken-apart Onflight s b h =
    let t = (frame-test Onflight s).1 h in
    record {
      content = bare (body_of Onflight s);
      bytes = bare-bytes (body_of Onflight s) (body_bytes Onflight s b t);
      body = omega (arith, body-length Onflight s t, onflight-length s t);
      same = sym (onflight-rewritten s h);
    }
taken-apart Nmea s b h =
    let t = (frame-test Nmea s).1 h in
    let n = body-length Nmea s t in
    record {
      content = bare (body_of Nmea s);
      bytes = bare-bytes (body_of Nmea s) (body_bytes Nmea s b t);
      body = (omega (arith, n, frame-long Nmea s t), omega (arith, n, frame-short Nmea s t), (body-bytes-are (body_of Nmea s)).0 (body-permitted s h));
      same = sym (nmea-rewritten s h);
    }
taken-apart Unknown s b h = absurd ((frame-means Unknown s).0 h).1

-- ---- what is laid out is a frame

laid : (f : Format) (c : Content) → IsContent c → IsBody f c.body → IsFrame f (frame_of f c)
unfolding takes mgl_covered
laid Mgl c b h = (frame-means Mgl _).1 (mgl-shape c.header c.body h.0 h.1, mgl-good c.header c.body b)
laid Onflight c b h = (frame-means Onflight _).1 (onflight-shape c.body (eq-eqb _ 152 h), onflight-good c.body)
laid Nmea c b h =
    let w : Body c.body = record { some = h.0; most = h.1; permitted = (body-bytes-are c.body).1 h.2 } in
    (frame-means Nmea _).1 (nmea-shape c.body w, nmea-good c.body w)
laid Unknown c b h = absurd h

pub frames-exactly : FramesExactly
frames-exactly f s b = (
  taken-apart f s b,
  λ w. subst (IsFrame f) (sym w.same) (laid f w.content w.bytes w.body),
)
