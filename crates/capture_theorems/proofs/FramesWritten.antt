-- Whole frames through the exported functions: what is written reads back.
-- Assumes nothing.
use Prim.Native.Nat.{ℕ, zero, suc, ◌-◌}
use mathlib.Core.Path.{◌≡◌, refl, sym, ap, ◌∙◌}
use mathlib.Core.List.{List}
use native.Mathlib.Omega.{arith}
use lib.ListN.{length}
use Rattle.numbers.specs.Low.{low_bytes}
use Rattle.framing.specs.Format.{format_of, body_start, body_end}
use Rattle.framing.specs.Meaning.{Bytes}
use Rattle.answer.specs.Answer.{given}
use Rattle.content.proofs.BodyLaws.{frame-test, place_at, body_at}
use Rattle.mgl.specs.Header.{header_of}
use Rattle.frame_writer.specs.Frames.{Content}
use Rattle.frame_writer.specs.Output.{write_frame}
use Rattle.roundtrip_theorems.specs.FrameTrips.{IsContent, ReadsBack, made}
use Rattle.roundtrip_theorems.proofs.FramesWritten.{frames-written-then-read}
use Rattle.capture_values.specs.Values.{values_of, span_values, header_values}
use Rattle.capture.specs.Write.{content_in}
use Rattle.capture_theorems.specs.Trips.{ExportedFrameWrittenThenRead}
use Rattle.capture_theorems.proofs.Rows.{place-row, header_row}

is-content : (header : ℕ) (body : List ℕ) → Bytes body → IsContent (content_in header body)
unfolding low_bytes
is-content header body b = (omega arith, (omega arith, (omega arith, (omega arith, b))))

header_read : (n : ℕ) (c : Content) (s : List ℕ) → n ≡ 1 → ReadsBack (format_of n) c s → header_of s ≡ given c.header
unfolding format_of
header_read zero c s e r = absurd (omega arith)
header_read (suc zero) c s e r = r.header
header_read (suc (suc n)) c s e r = absurd (omega arith)

pub exported-frame-written-then-read : ExportedFrameWrittenThenRead
unfolding low_bytes
exported-frame-written-then-read n header body out b e =
    let f = format_of n in
    let c = content_in header body in
    let r = frames-written-then-read f c out (is-content header body b) e in
    let s = made (write_frame f c out) in
    let h = (frame-test f s).1 r.frame in
    record {
      start = body_start f;
      end = length s - body_end f;
      place = place-row n s ∙ ap (values_of span_values) (sym (place_at f s h refl refl));
      between = body_at f s h refl refl ∙ r.body;
      head = λ one. header_row s ∙ ap (values_of header_values) (header_read n c s one r);
    }
