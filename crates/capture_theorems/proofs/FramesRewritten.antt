-- Whole frames through the exported functions: what is taken apart and written again is the same.
-- Assumes nothing.
use Prim.Native.Nat.{ℕ, zero, suc, ◌+◌, ◌-◌, ◌*◌, ◌%◌}
use mathlib.Core.Path.{◌≡◌, refl, sym, ap, subst, ◌∙◌}
use mathlib.Core.Bool.{Bool, true, false, cond, true≢false}
use mathlib.Core.Logic.{◌↔◌}
use mathlib.Core.List.{List, [], ◌∷◌}
use native.Mathlib.Omega.{arith}
use lib.Dec.{leb}
use lib.ListN.{length}
use borrow.Author.Tests.{eqb-false, ne_eqb}
use Rattle.numbers.specs.Low.{low, low_bytes}
use Rattle.numbers.proofs.LowBytes.{bytes-of-low}
use Rattle.framing.specs.declared.Format.TheVariants.{Mgl}
use Rattle.framing.specs.Format.{format_of, body_start, body_end}
use Rattle.framing.specs.Meaning.{Bytes}
use Rattle.content.specs.Body.{is_frame, body_of}
use Rattle.content.proofs.BodyLaws.{frame-test, place_at, body_at}
use Rattle.mgl.specs.declared.Header.{Header}
use Rattle.mgl.specs.Header.{header_of}
use Rattle.frame_writer.specs.Frames.{takes, frame_of}
use Rattle.frame_writer.specs.Output.{write}
use Rattle.roundtrip_theorems.specs.FrameTrips.{content_of, writable}
use Rattle.framing.proofs.ByteLaws.{bytes-at}
use Rattle.roundtrip_theorems.proofs.FramesRewritten.{rewritten}
use Rattle.roundtrip_theorems.proofs.FramesTaken.{frames-taken}
use Rattle.capture_values.specs.declared.Values.{Values}
use Rattle.capture_values.specs.Values.{values_of, span_values}
use Rattle.capture.specs.Write.{header_in, content_in}
use Rattle.capture_theorems.specs.Trips.{Reads, Writes, TakenApart, WrittenAgain, ExportedFrameReadThenWritten}
use Rattle.capture_theorems.proofs.Rows.{no-frame, place-row, header_row, exported-frames-read}
use Rattle.capture_theorems.proofs.Shown.{shown}
use Rattle.capture_theorems.proofs.WritesLaws.{writes}

-- ---- the body

module _ {n : ℕ} {header body s : List ℕ} (t : TakenApart n header body s) where
  is-frame : is_frame (format_of n) s ≡ true
  is-frame = (frame-test (format_of n) s).1 ((exported-frames-read n s).0 (ap (λ (v : Values). v.number) t.place))

  body_is : body_of (format_of n) s ≡ body
  body_is =
      let f = format_of n in
      let e = ap (values_of span_values) (place_at f s is-frame refl refl) ∙ sym (place-row n s) ∙ t.place in
      let start : body_start f ≡ t.start = ap (shown 0) e in
      let end : length s - body_end f ≡ t.end = ap (shown 1) e in
      sym (body_at f s is-frame refl refl) ∙ rw (start, end) t.between

-- ---- the header

-- the header that a field function shows, and its number
abbrev header_shown : Values → Header
header_shown v = record { message_type = shown 0 v; rate = shown 1 v; count = shown 2 v; version = shown 3 v }

abbrev header_number : Header → ℕ
header_number h = h.message_type + h.rate * 256 + h.count * 65536 + h.version * 16777216

abbrev header_bytes : Header → List ℕ
header_bytes h = h.message_type ∷ h.rate ∷ h.count ∷ h.version ∷ []

-- The bytes of the number of a header are the header's.
bytes-again : (h : Header) → Bytes (header_bytes h) → low_bytes 4 (header_number h) ≡ header_bytes h
unfolding low
bytes-again h b =
    let n : header_number h ≡ low 4 (header_bytes h) 0 = omega arith in
    ap (low_bytes 4) n ∙ bytes-of-low 4 (header_bytes h) 0 (omega arith) (λ i l. bytes-at (header_bytes h) b (0 + i))

header-again : (h : Header) → Bytes (header_bytes h) → header_in (header_number h) ≡ h
header-again h b = rw (bytes-again h b)

header_is : (s : List ℕ) (h : Header) → Reads 101 s (header_bytes h) → h ≡ (header_of s).value
header_is s h e = ap header_shown (sym e ∙ header_row s)

header-bytes : (s : List ℕ) → Bytes s → is_frame Mgl s ≡ true → Bytes (header_bytes (header_of s).value)
unfolding header_of
header-bytes s b h = rw h (bytes-at s b 4, (bytes-at s b 5, (bytes-at s b 6, (bytes-at s b 7, tt))))

-- ---- the frame

frame-again : (n : ℕ) (h : Header) (s : List ℕ) → Bytes s → is_frame (format_of n) s ≡ true
    → (n ≡ 1 → Reads 101 s (header_bytes h))
    → frame_of (format_of n) (content_in (header_number h) (body_of (format_of n) s)) ≡ frame_of (format_of n) (content_of (format_of n) s)
unfolding format_of
frame-again zero h s b f e = refl
frame-again (suc zero) h s b f e =
    let i = header_is s h (e refl) in
    let c : header_in (header_number h) ≡ (header_of s).value = rw i (header-again (header_of s).value (header-bytes s b f)) in
    ap (λ (x : Header). frame_of Mgl (record { header = x; body = body_of Mgl s })) c
frame-again (suc (suc zero)) h s b f e = refl
frame-again (suc (suc (suc zero))) h s b f e = refl
frame-again (suc (suc (suc (suc n)))) h s b f e = refl

-- ---- which frames are taken

-- the frames that are not taken
refuses : (n : ℕ) (s : List ℕ) → is_frame (format_of n) s ≡ true
    → takes (format_of n) (body_of (format_of n) s) ≡ writable (format_of n) (body_of (format_of n) s)
    → (takes (format_of n) (body_of (format_of n) s) ≡ false) ↔ ((n ≡ 1) × (length (body_of (format_of n) s) % 4 ≡ 0 → ⊥))
unfolding format_of
refuses zero s h e = absurd (no-frame s h)
refuses (suc zero) s h e =
    let k = length (body_of Mgl s) % 4 in
    (λ t. (refl, eqb-false k 0 (sym e ∙ t)), λ p. e ∙ ne_eqb k 0 p.1)
refuses (suc (suc zero)) s h e = (λ t. absurd (true≢false (sym e ∙ t)), λ p. absurd (omega arith))
refuses (suc (suc (suc zero))) s h e = (λ t. absurd (true≢false (sym e ∙ t)), λ p. absurd (omega arith))
refuses (suc (suc (suc (suc n)))) s h e = absurd (no-frame s h)

not_five : (t : Bool) → ◌≡◌ {A = ℕ} (cond t 0 6) 5 → ⊥
not_five true e = omega arith
not_five false e = omega arith

-- what the writer answers, by whether it takes the body
by-taken : (P : Type 0) (t : Bool) (frame s out : List ℕ) → (t ≡ false) ↔ P → (t ≡ true → frame ≡ s)
    → (((write 5 t frame out).number ≡ 5) ↔ P)
    × (((write 5 t frame out).number ≡ 5 → ⊥) → Writes s out (write 5 t frame out))
unfolding write
by-taken P true frame s out p e =
    let w : Writes s out (write 5 true frame out) = rw (e refl) (writes 4 s out) in
    let never = not_five (leb (length s) (length out)) in
    ((λ five. absurd (never (sym w.answer ∙ five)), λ q. absurd (true≢false (p.1 q))), λ five. w)
by-taken P false frame s out p e = ((λ five. p.0 refl, λ q. refl), λ five. absurd (five refl))

again : (n : ℕ) (h : Header) (body s out : List ℕ) → Bytes s → TakenApart n (header_bytes h) body s
    → WrittenAgain n (header_number h) body s out
again n h body s out b t =
    let f = format_of n in
    let i = is-frame t in
    let frame = (frame-test f s).0 i in
    let w =
    by-taken _ (takes f (body_of f s)) _ s out (refuses n s i (frames-taken f s frame))
    (λ k. frame-again n h s b i t.head ∙ rewritten f s b frame k) in
    subst (λ (x : List ℕ). WrittenAgain n (header_number h) x s out) (body_is t) (record { refused = w.0; again = w.1 })

pub exported-frame-read-then-written : ExportedFrameReadThenWritten
exported-frame-read-then-written n message_type rate count version body s out b t =
    again n (record { message_type = message_type; rate = rate; count = count; version = version }) body s out b t
