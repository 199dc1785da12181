-- The field functions that take a frame apart, by their numbers, and the bytes that they take apart.
-- Assumes nothing.
use Prim.Native.Nat.{ℕ, zero, suc, ◌*◌, ◌/◌}
use mathlib.Core.Path.{◌≡◌, refl, sym, ap, ◌∙◌}
use mathlib.Core.Bool.{Bool, true, false, true≢false}
use mathlib.Core.List.{List, [], ◌∷◌}
use native.Mathlib.Omega.{arith}
use Rattle.framing.specs.declared.Format.{Format}
use Rattle.framing.specs.declared.Format.TheVariants.{Unknown}
use Rattle.framing.specs.Format.{format_of, next}
use Rattle.framing.specs.Shape.{scan, scan_from}
use Rattle.framing.specs.Frame.{front}
use Rattle.answer.specs.Answer.{Answer, unless}
use Rattle.content.specs.declared.Span.{Span}
use Rattle.content.specs.Body.{is_frame, place_of}
use Rattle.content.proofs.BodyLaws.{frame-test, place_at}
use Rattle.mgl.specs.Header.{header_of}
use Rattle.capture_values.specs.declared.Values.{Values}
use Rattle.capture_values.specs.Values.{values_of, span_values, header_values}
use Rattle.capture_values.specs.FieldFunctions.{field_functions, read_values}
use Rattle.capture_theorems.specs.Trips.{ExportedFramesRead}

-- no bytes are a frame of an unknown format
pub none-unknown : (s : List ℕ) → is_frame Unknown s ≡ false
unfolding is_frame front scan scan_from next
none-unknown [] = refl
none-unknown (x ∷ s) = refl

pub no-frame : (s : List ℕ) → is_frame Unknown s ≡ true → ⊥
no-frame s h = true≢false (sym h ∙ none-unknown s)

-- The first field function of a format gives the place of the body. A number of no format has none, and is refused with
-- 7 like the place of the body in a format that has no frames.
pub place-row : (n : ℕ) (s : List ℕ) → read_values (n * 100) 0 s ≡ values_of span_values (place_of (format_of n) s)
unfolding read_values field_functions format_of place_of
place-row zero s = rw (none-unknown s)
place-row (suc zero) s = refl
place-row (suc (suc zero)) s = refl
place-row (suc (suc (suc zero))) s = refl
place-row (suc (suc (suc (suc n)))) s =
    let h : suc (suc (suc (suc n))) * 100 / 100 ≡ suc (suc (suc (suc n))) = omega arith in
    rw (h, none-unknown s)

pub header_row : (s : List ℕ) → read_values 101 0 s ≡ values_of header_values (header_of s)
unfolding read_values field_functions format_of
header_row s = refl

-- ---- which bytes are taken apart

-- a test that was passed
passed : {A : Type 0} (z : A) (t : Bool) (n : ℕ) (a : Answer A) → (unless z t (suc n) a).number ≡ 0 → t ≡ true
passed z true n a e = refl
passed z false n a e = absurd (omega arith)

place-frame : (f : Format) (s : List ℕ) → (place_of f s).number ≡ 0 → is_frame f s ≡ true
unfolding place_of
place-frame f s e = passed _ (is_frame f s) 6 _ e

pub exported-frames-read : ExportedFramesRead
exported-frames-read n s =
    let f = format_of n in
    let same = ap (λ (v : Values). v.number) (place-row n s) in (
      λ e. (frame-test f s).0 (place-frame f s (sym same ∙ e)),
      λ i. same ∙ ap (λ (a : Answer Span). a.number) (sym (place_at f s ((frame-test f s).1 i) refl refl)),
    )
