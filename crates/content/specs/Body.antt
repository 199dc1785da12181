-- Whether bytes are one whole frame, and where the body of a frame is (docs/FORMATS.md, "Content").
use Rattle.std.specs.Prelude.{ℕ, ◌-◌, Bool, false, cond, List, [], eqb, length, Result}
use Rattle.framing.specs.declared.Found.{Found}
use Rattle.framing.specs.declared.Found.TheVariants.{Frame, Start, Neither}
use Rattle.framing.specs.Rules.{part}
use Rattle.framing.specs.declared.Format.{Format}
use Rattle.framing.specs.Format.{body_start, body_end}
use Rattle.framing.specs.Frame.{front}
use Rattle.content.specs.declared.Span.{Span}
use Rattle.answer.specs.declared.Refusal.{Refusal}
use Rattle.answer.specs.Answer.{Answer, given, unless, answer_of}

-- they begin with a frame of all n bytes
abbrev pub spans : Found → ℕ → Bool
spans (Frame m) n = eqb m n
spans Start n = false
spans (Neither r) n = false

-- one whole frame of the format: exactly where `IsFrame` holds (`frame-test` of proofs/BodyLaws.antt)
unfoldable pub is_frame : Format → List ℕ → Bool
is_frame f s = spans (front f s) (length s)

abbrev pub nowhere : Span
nowhere = record { start = 0; end = 0 }

abbrev pub place_answer : Result Span Refusal → Answer Span
place_answer r = answer_of nowhere (λ x. x) r

-- where the body is: 7 where the bytes are not one frame
unfoldable pub place_of : Format → List ℕ → Answer Span
place_of f s = unless nowhere (is_frame f s) 7 (given (record { start = body_start f; end = length s - body_end f }))

-- the bytes of the body, and none where they are not one frame
unfoldable pub body_of : Format → List ℕ → List ℕ
body_of f s = cond (is_frame f s) (part (body_start f) (length s - body_end f) s) []

-- the bytes between the head and the tail of a format: of a frame, its body. Fewer bytes than both have none; an unknown format has
-- neither, so all bytes are between.
unfoldable pub between_of : Format → List ℕ → List ℕ
between_of f s = part (body_start f) (length s - body_end f) s
