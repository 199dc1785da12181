-- What every MGL frame has before its body (docs/FORMATS.md, "MGL content").
use Rattle.std.specs.Prelude.{ℕ, ◌+◌, Bool, ◌&&◌, List, eqb, length, get_or, Result}
use Rattle.numbers.specs.Low.{low}
use Rattle.framing.specs.declared.Format.TheVariants.{Mgl}
use Rattle.answer.specs.declared.Refusal.{Refusal}
use Rattle.answer.specs.Answer.{Answer, given, unless, answer_of}
use Rattle.content.specs.Body.{is_frame}
use Rattle.mgl.specs.declared.Header.{Header}

-- byte i of the body
abbrev pub body_byte : List ℕ → ℕ → ℕ
body_byte s i = get_or s (8 + i) 0

-- the number of the k bytes from place i of the body on
abbrev pub body_low : ℕ → List ℕ → ℕ → ℕ
body_low k s i = low k s (8 + i)

-- this message type, version 1, and this many bytes in all
unfoldable pub is_message : ℕ → ℕ → List ℕ → Bool
is_message wanted len s = eqb (get_or s 4 0) wanted && eqb (get_or s 7 0) 1 && eqb (length s) len

abbrev pub no_header : Header
no_header = record { message_type = 0; rate = 0; count = 0; version = 0 }

abbrev pub header_answer : Result Header Refusal → Answer Header
header_answer r = answer_of no_header (λ h. h) r

-- message type, rate, count, version
unfoldable pub header_of : List ℕ → Answer Header
header_of s =
    unless no_header (is_frame Mgl s) 7
    (given (record { message_type = get_or s 4 0; rate = get_or s 5 0; count = get_or s 6 0; version = get_or s 7 0 }))
