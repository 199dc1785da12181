-- What every field function of a sentence judges first (docs/FORMATS.md, "NMEA content").
use Rattle.std.specs.Prelude.{ℕ, Bool, true, false, ◌&&◌, List, [], ◌∷◌, eqb, length}
use Rattle.framing.specs.declared.Format.TheVariants.{Nmea}
use Rattle.answer.specs.Answer.{Answer, given, unless}
use Rattle.content.specs.Body.{is_frame, body_of}
use Rattle.nmea_sentence.specs.Fields.{fields, field_at}

-- the same bytes
abbrev pub eq_bytes : List ℕ → List ℕ → Bool
eq_bytes [] [] = true
eq_bytes [] (y ∷ ys) = false
eq_bytes (x ∷ xs) [] = false
eq_bytes (x ∷ xs) (y ∷ ys) = eqb x y && eq_bytes xs ys

-- the tag is all up to the first comma
unfoldable pub has_tag : List ℕ → List ℕ → Bool
has_tag tag body = eq_bytes (field_at body 0) tag

-- a sentence with this tag and so many fields, the tag among them: else 7, 8 or 9
abbrev pub in_sentence : {A : Type 0} → A → List ℕ → ℕ → List ℕ → Answer A → Answer A
in_sentence zeros tag count s answer =
    unless zeros (is_frame Nmea s) 7
    (unless zeros (has_tag tag (body_of Nmea s)) 8
    (unless zeros (eqb (length (fields (body_of Nmea s))) count) 9
    answer))

-- field i of a sentence
abbrev pub field_in : List ℕ → ℕ → List ℕ
field_in s i = field_at (body_of Nmea s) i

-- what `judge` promises: the number alone, which is 0 where `in_sentence` hands on the answer given
unfoldable pub refusal_of : List ℕ → ℕ → List ℕ → ℕ
refusal_of tag count s = (in_sentence {A = ℕ} 0 tag count s (given 0)).number
