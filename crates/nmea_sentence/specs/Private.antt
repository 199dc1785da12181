-- What private functions promise. Nothing public rests on this definition.
use Rattle.std.specs.Prelude.{ℕ, cond, List, length, Option, Some, None}
use Rattle.framing.specs.declared.Format.TheVariants.{Nmea}
use Rattle.content.specs.Body.{is_frame, body_of}
use Rattle.nmea_sentence.specs.Fields.{fields}

-- how many fields a sentence has, where s is one
unfoldable pub fields_in : List ℕ → Option ℕ
fields_in s = cond (is_frame Nmea s) (Some (length (fields (body_of Nmea s)))) None
