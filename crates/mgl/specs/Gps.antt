-- The fields of a GPS frame (docs/FORMATS.md, "MGL content").
use Rattle.std.specs.Prelude.{ℕ, Bool, false, not, ◌||◌, List, eqb, leb, pos, Result}
use Rattle.std.specs.Int.{w16, w32}
use Rattle.numbers.specs.Low.{signed}
use Rattle.framing.specs.declared.Format.TheVariants.{Mgl}
use Rattle.answer.specs.declared.Refusal.{Refusal}
use Rattle.answer.specs.Answer.{Answer, given, unless, answer_of}
use Rattle.content.specs.Body.{is_frame}
use Rattle.mgl.specs.declared.gps.Gps.{Gps}
use Rattle.mgl.specs.Header.{body_byte, body_low, is_message}

-- the altitude is valid in modes 3 and 5 alone
unfoldable pub has_altitude : ℕ → Bool
has_altitude mode = eqb mode 3 || eqb mode 5

-- every field at its place in the body
unfoldable pub gps_at : List ℕ → Gps
gps_at s = record {
  latitude = signed w32 (body_low 4 s 0);
  longitude = signed w32 (body_low 4 s 4);
  altitude = signed w32 (body_low 4 s 8);
  agl = signed w32 (body_low 4 s 12);
  north = signed w32 (body_low 4 s 16);
  east = signed w32 (body_low 4 s 20);
  down = signed w32 (body_low 4 s 24);
  ground_speed = body_low 2 s 28;
  track = body_low 2 s 30;
  variation = signed w16 (body_low 2 s 32);
  mode = body_byte s 34;
  tracked = body_byte s 35;
  visible = body_byte s 36;
  horizontal_accuracy = body_byte s 37;
  vertical_accuracy = body_byte s 38;
  capability = body_byte s 39;
  raim = body_byte s 40;
  raim_horizontal_error = body_byte s 41;
  raim_vertical_error = body_byte s 42;
  valid = not (eqb (body_byte s 34) 0);
  altitude_valid = has_altitude (body_byte s 34);
}

abbrev pub no_gps : Gps
no_gps = record {
  latitude = pos 0;
  longitude = pos 0;
  altitude = pos 0;
  agl = pos 0;
  north = pos 0;
  east = pos 0;
  down = pos 0;
  ground_speed = 0;
  track = 0;
  variation = pos 0;
  mode = 0;
  tracked = 0;
  visible = 0;
  horizontal_accuracy = 0;
  vertical_accuracy = 0;
  capability = 0;
  raim = 0;
  raim_horizontal_error = 0;
  raim_vertical_error = 0;
  valid = false;
  altitude_valid = false;
}

abbrev pub gps_answer : Result Gps Refusal → Answer Gps
gps_answer r = answer_of no_gps (λ g. g) r

-- type 2, L = 36: 56 bytes. Mode over 5 is 9.
unfoldable pub gps_of : List ℕ → Answer Gps
gps_of s =
    unless no_gps (is_frame Mgl s) 7
    (unless no_gps (is_message 2 56 s) 8
    (unless no_gps (leb (body_byte s 34) 5) 9
    (given (gps_at s))))
