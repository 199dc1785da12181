-- The tanks of a fuel frame (docs/FORMATS.md, "MGL content").
use Rattle.std.specs.Prelude.{ℕ, ◌+◌, ◌-◌, ◌*◌, ◌/◌, ◌%◌, Bool, false, ◌&&◌, List, eqb, leb, ltb, ℤ, pos, negsuc, length, get_or, Result}
use Rattle.std.specs.Int.{w32}
use Rattle.numbers.specs.Low.{signed}
use Rattle.framing.specs.declared.Format.TheVariants.{Mgl}
use Rattle.answer.specs.declared.Refusal.{Refusal}
use Rattle.answer.specs.Answer.{Answer, given, unless, answer_of}
use Rattle.content.specs.Body.{is_frame}
use Rattle.mgl.specs.declared.fuel.Tank.{Tank}
use Rattle.mgl.specs.Header.{body_byte, body_low}

-- type 11, version 1, and a body of 4 + 8k bytes, k from 1 to 32: 12 bytes of the frame are not the body's
unfoldable pub is_fuel : List ℕ → Bool
is_fuel s =
    eqb (get_or s 4 0) 11 && eqb (get_or s 7 0) 1
    && leb (12 + 12) (length s) && leb (length s) (12 + 260) && eqb ((length s - (12 + 4)) % 8) 0

-- k, by the length
unfoldable pub tanks : List ℕ → ℕ
tanks s = (length s - (12 + 4)) / 8

-- a signed number that is this natural one
abbrev pub equals : ℤ → ℕ → Bool
equals (pos a) k = eqb a k
equals (negsuc a) k = false

-- the first number of the body is k
unfoldable pub count_agrees : List ℕ → Bool
count_agrees s = equals (signed w32 (body_low 4 s 0)) (tanks s)

unfoldable pub tank_count_of : List ℕ → Answer ℕ
tank_count_of s =
    unless 0 (is_frame Mgl s) 7
    (unless 0 (is_fuel s) 8
    (unless 0 (count_agrees s) 9
    (given (tanks s))))

-- tank i stands at 4 + 8i of the body: level, type, on, sensors
unfoldable pub tank_at : List ℕ → ℕ → Tank
tank_at s i = record {
  level = signed w32 (body_low 4 s (4 + 8 * i));
  kind = body_byte s (4 + 8 * i + 4);
  on = body_byte s (4 + 8 * i + 5);
  sensors = body_low 2 s (4 + 8 * i + 6);
}

abbrev pub no_tank : Tank
no_tank = record { level = pos 0; kind = 0; on = 0; sensors = 0 }

abbrev pub tank_answer : Result Tank Refusal → Answer Tank
tank_answer r = answer_of no_tank (λ t. t) r

unfoldable pub tank_of : List ℕ → ℕ → Answer Tank
tank_of s i =
    unless no_tank (is_frame Mgl s) 7
    (unless no_tank (is_fuel s) 8
    (unless no_tank (count_agrees s) 9
    (unless no_tank (ltb i (tanks s)) 9
    (given (tank_at s i)))))
