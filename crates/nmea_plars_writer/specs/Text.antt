-- The sentence that states a PLARS setting, in its one spelling (docs/FORMATS.md, "Writers").
use Rattle.std.specs.Prelude.{ℕ, zero, suc, ◌/◌, ◌^◌, Bool, ◌&&◌, List, ◌∷◌, ◌++◌, leb}
use Rattle.decimal.specs.Decimal.{last_digits, decimal_text}
use Rattle.nmea_plars.specs.declared.Setting.{Setting}
use Rattle.nmea_plars.specs.Plars.{plars_tag, rule_of, is_source}
use Rattle.answer.specs.Answer.{Answer}
use Rattle.frame_writer.specs.Frames.{nmea_frame}
use Rattle.frame_writer.specs.Output.{Output, write}

-- a value in steps of the last of d decimals; with one or more, a point stands before them
unfoldable pub value_text : ℕ → ℕ → List ℕ
value_text zero n = decimal_text n
value_text (suc d) n = decimal_text (n / 10 ^ suc d) ++ 0x2E ∷ last_digits (suc d) n

-- PLARS, source, parameter and value, with commas between
unfoldable pub setting_body : Setting → List ℕ
setting_body x =
    plars_tag ++ 0x2C ∷ x.source ∷ 0x2C ∷ ((rule_of x.parameter).name ++ 0x2C ∷ value_text (rule_of x.parameter).decimals x.value)

-- Source L or H, and a value in the parameter's range; refusal 9 is given exactly for the others. (A number that is no parameter's has
-- `no_rule`, whose range is empty.)
unfoldable pub takes_setting : Setting → Bool
takes_setting x = is_source x.source && leb (rule_of x.parameter).least x.value && leb x.value (rule_of x.parameter).most

-- what the writer gives in an output buffer
abbrev pub write_setting : Setting → List ℕ → Answer Output
write_setting x out = write 9 (takes_setting x) (nmea_frame (setting_body x)) out
