-- PLARS settings, in one spelling only (docs/FORMATS.md, "NMEA content").
use Rattle.std.specs.Prelude.{ℕ, zero, suc, ◌+◌, ◌-◌, ◌*◌, ◌^◌, Bool, cond, not, ◌&&◌, ◌||◌, List, [], ◌∷◌, leb, ltb, eqb, length, get_or, take, drop, Option, Some, None, Result}
use Rattle.answer.specs.declared.Refusal.{Refusal}
use Rattle.answer.specs.Answer.{Answer, given, refused, unless, answer_of}
use Rattle.nmea_sentence.specs.Digits.{digits_of}
use Rattle.nmea_plars.specs.declared.Form.{Form}
use Rattle.nmea_plars.specs.declared.Setting.{Setting}
use Rattle.nmea_sentence.specs.Judge.{eq_bytes, in_sentence, field_in}

-- PLARS, and three fields after it: source, parameter and value
abbrev pub plars_tag : List ℕ
plars_tag = 0x50 ∷ 0x4C ∷ 0x41 ∷ 0x52 ∷ 0x53 ∷ []

-- a parameter: its name, its decimals, and its least and its largest value in steps of the last decimal
pub record Rule : Type 0 where
  pub name : List ℕ
  pub decimals : ℕ
  pub least : ℕ
  pub most : ℕ

abbrev pub setting_rules : List Rule
setting_rules =
    record { name = 0x4D ∷ 0x43 ∷ []; decimals = 1; least = 0; most = 99 }  -- MC 0.0 to 9.9
    ∷ record { name = 0x42 ∷ 0x41 ∷ 0x4C ∷ []; decimals = 3; least = 0; most = 1000 }  -- BAL 0.000 to 1.000
    ∷ record { name = 0x42 ∷ 0x55 ∷ 0x47 ∷ 0x53 ∷ []; decimals = 0; least = 0; most = 50 }  -- BUGS 0 to 50
    ∷ record { name = 0x51 ∷ 0x4E ∷ 0x48 ∷ []; decimals = 1; least = 5000; most = 12000 }  -- QNH 500.0 to 1200.0
    ∷ []

-- no value is between 1 and 0
abbrev pub no_rule : Rule
no_rule = record { name = []; decimals = 0; least = 1; most = 0 }

-- the rule of a parameter number
abbrev pub rule_of : ℕ → Rule
rule_of p = get_or setting_rules p no_rule

-- a rule as the code holds it, with how many steps make 1
abbrev pub form_of : Rule → Form
form_of r = record { decimals = r.decimals; unit = 10 ^ r.decimals; least = r.least; most = r.most }

-- the place of a name in a list of rules, from 0; the list's length where it has none
abbrev pub index_in : List Rule → List ℕ → ℕ
index_in [] name = 0
index_in (r ∷ rs) name = cond (eq_bytes name r.name) 0 (suc (index_in rs name))

-- the number of a parameter: 0 to 3 for MC, BAL, BUGS, QNH, and 4 for any other name
unfoldable pub parameter_of : List ℕ → ℕ
parameter_of name = index_in setting_rules name

-- the same where the name is a parameter's
unfoldable pub parameter_named : List ℕ → Option ℕ
parameter_named name = cond (ltb (parameter_of name) 4) (Some (parameter_of name)) None

-- a whole part: not empty, and no leading zero before another digit
unfoldable pub is_whole_part : List ℕ → Bool
is_whole_part s = leb 1 (length s) && (leb (length s) 1 || not (eqb (get_or s 0 0) 0x30))

-- a whole part w and decimals f, in steps of the last decimal, of which u make 1
abbrev pub steps : ℕ → Option ℕ → Option ℕ → Option ℕ
steps u None f = None
steps u (Some w) None = None
steps u (Some w) (Some f) = Some (w * u + f)

-- a value with d decimals; with one or more, a point stands before them
unfoldable pub value_of : ℕ → List ℕ → Option ℕ
value_of zero s = cond (is_whole_part s) (digits_of s) None
value_of (suc d) s =
    let k = length s - (d + 2) in
    cond (leb (d + 3) (length s) && eqb (get_or s k 0) 0x2E && is_whole_part (take k s))
    (steps (10 ^ suc d) (digits_of (take k s)) (digits_of (drop (k + 1) s)))
    None

abbrev pub no_setting : Setting
no_setting = record { source = 0; parameter = 0; value = 0 }

abbrev pub setting_answer : Result Setting Refusal → Answer Setting
setting_answer r = answer_of no_setting (λ x. x) r

-- L or H
unfoldable pub is_source : ℕ → Bool
is_source b = eqb b 0x4C || eqb b 0x48

-- within the range of the rule
abbrev pub ranged : ℕ → ℕ → Option ℕ → Answer Setting
ranged source p None = refused no_setting 9
ranged source p (Some n) =
    unless no_setting (leb (rule_of p).least n && leb n (rule_of p).most) 9
    (given (record { source = source; parameter = p; value = n }))

unfoldable pub fields_setting : List ℕ → List ℕ → List ℕ → Answer Setting
fields_setting source name value =
    unless no_setting (eqb (length source) 1 && is_source (get_or source 0 0)) 9
    (unless no_setting (ltb (parameter_of name) 4) 9
    (ranged (get_or source 0 0) (parameter_of name) (value_of (rule_of (parameter_of name)).decimals value)))

unfoldable pub setting_of : List ℕ → Answer Setting
setting_of s = in_sentence no_setting plars_tag 4 s (fields_setting (field_in s 1) (field_in s 2) (field_in s 3))
