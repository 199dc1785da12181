-- "What a writer makes reads back as what it was given": PLARS settings.
-- Assumes nothing.
use Prim.Native.Nat.{ℕ, zero, suc, ◌/◌, ◌^◌, ◌≤◌, ◌<◌}
use mathlib.Core.Path.{◌≡◌, refl, ap, ◌∙◌}
use mathlib.Core.Bool.{true}
use mathlib.Core.List.{List, [], ◌∷◌, ◌++◌}
use native.Mathlib.Nat.{div-le_self}
use native.Mathlib.Omega.{arith}
use lib.Dec.{eqb}
use lib.ListN.{length, get_or}
use borrow.Author.Tests.{le-leb, lt-ltb, ne_eqb}
use Rattle.decimal.specs.Decimal.{last_digits, digit_count, decimal_text}
use Rattle.decimal.proofs.DecimalLaws.{count_most}
use Rattle.decimal.proofs.DigitTexts.{Digits, last_digits_lem, text-digits}
use Rattle.framing.specs.declared.Format.TheVariants.{Nmea}
use Rattle.answer.specs.Answer.{Answer, given, unless}
use Rattle.content.specs.Body.{is_frame, body_of}
use Rattle.content.proofs.BodyLaws.{frame-test}
use Rattle.nmea_sentence.specs.Fields.{fields, field_at}
use Rattle.nmea_sentence.specs.Judge.{eq_bytes, has_tag}
use Rattle.nmea_sentence.proofs.JoinLaws.{plain, fields-ahead, fields-plain, fields-comma}
use Rattle.nmea_plars.specs.declared.Setting.{Setting}
use Rattle.nmea_plars.specs.Plars.{plars_tag, rule_of, parameter_of, no_setting, is_source, fields_setting, setting_of}
use Rattle.nmea_plars.proofs.PlarsLaws.{unit-ruled, most-ruled}
use Rattle.frame_writer.specs.Frames.{nmea_frame}
use Rattle.nmea_plars_writer.specs.Text.{value_text, setting_body, takes_setting}
use Rattle.nmea_plars_writer.proofs.TextLaws.{Taken, taken-means, either-source, parameter-known, body-taken}
use Rattle.roundtrip_theorems.specs.SettingTrips.{ReadsSetting, SettingWrittenThenRead}
use Rattle.roundtrip_theorems.proofs.MadeLaws.{made-is}
use Rattle.roundtrip_theorems.proofs.FramesWritten.{nmea-frame-reads}
use Rattle.roundtrip_theorems.proofs.ValueTrips.{value-reads}

-- ---- the fields of a setting's body

-- none of the parts has a comma
digits-plain : (s : List ℕ) → Digits s → plain s ≡ true
unfolding plain
digits-plain [] d = refl
digits-plain (b ∷ s) d = let l = d.0.0 in simp (ne_eqb b 0x2C (λ e. omega arith), digits-plain s d.1)

value-fields : (d n : ℕ) → fields (value_text d n) ≡ value_text d n ∷ []
unfolding value_text plain
value-fields zero n = fields-plain (decimal_text n) (digits-plain (decimal_text n) (text-digits n))
value-fields (suc d) n =
    let w = decimal_text (n / 10 ^ suc d) in
    let f = last_digits (suc d) n in
    fields-ahead w (0x2E ∷ f) (0x2E ∷ f) [] (digits-plain w (text-digits (n / 10 ^ suc d))) (fields-plain (0x2E ∷ f) (digits-plain f (last_digits_lem (suc d) n)))

name-plain : (p : ℕ) → plain (rule_of p).name ≡ true
unfolding plain
name-plain zero = refl
name-plain (suc zero) = refl
name-plain (suc (suc zero)) = refl
name-plain (suc (suc (suc zero))) = refl
name-plain (suc (suc (suc (suc p)))) = refl

-- tag, source, name and value
abbrev parts_of : Setting → List (List ℕ)
parts_of x = plars_tag ∷ (x.source ∷ []) ∷ (rule_of x.parameter).name ∷ value_text (rule_of x.parameter).decimals x.value ∷ []

body-fields : (x : Setting) → is_source x.source ≡ true → fields (setting_body x) ≡ parts_of x
unfolding setting_body plain
body-fields x e =
    let name = (rule_of x.parameter).name in
    let value = value_text (rule_of x.parameter).decimals x.value in
    fields-comma plars_tag refl (x.source ∷ 0x2C ∷ (name ++ 0x2C ∷ value))
    ∙ ap (λ (fs : List (List ℕ)). plars_tag ∷ fs)
    (fields-comma (x.source ∷ []) (either-source (λ b. plain (b ∷ []) ≡ true) refl refl x.source e) (name ++ 0x2C ∷ value)
    ∙ ap (λ (fs : List (List ℕ)). (x.source ∷ []) ∷ fs)
    (fields-comma name (name-plain x.parameter) value
    ∙ ap (λ (fs : List (List ℕ)). name ∷ fs) (value-fields (rule_of x.parameter).decimals x.value)))

-- ---- what is read of them

-- the setting that is read, of a body's fields
abbrev pub from_fields : List (List ℕ) → Answer Setting
from_fields fs =
    unless no_setting (eq_bytes (get_or fs 0 []) plars_tag) 8
    (unless no_setting (eqb (length fs) 4) 9
    (fields_setting (get_or fs 1 []) (get_or fs 2 []) (get_or fs 3 [])))

pub setting-of : (s : List ℕ) → setting_of s ≡ unless no_setting (is_frame Nmea s) 7 (from_fields (fields (body_of Nmea s)))
unfolding setting_of has_tag field_at
setting-of s = refl

name-reads : (p : ℕ) → p < 4 → parameter_of (rule_of p).name ≡ p
unfolding parameter_of
name-reads zero h = refl
name-reads (suc zero) h = refl
name-reads (suc (suc zero)) h = refl
name-reads (suc (suc (suc zero))) h = refl
name-reads (suc (suc (suc (suc p)))) h = absurd (omega arith)

-- few digits before the point, and few after it
few : (p v : ℕ) → v ≤ (rule_of p).most → (digit_count (v / 10 ^ (rule_of p).decimals) ≤ 9) × ((rule_of p).decimals ≤ 9)
few p v h =
    let d = (unit-ruled p refl).0 in
    let w = v / 10 ^ (rule_of p).decimals in
    (count_most 8 w (omega (arith, div-le_self v (10 ^ (rule_of p).decimals), most-ruled p refl)), omega arith)

parts-read : (x : Setting) → Taken x → x.parameter < 4 → from_fields (parts_of x) ≡ given x
unfolding fields_setting
parts-read x t p =
    let r = rule_of x.parameter in
    let f = few x.parameter x.value t.most in
    rw (t.source, name-reads x.parameter p, lt-ltb x.parameter 4 p, value-reads r.decimals x.value f.0 f.1, le-leb r.least x.value t.least, le-leb x.value r.most t.most)

-- ---- the sentence

sentence-reads : (x : Setting) → takes_setting x ≡ true → ReadsSetting x (nmea_frame (setting_body x))
sentence-reads x e =
    let s = nmea_frame (setting_body x) in
    let t = taken-means x e in
    let r = nmea-frame-reads (setting_body x) (body-taken x e) in
    record {
      frame = (frame-test Nmea s).0 r.0;
      setting = setting-of s ∙ rw (r.0, r.1, body-fields x t.source) (parts-read x t (parameter-known x e));
    }

pub setting-written-then-read : SettingWrittenThenRead
setting-written-then-read x out e =
    let m = made-is 8 (takes_setting x) (nmea_frame (setting_body x)) out e in
    rw m.1 (sentence-reads x m.0)
