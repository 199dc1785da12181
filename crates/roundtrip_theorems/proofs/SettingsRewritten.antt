-- "A frame whose content that writer takes, taken apart and written again, gives the same bytes": PLARS settings.
-- Assumes nothing.
use Prim.Native.Nat.{ℕ, suc, ◌<◌}
use mathlib.Core.Path.{◌≡◌, refl, sym, ap, ap₂, subst, ◌∙◌}
use mathlib.Core.Bool.{Bool, true, false, cond, ◌&&◌, and-eq-true_iff}
use mathlib.Core.List.{List, [], ◌∷◌, ◌++◌}
use native.Mathlib.Omega.{arith}
use lib.Dec.{T, leb, ltb, eqb}
use lib.ListN.{length, get_or}
use borrow.Author.Tests.{eqb-true, ltb-true}
use Rattle.framing.specs.declared.Format.TheVariants.{Nmea}
use Rattle.answer.specs.Answer.{Answer, unless}
use Rattle.content.specs.Body.{is_frame, body_of}
use Rattle.content.proofs.BodyLaws.{frame-test}
use Rattle.std.specs.Prelude.{Option, Some, None}
use Rattle.nmea_sentence.specs.Fields.{fields, field_at}
use Rattle.nmea_sentence.specs.Judge.{eq_bytes}
use Rattle.nmea_sentence.proofs.JudgeLaws.{equal}
use Rattle.nmea_sentence.proofs.JoinLaws.{four-fields}
use Rattle.nmea_plars.specs.declared.Setting.{Setting}
use Rattle.nmea_plars.specs.Plars.{Rule, plars_tag, setting_rules, no_rule, rule_of, index_in, parameter_of, value_of, no_setting, is_source, ranged, fields_setting, setting_of}
use Rattle.frame_writer.specs.Frames.{nmea_frame}
use Rattle.nmea_plars_writer.specs.Text.{value_text, setting_body, takes_setting}
use Rattle.roundtrip_theorems.specs.SettingTrips.{SettingReadThenWritten}
use Rattle.roundtrip_theorems.proofs.MadeLaws.{made-is}
use Rattle.roundtrip_theorems.proofs.NmeaRewritten.{nmea-rewritten}
use Rattle.roundtrip_theorems.proofs.ValueTrips.{value_written}
use Rattle.roundtrip_theorems.proofs.SettingsWritten.{from_fields, setting-of}

-- an answer of 0: its test held
granted : {A : Type 0} (P : Answer A → Type 0) (zeros : A) (t : Bool) (n : ℕ) (a : Answer A) → (unless zeros t (suc n) a).number ≡ 0
    → (t ≡ true → a.number ≡ 0 → P a) → P (unless zeros t (suc n) a)
granted P zeros true n a e k = k refl e
granted P zeros false n a e k = absurd (omega arith)

-- ---- each field is written again as it was

-- the rule that a name was found at has that name
found : (rs : List Rule) (name : List ℕ) → index_in rs name < length rs → (get_or rs (index_in rs name) no_rule).name ≡ name
found [] name h = absurd (omega arith)
found (r ∷ rs) name h = go (eq_bytes name r.name) refl h (found rs name)
  where
    go : (t : Bool) → eq_bytes name r.name ≡ t → cond t 0 (suc (index_in rs name)) < suc (length rs)
        → (index_in rs name < length rs → (get_or rs (index_in rs name) no_rule).name ≡ name)
        → (get_or (r ∷ rs) (cond t 0 (suc (index_in rs name))) no_rule).name ≡ name
    go true e h ih = sym (equal name r.name (subst T (sym e) tt))
    go false e h ih = ih (omega arith)

name-written : (name : List ℕ) → parameter_of name < 4 → (rule_of (parameter_of name)).name ≡ name
unfolding parameter_of
name-written name h = found setting_rules name h

-- the source's field is one byte
one_byte : (s : List ℕ) → length s ≡ 1 → get_or s 0 0 ∷ [] ≡ s
one_byte [] e = absurd (omega arith)
one_byte (b ∷ []) e = refl
one_byte (b ∷ c ∷ s) e = absurd (omega arith)

-- an answer's setting writes these three fields, and is taken
record Rewritten (source name value : List ℕ) (a : Answer Setting) : Type 0 where
  byte : a.value.source ∷ [] ≡ source
  known : (rule_of a.value.parameter).name ≡ name
  text : value_text (rule_of a.value.parameter).decimals a.value.value ≡ value
  taken : takes_setting a.value ≡ true

module _ (source name value : List ℕ) where
  in-range : length source ≡ 1 → is_source (get_or source 0 0) ≡ true → parameter_of name < 4 → (v : Option ℕ) → value_of (rule_of (parameter_of name)).decimals value ≡ v
      → (ranged (get_or source 0 0) (parameter_of name) v).number ≡ 0 → Rewritten source name value (ranged (get_or source 0 0) (parameter_of name) v)
  unfolding takes_setting
  in-range l b p (Some n) q e =
      let r = rule_of (parameter_of name) in
      granted (Rewritten source name value) no_setting (leb r.least n && leb n r.most) 8 _ e
      (λ t h.
      let m = (and-eq-true_iff (leb r.least n) (leb n r.most)).0 t in
      record { byte = one_byte source l; known = name-written name p; text = value_written r.decimals value n q; taken = rw (b, m.0, m.1) })
  in-range l b p None q e = absurd (omega arith)

  fields-rewritten : (fields_setting source name value).number ≡ 0 → Rewritten source name value (fields_setting source name value)
  unfolding fields_setting
  fields-rewritten e =
      granted (Rewritten source name value) no_setting (eqb (length source) 1 && is_source (get_or source 0 0)) 8 _ e
      (λ t f.
      granted (Rewritten source name value) no_setting (ltb (parameter_of name) 4) 8 _ f
      (λ u g.
      let m = (and-eq-true_iff (eqb (length source) 1) (is_source (get_or source 0 0))).0 t in
      in-range (eqb-true (length source) 1 m.0) m.1 (ltb-true (parameter_of name) 4 u) (value_of (rule_of (parameter_of name)).decimals value) refl g))

-- ---- so is the body

abbrev comma : List ℕ → List ℕ → List ℕ
comma s t = s ++ 0x2C ∷ t

-- it writes this body
record Body (b : List ℕ) (a : Answer Setting) : Type 0 where
  same : setting_body a.value ≡ b
  taken : takes_setting a.value ≡ true

body-rewritten : (b : List ℕ) → (from_fields (fields b)).number ≡ 0 → Body b (from_fields (fields b))
unfolding field_at setting_body
body-rewritten b e =
    granted (Body b) no_setting (eq_bytes (field_at b 0) plars_tag) 7 _ e
    (λ t f.
    granted (Body b) no_setting (eqb (length (fields b)) 4) 8 _ f
    (λ u g.
    let r = fields-rewritten (field_at b 1) (field_at b 2) (field_at b 3) g in
    let h = equal (field_at b 0) plars_tag (subst T (sym t) tt) in
    record {
      same = ap₂ comma (sym h) (ap₂ comma r.byte (ap₂ comma r.known r.text)) ∙ four-fields b (eqb-true (length (fields b)) 4 u);
      taken = r.taken;
    }))

-- ---- and the sentence

-- it writes these bytes
pub record Sentence (s : List ℕ) (a : Answer Setting) : Type 0 where
  pub same : nmea_frame (setting_body a.value) ≡ s
  pub taken : takes_setting a.value ≡ true

pub sentence-rewritten : (s : List ℕ) → (setting_of s).number ≡ 0 → Sentence s (setting_of s)
sentence-rewritten s e =
    rw (setting-of s)
    (granted (Sentence s) no_setting (is_frame Nmea s) 6 (from_fields (fields (body_of Nmea s))) (rw (setting-of s) at e)
    (λ t f.
    let r = body-rewritten (body_of Nmea s) f in
    record { same = ap nmea_frame r.same ∙ nmea-rewritten s ((frame-test Nmea s).0 t); taken = r.taken }))

pub setting-read-then-written : SettingReadThenWritten
setting-read-then-written s out e =
    let r = sentence-rewritten s e in
    let x = (setting_of s).value in
    record { taken = r.taken; same = λ h. (made-is 8 (takes_setting x) (nmea_frame (setting_body x)) out h).1 ∙ r.same }
