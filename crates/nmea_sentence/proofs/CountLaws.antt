-- How many fields a sentence has, where it is one frame.
-- Assumes nothing.
use Prim.Native.Nat.{ℕ, suc, ◌-◌}
use mathlib.Core.Path.{◌≡◌, refl, ap, ◌∙◌}
use mathlib.Core.Bool.{Bool, true, false, cond}
use mathlib.Core.List.{List}
use lib.ListN.{length}
use Rattle.std.specs.Prelude.{Some, None}
use borrow.Author.Tests.{eq-eqb}
use Rattle.framing.specs.declared.Found.TheVariants.{Frame}
use Rattle.framing.specs.declared.Format.TheVariants.{Nmea}
use Rattle.framing.specs.Format.{body_start, body_end}
use Rattle.framing.specs.Frame.{front}
use Rattle.framing.specs.Nmea.{comma_count}
use Rattle.framing.specs.Rules.{part}
use Rattle.content.specs.Body.{is_frame, body_of, between_of}
use Rattle.content.proofs.BodyLaws.{body-between, between-at}
use Rattle.nmea_sentence.specs.Fields.{fields}
use Rattle.nmea_sentence.specs.Private.{fields_in}
use Rattle.nmea_sentence.proofs.FieldLaws.{comma-fields}

pub count_none : (s : List ℕ) → is_frame Nmea s ≡ false → None ≡ fields_in s
unfolding fields_in
count_none s h = rw h

pub count-some : (s : List ℕ) {l : List ℕ} {n : ℕ} → is_frame Nmea s ≡ true → l ≡ between_of Nmea s → n ≡ length (fields l) → Some n ≡ fields_in s
unfolding fields_in
count-some s h e f = rw h (ap Some (f ∙ ap (λ (b : List ℕ). length (fields b)) (e ∙ body-between Nmea s h)))

-- the count of `framing`
pub count-told : (s : List ℕ) (n : ℕ) → (front Nmea s ≡ Frame (length s)) × (n ≡ suc (comma_count (part 1 (length s - 5) s))) → Some n ≡ fields_in s
unfolding is_frame body_start body_end
count-told s n k =
    count-some s (rw (k.0, eq-eqb (length s) _ refl)) (between-at Nmea s {a = 1} {e = 5} refl refl) (k.1 ∙ comma-fields (part 1 (length s - 5) s))

module _ (s : List ℕ) where
  pub frame-not : None ≡ fields_in s → is_frame Nmea s ≡ false
  unfolding fields_in
  frame-not e = go (is_frame Nmea s) e
    where
      go : (t : Bool) → None ≡ cond t (Some (length (fields (body_of Nmea s)))) None → t ≡ false
      go true u = cc
      go false u = refl

  pub frame_is : {n : ℕ} → Some n ≡ fields_in s → (is_frame Nmea s ≡ true) × (n ≡ length (fields (body_of Nmea s)))
  unfolding fields_in
  frame_is {n} e = go (is_frame Nmea s) e
    where
      go : (t : Bool) → Some n ≡ cond t (Some (length (fields (body_of Nmea s)))) None → (t ≡ true) × (n ≡ length (fields (body_of Nmea s)))
      go true u = (refl, cc)
      go false u = cc
