use mathlib.Core.Path.{◌≡◌, refl, ap, ◌∙◌}
use mathlib.Core.Bool.{Bool, true, false, ◌&&◌}
use mathlib.Core.List.{List, [], ◌∷◌}
use Prim.Native.Nat.{ℕ, suc, ◌<◌, min}
use native.Mathlib.Numerals.{add-one}
use native.Mathlib.Omega.{arith}
use lib.Dec.{eqb}
use lib.ListN.{length, get_or, take}
use Rattle.framing.proofs.FrameRunLaws.{take-least}
use Rattle.nmea_sentence.specs.Fields.{before, fields, field_at}
use Rattle.nmea_sentence.specs.Judge.{eq_bytes, has_tag}
use Rattle.nmea_sentence.proofs.JoinLaws.{fields-some}
use Rattle.nmea_sentence.proofs.JudgeLaws.{by-bytes}
use Rattle.nmea_sentence.proofs.has_tag.Goals as goal

-- a byte that is no comma begins the first field
first_plain : (b : ℕ) (fs : List (List ℕ)) → 0 < length fs → get_or (before false b fs) 0 [] ≡ b ∷ get_or fs 0 []
unfolding before
first_plain b [] h = absurd (omega arith)
first_plain b (f ∷ fs) h = refl

-- one byte more than the tag has is enough
near-tag : (tag body : List ℕ) → eq_bytes (field_at (take (suc (length tag)) body) 0) tag ≡ eq_bytes (field_at body 0) tag
unfolding field_at fields before
near-tag tag [] = refl
near-tag [] (b ∷ body) = go (eqb b 0x2C)
  where
    go : (t : Bool) → eq_bytes (get_or (before t b (fields [])) 0 []) [] ≡ eq_bytes (get_or (before t b (fields body)) 0 []) []
    go true = refl
    go false = rw (first_plain b (fields body) (fields-some body))
near-tag (x ∷ tag) (b ∷ body) = go (eqb b 0x2C) (near-tag tag body)
  where
    near : List ℕ
    near = take (suc (length tag)) body

    go : (t : Bool) → eq_bytes (get_or (fields near) 0 []) tag ≡ eq_bytes (get_or (fields body) 0 []) tag
        → eq_bytes (get_or (before t b (fields near)) 0 []) (x ∷ tag) ≡ eq_bytes (get_or (before t b (fields body)) 0 []) (x ∷ tag)
    go true ih = refl
    go false ih =
        rw (first_plain b (fields near) (fields-some near), first_plain b (fields body) (fields-some body))
        (ap (λ (u : Bool). eqb b x && u) ih)

pub returns : goal.returns
unfolding has_tag
returns c =
    let tag = c.args.tag.now in
    let body = c.args.body.now in
    let n = c.min-near.ensures ∙ ap (min (length body)) (add-one (length tag)) in
    let near = ap (λ (k : ℕ). take k body) n ∙ take-least body (suc (length tag)) in
    c.eq.ensures
    ∙ by-bytes c.field.result.now tag
    ∙ ap (λ (f : List ℕ). eq_bytes f tag) c.field.ensures
    ∙ ap (λ (s : List ℕ). eq_bytes (field_at s 0) tag) near
    ∙ near-tag tag body
