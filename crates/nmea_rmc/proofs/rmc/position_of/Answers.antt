use Prim.Native.Nat.{ℕ, ◌+◌}
use borrow.Author.Rules.{rules}
use lib.ListN.{length, drop}
use mathlib.Core.List.{List}
use mathlib.Core.Path.{◌≡◌, ◌∙◌}
use mir.Syntax.{w32}
use Rattle.numbers.proofs.Size.{stays}
use Rattle.nmea_sentence.specs.Fields.{field_at, from_field}
use Rattle.nmea_sentence.proofs.FromLaws.{From, from_start, from-later, from_next}
use Rattle.nmea_rmc.specs.Angle.{latitude_of, longitude_of}
use Rattle.nmea_rmc.proofs.rmc.position_of.Goals as goal

-- the fields 3 to 6 of a body, each found behind the one before
module _ (body : List ℕ) {tail s3 s4 lat lat_side : List ℕ} (begins : tail ≡ from_field body 1) (third : s3 ≡ from_field tail 2)
    (a : lat ≡ field_at s3 0) (after_a : s4 ≡ drop (length lat + 1) s3) (b : lat_side ≡ field_at s4 0) where
  from3 : From body 3 s3
  from3 = from-later 2 (from_start body 1 begins) third

  from4 : From body 4 s4
  from4 = from_next from3 a after_a

  north : latitude_of lat lat_side ≡ latitude_of (field_at body 3) (field_at body 4)
  north = λ j. latitude_of ((a ∙ from3.at 0) j) ((b ∙ from4.at 0) j)

  module _ {s5 s6 lon lon_side : List ℕ} (after_b : s5 ≡ drop (length lat_side + 1) s4)
      (c : lon ≡ field_at s5 0) (after_c : s6 ≡ drop (length lon + 1) s5) (d : lon_side ≡ field_at s6 0) where
    from5 : From body 5 s5
    from5 = from_next from4 b after_b

    found : (latitude_of lat lat_side ≡ latitude_of (field_at body 3) (field_at body 4))
        × (longitude_of lon lon_side ≡ longitude_of (field_at body 5) (field_at body 6))
    found = (north, λ j. longitude_of ((c ∙ from5.at 0) j) ((d ∙ (from_next from5 c after_c).at 0) j))

pub returns-in_default : goal.returns-in_default
returns-in_default c =
    let n = north _ c.after_tag.ensures c.from_field-from3.ensures c.field-lat.ensures c.after_field-from4.ensures c.field-lat_side.ensures in
    rw (← n, ← c.latitude.ensures, c.in_default.is)

pub returns-in_default-longitude : goal.returns-in_default-longitude
returns-in_default-longitude c =
    let a = found _ c.after_tag.ensures c.from_field-from3.ensures c.field-lat.ensures c.after_field-from4.ensures c.field-lat_side.ensures in
    let f = a c.after_field-from5.ensures c.field-lon.ensures c.after_field-from6.ensures c.field-lon_side.ensures in
    rw (← f.0, ← c.latitude.ensures, c.in-Some.is, ← f.1, ← c.longitude.ensures, c.in_default-longitude.is)

pub returns : goal.returns
returns c =
    let a = found _ c.after_tag.ensures c.from_field-from3.ensures c.field-lat.ensures c.after_field-from4.ensures c.field-lat_side.ensures in
    let f = a c.after_field-from5.ensures c.field-lon.ensures c.after_field-from6.ensures c.field-lon_side.ensures in
    rw (
      ← f.0,
      ← c.latitude.ensures,
      c.in-Some.is,
      ← f.1,
      ← c.longitude.ensures,
      c.in-Some-longitude.is,
      stays w32 {z = c.in-Some.latitude} (record { sfits = search rules }),
      stays w32 {z = c.in-Some-longitude.longitude} (record { sfits = search rules }),
    )
