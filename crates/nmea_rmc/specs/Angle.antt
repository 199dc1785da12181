-- The angles of RMC, in hundred-thousandths of a minute (docs/FORMATS.md, "NMEA content").
use Rattle.std.specs.Prelude.{ℕ, ◌+◌, ◌-◌, ◌*◌, cond, ◌&&◌, List, ℤ, pos, neg_ℤ, Option, Some, None, leb, ltb, eqb, length, get_or, take, drop}
use Rattle.nmea_sentence.specs.Digits.{digits_of}
use Rattle.nmea_rmc.specs.declared.angle.Hemisphere.{Hemisphere}
use Rattle.nmea_rmc.specs.declared.angle.Hemisphere.TheVariants.{Plus, Minus, Neither}

-- degrees, minutes below 60, and hundred-thousandths of a minute
abbrev pub angle_sum : Option ℕ → Option ℕ → Option ℕ → Option ℕ
angle_sum None m f = None
angle_sum (Some d) None f = None
angle_sum (Some d) (Some m) None = None
angle_sum (Some d) (Some m) (Some f) = cond (ltb m 60) (Some (d * 6000000 + m * 100000 + f)) None

-- 1 to `most` degree digits, two minute digits, a point, five digits: so the degrees end 8 bytes before the field's end
unfoldable pub angle_of : ℕ → List ℕ → Option ℕ
angle_of most s =
    let k = length s - 8 in
    cond (leb 9 (length s) && leb k most && eqb (get_or s (k + 2) 0) 0x2E)
    (angle_sum (digits_of (take k s)) (digits_of (take 2 (drop k s))) (digits_of (drop (k + 3) s)))
    None

-- one letter
unfoldable pub hemisphere_of : ℕ → ℕ → List ℕ → Hemisphere
hemisphere_of plus minus s =
    cond (eqb (length s) 1) (cond (eqb (get_or s 0 0) plus) Plus (cond (eqb (get_or s 0 0) minus) Minus Neither)) Neither

-- the size with its hemisphere, where it is at most `most`
abbrev pub place : ℕ → Option ℕ → Hemisphere → Option ℤ
place most None hemisphere = None
place most (Some n) Plus = cond (leb n most) (Some (pos n)) None
place most (Some n) Minus = cond (leb n most) (Some (neg_ℤ (pos n))) None
place most (Some n) Neither = None

-- N and S, at most 90 degrees
unfoldable pub latitude_of : List ℕ → List ℕ → Option ℤ
latitude_of s hemisphere = place (90 * 6000000) (angle_of 2 s) (hemisphere_of 0x4E 0x53 hemisphere)

-- E and W, at most 180 degrees
unfoldable pub longitude_of : List ℕ → List ℕ → Option ℤ
longitude_of s hemisphere = place (180 * 6000000) (angle_of 3 s) (hemisphere_of 0x45 0x57 hemisphere)
