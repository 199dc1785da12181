-- A head that tells how many bytes its shape has. Assumes nothing.
use Rattle.std.proofs.Common.{◌≡◌, ℕ, ◌+◌, ◌-◌, ◌<◌, ◌≤◌, Bool, true, false, cond, ltb, List, [], ◌++◌, length, get_or, refl, ap, ◌∙◌, subst, append-nil, arith, length-append, get_or-append-add, ltb-false, ltb-true, Option, Some, None, IfSome, sym}
use lib.ListN.{get_or-append}
use borrow.Author.Tests.{lt-leb}
use Rattle.framing.specs.declared.Scanned.TheVariants.{Partial}
use Rattle.framing.specs.declared.Format.{Format}
use Rattle.framing.specs.declared.Format.TheVariants.{Mgl, Onflight, Nmea}
use Rattle.framing.specs.Format.{next}
use Rattle.framing.specs.Mgl.{length_from_byte, mgl_next}
use Rattle.framing.specs.Onflight.{onflight_next}
use Rattle.framing.specs.Nmea.{permitted}
use Rattle.framing.specs.Shape.{scan}
use Rattle.framing.specs.declared.Growth.TheVariants.{Grows, Waits, Unsaid}
use Rattle.framing.specs.Growth.{Grown}
use Rattle.framing.specs.Private.{Permitted, Reached, told_length, Needs, GrownBy, told_by}
use Rattle.framing.proofs.ShapeLaws.{scan-more, scan-end, counted-at}
use Rattle.framing.proofs.BodyLaws.{reached-scan}
use Rattle.framing.proofs.MglLaws.{mgl-whole, told}
use Rattle.framing.proofs.OnflightLaws.{onflight-counts}

-- some bytes that are fewer are a proper start
pub needs-start : (f : Format) (s : List ℕ) (m : ℕ) → Needs f s m → length s < m → scan f s ≡ Partial
needs-start f s m n h = rw (append-nil s) at (n [] (rw (append-nil s) h))

module _ (s : List ℕ) (l : 4 ≤ length s) (ys : List ℕ) where
  -- the head stays, whatever follows
  kept : (i : ℕ) → i < 4 → get_or (s ++ ys) i 0 ≡ get_or s i 0
  kept i h = get_or-append s ys 0 i (omega arith)

  longer : 4 ≤ length (s ++ ys)
  longer = omega (arith, length-append s ys)

  head-mgl : get_or s 0 0 ≡ 0x05 → get_or s 1 0 ≡ 0x02 → get_or s 2 0 + get_or s 3 0 ≡ 255 → (m : ℕ) → length_from_byte (get_or s 2 0) + 20 ≡ m
      → length (s ++ ys) < m → scan Mgl (s ++ ys) ≡ Partial
  unfolding scan next mgl_next
  head-mgl a b h m e k =
      scan-more Mgl 0 0 (s ++ ys) (omega (arith, longer)) (rw (kept 0 (omega arith), a))
      ∙ scan-more Mgl 1 0 (s ++ ys) (omega (arith, longer)) (rw (kept 1 (omega arith), b))
      ∙ mgl-whole (s ++ ys) longer (rw (kept 2 (omega arith), kept 3 (omega arith)) h) m (rw (kept 2 (omega arith)) e)
      ∙ rw (lt-leb m (length (s ++ ys)) k)

  head-onflight : get_or s 0 0 ≡ 0x42 → get_or s 1 0 ≡ 0x46 → get_or s 2 0 ≡ 0x01 → get_or s 3 0 ≡ 0x98
      → length (s ++ ys) < 158 → scan Onflight (s ++ ys) ≡ Partial
  unfolding scan next onflight_next
  head-onflight a b d e k =
      scan-more Onflight 0 0 (s ++ ys) (omega (arith, longer)) (rw (kept 0 (omega arith), a))
      ∙ scan-more Onflight 1 0 (s ++ ys) (omega (arith, longer)) (rw (kept 1 (omega arith), b))
      ∙ scan-more Onflight 2 0 (s ++ ys) (omega (arith, longer)) (rw (kept 2 (omega arith), d))
      ∙ scan-more Onflight 3 0 (s ++ ys) (omega (arith, longer)) (rw (kept 3 (omega arith), e))
      ∙ counted-at Onflight 4 onflight-counts 4 158 (s ++ ys) (omega arith) longer (omega arith)
      ∙ rw (lt-leb 158 (length (s ++ ys)) k)

module _ (s : List ℕ) (l : 4 ≤ length s) (a : get_or s 0 0 ≡ 0x05) (b : get_or s 1 0 ≡ 0x02) where
  pub mgl-needs : {o : Option ℕ} → o ≡ told_length s → IfSome o (Needs Mgl s)
  mgl-needs {o} q = go o q
    where
      go : (o : Option ℕ) → o ≡ told_length s → IfSome o (Needs Mgl s)
      go None q = tt
      go (Some m) q = let w = told s m (sym q) in λ ys k. head-mgl s l ys a b w.0 m w.1 k

pub onflight-needs : (s : List ℕ) → 4 ≤ length s → get_or s 0 0 ≡ 0x42 → get_or s 1 0 ≡ 0x46 → get_or s 2 0 ≡ 0x01 → get_or s 3 0 ≡ 0x98
    → Needs Onflight s 158
onflight-needs s l a b d e ys k = head-onflight s l ys a b d e k

-- ---- what more bytes make of a start

less : (f : Format) (s ys : List ℕ) (m : ℕ) → Needs f s m → (b : Bool) → ltb (length s) m ≡ b → Grown f s ys (cond b Waits Unsaid)
less f s ys m n true e = needs-start f s m n (ltb-true (length s) m e)
less f s ys m n false e = tt

pub needs-grown : (f : Format) (s : List ℕ) (more m : ℕ) → Needs f s m → GrownBy f s more (told_by (length s) more m)
needs-grown f s more m n ys l = go (ltb (length s + more) m) refl
  where
    all : length (s ++ ys) ≡ length s + more
    all = length-append s ys ∙ rw l

    go : (b : Bool) → ltb (length s + more) m ≡ b → Grown f s ys (cond b Grows (cond (ltb (length s) m) Waits Unsaid))
    go true e =
        let h = ltb-true (length s + more) m e in
        (needs-start f s m n (omega arith), n ys (rw all h))
    go false e = less f s ys m n (ltb (length s) m) refl

-- ---- an unended body

module _ (s : List ℕ) (d : get_or s 0 0 ≡ 0x24) (k : length s ≤ 77) (r : Reached (length s) s) where
  pub body-waits : scan Nmea s ≡ Partial
  body-waits = reached-scan s d (length s) r k ∙ scan-end Nmea (length s) 0 s (omega arith)

-- a body that permitted bytes follow
pub body-grows : (s ys : List ℕ) → get_or s 0 0 ≡ 0x24 → Reached (length s) s → length s + length ys ≤ 77 → Permitted 0 (length ys) ys → scan Nmea (s ++ ys) ≡ Partial
body-grows s ys d r k p =
    let n = length-append s ys in
    body-waits (s ++ ys) (get_or-append s ys 0 0 (omega (arith, r.some)) ∙ d) (omega arith)
    (record { some = omega (arith, r.some); inside = omega arith; body = λ j l g. go j l (omega arith) (ltb j (length s)) refl })
  where
    go : (j : ℕ) → 1 ≤ j → j < length s + length ys → (b : Bool) → ltb j (length s) ≡ b → permitted (get_or (s ++ ys) j 0) ≡ true
    go j l g true e = let h = ltb-true j (length s) e in ap permitted (get_or-append s ys 0 j h) ∙ r.body j l h
    go j l g false e =
        let h = ltb-false j (length s) e in
        let m : length s + (j - length s) ≡ j = omega arith in
        ap permitted (subst (λ i. get_or (s ++ ys) i 0 ≡ get_or ys (j - length s) 0) m (get_or-append-add s ys (j - length s) 0)) ∙ p (j - length s) (omega arith) (omega arith)
