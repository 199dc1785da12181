-- The body of a sentence, as code goes through it, and what a scan makes of the bytes passed.
-- Assumes nothing.
use Rattle.std.proofs.Common.{◌≡◌, ℕ, zero, suc, ◌+◌, ◌<◌, ◌≤◌, Bool, true, false, cond, ltb, List, length, get_or, take, drop, refl, ap, ◌∙◌, add-one, arith, length-take-le, get_or-take, ltb-false, ltb-true}
use Rattle.framing.specs.declared.Reason.TheVariants.{BodyTooLong}
use Rattle.framing.specs.declared.Scanned.TheVariants.{Whole, Partial, Broken}
use Rattle.framing.specs.Nmea.{permitted, nmea_next}
use Rattle.framing.specs.declared.Format.TheVariants.{Nmea}
use Rattle.framing.specs.Format.{next}
use Rattle.framing.specs.Shape.{scan_from, scan}
use Rattle.framing.specs.Private.{ending_byte, Permitted, Ended, Reached}
use Rattle.framing.proofs.RunLaws.{both}
use Rattle.framing.proofs.ShapeLaws.{scan-more, scan-end}
use Rattle.framing.proofs.NmeaLaws.{body-long, body_more, star-more, end_more, end_whole}

-- ---- the bytes passed

pub one : (s : List ℕ) (k : ℕ) → permitted (get_or s k 0) ≡ true → Permitted k (k + 1) s
one s k p j l g = let e : j ≡ k = omega arith in rw e p

pub reached-first : (s : List ℕ) → 0 < length s → Reached 1 s
reached-first s h = record { some = omega arith; inside = h; body = λ j l g. absurd (omega arith) }

pub reached-back : {s : List ℕ} {k : ℕ} (j : ℕ) → Reached k s → 0 < j → j ≤ k → Reached j s
reached-back j r h l = let g = r.inside in record { some = h; inside = omega arith; body = λ i a b. r.body i a (omega arith) }

pub reached-on : {s : List ℕ} {k : ℕ} (n : ℕ) → Reached k s → k + n ≤ length s → Permitted k (k + n) s → Reached (k + n) s
reached-on {s} {k} n r l p = let h = r.some in record { some = omega arith; inside = l; body = both permitted s 1 k (k + n) r.body p }

pub reached-more : {s : List ℕ} {k : ℕ} → Reached k s → k < length s → permitted (get_or s k 0) ≡ true → Reached (k + 1) s
reached-more {s} {k} r l p = reached-on 1 r (omega arith) (one s k p)

-- what stands in the first e bytes of a body
pub reached-within : {s : List ℕ} {k : ℕ} (e j : ℕ) → Reached k s → e ≤ length s → 0 < j → j ≤ k → j ≤ e → Reached j (take e s)
reached-within {s} e j r i h l m =
    record { some = h; inside = rw (length-take-le e s i) m; body = λ n a b. rw (get_or-take e s n 0 (omega arith)) (r.body n a (omega arith)) }

two : (e : ℕ) → e + 1 + 1 ≡ e + 2
two e = omega arith

three : (e : ℕ) → e + 1 + 1 + 1 ≡ e + 3
three e = omega arith

four : (e : ℕ) → e + 1 + 1 + 1 + 1 ≡ e + 4
four e = omega arith

-- ---- the scan of them

no-star : (b : ℕ) → permitted b ≡ true → b ≡ 0x2A → ⊥
no-star b p e = let q : false ≡ true = rw e at p in let z : ◌≡◌ {A = ℕ} 0 1 = cc in omega arith

module _ (s : List ℕ) (d : get_or s 0 0 ≡ 0x24) where
  pub reached-scan : (k : ℕ) → Reached k s → k ≤ 77 → scan Nmea s ≡ scan_from Nmea k 0 (drop k s)
  unfolding scan next nmea_next
  reached-scan zero r l = let h = r.some in absurd (omega arith)
  reached-scan (suc zero) r l = let h = r.inside in scan-more Nmea 0 0 s (omega arith) (rw d)
  reached-scan (suc (suc k)) r l =
      let h = r.inside in
      let p = r.body (suc k) (omega arith) (omega arith) in
      reached-scan (suc k) (reached-back (suc k) r (omega arith) (omega arith)) (omega arith)
      ∙ (rw (add-one (suc k)) at (body_more s (suc k) (omega arith) (omega arith) (no-star (get_or s (suc k) 0) p) p (omega arith)))

  -- a body that goes past place 77 is too long
  pub reached-long : (k : ℕ) → Reached k s → 77 < k → scan Nmea s ≡ Broken BodyTooLong
  reached-long k r l =
      let h = r.inside in
      let p = r.body 77 (omega arith) l in
      reached-scan 77 (reached-back 77 r (omega arith) (omega arith)) (omega arith)
      ∙ body-long s 77 (omega arith) (omega arith) (no-star (get_or s 77 0) p) p (omega arith)

  -- one that goes on to the end
  pub reached-all : Reached (length s) s → scan Nmea s ≡ cond (ltb 77 (length s)) (Broken BodyTooLong) Partial
  reached-all r = go (ltb 77 (length s)) refl
    where
      go : (b : Bool) → ltb 77 (length s) ≡ b → scan Nmea s ≡ cond b (Broken BodyTooLong) Partial
      go true e = reached-long (length s) r (ltb-true 77 (length s) e)
      go false e = reached-scan (length s) r (ltb-false 77 (length s) e) ∙ scan-end Nmea (length s) 0 s (omega arith)

  -- one that the end of a sentence follows
  pub ended-whole : (e : ℕ) → Reached e s → e ≤ 77 → 1 < e → length s ≡ e + 5 → Ended s e → scan Nmea s ≡ Whole (length s)
  unfolding ending_byte
  ended-whole e r l g n d =
      let w : e + 1 + 1 + 1 + 1 + 1 ≡ length s = omega arith in
      reached-scan e r l
      ∙ star-more s e r.some (omega arith) d.star (omega arith)
      ∙ end_more s (e + 1) 1 (omega arith) (omega arith) (omega arith) (omega arith) d.high (omega arith)
      ∙ end_more s (e + 1 + 1) 2 (omega arith) (omega arith) (omega arith) (omega arith) (rw (two e) d.low) (omega arith)
      ∙ end_more s (e + 1 + 1 + 1) 3 (omega arith) (omega arith) (omega arith) (omega arith) (rw (three e, d.return)) (omega arith)
      ∙ end_whole s (e + 1 + 1 + 1 + 1) 4 (omega arith) (omega arith) (omega arith) (omega arith) (rw (four e, d.feed)) refl
      ∙ ap Whole w
