-- Bytes one behind the other that pass a test, as code goes through them in blocks.
-- Assumes nothing.
use Rattle.std.proofs.Common.{◌≡◌, ℕ, Bool, true, false, ltb, List, get_or, refl, ltb-false, ltb-true}
use Rattle.framing.specs.Private.{Each}

module _ (p : ℕ → Bool) (s : List ℕ) where
  -- two runs, one after the other
  pub both : (a k e : ℕ) → Each p a k s → Each p k e s → Each p a e s
  both a k e h q j l g = pick (ltb j k) refl
    where
      pick : (t : Bool) → ltb j k ≡ t → p (get_or s j 0) ≡ true
      pick true t = h j l (ltb-true j k t)
      pick false t = q j (ltb-false j k t) g
