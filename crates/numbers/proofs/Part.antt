-- Numbers of a part of some bytes: they are numbers of the bytes.
-- Assumes nothing.
use Rattle.std.proofs.Common.{◌≡◌, ℕ, zero, suc, ◌+◌, ◌*◌, ◌^◌, ◌<◌, ◌≤◌, List, get_or, take, drop, refl, ◌∙◌, ap₂, arith, get_or-drop, get_or-take}
use Rattle.numbers.specs.Low.{low}

-- n bytes of s from `from` on; place i of them is place m of s
module _ (s : List ℕ) (from n : ℕ) where
  pub part-byte : (i : ℕ) {m : ℕ} → m ≡ from + i → i < n → get_or (take n (drop from s)) i 0 ≡ get_or s m 0
  part-byte i e h = rw e (get_or-take n (drop from s) i 0 h ∙ get_or-drop from s i 0)

  pub part_low : (k i : ℕ) {m : ℕ} → m ≡ from + i → i + k ≤ n → low k (take n (drop from s)) i ≡ low k s m
  unfolding low
  part_low zero i e h = refl
  part_low (suc k) i e h = ap₂ (λ (a b : ℕ). a + b * 256 ^ k) (part_low k i e (omega arith)) (part-byte (i + k) (omega arith) (omega arith))
