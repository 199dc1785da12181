-- Laws of lists of bytes.
-- Assumes nothing.
use Rattle.std.proofs.Common.{ℕ, zero, suc, ◌≤◌, List, [], ◌∷◌, ◌++◌, get_or, take, drop, arith}
use Rattle.framing.specs.Meaning.{Bytes}

pub bytes-at : (s : List ℕ) → Bytes s → (i : ℕ) → get_or s i 0 ≤ 255
bytes-at [] b i = omega arith
bytes-at (x ∷ s) b zero = b.0
bytes-at (x ∷ s) b (suc i) = bytes-at s b.1 i

pub bytes-first : (a b : List ℕ) → Bytes (a ++ b) → Bytes a
bytes-first [] b h = tt
bytes-first (x ∷ a) b h = (h.0, bytes-first a b h.1)

pub bytes_drop : (n : ℕ) (s : List ℕ) → Bytes s → Bytes (drop n s)
bytes_drop zero s b = b
bytes_drop (suc n) [] b = tt
bytes_drop (suc n) (x ∷ s) b = bytes_drop n s b.1

pub bytes_take : (n : ℕ) (s : List ℕ) → Bytes s → Bytes (take n s)
bytes_take zero s b = tt
bytes_take (suc n) [] b = tt
bytes_take (suc n) (x ∷ s) b = (b.0, bytes_take n s b.1)
