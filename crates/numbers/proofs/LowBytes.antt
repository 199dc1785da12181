-- The bytes of a number, low byte first, both ways: they are read back as the number, and the bytes of the number that some bytes make are
-- these bytes.
-- Assumes nothing.
use Rattle.std.proofs.Common.{◌≡◌, ℕ, zero, suc, ◌+◌, ◌*◌, ◌/◌, ◌%◌, ◌^◌, ◌<◌, ◌≤◌, List, ◌∷◌, ◌++◌, length, get_or, take, drop, sym, refl, ap, ◌∙◌, ap₂, add-zero, add_comm, pow-suc, div-one, arith, lit<, drop-cons, get_or-append-add}
use native.Mathlib.Nat.{mod-one, one-le-pow, pow-succ', div-div-eq-div-mul}
use lib.Arith.{mod-mul}
use Rattle.std.specs.Int.{Width, byte_len, byte_at, bytes_low_first, to_le_bytes}
use Rattle.numbers.specs.Low.{low, low_bytes}

pub length-low_bytes : (k n : ℕ) → length (low_bytes k n) ≡ k
unfolding low_bytes
length-low_bytes zero n = refl
length-low_bytes (suc k) n = ap suc (length-low_bytes k (n / 256))

low_bytes-at : (k n i : ℕ) → i < k → get_or (low_bytes k n) i 0 ≡ n / 256 ^ i % 256
unfolding low_bytes
low_bytes-at zero n i h = absurd (omega arith)
low_bytes-at (suc k) n zero h = ap (λ (m : ℕ). m % 256) (sym (div-one n))
low_bytes-at (suc k) n (suc i) h =
    low_bytes-at k (n / 256) i (omega arith) ∙ ap (λ (m : ℕ). m % 256) (div-div-eq-div-mul n 256 (256 ^ i) ∙ ap (λ (m : ℕ). n / m) (sym (pow-succ' 256 i)))

-- bytes that are a number's are read as what so many bytes hold of it
low_of : (k n : ℕ) (s : List ℕ) (at : ℕ) → ((i : ℕ) → i < k → get_or s (at + i) 0 ≡ n / 256 ^ i % 256) → low k s at ≡ n % 256 ^ k
unfolding low
low_of zero n s at h = sym (mod-one n)
low_of (suc k) n s at h =
    ap₂ (λ (a b : ℕ). a + b * 256 ^ k) (low_of k n s at (λ i l. h i (omega arith))) (h k (omega arith))
    ∙ add_comm (n % 256 ^ k) (n / 256 ^ k % 256 * 256 ^ k)
    ∙ sym (mod-mul n {m = 256} {c = 256 ^ k} (lit< tt) (one-le-pow k 256 (lit< tt)))
    ∙ ap (λ (m : ℕ). n % m) (sym (pow-succ' 256 k))

-- The bytes of a number, behind others, are read as what so many bytes hold of it.
pub low-low_bytes : (k n : ℕ) (xs : List ℕ) → low k (xs ++ low_bytes k n) (length xs) ≡ n % 256 ^ k
low-low_bytes k n xs = low_of k n (xs ++ low_bytes k n) (length xs) (λ i h. get_or-append-add xs (low_bytes k n) i 0 ∙ low_bytes-at k n i h)

-- ---- back

-- the first byte counts as it is, and the others 256 times
low_first : (k : ℕ) (s : List ℕ) (at : ℕ) → low (suc k) s at ≡ get_or s at 0 + low k s (suc at) * 256
unfolding low
low_first zero s at = rw (add-zero at) (omega arith)
low_first (suc k) s at =
    let n : at + suc k ≡ suc at + k = omega arith in
    rw (n, low_first k s at, pow-suc 256 k) (omega arith)

first_byte : (k b m : ℕ) → b ≤ 255 → low_bytes (suc k) (b + m * 256) ≡ b ∷ low_bytes k m
unfolding low_bytes
first_byte k b m h =
    let low : (b + m * 256) % 256 ≡ b = omega arith in
    let high : (b + m * 256) / 256 ≡ m = omega arith in
    rw (low, high)

pub bytes-of-low : (k : ℕ) (s : List ℕ) (at : ℕ) → at + k ≤ length s → ((i : ℕ) → i < k → get_or s (at + i) 0 ≤ 255)
    → low_bytes k (low k s at) ≡ take k (drop at s)
unfolding low_bytes
bytes-of-low zero s at l h = refl
bytes-of-low (suc k) s at l h =
    ap (low_bytes (suc k)) (low_first k s at)
    ∙ first_byte k (get_or s at 0) (low k s (suc at)) (rw (add-zero at) at (h 0 (omega arith)))
    ∙ rw (drop-cons s at 0 (omega arith), bytes-of-low k s (suc at) (omega arith) later)
  where
    later : (i : ℕ) → i < k → get_or s (suc at + i) 0 ≤ 255
    later i g = let n : at + suc i ≡ suc at + i = omega arith in rw n at (h (suc i) (omega arith))

-- ---- std's words

std_bytes : (i k n : ℕ) → bytes_low_first i k n ≡ low_bytes k (n / 256 ^ i)
unfolding low_bytes
std_bytes i zero n = refl
std_bytes i (suc k) n = ap₂ (λ (b : ℕ) (bs : List ℕ). b ∷ bs) (byte i) (std_bytes (suc i) k n ∙ ap (low_bytes k) next)
  where
    byte : (i : ℕ) → byte_at i n ≡ n / 256 ^ i % 256
    byte zero = ap (λ (m : ℕ). m % 256) (sym (div-one n))
    byte (suc i) = refl

    next : n / 256 ^ suc i ≡ n / 256 ^ i / 256
    next = ap (λ (m : ℕ). n / m) (pow-suc 256 i) ∙ sym (div-div-eq-div-mul n (256 ^ i) 256)

-- the bytes of `n.to_le_bytes()`
pub to_le_bytes-low : (w : Width) (n : ℕ) → to_le_bytes w n ≡ low_bytes (byte_len w) n
to_le_bytes-low w n = std_bytes 0 (byte_len w) n ∙ ap (low_bytes (byte_len w)) (div-one n)
