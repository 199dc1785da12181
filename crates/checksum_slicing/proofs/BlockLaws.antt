-- Blocks of eight bytes, and the first block, in front of which zeros may stand. Assumes nothing.
use mathlib.Core.Path.{◌≡◌, refl, sym, ap, ◌∙◌}
use mathlib.Core.List.{List, [], ◌∷◌, foldl}
use Prim.Native.Nat.{ℕ, zero, suc, ◌+◌, ◌-◌, ◌*◌, ◌/◌, ◌%◌, ◌^◌, ◌≤◌, ◌<◌}
use native.Mathlib.Nat.{add-zero, zero-add, suc-add}
use native.Mathlib.Omega.{arith}
use lib.Dec.{lit<}
use lib.ListN.{length, get_or, drop, drop_of_length-le, replicate, get_or-replicate}
use lib.Bits.{bit_xor, xor_comm, xor_shifted}
use Rattle.std.specs.Int.{w64, from_le_bytes}
use Rattle.checksum.specs.Crc.{bit_step, bit_steps, byte_step, crc_of}
use Rattle.checksum.proofs.CrcLaws.{bit_steps-xor, bit_steps-shifted}
use Rattle.checksum.proofs.XorLaws.{xor_assoc}
use Rattle.checksum.proofs.Fold.{fold_more}
use Rattle.checksum_slicing.specs.Private.{word_at, after_block, openings, First}
use Rattle.checksum_slicing.proofs.StepLaws.{bit_steps-add}

abbrev pub Small : List ℕ → Type 0
Small s = (k : ℕ) → get_or s k 0 < 256

-- ---- eight bytes

-- a byte and the number of those after it
join : (n c b v : ℕ) → b < 256 → bit_steps n (bit_xor (byte_step c b) v) ≡ bit_steps (8 + n) (bit_xor c (b + 256 * v))
unfolding byte_step
join n c b v h =
    ap (λ (y : ℕ). bit_steps n (bit_xor (bit_steps 8 (bit_xor c b)) y)) (sym (bit_steps-shifted 8 v))
    ∙ ap (bit_steps n)
    (sym (bit_steps-xor 8 (bit_xor c b) (v * 256))
    ∙ ap (bit_steps 8) (xor_assoc c b (v * 256) ∙ ap (bit_xor c) (xor_comm b (v * 256) ∙ xor_shifted v 8 b h ∙ omega arith)))
    ∙ sym (bit_steps-add 8 n (bit_xor c (b + 256 * v)))

alone : (c b : ℕ) → byte_step c b ≡ bit_steps 8 (bit_xor c b)
unfolding byte_step
alone c b = refl

-- four bytes are 32 bit steps on their number
four : (c b0 b1 b2 b3 : ℕ) → b0 < 256 → b1 < 256 → b2 < 256
    → byte_step (byte_step (byte_step (byte_step c b0) b1) b2) b3 ≡ bit_steps 32 (bit_xor c (b0 + 256 * (b1 + 256 * (b2 + 256 * b3))))
four c b0 b1 b2 b3 h0 h1 h2 = alone _ b3 ∙ join 8 _ b2 _ h2 ∙ join 16 _ b1 _ h1 ∙ join 24 c b0 _ h0

next-byte : (c : ℕ) (s : List ℕ) (i : ℕ) {j : ℕ} → j ≡ i + 1 → i < length s → foldl byte_step (byte_step c (get_or s i 0)) (drop j s) ≡ foldl byte_step c (drop i s)
next-byte c s i e h = rw e (fold_more byte_step s i h refl)

four-more : (c : ℕ) (s : List ℕ) (i : ℕ) {j : ℕ} → j ≡ i + 4 → j ≤ length s → Small s
    → foldl byte_step (bit_steps 32 (bit_xor c (word_at s i))) (drop j s) ≡ foldl byte_step c (drop i s)
four-more c s i {j} e h small =
    let e3 : j ≡ i + 3 + 1 = omega arith in
    let e2 : i + 3 ≡ i + 2 + 1 = omega arith in
    let e1 : i + 2 ≡ i + 1 + 1 = omega arith in
    ap (λ (x : ℕ). foldl byte_step x (drop j s)) (sym (four c _ _ _ _ (small i) (small (i + 1)) (small (i + 2))))
    ∙ next-byte _ s (i + 3) e3 (omega arith)
    ∙ next-byte _ s (i + 2) e2 (omega arith)
    ∙ next-byte _ s (i + 1) e1 (omega arith)
    ∙ next-byte c s i refl (omega arith)

near-far : (x y : ℕ) → bit_xor (bit_steps 32 y) (bit_steps 64 x) ≡ bit_steps 32 (bit_xor (bit_steps 32 x) y)
near-far x y =
    ap (bit_xor (bit_steps 32 y)) (bit_steps-add 32 32 x)
    ∙ xor_comm (bit_steps 32 y) (bit_steps 32 (bit_steps 32 x))
    ∙ sym (bit_steps-xor 32 (bit_steps 32 x) y)

pub eight-more : (c : ℕ) (s : List ℕ) (i : ℕ) → i + 8 ≤ length s → Small s
    → foldl byte_step (after_block (bit_xor c (word_at s i)) (word_at s (i + 4))) (drop (i + 8) s) ≡ foldl byte_step c (drop i s)
eight-more c s i h small =
    ap (λ (x : ℕ). foldl byte_step x (drop (i + 8) s)) (near-far (bit_xor c (word_at s i)) (word_at s (i + 4)))
    ∙ four-more _ s (i + 4) (omega arith) h small
    ∙ four-more c s i refl (omega arith) small

-- a turn of the loop: c is the state so far, x and y are the words at i, and d is the state behind them
pub block_more : (s : List ℕ) (i c : ℕ) {d x y : ℕ} → Small s → (length s - i) % 8 ≡ 0 → i < length s → x ≡ word_at s i → y ≡ word_at s (i + 4)
    → d ≡ after_block (bit_xor c x) y → foldl byte_step d (drop (i + 8) s) ≡ foldl byte_step c (drop i s)
block_more s i c small w h f g e = rw (e, f, g) (eight-more c s i (omega arith) small)

-- behind the last block
pub all_read : (c : ℕ) (s : List ℕ) (i : ℕ) → length s ≤ i → foldl byte_step c (drop i s) ≡ foldl byte_step 0xFFFFFFFF s → bit_xor c 0xFFFFFFFF ≡ crc_of s
unfolding crc_of
all_read c s i h e = ap (λ (x : ℕ). bit_xor x 0xFFFFFFFF) (rw (drop_of_length-le s h) at e)

-- ---- zeros in front

abbrev pub zeros : ℕ → List ℕ → List ℕ
zeros zero s = s
zeros (suc n) s = 0 ∷ zeros n s

small-zeros : (n : ℕ) (s : List ℕ) → Small s → Small (zeros n s)
small-zeros zero s h k = h k
small-zeros (suc n) s h zero = lit< tt
small-zeros (suc n) s h (suc k) = small-zeros n s h k

length-zeros : (n : ℕ) (s : List ℕ) → length (zeros n s) ≡ n + length s
length-zeros zero s = omega arith
length-zeros (suc n) s = omega (arith, length-zeros n s)

fold-zeros : (n c : ℕ) (s : List ℕ) → foldl byte_step c (zeros n s) ≡ foldl byte_step (foldl byte_step c (zeros n [])) s
fold-zeros zero c s = refl
fold-zeros (suc n) c s = fold-zeros n (byte_step c 0) s

-- what n zeros lead to from the first state, one zero more from the second, and so on
abbrev ends : ℕ → List ℕ → List ℕ
ends n [] = []
ends n (c ∷ cs) = foldl byte_step c (zeros n []) ∷ ends (suc n) cs

end-at : (n m i : ℕ) (cs : List ℕ) → i < length cs → m ≡ n + i → get_or (ends n cs) i 0 ≡ foldl byte_step (get_or cs i 0) (zeros m [])
end-at n m i [] h e = absurd (omega arith)
end-at n m zero (c ∷ cs) h e = rw (e ∙ add-zero n)
end-at n m (suc i) (c ∷ cs) h e = end-at (suc n) m i cs (omega arith) (omega arith)

-- the test of the table
all_ones : ends 0 openings ≡ replicate 8 0xFFFFFFFF
unfolding byte_step bit_steps bit_step
all_ones = refl

-- n zeros lead from the state at place n to all ones
opens : (n : ℕ) → n < 8 → foldl byte_step (get_or openings n 0) (zeros n []) ≡ 0xFFFFFFFF
opens n h = sym (end-at 0 n n openings h (omega arith)) ∙ ap (λ (l : List ℕ). get_or l n 0) all_ones ∙ get_or-replicate 8 n 0xFFFFFFFF 0 h

pub first_block : (n next : ℕ) (s : List ℕ) → next + n ≡ 8 → 0 < next → next ≤ length s → (length s - next) % 8 ≡ 0 → Small s
    → drop 8 (zeros n s) ≡ drop next s → First s (record { far = bit_xor (get_or openings n 0) (word_at (zeros n s) 0); near = word_at (zeros n s) 4; next = next })
first_block n next s e p l w h d = record {
  within = l;
  whole = w;
  same =
      ap (foldl byte_step (after_block (bit_xor (get_or openings n 0) (word_at (zeros n s) 0)) (word_at (zeros n s) 4))) (sym d)
      ∙ eight-more _ (zeros n s) 0 (omega (arith, length-zeros n s)) (small-zeros n s h)
      ∙ fold-zeros n _ s
      ∙ ap (λ (x : ℕ). foldl byte_step x s) (opens n (omega arith));
}

drop-zeros : (n k : ℕ) (s : List ℕ) → drop (n + k) (zeros n s) ≡ drop k s
drop-zeros zero k s = rw zero-add
drop-zeros (suc n) k s = rw suc-add (drop-zeros n k s)

abbrev eight : List ℕ → List ℕ
eight s = get_or s 0 0 ∷ get_or s 1 0 ∷ get_or s 2 0 ∷ get_or s 3 0 ∷ get_or s 4 0 ∷ get_or s 5 0 ∷ get_or s 6 0 ∷ get_or s 7 0 ∷ []

word-lt : (s : List ℕ) (i : ℕ) → Small s → word_at s i < 2 ^ 32
word-lt s i h = omega (arith, h i, h (i + 1), h (i + 2), h (i + 3))

bytes : (s : List ℕ) → Small s
    → (get_or s 0 0 < 256) × (get_or s 1 0 < 256) × (get_or s 2 0 < 256) × (get_or s 3 0 < 256) × (get_or s 4 0 < 256) × (get_or s 5 0 < 256)
    × (get_or s 6 0 < 256) × (get_or s 7 0 < 256)
bytes s h = (h 0, h 1, h 2, h 3, h 4, h 5, h 6, h 7)

-- shifted by n bytes, the first eight are those with n zeros in front
shifted : (n : ℕ) (s : List ℕ) → n < 8 → Small s
    → (from_le_bytes w64 (eight s) * 2 ^ (8 * n)) % 2 ^ 64 ≡ word_at (zeros n s) 0 + 4294967296 * word_at (zeros n s) 4
shifted zero s h small = omega (arith, bytes s small)
shifted (suc zero) s h small = omega (arith, bytes s small)
shifted (suc (suc zero)) s h small = omega (arith, bytes s small)
shifted (suc (suc (suc zero))) s h small = omega (arith, bytes s small)
shifted (suc (suc (suc (suc zero)))) s h small = omega (arith, bytes s small)
shifted (suc (suc (suc (suc (suc zero))))) s h small = omega (arith, bytes s small)
shifted (suc (suc (suc (suc (suc (suc zero)))))) s h small = omega (arith, bytes s small)
shifted (suc (suc (suc (suc (suc (suc (suc zero))))))) s h small = omega (arith, bytes s small)
shifted (suc (suc (suc (suc (suc (suc (suc (suc n)))))))) s h small = absurd (omega arith)

pub shifted-first : (s : List ℕ) (next n all block : ℕ) → next ≡ (length s - 1) % 8 + 1 → n ≡ 8 - next → 8 ≤ length s → Small s
    → all ≡ from_le_bytes w64 (eight s) → block ≡ (all * 2 ^ (8 * n)) % 2 ^ 64
    → First s (record { far = bit_xor (get_or openings n 0) (block % 4294967296); near = block / 4294967296; next = next })
shifted-first s next n all block e d l small a b =
    let is : block ≡ word_at (zeros n s) 0 + 4294967296 * word_at (zeros n s) 4 =
    b ∙ ap (λ (x : ℕ). x * 2 ^ (8 * n) % 2 ^ 64) a ∙ shifted n s (omega arith) small in
    let f = word-lt (zeros n s) 0 (small-zeros n s small) in
    let low : block % 4294967296 ≡ word_at (zeros n s) 0 = omega arith in
    let high : block / 4294967296 ≡ word_at (zeros n s) 4 = omega arith in
    let whole : 8 ≡ n + next = omega arith in
    rw (low, high) (first_block n next s (omega arith) (omega arith) (omega arith) (omega arith) small (rw whole (drop-zeros n next s)))
