-- Bit steps of CRC-32 on a word are those on its bytes, joined; and the loop that looks up eight bytes joins them so. Assumes nothing.
use mathlib.Core.Path.{◌≡◌, refl, ap, ap₂, ◌∙◌}
use mathlib.Core.Bool.{Bool, true, false}
use mathlib.Core.List.{List, [], ◌∷◌}
use lib.Dec.{T}
use lib.ListN.{get_or}
use Prim.Native.Nat.{ℕ, zero, suc, ◌+◌, ◌*◌, ◌/◌, ◌%◌, ◌^◌, ◌<◌}
use native.Mathlib.Nat.{zero-add, suc-add}
use native.Mathlib.Omega.{arith}
use lib.Bits.{bit_xor, xor_comm}
use Rattle.checksum.specs.Crc.{bit_step, bit_steps}
use Rattle.checksum.specs.Private.{table_from}
use Rattle.checksum.proofs.CrcLaws.{bit_steps-xor, bit_steps-shifted, halves}
use Rattle.checksum.proofs.Table.{both, both_left, both_right, eq_list, same, table_rule}
use Rattle.checksum.proofs.XorLaws.{xor_assoc}
use Rattle.checksum_slicing.specs.Private.{after_block, step_tables}

pub bit_steps-add : (n m c : ℕ) → bit_steps (n + m) c ≡ bit_steps m (bit_steps n c)
unfolding bit_steps
bit_steps-add zero m c = rw zero-add
bit_steps-add (suc n) m c = rw suc-add (bit_steps-add n m (bit_step c))

-- the low byte apart, and eight bit steps fewer on the rest
peel : (n x : ℕ) {m : ℕ} → m ≡ 8 + n → bit_steps m x ≡ bit_xor (bit_steps m (x % 256)) (bit_steps n (x / 256))
peel n x {m} e =
    let up : bit_steps m (x / 256 * 256) ≡ bit_steps n (x / 256) =
    rw e (bit_steps-add 8 n (x / 256 * 256) ∙ ap (bit_steps n) (bit_steps-shifted 8 (x / 256))) in
    ap (bit_steps m) (halves 8 x) ∙ bit_steps-xor m (x / 256 * 256) (x % 256)
    ∙ ap (λ (y : ℕ). bit_xor y (bit_steps m (x % 256))) up
    ∙ xor_comm (bit_steps n (x / 256)) (bit_steps m (x % 256))

by_bytes : (n x : ℕ) → x < 2 ^ 32
    → bit_steps (32 + n) x
    ≡ bit_xor (bit_steps (32 + n) (x % 256))
    (bit_xor (bit_steps (24 + n) (x / 256 % 256))
    (bit_xor (bit_steps (16 + n) (x / 256 / 256 % 256)) (bit_steps (8 + n) (x / 256 / 256 / 256 % 256))))
by_bytes n x h =
    peel (24 + n) x (omega arith)
    ∙ ap (bit_xor (bit_steps (32 + n) (x % 256)))
    (peel (16 + n) (x / 256) (omega arith)
    ∙ ap (bit_xor (bit_steps (24 + n) (x / 256 % 256)))
    (peel (8 + n) (x / 256 / 256) (omega arith)
    ∙ ap (λ (y : ℕ). bit_xor (bit_steps (16 + n) (x / 256 / 256 % 256)) (bit_steps (8 + n) y)) (omega arith)))

-- ---- eight bytes, looked up

-- table j, which has n steps on each byte
pub looked-up : (j n m : ℕ) {t : List (List ℕ)} → t ≡ step_tables → get_or step_tables j [] ≡ table_from n 0 256 → m < 256
    → get_or (get_or t j []) m 0 ≡ bit_steps n m
looked-up j n m e r h =
    ap (λ (l : List (List ℕ)). get_or (get_or l j []) m 0) e ∙ ap (λ (l : List ℕ). get_or l m 0) r ∙ table_rule n m h

pub by-tables : (far near : ℕ) {t : List (List ℕ)} → t ≡ step_tables → far < 2 ^ 32 → near < 2 ^ 32
    → bit_xor
    (bit_xor
    (bit_xor
    (bit_xor
    (bit_xor
    (bit_xor
    (bit_xor (get_or (get_or t 3 []) (near % 256) 0) (get_or (get_or t 2 []) (near / 256 % 256) 0))
    (get_or (get_or t 1 []) (near / 65536 % 256) 0))
    (get_or (get_or t 0 []) (near / 16777216 % 256) 0))
    (get_or (get_or t 7 []) (far % 256) 0))
    (get_or (get_or t 6 []) (far / 256 % 256) 0))
    (get_or (get_or t 5 []) (far / 65536 % 256) 0))
    (get_or (get_or t 4 []) (far / 16777216 % 256) 0)
    ≡ after_block far near
unfolding step_tables
by-tables far near e hf hn =
    let f2 : far / 256 / 256 % 256 ≡ far / 65536 % 256 = omega arith in
    let f3 : far / 256 / 256 / 256 % 256 ≡ far / 16777216 % 256 = omega arith in
    let n2 : near / 256 / 256 % 256 ≡ near / 65536 % 256 = omega arith in
    let n3 : near / 256 / 256 / 256 % 256 ≡ near / 16777216 % 256 = omega arith in
    rw (
      looked-up 7 64 (far % 256) e refl (omega arith),
      looked-up 6 56 (far / 256 % 256) e refl (omega arith),
      looked-up 5 48 (far / 65536 % 256) e refl (omega arith),
      looked-up 4 40 (far / 16777216 % 256) e refl (omega arith),
      looked-up 3 32 (near % 256) e refl (omega arith),
      looked-up 2 24 (near / 256 % 256) e refl (omega arith),
      looked-up 1 16 (near / 65536 % 256) e refl (omega arith),
      looked-up 0 8 (near / 16777216 % 256) e refl (omega arith),
      by_bytes 32 far hf,
      by_bytes 0 near hn,
      f2,
      f3,
      n2,
      n3,
    )
    (simp xor_assoc)

-- ---- two lists of tables are equal where a test that antt computes says so

abbrev pub eq_tables : List (List ℕ) → List (List ℕ) → Bool
eq_tables [] [] = true
eq_tables [] (y ∷ ys) = false
eq_tables (x ∷ xs) [] = false
eq_tables (x ∷ xs) (y ∷ ys) = both (eq_list x y) (eq_tables xs ys)

pub same_all : (xs ys : List (List ℕ)) → T (eq_tables xs ys) → xs ≡ ys
same_all [] [] t = refl
same_all [] (y ∷ ys) t = absurd t
same_all (x ∷ xs) [] t = absurd t
same_all (x ∷ xs) (y ∷ ys) t =
    ap₂ (λ (a : List ℕ) (l : List (List ℕ)). a ∷ l) (same x y (both_left (eq_list x y) (eq_tables xs ys) t)) (same_all xs ys (both_right (eq_list x y) (eq_tables xs ys) t))
