-- Three rows of w bytes: the last is the last w bytes, and those before count 0 where they reach into it.
-- Assumes nothing.
use Rattle.std.proofs.Common.{◌≡◌, ℕ, zero, suc, ◌+◌, ◌-◌, ◌%◌, ◌<◌, ◌≤◌, min, Bool, true, false, cond, ◌&&◌, eqb, ltb, leb, List, [], ◌∷◌, length, get_or, drop, sym, refl, ap, ◌∙◌, subst, ap₂, suc-add, zero-add, add-one, arith, drop_of_length-le, drop-cons, ltb-false, ltb-true, le-ltb, lt-ltb, eqb-true, leb-false, leb-true}
use mathlib.Core.List.{foldl}
use lib.Bits.{bit_xor}
use Rattle.checksum.specs.Xor.{xor_of}
use Rattle.framing.specs.Nmea.{permitted, comma, comma_count}
use Rattle.framing.specs.Private.{Permitted}
use Rattle.framing.proofs.RunLaws.{both}
use Rattle.framing.proofs.BodyLaws.{one}
use Rattle.framing.proofs.SumLaws.{Sums, xor-sums, add-sums, sum_to, sum_to-join, sum_to-add, row_more, masked}

-- ---- numbers that a test gives

pub at_most_one : {n : ℕ} (t : Bool) → n ≡ cond t 1 0 → n ≤ 1
at_most_one true e = omega (arith, e)
at_most_one false e = omega (arith, e)

pub one-or-none : {n : ℕ} (t : Bool) → n ≡ cond t 0 1 → n ≤ 1
one-or-none true e = omega (arith, e)
one-or-none false e = omega (arith, e)

pub none-holds : {n : ℕ} (t : Bool) → n ≡ cond t 0 1 → n ≡ 0 → t ≡ true
none-holds true e z = refl
none-holds false e z = absurd (omega (arith, e, z))

-- one test for both bounds
two-bounds : (b : ℕ) → b < 256 → (p q u : Bool) → leb 0x20 b ≡ p → leb b 0x7E ≡ q → ltb 0x5E ((b + 0xE0) % 256) ≡ u
    → cond u 1 0 + 0 + 0 ≡ cond (p && q && true && true) 0 1
two-bounds b h true true false e f g = refl
two-bounds b h true false true e f g = refl
two-bounds b h false q true e f g = refl
two-bounds b h true true true e f g =
    absurd (omega (arith, h, leb-true 0x20 b e, leb-true b 0x7E f, ltb-true 0x5E ((b + 0xE0) % 256) g))
two-bounds b h true false false e f g =
    absurd (omega (arith, h, leb-true 0x20 b e, leb-false b 0x7E f, ltb-false 0x5E ((b + 0xE0) % 256) g))
two-bounds b h false q false e f g = absurd (omega (arith, h, leb-false 0x20 b e, ltb-false 0x5E ((b + 0xE0) % 256) g))

abbrev pub AsSum : ℕ → Type 0
AsSum b = cond (ltb 0x5E ((b + 0xE0) % 256)) 1 0 + cond (eqb b 0x24) 1 0 + cond (eqb b 0x2A) 1 0 ≡ cond (permitted b) 0 1

-- the tests of a byte, as a sum
pub refused-sum : (b : ℕ) → b < 256 → AsSum b
refused-sum b h = go (eqb b 0x24) (eqb b 0x2A) refl refl
  where
    go : (r t : Bool) → eqb b 0x24 ≡ r → eqb b 0x2A ≡ t → AsSum b
    go true t e f = subst AsSum (sym (eqb-true b 0x24 e)) refl
    go false true e f = subst AsSum (sym (eqb-true b 0x2A f)) refl
    go false false e f = rw (e, f) (two-bounds b h (leb 0x20 b) (leb b 0x7E) (ltb 0x5E ((b + 0xE0) % 256)) refl refl refl)

-- ---- sums of rows

module _ {op : ℕ → ℕ → ℕ} (o : Sums op) where
  sum_to-same : (f g : ℕ → ℕ) (n : ℕ) → ((j : ℕ) → j < n → f j ≡ g j) → sum_to op f n ≡ sum_to op g n
  unfolding sum_to
  sum_to-same f g zero h = refl
  sum_to-same f g (suc n) h = ap₂ op (sum_to-same f g n (λ j l. h j (omega arith))) (h n (omega arith))

  -- zeros after the first m
  sum_to-zeros : (g : ℕ → ℕ) (m n : ℕ) → ((j : ℕ) → m ≤ j → j < n + m → g j ≡ 0) → sum_to op g (n + m) ≡ sum_to op g m
  unfolding sum_to
  sum_to-zeros g m zero h = rw zero-add
  sum_to-zeros g m (suc n) h =
      rw (suc-add, h (n + m) (omega arith) (omega arith)) (o.right (sum_to op g (n + m)) ∙ sum_to-zeros g m n (λ j l b. h j l (omega arith)))

  module _ (v : ℕ → ℕ) where
    fold-from : (s : List ℕ) (i : ℕ) → i ≤ length s
        → foldl (λ x b. op x (v b)) (sum_to op (λ j. v (get_or s j 0)) i) (drop i s) ≡ foldl (λ x b. op x (v b)) 0 s
    unfolding sum_to
    fold-from s zero h = refl
    fold-from s (suc i) h =
        ap (foldl (λ x b. op x (v b)) (sum_to op (λ j. v (get_or s j 0)) i)) (sym (drop-cons s i 0 h)) ∙ fold-from s i (omega arith)

    fold-all : (s : List ℕ) → sum_to op (λ j. v (get_or s j 0)) (length s) ≡ foldl (λ x b. op x (v b)) 0 s
    fold-all s =
        let h : length s ≤ length s = omega arith in
        ap (foldl (λ x b. op x (v b)) (sum_to op (λ j. v (get_or s j 0)) (length s))) (sym (drop_of_length-le s h)) ∙ fold-from s (length s) h

-- ---- the bytes of a row that count

module _ (s : List ℕ) (m j : ℕ) (h : m ≤ 64) (b : j < 64) where
  counts : j < m → masked s (128 - m) j ≡ get_or s j 0
  counts l = let e : (j + (128 - m)) % 256 < 128 = omega arith in rw (lt-ltb _ 128 e)

  counts-not : m ≤ j → masked s (128 - m) j ≡ 0
  counts-not l = let e : 128 ≤ (j + (128 - m)) % 256 = omega arith in rw (le-ltb _ 128 e)

-- the second row, which begins at p
second_is : (s : List ℕ) (w m p i : ℕ) → i < w → w ≤ 32 → m ≤ w + w → p ≡ min w m
    → cond (ltb ((i + w + (128 - m)) % 256) 128) (get_or s (p + i) 0) 0 ≡ masked s (128 - m) (i + w)
second_is s w m p i h k l e = pick (ltb ((i + w + (128 - m)) % 256) 128) refl
  where
    pick : (t : Bool) → ltb ((i + w + (128 - m)) % 256) 128 ≡ t → cond t (get_or s (p + i) 0) 0 ≡ cond t (get_or s (i + w) 0) 0
    pick true t =
        let g : (i + w + (128 - m)) % 256 < 128 = ltb-true _ _ t in
        let z : p + i ≡ i + w = omega (arith, g, e, h, k, l) in
        rw z
    pick false t = refl

-- column i of the three rows
abbrev pub three_of : (ℕ → ℕ → ℕ) → (ℕ → ℕ) → List ℕ → ℕ → ℕ → ℕ → ℕ
three_of op v s w m i = op (op (v (masked s (128 - m) i)) (v (masked s (128 - m) (i + w)))) (v (get_or s (m + i) 0))

-- the bytes before the last row, and those of the last
module _ {op : ℕ → ℕ → ℕ} (o : Sums op) (v : ℕ → ℕ) (s : List ℕ) (w m : ℕ) where
  first_rows : v 0 ≡ 0 → w ≤ 32 → m ≤ w + w → sum_to op (λ j. v (masked s (128 - m) j)) (w + w) ≡ sum_to op (λ j. v (get_or s j 0)) m
  first_rows z k l =
      let e : w + w ≡ w + w - m + m = omega arith in
      ap (sum_to op (λ j. v (masked s (128 - m) j))) e
      ∙ sum_to-zeros o (λ j. v (masked s (128 - m) j)) m (w + w - m) (λ j a b. ap v (counts-not s m j (omega arith) (omega arith) a) ∙ z)
      ∙ sum_to-same o (λ j. v (masked s (128 - m) j)) (λ j. v (get_or s j 0)) m (λ j b. ap v (counts s m j (omega arith) (omega arith) b))

  last_row : sum_to op (λ i. v (get_or s (m + i) 0)) w ≡ sum_to op (λ i. v (get_or s (i + m) 0)) w
  last_row =
      sum_to-same o (λ i. v (get_or s (m + i) 0)) (λ i. v (get_or s (i + m) 0)) w (λ i b. let e : m + i ≡ i + m = omega arith in ap (λ (k : ℕ). v (get_or s k 0)) e)

  three-rows : v 0 ≡ 0 → w ≤ 32 → m ≤ w + w → w + m ≡ length s → sum_to op (three_of op v s w m) w ≡ foldl (λ x b. op x (v b)) 0 s
  three-rows z k l n =
      sum_to-join o (λ i. op (v (masked s (128 - m) i)) (v (masked s (128 - m) (i + w)))) (λ i. v (get_or s (m + i) 0)) w
      ∙ ap₂ op (row_more o (λ j. v (masked s (128 - m) j)) (λ j. v (masked s (128 - m) j)) w w refl ∙ first_rows z k l) last_row
      ∙ sym (sum_to-add o (λ j. v (get_or s j 0)) m w)
      ∙ ap (sum_to op (λ j. v (get_or s j 0))) n
      ∙ fold-all o v s

count-fold : (n : ℕ) (s : List ℕ) → foldl (λ x b. x + comma b) n s ≡ n + comma_count s
unfolding comma_count
count-fold n [] = omega arith
count-fold n (b ∷ s) =
    let e : n + comma b + comma_count s ≡ n + (comma b + comma_count s) = omega arith in
    count-fold (n + comma b) s ∙ e

-- ---- the walk through the columns

-- the first i bytes of each row may be in a body
pub record Tested (s : List ℕ) (p m i : ℕ) : Type 0 where
  pub first : Permitted 0 i s
  pub second : Permitted p (p + i) s
  pub last : Permitted m (m + i) s

-- what the first i columns came to
pub record ColumnsRead (s : List ℕ) (w p m refused xor commas i : ℕ) : Type 0 where
  pub within : i ≤ w
  pub few : refused ≤ i + i + i
  pub tested : refused ≡ 0 → Tested s p m i
  pub xored : xor ≡ sum_to bit_xor (three_of bit_xor (λ b. b) s w m) i
  pub counted : commas ≡ sum_to ◌+◌ (three_of ◌+◌ comma s w m) i
  pub small : commas ≤ i + i + i

pub columns-start : (s : List ℕ) (w p m : ℕ) → ColumnsRead s w p m 0 0 0 0
unfolding sum_to
columns-start s w p m = record {
  within = omega arith;
  few = omega arith;
  tested = λ e. record { first = λ j l g. absurd (omega arith); second = λ j l g. absurd (omega arith); last = λ j l g. absurd (omega arith) };
  xored = refl;
  counted = refl;
  small = omega arith;
}

next_one : (s : List ℕ) (a i : ℕ) → Permitted a (a + i) s → permitted (get_or s (a + i) 0) ≡ true → Permitted a (a + (i + 1)) s
next_one s a i h p j l g = both permitted s a (a + i) (a + i + 1) h (one s (a + i) p) j l (omega arith)

module _ {s : List ℕ} {w p m f x k i : ℕ} (c : ColumnsRead s w p m f x k i) (h : w ≤ 32) (l : m ≤ w + w) (e : p ≡ min w m) where
  -- a column: r bytes of it are refused, a and b count in its first two rows, and n are commas
  pub columns-more : i < w → {r a b n : ℕ}
      → (r ≤ 3) × (r ≡ 0 → (permitted (get_or s i 0) ≡ true) × (permitted (get_or s (p + i) 0) ≡ true) × (permitted (get_or s (m + i) 0) ≡ true))
      → a ≡ masked s (128 - m) i → b ≡ cond (ltb ((i + w + (128 - m)) % 256) 128) (get_or s (p + i) 0) 0
      → (n ≤ 3) × (n ≡ comma a + comma b + comma (get_or s (m + i) 0))
      → ColumnsRead s w p m (f + r) (bit_xor x (bit_xor (bit_xor a b) (get_or s (m + i) 0))) (k + n) (i + 1)
  unfolding sum_to
  columns-more d {r} {a} {b} {n} t ea eb en =
      let eb₁ : b ≡ masked s (128 - m) (i + w) = eb ∙ second_is s w m p i d h l e in
      record {
        within = omega arith;
        few = omega (arith, c.few, t.0);
        tested = λ z.
            let q = t.1 (omega (arith, z)) in
            let y = c.tested (omega (arith, z)) in
            record {
              first = both permitted s 0 i (i + 1) y.first (one s i q.0);
              second = next_one s p i y.second q.1;
              last = next_one s m i y.last q.2;
            };
        xored = rw add-one (ap₂ bit_xor c.xored (ap₂ (λ (u y : ℕ). bit_xor (bit_xor u y) (get_or s (m + i) 0)) ea eb₁));
        counted = rw add-one (ap₂ ◌+◌ c.counted (en.1 ∙ ap₂ (λ (u y : ℕ). comma u + comma y + comma (get_or s (m + i) 0)) ea eb₁));
        small = omega (arith, c.small, en.0);
      }

  module _ (d : w ≤ i) (n : w + m ≡ length s) where
    at-end : i ≡ w
    at-end = omega (arith, c.within, d)

    pub columns-body : f ≡ 0 → Permitted 0 (length s) s
    columns-body z =
        let t = c.tested z in
        let u = at-end in
        let y = both permitted s 0 i (p + i) t.first (λ j a b. t.second j (omega (arith, e, u, a)) b) in
        both permitted s 0 (p + i) (length s) y (λ j a b. t.last j (omega (arith, e, u, l, a)) (omega (arith, u, n, b)))

    pub columns-xor : x ≡ xor_of s
    unfolding xor_of
    columns-xor = c.xored ∙ ap (sum_to bit_xor (three_of bit_xor (λ b. b) s w m)) at-end ∙ three-rows xor-sums (λ b. b) s w m refl h l n

    pub columns-commas : k ≡ comma_count s
    columns-commas =
        c.counted
        ∙ ap (sum_to ◌+◌ (three_of ◌+◌ comma s w m)) at-end
        ∙ three-rows add-sums comma s w m refl h l n
        ∙ count-fold 0 s
        ∙ zero-add (comma_count s)
