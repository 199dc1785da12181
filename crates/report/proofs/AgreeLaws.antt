-- The tables of contents of two byte strings that agree on their first bytes; and a file that goes on.
-- Assumes nothing.
use Prim.Native.Nat.{ℕ, zero, suc, ◌+◌, ◌*◌, ◌≤◌, ◌<◌}
use mathlib.Core.Path.{◌≡◌, refl, sym, ◌∙◌}
use mathlib.Core.Bool.{true, false, ◌&&◌, and-false}
use mathlib.Core.List.{List, ◌++◌}
use native.Mathlib.Decide.{dec_le, dec_lt}
use native.Mathlib.Omega.{arith}
use lib.Dec.{T, leb}
use Rattle.std.proofs.lemmas.Bool.{and_parts}
use lib.ListN.{length, take, get_or, length-append, get_or-append}
use lib.Seq.{length-take-le, take_all, get_or-take}
use borrow.Author.Tests.{le-leb, lt-leb, leb-true}
use Rattle.numbers.specs.Low.{low}
use Rattle.framing.specs.Format.{known, format_of}
use Rattle.benchfile.specs.Toc.{entries, format_at, length_at, toc_length, all_known, total_length, entry_start, is_toc, most_entries, longest_toc}
use Rattle.framing.proofs.ByteLaws.{bytes-at}
use Rattle.reader.specs.Refusal.{most_bytes}
use Rattle.framing.specs.Meaning.{Bytes}

-- the first m bytes are the same
abbrev pub Agree : List ℕ → List ℕ → ℕ → Type 0
Agree s t m = (i : ℕ) → i < m → get_or s i 0 ≡ get_or t i 0

module _ (s t : List ℕ) (m : ℕ) (a : Agree s t m) where
  low-agree : (k at : ℕ) → at + k ≤ m → low k s at ≡ low k t at
  unfolding low
  low-agree zero at h = refl
  low-agree (suc k) at h = rw (low-agree k at (omega arith), a (at + k) (omega arith))

  pub entries-agree : 0 < m → entries s ≡ entries t
  entries-agree h = a 0 h

  pub format-agree : (i : ℕ) → toc_length (suc i) ≤ m → format_at s i ≡ format_at t i
  format-agree i h = a (1 + 6 * i) (omega arith)

  pub length-agree : (i : ℕ) → toc_length (suc i) ≤ m → length_at s i ≡ length_at t i
  length-agree i h = low-agree 4 (1 + 6 * i + 2) (omega arith)

  known-agree : (k : ℕ) → toc_length k ≤ m → all_known s k ≡ all_known t k
  unfolding all_known
  known-agree zero h = refl
  known-agree (suc k) h = rw (known-agree k (omega arith), format-agree k h)

  lengths-agree : (k : ℕ) → toc_length k ≤ m → total_length s k ≡ total_length t k
  unfolding total_length
  lengths-agree zero h = refl
  lengths-agree (suc k) h = rw (lengths-agree k (omega arith), length-agree k h)

  pub start-agree : (k : ℕ) → toc_length k ≤ m → entry_start s k ≡ entry_start t k
  unfolding entry_start
  start-agree k h = rw (entries-agree (omega arith), lengths-agree k h)

  -- a table of contents that ends in what agrees
  pub toc-agree : toc_length (entries t) ≤ m → m ≤ length s → m ≤ length t → is_toc s ≡ is_toc t
  unfolding is_toc
  toc-agree h p q =
      rw (
        entries-agree (omega arith),
        le-leb (toc_length (entries t)) (length s) (omega arith),
        le-leb (toc_length (entries t)) (length t) (omega arith),
        known-agree (entries t) h,
      )

-- ---- tables of contents

-- What a table of contents has.
pub record Whole (s : List ℕ) : Type 0 where
  pub some : 1 ≤ entries s
  pub few : entries s ≤ most_entries
  pub uncut : toc_length (entries s) ≤ length s
  pub formats : all_known s (entries s) ≡ true

pub whole_of : (s : List ℕ) → is_toc s ≡ true → Whole s
unfolding is_toc
whole_of s e =
    let p = and_parts (leb 1 (entries s) && leb (entries s) most_entries && leb (toc_length (entries s)) (length s)) (all_known s (entries s)) e in
    let q = and_parts (leb 1 (entries s) && leb (entries s) most_entries) (leb (toc_length (entries s)) (length s)) p.0 in
    let r = and_parts (leb 1 (entries s)) (leb (entries s) most_entries) q.0 in
    record { some = leb-true _ _ r.0; few = leb-true _ _ r.1; uncut = leb-true _ _ q.1; formats = p.1 }

-- every format is known
known_in : (s : List ℕ) (n i : ℕ) → all_known s n ≡ true → i < n → known (format_of (format_at s i)) ≡ true
unfolding all_known
known_in s zero i e h = absurd (omega arith)
known_in s (suc n) i e h = let p = and_parts (all_known s n) (known (format_of (format_at s n))) e in go p.1 (dec_lt i n) (λ l. known_in s n i p.0 l)
  where
    go : known (format_of (format_at s n)) ≡ true → Dec (i < n) → (i < n → known (format_of (format_at s i)) ≡ true) → known (format_of (format_at s i)) ≡ true
    go q (yes l) f = f l
    go q (no l) f = let z : i ≡ n = omega arith in rw z q

pub format-known : (s : List ℕ) → Whole s → (i : ℕ) → i < entries s → T (known (format_of (format_at s i)))
format-known s w i h = rw (known_in s (entries s) i w.formats h) tt

too_many : (s : List ℕ) → most_entries < entries s → is_toc s ≡ false
unfolding is_toc
too_many s h = rw (lt-leb (entries s) most_entries h, and-false (leb 1 (entries s)))

-- as many bytes as the longest table of contents has decide
pub toc-in-first : (d : List ℕ) → is_toc (take longest_toc d) ≡ false → is_toc d ≡ false
toc-in-first d e = go (dec_le (length d) longest_toc) (dec_le (entries d) most_entries)
  where
    go : Dec (length d ≤ longest_toc) → Dec (entries d ≤ most_entries) → is_toc d ≡ false
    go (yes h) n = rw (take_all longest_toc d h) at e
    go (no h) (yes n) =
        let l = length-take-le longest_toc d (omega arith) in
        sym (toc-agree (take longest_toc d) d longest_toc (λ i l. get_or-take longest_toc d i 0 l) (omega arith) (omega arith) (omega arith)) ∙ e
    go (no h) (no n) = too_many d (omega arith)

-- ---- a file that goes on

pub goes_on : (d x : List ℕ) → Agree (d ++ x) d (length d)
goes_on d x i h = get_or-append d x 0 i h

-- a table of contents stays one
pub toc-on : (d x : List ℕ) → is_toc d ≡ true → is_toc (d ++ x) ≡ true
toc-on d x e = toc-agree (d ++ x) d (length d) (goes_on d x) (whole_of d e).uncut (omega (arith, length-append d x)) (omega arith) ∙ e

-- a table of contents that one byte made whole ends with it
pub just-whole : (d x : List ℕ) → length x ≡ 1 → is_toc d ≡ false → is_toc (d ++ x) ≡ true → length (d ++ x) ≡ toc_length (entries (d ++ x))
just-whole d x o e f = go (dec_le (toc_length (entries (d ++ x))) (length d))
  where
    go : Dec (toc_length (entries (d ++ x)) ≤ length d) → length (d ++ x) ≡ toc_length (entries (d ++ x))
    go (yes h) =
        let q = entries-agree (d ++ x) d (length d) (goes_on d x) (omega arith) in
        let z = toc-agree (d ++ x) d (length d) (goes_on d x) (rw q at h) (omega (arith, length-append d x)) (omega arith) in
        cc
    go (no h) = omega (arith, (whole_of (d ++ x) f).uncut, length-append d x)

-- ---- bytes

pub length-fits : (s : List ℕ) (i : ℕ) → Bytes s → length_at s i ≤ most_bytes
unfolding low
length-fits s i h =
    let at = 1 + 6 * i + 2 in
    omega (arith, bytes-at s h (at + 0), bytes-at s h (at + 1), bytes-at s h (at + 2), bytes-at s h (at + 3))
