-- Laws of the texts of sheets pushed one after the other.
-- Assumes nothing.
use Prim.Native.Nat.{ℕ, ◌+◌, ◌*◌, ◌≤◌, ◌<◌, min}
use mathlib.Core.Path.{◌≡◌, refl, ap, ◌∙◌}
use mathlib.Core.List.{List, [], ◌∷◌, ◌++◌, append_assoc, append-nil, flat_map}
use native.Mathlib.Decide.{dec_le}
use native.Mathlib.Nat.{min-eq_left, min-eq_right}
use native.Mathlib.Numerals.{add-one}
use native.Mathlib.Omega.{arith}
use lib.ListN.{length, take, get_or, length-append, length-take}
use lib.Seq.{take-suc, take_all}
use Rattle.buffer.proofs.TextLaws.{both_pushed, whole_pushed}
use Rattle.benchfile.specs.declared.sheet.Sheet.{Sheet}
use Rattle.benchfile.specs.Sheet.{sheet_text, longest_sheet}
use Rattle.benchfile.specs.Toc.{most_entries}
use Rattle.report.specs.Sheets.{longest_text}

abbrev pub texts : List Sheet → List ℕ
texts xs = flat_map sheet_text xs

pub texts-append : (xs ys : List Sheet) → texts (xs ++ ys) ≡ texts xs ++ texts ys
unfolding flat_map
texts-append [] ys = refl
texts-append (x ∷ xs) ys = rw (texts-append xs ys, append_assoc (sheet_text x) (texts xs) (texts ys))

-- one sheet more
pub texts-next : (xs : List Sheet) (i : ℕ) (d : Sheet) → i < length xs → texts (take (i + 1) xs) ≡ texts (take i xs) ++ sheet_text (get_or xs i d)
unfolding flat_map
texts-next xs i d h = rw (add-one i, take-suc xs i d h, texts-append (take i xs) (get_or xs i d ∷ []), append-nil (sheet_text (get_or xs i d)))

-- u is a new text with the texts of the first i sheets, each of them short
pub record Laid (xs : List Sheet) (i : ℕ) (u : List ℕ) : Type 0 where
  pub short : length (texts (take i xs)) ≤ longest_sheet * i
  pub text : u ≡ take longest_text ([] ++ texts (take i xs))

pub laid_none : (xs : List Sheet) {u : List ℕ} → u ≡ [] → Laid xs 0 u
unfolding flat_map
laid_none xs e = record { short = omega arith; text = e }

pub laid_next : (xs : List Sheet) (i : ℕ) (d : Sheet) (u : List ℕ) {v : List ℕ} → i < length xs → Laid xs i u
    → v ≡ take longest_text (u ++ sheet_text (get_or xs i d)) → length (sheet_text (get_or xs i d)) ≤ longest_sheet → Laid xs (i + 1) v
laid_next xs i d u h g p s =
    let x = get_or xs i d in
    let n = texts-next xs i d h in
    record {
      short = omega (arith, ap length n, length-append (texts (take i xs)) (sheet_text x), g.short);
      text = rw n (both_pushed longest_text [] (texts (take i xs)) (sheet_text x) g.text p);
    }

-- as many as there are
take-most : (n : ℕ) (xs : List Sheet) → length xs ≡ most_entries → take (min n most_entries) xs ≡ take n xs
take-most n xs h = go (dec_le n most_entries)
  where
    go : Dec (n ≤ most_entries) → take (min n most_entries) xs ≡ take n xs
    go (yes l) = rw (min-eq_left l)
    go (no l) =
        let l : most_entries ≤ n = omega arith in
        rw (min-eq_right l, take_all most_entries xs (omega arith), take_all n xs (omega arith))

-- the whole of them
pub laid-all : (xs ys : List Sheet) (n i k : ℕ) (u : List ℕ) → length xs ≡ most_entries → i ≡ min n most_entries → ys ≡ take i xs → k ≡ length ys → Laid ys k u
    → (u ≡ texts (take n xs)) × (length u ≤ longest_text)
laid-all xs ys n i k u h e p l g =
    let q : take k ys ≡ take n xs = take_all k ys (omega arith) ∙ p ∙ rw e (take-most n xs h) in
    let c : k ≤ most_entries = omega (arith, ap length p, length-take i xs) in
    let s : length (texts (take n xs)) ≤ longest_text = omega (arith, ap (λ (x : List Sheet). length (texts x)) q, g.short) in
    let w = whole_pushed longest_text (texts (take n xs)) refl (rw q at g.text) s in
    (w, omega (arith, ap length w))
