-- A loop that goes through a list from the front and keeps a fold: what is left of the fold, at i and at i + 1.
-- Assumes nothing.
use Rattle.std.proofs.Common.{◌≡◌, ℕ, ◌+◌, ◌<◌, ◌≤◌, List, length, get_or, drop, add-one, drop_of_length-le, drop-cons}
use mathlib.Core.List.{foldl}

module _ {S : Type 0} (f : S → ℕ → S) where
  -- a turn of the loop: y is the state after the byte at i
  pub fold_more : {x y : S} (s : List ℕ) (i : ℕ) → i < length s → y ≡ f x (get_or s i 0) → foldl f y (drop (i + 1) s) ≡ foldl f x (drop i s)
  fold_more s i h e = rw (e, add-one, drop-cons s i 0)

  pub fold_end : (x : S) (s : List ℕ) (i : ℕ) → length s ≤ i → foldl f x (drop i s) ≡ x
  fold_end x s i h = rw (drop_of_length-le s h)
