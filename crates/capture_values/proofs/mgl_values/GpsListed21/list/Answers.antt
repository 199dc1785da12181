use mathlib.Core.List.{List, ◌∷◌}
use mathlib.Core.Path.{◌≡◌}
use lib.IntN.{ℤ}
use borrow.Author.Rules.{rules}
use Rattle.capture_values.proofs.mgl_values.GpsListed21.list.Goals as goal

-- Each number by itself: as one list the 21 are too many for `search`.
same_list : {x y : ℤ} {xs ys : List ℤ} → x ≡ y → xs ≡ ys → x ∷ xs ≡ y ∷ ys
same_list p q = λ j. p j ∷ q j

pub returns : goal.returns
returns c = search (rules, same_list)
