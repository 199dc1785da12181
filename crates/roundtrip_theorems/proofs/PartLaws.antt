-- Bytes between others, and bytes counted from the end.
-- Assumes nothing.
use Prim.Native.Nat.{ℕ, ◌+◌, ◌-◌}
use mathlib.Core.Path.{◌≡◌}
use mathlib.Core.List.{List, ◌++◌}
use native.Mathlib.Omega.{arith}
use lib.ListN.{length, get_or, length-append}
use lib.Seq.{take_at, drop_at, get_or-append-add}
use Rattle.framing.specs.Rules.{part}

-- the place from which e bytes are left
pub behind : (xs y : List ℕ) (e : ℕ) → length y ≡ e → length (xs ++ y) - e ≡ length xs
behind xs y e h = omega (arith, length-append xs y)

-- what has a bytes before it and e behind it
pub between : (x b y : List ℕ) (a e : ℕ) → length x ≡ a → length y ≡ e → part a (length (x ++ (b ++ y)) - e) (x ++ (b ++ y)) ≡ b
between x b y a e h k =
    let n : length b ≡ length (x ++ (b ++ y)) - e - a = omega (arith, length-append x (b ++ y), length-append b y) in
    rw (drop_at x (b ++ y) a h) (take_at b y _ n)

-- byte i of the last ones, which stands e from the end
pub from_end : (xs y : List ℕ) (i e : ℕ) → length y ≡ i + e → get_or (xs ++ y) (length (xs ++ y) - e) 0 ≡ get_or y i 0
from_end xs y i e h =
    let n : length (xs ++ y) - e ≡ length xs + i = omega (arith, length-append xs y) in
    rw n (get_or-append-add xs y i 0)
