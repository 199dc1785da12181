-- What the private count of a byte's bits promises. Nothing public rests on this definition.
use Rattle.std.specs.Prelude.{ℕ, ◌/◌, ◌%◌, ◌^◌}
use Rattle.onflight.specs.Status.{sum_below}

-- how many of the k low bits of n are set
unfoldable pub bits_of : ℕ → ℕ → ℕ
bits_of k n = sum_below (λ i. n / 2 ^ i % 2) k
