-- What private functions require. Nothing public rests on these definitions.
use Rattle.std.specs.Prelude.{ℕ, zero, suc, List, [], ◌∷◌}
use Rattle.checksum.specs.Crc.{bit_steps}

-- n bit steps of CRC-32 on i and on the numbers after it, k in all
unfoldable pub table_from : ℕ → ℕ → ℕ → List ℕ
table_from n i zero = []
table_from n i (suc k) = bit_steps n i ∷ table_from n (suc i) k

-- eight on every byte
unfoldable pub crc_table : List ℕ
crc_table = table_from 8 0 256
