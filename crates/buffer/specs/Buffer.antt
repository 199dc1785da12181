-- Bytes copied into a caller's buffer (docs/FORMATS.md, "Readers" and "Writers").
use Rattle.std.specs.Prelude.{ℕ, ◌+◌, cond, List, ◌++◌, leb, length, take, drop}

-- bytes put at the start of a buffer; its later bytes are unchanged
abbrev pub put : List ℕ → List ℕ → List ℕ
put bs out = bs ++ drop (length bs) out

-- bytes put from a place on, the buffer before and behind them unchanged; where they don't fit, the whole buffer is unchanged
unfoldable pub copied : List ℕ → List ℕ → ℕ → List ℕ
copied bs out at = cond (leb (at + length bs) (length out)) (take at out ++ bs ++ drop (at + length bs) out) out
