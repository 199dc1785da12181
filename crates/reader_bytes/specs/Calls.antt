-- What a call on a reader's bytes gives (docs/INTERFACE.md, "Readers").
use Rattle.std.specs.Prelude.{ℕ, cond, List, [], eqb, length}
use Rattle.answer.specs.declared.Refusal.TheVariants.{BrokenReader}
use Rattle.answer.specs.Answer.{refusal_number}
use Rattle.reader.specs.State.{fresh_of}
use Rattle.reader.specs.Calls.{Call, out_of, Returned, serve}
use Rattle.reader_bytes.specs.Bytes.{reader_length, encode, decode}

-- A call as it returns: its answer, the reader's bytes, and the output.
pub record Lent : Type 0 where
  pub answer : ℕ
  pub reader : List ℕ
  pub out : List ℕ

abbrev pub lent : ℕ → List ℕ → List ℕ → Lent
lent a bs out = record { answer = a; reader = bs; out = out }

-- An accepted call leaves the bytes of the reader that it returned; a refusal leaves the bytes as they were, whatever they were.
abbrev pub settled : List ℕ → List ℕ → Returned → Lent
settled bs out g =
    cond (eqb g.outcome.answer 0) (lent 0 (encode g.outcome.reader) g.out) (lent g.outcome.answer bs out)

-- A call on a reader's bytes. Bytes of another length hold no reader: refusal 11. This is a case added to document 01's list of 11,
-- which knows no such bytes.
unfoldable pub serve_lent : List ℕ → Call → Lent
serve_lent bs c =
    cond (eqb (length bs) reader_length) (settled bs (out_of c) (serve (decode bs) c)) (lent (refusal_number BrokenReader) bs (out_of c))

-- A fresh reader is written to the bytes, the refused one too: they are where it is handed back. Bytes of another length are
-- untouched, and `capture_fresh` answers 11 for them, also where the format is known: the same added case.
unfoldable pub fresh_lent : ℕ → List ℕ → Lent
fresh_lent n bs =
    cond (eqb (length bs) reader_length) (lent (fresh_of n).answer (encode (fresh_of n).reader) []) (lent (refusal_number BrokenReader) bs [])
