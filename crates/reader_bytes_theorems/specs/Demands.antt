-- Demands 1 and 3 for a reader that is lent bytes (docs/INTERFACE.md, "Readers").
use Rattle.std.specs.Prelude.{ℕ, ◌≡◌, true, cond, List, [], ◌∷◌, map, T, eqb, length}
use Rattle.answer.specs.declared.Refusal.TheVariants.{BrokenReader}
use Rattle.answer.specs.Answer.{refusal_number}
use Rattle.framing.specs.Format.{known, format_of}
use Rattle.framing.specs.Reading.{joined}
use Rattle.reader.specs.State.{empty}
use Rattle.reader.specs.Refusal.{refusal}
use Rattle.reader.specs.Calls.{Call, bytes_of, out_of}
use Rattle.reader_theorems.specs.Machine.{start, machine_answers}
use Rattle.reader_theorems.specs.Demand3.{reading_after, reader_after}
use Rattle.reader_bytes.specs.Bytes.{reader_length, encode, decode}
use Rattle.reader_bytes.specs.Calls.{lent, fresh_lent}
use Rattle.reader_bytes_theorems.specs.Lists.{Request, a_fresh, a_call, served, final_bytes, unknown_fresh, writing_requests, lent_answers, lent_out}

-- ---- demand 1: any bytes, of any length and content, any list of fresh requests, pieces and closes

-- the refusal of a request on bytes of a reader's length, or 0, exactly when document 01 says
abbrev pub request_refusal : List ℕ → Request → ℕ
request_refusal bs (a_fresh n) = cond (known (format_of n)) 0 (refusal_number BrokenReader)
request_refusal bs (a_call c) = refusal (decode bs) (length (bytes_of c)) (length (out_of c))

-- the refusal of a request on any bytes: those of another length hold no reader
abbrev pub lent_refusal : List ℕ → Request → ℕ
lent_refusal bs q = cond (eqb (length bs) reader_length) (request_refusal bs q) (refusal_number BrokenReader)

-- A refused request leaves the reader's bytes as they were. The exception leaves the refused reader: closed, and all
-- else 0.
abbrev pub refused_bytes : List ℕ → Request → List ℕ
refused_bytes bs q = cond (unknown_fresh bs q) (encode (empty 0 true)) bs

-- the output as lent: none for a fresh request
abbrev pub request_out : Request → List ℕ
request_out (a_fresh n) = []
request_out (a_call c) = out_of c

-- Along a list, every answer is that refusal, and a refused request leaves every byte of its output and, but for the
-- exception, of the reader.
unfoldable pub Kept : List ℕ → List Request → Type 0
Kept bs [] = Unit {0}
Kept bs (q ∷ qs) =
    ((served bs q).answer ≡ lent_refusal bs q)
    × ((((served bs q).answer ≡ 0 → ⊥) → served bs q ≡ lent (lent_refusal bs q) (refused_bytes bs q) (request_out q))
    × Kept (served bs q).reader qs)

pub record Refusals (bs : List ℕ) (qs : List Request) : Type 0 where
  pub kept : Kept bs qs
  -- Every request that is neither accepted nor the exception can be left out: the bytes after the list are the same.
  pub writing : final_bytes bs qs ≡ final_bytes bs (writing_requests bs qs)

abbrev pub LentDemand1 : Type 0
LentDemand1 = (bs : List ℕ) (qs : List Request) → Refusals bs qs

-- ---- demand 3: any list of calls on the bytes to which a fresh reader was written

-- the bytes to which a fresh reader of format n is written, whatever they held
abbrev pub fresh_bytes : ℕ → List ℕ → List ℕ
fresh_bytes n bs = (fresh_lent n bs).reader

pub record LentAgrees (n : ℕ) (bs : List ℕ) (cs : List Call) : Type 0 where
  -- the fresh reader is given, and every answer is the machine's
  pub opened : (fresh_lent n bs).answer ≡ 0
  pub answered : lent_answers (fresh_bytes n bs) cs ≡ machine_answers (format_of n) start cs
  -- the bytes handed out are the joined frames of the reading (the closing reading, if a close was accepted)
  pub handed : lent_out (format_of n) start (fresh_bytes n bs) cs ≡ joined (reading_after n cs).events
  -- the reader's bytes are those of the reader of `Demand3`, whose counts are the reading's
  pub reader : final_bytes (fresh_bytes n bs) (map a_call cs) ≡ encode (reader_after n cs)
  pub numbers : decode (final_bytes (fresh_bytes n bs) (map a_call cs)) ≡ reader_after n cs

abbrev pub LentDemand3 : Type 0
LentDemand3 = (n : ℕ) (bs : List ℕ) (cs : List Call) → T (known (format_of n)) → length bs ≡ reader_length → LentAgrees n bs cs
