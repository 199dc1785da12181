-- A list of requests on one reader's bytes, each on the bytes as the request before left them. The contracts of
-- `capture_fresh`, `capture_piece` and `capture_close` promise `fresh_lent` and `serve_lent`.
use Rattle.std.specs.Prelude.{ℕ, Bool, false, cond, not, ◌&&◌, ◌||◌, List, [], ◌∷◌, ◌++◌, eqb, length}
use Rattle.framing.specs.declared.Format.{Format}
use Rattle.framing.specs.Format.{known, format_of}
use Rattle.reader.specs.Calls.{Call}
use Rattle.reader_theorems.specs.Machine.{Machine, next_machine, handed}
use Rattle.reader_bytes.specs.Bytes.{reader_length}
use Rattle.reader_bytes.specs.Calls.{Lent, serve_lent, fresh_lent}

-- ---- fresh requests, pieces and closes

-- A request on a reader's bytes: a fresh request of a format number, or a call, which is a piece or a close.
pub data Request : Type 0 where
  a_fresh : ℕ → Request
  a_call : Call → Request

-- its answer, and the reader's bytes and the output as it leaves them
abbrev pub served : List ℕ → Request → Lent
served bs (a_fresh n) = fresh_lent n bs
served bs (a_call c) = serve_lent bs c

-- the reader's bytes after the list
unfoldable pub final_bytes : List ℕ → List Request → List ℕ
final_bytes bs [] = bs
final_bytes bs (q ∷ qs) = final_bytes (served bs q).reader qs

-- The one exception: a fresh request of an unknown format on bytes of a reader's length is refused and writes the
-- refused reader there.
abbrev pub unknown_fresh : List ℕ → Request → Bool
unknown_fresh bs (a_fresh n) = eqb (length bs) reader_length && not (known (format_of n))
unknown_fresh bs (a_call c) = false

-- the requests of a list that write the reader's bytes: those that are accepted, and the exception
unfoldable pub writing_requests : List ℕ → List Request → List Request
writing_requests bs [] = []
writing_requests bs (q ∷ qs) =
    let later = writing_requests (served bs q).reader qs in
    cond (eqb (served bs q).answer 0 || unknown_fresh bs q) (q ∷ later) later

-- ---- pieces and closes alone

-- the answers
unfoldable pub lent_answers : List ℕ → List Call → List ℕ
lent_answers bs [] = []
lent_answers bs (c ∷ cs) = (serve_lent bs c).answer ∷ lent_answers (serve_lent bs c).reader cs

-- The bytes handed out, joined call after call: of each output as the call returns it, as many as the machine says.
unfoldable pub lent_out : Format → Machine → List ℕ → List Call → List ℕ
lent_out f m bs [] = []
lent_out f m bs (c ∷ cs) = handed f m c (serve_lent bs c).out ++ lent_out f (next_machine f m c) (serve_lent bs c).reader cs
