-- The same bytes in other pieces: how a line is divided does not matter. A consequence of demand 3.
use Rattle.std.specs.Prelude.{ℕ, ◌≡◌, List, [], ◌∷◌, ◌++◌, T}
use Rattle.framing.specs.Format.{known, format_of}
use Rattle.reader.specs.State.{fresh_of}
use Rattle.reader.specs.Calls.{Call, a_piece, a_close, bytes_of}
use Rattle.reader_theorems.specs.Lists.{answers, frame_total}
use Rattle.reader_theorems.specs.Demand3.{reader_after, output}

-- no call of the list is a close
abbrev pub Pieces : List Call → Type 0
Pieces [] = Unit {0}
Pieces (a_piece bs out ∷ cs) = Pieces cs
Pieces (a_close out ∷ cs) = ⊥

-- all of them are 0
abbrev pub Zeros : List ℕ → Type 0
Zeros [] = Unit {0}
Zeros (a ∷ bs) = (a ≡ 0) × Zeros bs

-- A list of pieces that are all accepted.
pub record AcceptedPieces (n : ℕ) (cs : List Call) : Type 0 where
  pub pieces : Pieces cs
  pub accepted : Zeros (answers (fresh_of n).reader cs)

-- the bytes of the calls, joined
abbrev pub delivery : List Call → List ℕ
delivery [] = []
delivery (c ∷ cs) = bytes_of c ++ delivery cs

-- Two lists of calls hand out the same frames and leave the same reader, counts and all.
pub record Same (n : ℕ) (cs ds : List Call) : Type 0 where
  pub handed : output n cs ≡ output n ds
  pub frames : frame_total (fresh_of n).reader cs ≡ frame_total (fresh_of n).reader ds
  pub reader : reader_after n cs ≡ reader_after n ds

-- Lists of accepted pieces that deliver the same bytes, however they are divided, come to the same.
abbrev pub Chunking : Type 0
Chunking = (n : ℕ) (cs ds : List Call) → T (known (format_of n)) → AcceptedPieces n cs → AcceptedPieces n ds → delivery cs ≡ delivery ds → Same n cs ds
