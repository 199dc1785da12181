-- Only the machine counts: the same bytes in other accepted pieces give the same frames, reader and counts.
-- Assumes nothing.
use Prim.Native.Nat.{ℕ}
use mathlib.Core.Path.{◌≡◌, sym, ap, ◌∙◌}
use mathlib.Core.Bool.{false}
use mathlib.Core.List.{List, [], ◌∷◌, ◌++◌, append_assoc, append-nil}
use lib.Dec.{T}
use Rattle.framing.specs.declared.Format.{Format}
use Rattle.framing.specs.Format.{known, format_of}
use Rattle.reader.specs.Calls.{Call, a_piece, a_close}
use Rattle.reader_theorems.specs.Machine.{Machine, machine_answers, final_machine}
use Rattle.reader_theorems.specs.Demand3.{machine_after}
use Rattle.reader_theorems.specs.Chunking.{Pieces, Zeros, AcceptedPieces, delivery, Same, Chunking}
use Rattle.reader_theorems.proofs.Demand3Proof.{reader-is, demand3}

pub same-machine : (n : ℕ) (cs ds : List Call) → T (known (format_of n)) → machine_after n cs ≡ machine_after n ds → Same n cs ds
same-machine n cs ds k e =
    let p = demand3 n cs k in
    let q = demand3 n ds k in
    record {
      handed = rw (p.handed, q.handed, e);
      frames = rw (p.frames, q.frames, e);
      reader = rw (reader-is n cs k, reader-is n ds k, e);
    }

-- an open machine that was delivered these bytes
abbrev pub delivering : List ℕ → Machine
delivering d = record { delivered = d; closed = false }

after-pieces : (f : Format) (d : List ℕ) (cs : List Call) → Pieces cs → Zeros (machine_answers f (delivering d) cs)
    → final_machine f (delivering d) cs ≡ delivering (d ++ delivery cs)
unfolding machine_answers final_machine
after-pieces f d [] p z = rw append-nil
after-pieces f d (a_piece bs out ∷ cs) p z = rw (z.0, ← append_assoc) (after-pieces f (d ++ bs) cs p (rw z.0 at z.1))
after-pieces f d (a_close out ∷ cs) p z = absurd p

-- The machine of accepted pieces has all their bytes.
pub machine-is : (n : ℕ) (cs : List Call) → T (known (format_of n)) → AcceptedPieces n cs → machine_after n cs ≡ delivering (delivery cs)
machine-is n cs k a = after-pieces (format_of n) [] cs a.pieces (rw (demand3 n cs k).answered at a.accepted)

pub chunking : Chunking
chunking n cs ds k a b e = same-machine n cs ds k (machine-is n cs k a ∙ ap delivering e ∙ sym (machine-is n ds k b))
