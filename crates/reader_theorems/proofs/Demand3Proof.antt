-- Demand 3, by induction on the list of calls: the reader is all along the view of the machine.
-- Assumes nothing.
use Prim.Native.Nat.{ℕ, ◌+◌}
use mathlib.Core.Path.{◌≡◌, refl}
use mathlib.Core.List.{List, [], ◌∷◌, ◌++◌, append_assoc, append-nil}
use native.Mathlib.Omega.{arith}
use lib.Dec.{T}
use Rattle.framing.specs.Format.{known, format_of}
use Rattle.framing.specs.Reading.{read_steps, read, joined, frame_count}
use Rattle.reader.specs.Calls.{Call}
use Rattle.reader_theorems.specs.Machine.{Machine, start, next_machine, machine_answers, final_machine}
use Rattle.reader_theorems.specs.Lists.{answers, final_reader, frame_total, handed_out}
use Rattle.reader_theorems.specs.Demand3.{machine_after, reader_after, Demand3}
use Rattle.reader_theorems.proofs.View.{reading_at, view, WithinLimit, view-sum, view-bound, view-none, view-fresh, one-call}

-- What a list of calls on the view gives, as `OneCall` says it of one call.
record Steps (n : ℕ) (m : Machine) (cs : List Call) : Type 0 where
  answer : answers (view n m) cs ≡ machine_answers (format_of n) m cs
  reader : final_reader (view n m) cs ≡ view n (final_machine (format_of n) m cs)
  count : frame_count (reading_at n m) + frame_total (view n m) cs ≡ frame_count (reading_at n (final_machine (format_of n) m cs))
  output : joined (reading_at n m).events ++ handed_out (format_of n) m (view n m) cs ≡ joined (reading_at n (final_machine (format_of n) m cs)).events

all-calls : (n : ℕ) (m : Machine) (cs : List Call) → T (known (format_of n)) → WithinLimit m → Steps n m cs
unfolding answers machine_answers final_reader final_machine frame_total handed_out
all-calls n m [] k h = record { answer = refl; reader = refl; count = omega arith; output = append-nil (joined (reading_at n m).events) }
all-calls n m (c ∷ cs) k h =
    let s = one-call n m c k h in
    let ih = all-calls n (next_machine (format_of n) m c) cs k s.fits in
    record {
      answer = rw (s.reader, s.answer, ih.answer);
      reader = rw s.reader ih.reader;
      count = rw s.reader (omega arith);
      output = rw (s.reader, ← append_assoc, s.output) ih.output;
    }

-- ---- from the fresh reader on

pub reader-is : (n : ℕ) (cs : List Call) → T (known (format_of n)) → reader_after n cs ≡ view n (machine_after n cs)
reader-is n cs k = rw (view-fresh n k) (all-calls n start cs k (omega arith)).reader

-- `read` is unfolded for the start alone: the reading of no bytes computes.
pub demand3 : Demand3
unfolding read read_steps
demand3 n cs k =
    let s = all-calls n start cs k (omega arith) in
    let r = reader-is n cs k in
    record {
      opened = rw (view-fresh n k);
      answered = rw (view-fresh n k) s.answer;
      handed = rw (view-fresh n k) s.output;
      frames = rw (view-fresh n k) (omega arith);
      framed = rw r;
      skipped = rw r;
      pending = rw r;
      held = rw r;
      format = rw r;
      closed = rw r;
      counted = rw r (view-sum n (machine_after n cs));
      bound = rw r (view-bound n (machine_after n cs));
      none = rw r (view-none n (machine_after n cs));
    }
