-- The reader as read off the plain machine: it is not broken, refuses as the machine judges, and a call on it gives the next one.
-- Assumes nothing.
use Prim.Native.Nat.{ℕ, ◌+◌, ◌-◌, ◌≤◌}
use mathlib.Core.Path.{◌≡◌, refl, ap}
use mathlib.Core.Bool.{Bool, true, false, ◌&&◌}
use mathlib.Core.List.{List, ◌++◌, append-nil}
use native.Mathlib.Omega.{arith}
use lib.Dec.{T, ltb, eqb}
use lib.ListN.{length, drop, replicate, length-append}
use lib.Seq.{take-append_seam, take_at}
use borrow.Author.Tests.{le-ltb, ltb-false, eqb-true}
use Rattle.framing.specs.declared.Format.{Format}
use Rattle.framing.specs.Format.{known, format_of, pending_bound}
use Rattle.framing.specs.Shape.{scan}
use Rattle.framing.specs.Reading.{ongoing, Reading, extend, joined, framed_bytes, skipped_bytes, one_frame, frame_count, framed_count, skipped_count, pending_count}
use Rattle.framing.proofs.TestLaws.{true_of, past}
use Rattle.framing.proofs.ReadingLaws.{read-nil, streaming, closing-rest, rest-partial, pending-bound, total-append, joined-append, length-joined, balance}
use Rattle.reader.specs.declared.Reader.{Reader as State}
use Rattle.reader.specs.State.{sum, pending_bytes, held_length, held_bytes, fresh_of}
use Rattle.reader.specs.Refusal.{is_start, longest_piece, most_bytes, broken, refusal}
use Rattle.reader.specs.Calls.{Call, bytes_of, out_of, closes, mode_of, gain, serve}
use Rattle.reader_theorems.specs.Machine.{Machine, start, machine_answer, accepted, next_machine, machine_reading, handed_count, handed}

-- the machine's reading, and the reader as read off it
abbrev pub reading_at : ℕ → Machine → Reading
reading_at n m = machine_reading (format_of n) m

abbrev pub view : ℕ → Machine → State
view n m =
    record {
      format = n;
      closed = m.closed;
      framed = framed_count (reading_at n m);
      skipped = skipped_count (reading_at n m);
      pending = pending_count (reading_at n m);
      held = held_bytes (reading_at n m).rest;
    }

pub view-fresh : (n : ℕ) → T (known (format_of n)) → fresh_of n ≡ record { answer = 0; reader = view n start }
unfolding fresh_of
view-fresh n k = rw (true_of (known (format_of n)) k, read-nil ongoing (format_of n))

-- ---- what it has, and that it is not broken

module _ (n : ℕ) (m : Machine) where
  view-pending : pending_bytes (view n m) ≡ (reading_at n m).rest
  view-pending = take-append_seam (reading_at n m).rest (replicate (held_length - length (reading_at n m).rest) 0)

  pub view-sum : sum (view n m) ≡ length m.delivered
  view-sum = balance (mode_of m.closed) (format_of n) m.delivered

  pub view-bound : (view n m).pending ≤ pending_bound (format_of n)
  view-bound = pending-bound (mode_of m.closed) (format_of n) m.delivered

  pub view-none : m.closed ≡ true → (view n m).pending ≡ 0
  view-none e = rw e (ap length (closing-rest (format_of n) m.delivered))

  view-start : is_start (scan (format_of n) (pending_bytes (view n m))) ≡ true
  view-start = rw view-pending (ap is_start (rest-partial (mode_of m.closed) (format_of n) m.delivered))

  view-shut : (b : Bool) → m.closed ≡ b → (b && ltb 0 (view n m).pending) ≡ false
  view-shut false e = refl
  view-shut true e = ap (ltb 0) (view-none e)

-- No more bytes were delivered than a reader counts.
abbrev pub WithinLimit : Machine → Type 0
WithinLimit m = length m.delivered ≤ most_bytes

module _ (n : ℕ) (m : Machine) (k : T (known (format_of n))) (h : WithinLimit m) where
  view-unbroken : broken (view n m) ≡ false
  unfolding broken
  view-unbroken =
      simp (
        true_of (known (format_of n)) k,
        le-ltb (pending_bound (format_of n)) (view n m).pending (view-bound n m),
        view-start n m,
        view-shut n m m.closed refl,
        le-ltb most_bytes (sum (view n m)) (rw (view-sum n m) h),
      )

  -- Of a closed machine `machine_answer` takes the pending of the reading, and the view has that of the closing reading, 0: both answer 2 before.
  refuses : (c : Call) (b : Bool) → m.closed ≡ b → refusal (view n m) (length (bytes_of c)) (length (out_of c)) ≡ machine_answer (format_of n) m c
  unfolding refusal machine_answer
  refuses c false e = rw (view-unbroken, view-sum n m, e)
  refuses c true e = rw (view-unbroken, e)

-- ---- what a judgement of 0 says

record Judged0 (m : Machine) (c : Call) : Type 0 where
  unclosed : m.closed ≡ false
  fits : WithinLimit (accepted m c)

judged-0 : (f : Format) (m : Machine) (c : Call) → machine_answer f m c ≡ 0 → Judged0 m c
unfolding machine_answer
judged-0 f m c e =
    let p = past m.closed 2 _ (omega arith) e in
    let q = past (ltb longest_piece (length (bytes_of c))) 1 _ (omega arith) p.1 in
    let r = past (ltb most_bytes (length m.delivered + length (bytes_of c))) 3 _ (omega arith) q.1 in
    record { unclosed = p.0; fits = rw (length-append m.delivered (bytes_of c)) (ltb-false _ _ r.0) }

-- ---- one call

extends : (n : ℕ) (m : Machine) (c : Call) → m.closed ≡ false → reading_at n (accepted m c) ≡ extend (reading_at n m) (gain (view n m) c)
extends n m c e = rw (view-pending n m, e) (streaming (mode_of (closes c)) (format_of n) m.delivered (bytes_of c))

-- What a call on the view gives: the machine's answer, the view of the next machine, and the frames that its reading has more.
pub record OneCall (n : ℕ) (m : Machine) (c : Call) : Type 0 where
  pub answer : (serve (view n m) c).outcome.answer ≡ machine_answer (format_of n) m c
  pub reader : (serve (view n m) c).outcome.reader ≡ view n (next_machine (format_of n) m c)
  pub count : frame_count (reading_at n m) + (serve (view n m) c).outcome.frames ≡ frame_count (reading_at n (next_machine (format_of n) m c))
  pub output : joined (reading_at n m).events ++ handed (format_of n) m c (serve (view n m) c).out ≡ joined (reading_at n (next_machine (format_of n) m c)).events
  pub fits : WithinLimit (next_machine (format_of n) m c)

module _ (n : ℕ) (m : Machine) (c : Call) (k : T (known (format_of n))) (h : WithinLimit m) where
  on-accepted : machine_answer (format_of n) m c ≡ 0 → OneCall n m c
  unfolding serve
  on-accepted z =
      let r = refuses n m k h c m.closed refl in
      let j = judged-0 (format_of n) m c z in
      let x = extends n m c j.unclosed in
      let new : List ℕ = joined (gain (view n m) c).events in
      let l : length new ≡ handed_count (format_of n) m c = rw (x, total-append framed_bytes, length-joined) (omega arith) in
      record {
        answer = rw (r, z);
        reader = rw (r, z, x, total-append framed_bytes, total-append skipped_bytes);
        count = rw (r, z, x, total-append one_frame);
        output = rw (r, z, take_at new (drop (length new) (out_of c)) (handed_count (format_of n) m c) l, x, joined-append);
        fits = rw z j.fits;
      }

  on-refused : eqb (machine_answer (format_of n) m c) 0 ≡ false → OneCall n m c
  unfolding serve
  on-refused z =
      let r = refuses n m k h c m.closed refl in
      record {
        answer = rw (r, z);
        reader = rw (r, z);
        count = rw (r, z) (omega arith);
        output = rw (r, z) (append-nil (joined (reading_at n m).events));
        fits = rw z h;
      }

  pub one-call : OneCall n m c
  one-call = go (eqb (machine_answer (format_of n) m c) 0) refl
    where
      go : (t : Bool) → eqb (machine_answer (format_of n) m c) 0 ≡ t → OneCall n m c
      go true e = on-accepted (eqb-true (machine_answer (format_of n) m c) 0 e)
      go false e = on-refused e
