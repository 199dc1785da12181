-- A capture read to its end, by induction on its pieces: the tally is all along that of the plain machine, which refuses none of them.
-- Assumes nothing.
use Rattle.std.proofs.Common.{◌≡◌, ℕ, ◌+◌, ◌%◌, ◌^◌, ◌≤◌, true, false, T, List, [], ◌∷◌, ◌++◌, length, refl, append_assoc, append-nil, mod-eq_of_lt, arith, length-append, le-ltb}
use Rattle.framing.specs.declared.Format.{Format}
use Rattle.framing.specs.Format.{known, format_of}
use Rattle.framing.specs.Reading.{ongoing, closing, read, frame_count, pending_count}
use Rattle.framing.proofs.ReadingLaws.{read-nil, closing-rest, pending-bound}
use Rattle.reader.specs.Calls.{Call, a_piece, a_close, bytes_of, out_of, mode_of}
use Rattle.reader.specs.Refusal.{longest_piece, most_bytes}
use Rattle.reader.proofs.RefusalLaws.{bound-most}
use Rattle.reader.proofs.StepLaws.{frames-most}
use Rattle.reader_theorems.specs.Machine.{Machine, start, machine_answer, accepted}
use Rattle.reader_theorems.specs.Chunking.{delivery}
use Rattle.reader_theorems.proofs.Chunking.{delivering}
use Rattle.reader_theorems.proofs.View.{reading_at, view, WithinLimit, view-sum, view-fresh, one-call}
use Rattle.tally.specs.declared.Tally.{Tally}
use Rattle.tally.specs.Step.{max_output, fresh_tally, tally_step, sheet_of}
use Rattle.tally.specs.Whole.{tallied, closing_sheet, Feeding, WholeCapture}

-- the tally as read off the machine: nothing was refused, and the frames are those of its reading
abbrev pub tally_of : ℕ → Machine → Tally
tally_of n m = record { answer = 0; frames = frame_count (reading_at n m); reader = view n m }

-- ---- one call

-- What the machine asks of a call that it accepts.
record Fed (m : Machine) (c : Call) : Type 0 where
  unclosed : m.closed ≡ false
  short : length (bytes_of c) ≤ longest_piece
  fits : length m.delivered + length (bytes_of c) ≤ most_bytes
  large-enough : max_output ≤ length (out_of c)

fed-judged : (f : Format) (m : Machine) (c : Call) → Fed m c → machine_answer f m c ≡ 0
unfolding machine_answer
fed-judged f m c h =
    let p = pending-bound ongoing f m.delivered in
    rw (
      h.unclosed,
      le-ltb longest_piece (length (bytes_of c)) h.short,
      le-ltb most_bytes (length m.delivered + length (bytes_of c)) h.fits,
      le-ltb (length (out_of c)) (pending_count (read ongoing f m.delivered) + length (bytes_of c)) (omega (arith, bound-most f, p, h.short, h.large-enough)),
    )

-- No more frames than bytes: 32 bits count them.
frames-fit : (n : ℕ) (m : Machine) → WithinLimit m → frame_count (reading_at n m) % 2 ^ 32 ≡ frame_count (reading_at n m)
frames-fit n m h = mod-eq_of_lt (omega (arith, frames-most (mode_of m.closed) (format_of n) m.delivered, view-sum n m))

fed-step : (n : ℕ) (m : Machine) (c : Call) → T (known (format_of n)) → Fed m c → (tally_step (tally_of n m) c).tally ≡ tally_of n (accepted m c)
unfolding tally_step
fed-step n m c k h =
    let w : WithinLimit m = omega (arith, h.fits) in
    let s = one-call n m c k w in
    let z = fed-judged (format_of n) m c h in
    rw (s.answer, s.reader, s.count, z, frames-fit n (accepted m c) (rw z at s.fits))

-- ---- all pieces, and the close

all-pieces : (n : ℕ) (d : List ℕ) (cs : List Call) → T (known (format_of n)) → Feeding cs → length (d ++ delivery cs) ≤ most_bytes
    → tallied (tally_of n (delivering d)) cs ≡ tally_of n (delivering (d ++ delivery cs))
unfolding tallied
all-pieces n d [] k p h = rw append-nil
all-pieces n d (a_piece bs out ∷ cs) k p h =
    let g : length ((d ++ bs) ++ delivery cs) ≤ most_bytes = rw append_assoc h in
    let fits : length d + length bs ≤ most_bytes = omega (arith, simp length-append at g) in
    rw (fed-step n (delivering d) (a_piece bs out) k (record { unclosed = refl; short = omega (arith, p.0); fits = fits; large-enough = omega (arith, p.1.0) }), ← append_assoc)
    (all-pieces n (d ++ bs) cs k p.1.1 g)
all-pieces n d (a_close out ∷ cs) k p h = absurd p

-- the tally of no bytes is the fresh one
pub fresh-is : (n : ℕ) → T (known (format_of n)) → fresh_tally n ≡ tally_of n start
unfolding fresh_tally
fresh-is n k = rw (view-fresh n k, read-nil ongoing (format_of n))

-- a machine whose close was accepted
abbrev ended : List ℕ → Machine
ended d = record { delivered = d; closed = true }

all_read : (n : ℕ) (cs : List Call) (out : List ℕ) → T (known (format_of n)) → Feeding cs → max_output ≤ length out → length (delivery cs) ≤ most_bytes
    → (tally_step (tallied (fresh_tally n) cs) (a_close out)).tally ≡ tally_of n (ended (delivery cs))
all_read n cs out k p r h =
    let bs : List ℕ = delivery cs in
    let e = fed-step n (delivering bs) (a_close out) k (record { unclosed = refl; short = omega arith; fits = omega arith; large-enough = omega arith }) in
    rw (fresh-is n k, all-pieces n [] cs k p h, e, append-nil bs)

-- the same, one call at a time
pub piece_is : (n : ℕ) (d bs out : List ℕ) → T (known (format_of n)) → length bs ≤ longest_piece → length d + length bs ≤ most_bytes → max_output ≤ length out
    → (tally_step (tally_of n (delivering d)) (a_piece bs out)).tally ≡ tally_of n (delivering (d ++ bs))
piece_is n d bs out k s f r = fed-step n (delivering d) (a_piece bs out) k (record { unclosed = refl; short = s; fits = f; large-enough = r })

pub close-is : (n : ℕ) (d out : List ℕ) → T (known (format_of n)) → length d ≤ most_bytes → max_output ≤ length out
    → sheet_of (tally_step (tally_of n (delivering d)) (a_close out)).tally ≡ closing_sheet n (read closing (format_of n) d)
unfolding sheet_of
close-is n d out k f r =
    rw (fed-step n (delivering d) (a_close out) k (record { unclosed = refl; short = omega arith; fits = omega arith; large-enough = r }), append-nil d, closing-rest (format_of n) d)

pub whole-capture : WholeCapture
unfolding sheet_of
whole-capture n cs out k p r h =
    let e = all_read n cs out k p r h in
    record { accepted = rw e; sheet = rw (e, closing-rest (format_of n) (delivery cs)) }
