-- What is printed of a file is `sheets_of` of it, however it was divided: by induction on the reads, and on a read's
-- bytes. Assumes nothing.
use Prim.Native.Nat.{ℕ, zero, suc, ◌*◌, ◌≤◌, ◌<◌}
use mathlib.Core.Path.{◌≡◌, refl, sym, ap, ◌∙◌}
use mathlib.Core.Bool.{Bool, true, false, not, ◌&&◌, and-false}
use mathlib.Core.Logic.{inl, inr}
use mathlib.Core.List.{List, [], ◌∷◌, ◌++◌, append_assoc, append-nil, foldl, flatten}
use native.Mathlib.Decide.{dec_le, dec_lt}
use native.Mathlib.Omega.{arith}
use Rattle.std.specs.Prelude.{is_some}
use lib.ListN.{length, take, drop, length-append, length-take, take-append-drop, length-replicate}
use lib.Seq.{take-append-le}
use borrow.Author.Tests.{eq-eqb, ne_eqb, le-leb, leb-true}
use Rattle.benchfile.specs.declared.sheet.Sheet.{Sheet}
use Rattle.benchfile.specs.Toc.{entries, toc_length, total_length, entry_start, file_length, is_toc, is_whole_file, most_entries, longest_toc}
use Rattle.reader.specs.Refusal.{most_bytes}
use Rattle.framing.specs.Meaning.{Bytes}
use Rattle.report.specs.declared.Report.{Report}
use Rattle.report.specs.Sheets.{sheets_of}
use Rattle.report.specs.Step.{no_sheet, fresh_report, take_piece, overrun, take_toc, take_bytes, is_done, is_refused, printed}
use Rattle.report.specs.Printed.{after_reads, PrintedSheets, LongRefused, longest_file}
use Rattle.report.proofs.StepLaws.{piece_length, after_piece, shorter, taken_none, taken-byte, taken-over, taken-piece}
use Rattle.framing.proofs.ByteLaws.{bytes-first}
use Rattle.report.proofs.AgreeLaws.{whole_of, toc-in-first, toc-on, entries-agree, length-fits}
use Rattle.report.proofs.BodyLaws.{texts-are, start-next, start-later, left_in, left-past, entries-on, start-on}
use Rattle.report.proofs.Stages.{Reading, Settled, Over, Stage, in_toc, in_bodies, too_long, all_settled, byte-taken, piece-taken}

-- ---- the bytes of a read

-- something is left: an entry is being read
in_body : (d : List ℕ) (r : Report) → Reading d r → (r.left ≡ 0 → ⊥) → r.entry < entries d
in_body d r g l = go (dec_lt r.entry (entries d))
  where
    go : Dec (r.entry < entries d) → r.entry < entries d
    go (yes h) = h
    go (no h) = absurd (l (omega (arith, g.left, left-past d r.entry (omega arith))))

module _ (d : List ℕ) (b : ℕ) (bs : List ℕ) (r : Report) (p : Bytes (d ++ b ∷ bs)) where
  -- a byte more than the table of contents says
  exceeds : is_toc d ≡ true → is_some r.length ≡ true → r.left ≡ 0 → entry_start d (entries d) ≤ length d → Over (d ++ b ∷ bs) (overrun r)
  unfolding overrun
  exceeds e s l h =
      let w = whole_of d e in
      let n = length-append d (b ∷ bs) in
      record {
        some = s;
        over = refl;
        nothing = l;
        toc = toc-on d (b ∷ bs) e;
        long = rw (entries-on d (b ∷ bs) w, start-on d (b ∷ bs) w (entries d) (omega arith)) (omega arith);
      }

  read-over : is_toc d ≡ true → is_some r.length ≡ true → r.left ≡ 0 → entry_start d (entries d) ≤ length d → Stage (d ++ b ∷ bs) (take_bytes r (b ∷ bs))
  read-over e s l h = rw (taken-over r b bs s l) (too_long (exceeds e s l h))

  -- the bytes of a piece
  abbrev piece : List ℕ
  piece = take (piece_length r b bs) (b ∷ bs)

  abbrev rest : List ℕ
  rest = drop (piece_length r b bs) (b ∷ bs)

  piece-and-rest : (d ++ piece) ++ rest ≡ d ++ b ∷ bs
  piece-and-rest = rw (append_assoc d piece rest, take-append-drop (piece_length r b bs) (b ∷ bs))

  read-piece : Reading d r → (r.left ≡ 0 → ⊥) → Settled (d ++ piece) (after_piece r b bs)
  read-piece g l =
      let k = length-take (piece_length r b bs) (b ∷ bs) in
      all_settled (d ++ piece) (take_piece r piece) (bytes-first (d ++ piece) rest (rw piece-and-rest p))
      (piece-taken d piece r g (bytes-first d (b ∷ bs) p) (in_body d r g l) (omega arith) (omega arith))

  -- in a capture, or after the last; f is what the bytes after the piece come to
  read-body : Settled d r → ((r.left ≡ 0 → ⊥) → Stage ((d ++ piece) ++ rest) (take_bytes (after_piece r b bs) rest)) → Stage (d ++ b ∷ bs) (take_bytes r (b ∷ bs))
  read-body g f = go (dec_le r.left 0) (dec_lt r.entry (entries d))
    where
      go : Dec (r.left ≤ 0) → Dec (r.entry < entries d) → Stage (d ++ b ∷ bs) (take_bytes r (b ∷ bs))
      go (yes l) (yes h) = absurd (g.waiting h (omega arith))
      go (yes l) (no h) =
          let e : r.entry ≡ entries d = omega (arith, g.reading.within) in
          read-over g.reading.toc g.reading.some (omega arith) (rw e at g.reading.came)
      go (no l) h = rw (taken-piece r b bs g.reading.some (λ z. l (omega arith))) (rw piece-and-rest at (f (λ z. l (omega arith))))

-- all bytes of a read, at most k
read_taken : (k : ℕ) (d bs : List ℕ) (r : Report) → length bs ≤ k → Bytes (d ++ bs) → Stage d r → Stage (d ++ bs) (take_bytes r bs)
read_taken zero d [] r h p s = rw (append-nil d, taken_none r) s
read_taken zero d (b ∷ bs) r h p s = absurd (omega arith)
read_taken (suc k) d [] r h p s = rw (append-nil d, taken_none r) s
read_taken (suc k) d (b ∷ bs) r h p (in_toc g) =
    let e = append_assoc d (b ∷ []) bs in
    let q : Bytes ((d ++ b ∷ []) ++ bs) = rw e p in
    rw (taken-byte r b bs g.none) (rw e at (read_taken k (d ++ b ∷ []) bs (take_toc r b) (omega arith) q (byte-taken d b r g (bytes-first (d ++ b ∷ []) bs q))))
read_taken (suc k) d (b ∷ bs) r h p (in_bodies g) =
    read-body d b bs r p g
    (λ l. read_taken k (d ++ piece d b bs r p) (rest d b bs r p) (after_piece r b bs) (omega (arith, shorter r b bs l)) (rw (piece-and-rest d b bs r p) p) (in_bodies (read-piece d b bs r p g.reading l)))
read_taken (suc k) d (b ∷ bs) r h p (too_long g) = read-over d b bs r p g.toc g.some g.nothing (omega (arith, g.long))

-- ---- all reads

all-taken : (reads : List (List ℕ)) (d : List ℕ) (r : Report) → Bytes (d ++ flatten reads) → Stage d r → Stage (d ++ flatten reads) (foldl take_bytes r reads)
unfolding flatten
all-taken [] d r p s = rw (append-nil d) s
all-taken (bs ∷ reads) d r p s =
    let e = append_assoc d bs (flatten reads) in
    let q : Bytes ((d ++ bs) ++ flatten reads) = rw e p in
    rw e at (all-taken reads (d ++ bs) (take_bytes r bs) q (read_taken (length bs) d bs r (omega arith) (bytes-first (d ++ bs) (flatten reads) q) s))

-- nothing has come yet
nothing : Stage [] fresh_report
unfolding fresh_report is_toc
nothing =
    in_toc
    (record {
      none = refl;
      inside = refl;
      size = length-replicate {A = ℕ} longest_toc 0;
      places = length-replicate {A = Sheet} most_entries no_sheet;
      count = refl;
      held = refl;
      broken = refl;
    })

-- what is printed at the end
refused-text : (d : List ℕ) (r : Report) → is_done r ≡ false → is_whole_file d (length d) ≡ false → printed r ≡ sheets_of d
unfolding printed sheets_of
refused-text d r e f = rw (e, f)

-- in a capture, and after the last
module _ (d : List ℕ) (r : Report) (g : Settled d r) where
  counted : entries r.toc ≡ entries d
  counted = entries-agree r.toc d (toc_length (entries d)) g.reading.agree (omega arith)

  cut : r.entry < entries d → printed r ≡ sheets_of d
  unfolding is_whole_file file_length
  cut h =
      let u : length d < entry_start d (entries d) = go (dec_le r.left 0) in
      refused-text d r
      (rw (counted, ne_eqb r.entry (entries d) (λ z. omega arith)) (and-false (is_some r.length && not r.excess)))
      (rw (g.reading.toc, ne_eqb (entry_start d (entries d)) (length d) (λ z. omega arith)))
    where
      go : Dec (r.left ≤ 0) → length d < entry_start d (entries d)
      go (yes z) = absurd (g.waiting h (omega arith))
      go (no z) = omega (arith, g.reading.left, g.reading.came, start-later d (suc r.entry) (entries d) (omega arith), start-next d r.entry, left_in d r.entry h)

  ended : r.entry ≡ entries d → printed r ≡ sheets_of d
  unfolding printed sheets_of is_whole_file file_length
  ended e =
      let l = left-past d r.entry (omega arith) in
      let b : entry_start d (entries d) ≡ length d = omega (arith, g.reading.left, rw e at g.reading.came, ap (entry_start d) e) in
      rw (g.reading.some, g.reading.inside, counted, g.reading.sheets, eq-eqb r.entry (entries d) e, g.reading.toc, b, eq-eqb (length d) (length d) refl, e, texts-are d (entries d))

pub at-end : (d : List ℕ) (r : Report) → Stage d r → printed r ≡ sheets_of d
unfolding is_whole_file file_length
at-end d r (in_toc g) = refused-text d r (rw g.none) (rw (toc-in-first d g.broken))
at-end d r (too_long g) = refused-text d r (rw (g.some, g.over)) (rw (g.toc, ne_eqb (entry_start d (entries d)) (length d) (λ z. omega (arith, g.long))))
at-end d r (in_bodies g) = go (dec_lt r.entry (entries d))
  where
    go : Dec (r.entry < entries d) → printed r ≡ sheets_of d
    go (yes h) = cut d r g h
    go (no h) = ended d r g (omega (arith, g.reading.within))

-- ---- the end

ends : (reads : List (List ℕ)) → Bytes (flatten reads) → Stage (flatten reads) (after_reads reads)
ends reads p = all-taken reads [] fresh_report p nothing

-- what is refused stays refused
refused-on : (d x : List ℕ) (r : Report) → is_refused r ≡ true → Stage d r → printed r ≡ sheets_of (d ++ x)
unfolding is_refused is_whole_file file_length
refused-on d x r e (in_toc g) =
    let n : longest_toc ≤ r.count = leb-true longest_toc r.count (rw g.none at e) in
    let l : longest_toc ≤ length d = omega (arith, g.count, length-take longest_toc d) in
    refused-text (d ++ x) r (rw g.none) (rw (toc-in-first (d ++ x) (rw (take-append-le longest_toc d x l) g.broken)))
refused-on d x r e (in_bodies g) =
    let z : ◌≡◌ {A = Bool} false true = sym g.reading.inside ∙ rw g.reading.some at e in
    cc
refused-on d x r e (too_long g) =
    let w = whole_of d g.toc in
    let b : entry_start (d ++ x) (entries (d ++ x)) ≡ entry_start d (entries d) = rw (entries-on d x w) (start-on d x w (entries d) (omega arith)) in
    refused-text (d ++ x) r (rw (g.some, g.over))
    (rw (toc-on d x g.toc, ne_eqb (entry_start (d ++ x) (entries (d ++ x))) (length (d ++ x)) (λ z. omega (arith, g.long, length-append d x))))

pub printed-sheets : PrintedSheets
printed-sheets reads rest p (inl z) =
    let e : flatten reads ++ rest ≡ flatten reads = rw z (append-nil (flatten reads)) in
    rw e (at-end (flatten reads) (after_reads reads) (ends reads (rw e at p)))
printed-sheets reads rest p (inr e) = refused-on (flatten reads) rest (after_reads reads) e (ends reads (bytes-first (flatten reads) rest p))

-- a whole file has the longest table of contents and the longest captures, at most
lengths-most : (d : List ℕ) (k : ℕ) → Bytes d → total_length d k ≤ k * most_bytes
unfolding total_length
lengths-most d zero p = omega arith
lengths-most d (suc k) p = omega (arith, lengths-most d k p, length-fits d k p)

start-least : (d : List ℕ) → Bytes d → is_toc d ≡ true → entry_start d (entries d) ≤ longest_file
unfolding entry_start
start-least d p e = omega (arith, lengths-most d (entries d) p, (whole_of d e).few)

not-long : (d : List ℕ) (r : Report) → Bytes d → Reading d r → length d ≤ longest_file
not-long d r p g = go (dec_lt r.entry (entries d))
  where
    go : Dec (r.entry < entries d) → length d ≤ longest_file
    go (yes h) =
        omega (arith, start-least d p g.toc, start-later d (suc r.entry) (entries d) (omega arith), start-next d r.entry, left_in d r.entry h, g.left, g.came)
    go (no h) =
        let e : r.entry ≡ entries d = omega (arith, g.within) in
        omega (arith, start-least d p g.toc, ap (entry_start d) e, left-past d r.entry (omega arith), g.left, g.came)

long-stage : (d : List ℕ) (r : Report) → Bytes d → longest_file < length d → Stage d r → is_refused r ≡ true
unfolding is_refused
long-stage d r p l (in_toc g) = rw g.none (le-leb longest_toc r.count (omega (arith, g.count, length-take longest_toc d)))
long-stage d r p l (in_bodies g) = absurd (omega (arith, not-long d r p g.reading))
long-stage d r p l (too_long g) = rw (g.some, g.over)

pub long-refused : LongRefused
long-refused reads p l = long-stage (flatten reads) (after_reads reads) p l (ends reads p)
