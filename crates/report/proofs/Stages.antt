-- What holds of the report after the first bytes d of a file: the table of contents is not whole yet, an entry is open
-- or all are closed, or the file is too long. Assumes nothing.
use Prim.Native.Nat.{ℕ, zero, suc, ◌+◌, ◌-◌, ◌≤◌, ◌<◌}
use mathlib.Core.Path.{◌≡◌, refl, sym, ap, ◌∙◌}
use mathlib.Core.Bool.{Bool, true, false, cond}
use mathlib.Core.List.{List, [], ◌∷◌, ◌++◌}
use native.Mathlib.Decide.{dec_le, dec_lt}
use native.Mathlib.Nat.{add-zero}
use native.Mathlib.Numerals.{add-one}
use native.Mathlib.Omega.{arith}
use Rattle.std.specs.Prelude.{is_some}
use lib.Dec.{eqb, ltb}
use lib.ListN.{length, take, drop, set, get_or, length-append, length-drop, length-set, drop_of_length-le}
use lib.Seq.{take_all, take-suc-set, take-append-le, drop-append-le, get_or-take, length-take-le}
use borrow.Author.Tests.{eq-eqb, ne_eqb, lt-ltb, le-ltb}
use Rattle.reader_theorems.proofs.Chunking.{delivering}
use Rattle.benchfile.specs.Toc.{entries, format_at, length_at, toc_length, entry_start, file_length, is_toc, most_entries, longest_toc}
use Rattle.tally.specs.Step.{fresh_tally, max_output}
use Rattle.tally.proofs.WholeProof.{tally_of, fresh-is, piece_is, close-is}
use Rattle.reader.specs.Refusal.{longest_piece}
use Rattle.framing.specs.Meaning.{Bytes}
use Rattle.report.specs.declared.Report.{Report}
use Rattle.report.specs.Sheets.{sheet_at}
use Rattle.report.specs.Step.{empty_output, add_piece, final_sheet, left_at, open_entry, keep_sheet, close_entry, close_steps, close_finished, keep_byte, with_length, first_bytes, open_first, take_toc, take_piece}
use Rattle.report.proofs.StepLaws.{empty-length}
use Rattle.report.proofs.AgreeLaws.{Agree, Whole, whole_of, format-known, goes_on, toc-on, just-whole, entries-agree, format-agree, length-fits}
use Rattle.report.proofs.BodyLaws.{sheets_at, start_first, start-next, left_in, left-agree, entries-on, format-on, start-on, left-on, sheets-on}

-- The table of contents is not whole yet.
pub record Gathering (d : List ℕ) (r : Report) : Type 0 where
  pub none : is_some r.length ≡ false
  pub inside : r.excess ≡ false
  pub size : length r.toc ≡ longest_toc
  pub places : length r.sheets ≡ most_entries
  pub count : r.count ≡ length (take longest_toc d)
  pub held : first_bytes r ≡ take longest_toc d
  pub broken : is_toc (take longest_toc d) ≡ false

-- It is: the sheets of the entries before this one are right, and its tally is that of the bytes that came of its
-- capture.
pub record Reading (d : List ℕ) (r : Report) : Type 0 where
  pub some : is_some r.length ≡ true
  pub inside : r.excess ≡ false
  pub places : length r.sheets ≡ most_entries
  pub toc : is_toc d ≡ true
  pub agree : Agree r.toc d (toc_length (entries d))
  pub within : r.entry ≤ entries d
  pub sheets : take r.entry r.sheets ≡ sheets_at d r.entry
  pub came : entry_start d r.entry ≤ length d
  pub tally : r.entry < entries d → r.tally ≡ tally_of (format_at d r.entry) (delivering (drop (entry_start d r.entry) d))
  pub left : r.left + (length d - entry_start d r.entry) ≡ left_at d r.entry

-- Nothing is left to be closed.
pub record Settled (d : List ℕ) (r : Report) : Type 0 where
  pub reading : Reading d r
  pub waiting : r.entry < entries d → r.left ≡ 0 → ⊥

-- More bytes came than the table of contents says.
pub record Over (d : List ℕ) (r : Report) : Type 0 where
  pub some : is_some r.length ≡ true
  pub over : r.excess ≡ true
  pub nothing : r.left ≡ 0
  pub toc : is_toc d ≡ true
  pub long : entry_start d (entries d) < length d

pub data Stage (d : List ℕ) (r : Report) : Type 0 where
  in_toc : Gathering d r → Stage d r
  in_bodies : Settled d r → Stage d r
  too_long : Over d r → Stage d r

large-enough : max_output ≤ length empty_output
large-enough = omega (arith, empty-length)

-- ---- an entry is opened, at the end of what came

-- the tally of an entry that is opened
tally-opened : (s d : List ℕ) (i : ℕ) → is_toc d ≡ true → Agree s d (toc_length (entries d)) → entry_start d i ≡ length d → i < entries d
    → fresh_tally (format_at s i) ≡ tally_of (format_at d i) (delivering (drop (entry_start d i) d))
tally-opened s d i e a b h =
    rw (format-agree s d (toc_length (entries d)) a i (omega arith), drop_of_length-le d {i = entry_start d i} (omega arith))
    (fresh-is (format_at d i) (format-known d (whole_of d e) i h))

left-opened : (s d : List ℕ) (i : ℕ) → Agree s d (toc_length (entries d)) → entry_start d i ≡ length d → left_at s i + (length d - entry_start d i) ≡ left_at d i
left-opened s d i a b =
    let z : length d - entry_start d i ≡ 0 = omega arith in
    rw (z, add-zero (left_at s i)) (left-agree s d (toc_length (entries d)) a (omega arith) i)

-- ---- an entry is closed

module _ (d : List ℕ) (r : Report) (g : Reading d r) (p : Bytes d) (h : r.entry < entries d) (l : r.left ≡ 0) where
  -- its whole capture came
  body-came : length d - entry_start d r.entry ≡ length_at d r.entry
  body-came = omega (arith, g.left, left_in d r.entry h)

  sheet-closed : final_sheet r.tally ≡ sheet_at d r.entry
  unfolding final_sheet sheet_at
  sheet-closed =
      let n = length-drop (entry_start d r.entry) d in
      rw (g.tally h, take_all (length_at d r.entry) (drop (entry_start d r.entry) d) (omega (arith, body-came)))
      (close-is (format_at d r.entry) (drop (entry_start d r.entry) d) empty_output (format-known d (whole_of d g.toc) r.entry h) (omega (arith, body-came, length-fits d r.entry p)) large-enough)

  next_start : entry_start d (r.entry + 1) ≡ length d
  next_start = rw (add-one r.entry) (omega (arith, start-next d r.entry, body-came, g.came))

  sheets-closed : take (r.entry + 1) (set r.sheets r.entry (final_sheet r.tally)) ≡ sheets_at d (r.entry + 1)
  unfolding sheets_at
  sheets-closed =
      rw (add-one r.entry, take-suc-set r.sheets r.entry (final_sheet r.tally) (omega (arith, g.places, (whole_of d g.toc).few)), g.sheets, sheet-closed)

  closes : Reading d (close_entry r)
  unfolding open_entry keep_sheet
  closes =
      record {
        some = g.some;
        inside = g.inside;
        places = rw (length-set r.sheets r.entry (final_sheet r.tally)) g.places;
        toc = g.toc;
        agree = g.agree;
        within = omega arith;
        sheets = sheets-closed;
        came = omega (arith, next_start);
        tally = λ k. tally-opened r.toc d (r.entry + 1) g.toc g.agree next_start k;
        left = left-opened r.toc d (r.entry + 1) g.agree next_start;
      }

closed-entry : (r : Report) → (close_entry r).entry ≡ r.entry + 1
unfolding open_entry
closed-entry r = refl

settles : (d : List ℕ) (k : ℕ) (r : Report) → Bytes d → k ≡ entries d - r.entry → Reading d r → Settled d (close_steps k r)
unfolding close_steps
settles d zero r p n g = record { reading = g; waiting = λ h l. absurd (omega arith) }
settles d (suc k) r p n g = go (dec_le r.left 0) (λ l. settles d k (close_entry r) p (omega (arith, closed-entry r)) (closes d r g p (omega arith) l))
  where
    go : Dec (r.left ≤ 0) → (r.left ≡ 0 → Settled d (close_steps k (close_entry r))) → Settled d (cond (eqb r.left 0) (close_steps k (close_entry r)) r)
    go (yes l) f = let z : r.left ≡ 0 = omega arith in rw (eq-eqb r.left 0 z) (f z)
    go (no l) f = rw (ne_eqb r.left 0 (λ z. l (omega arith))) (record { reading = g; waiting = λ h z. l (omega arith) })

pub all_settled : (d : List ℕ) (r : Report) → Bytes d → Reading d r → Settled d (close_finished r)
unfolding close_finished
all_settled d r p g =
    let w = whole_of d g.toc in
    let e = entries-agree r.toc d (toc_length (entries d)) g.agree (omega arith) in
    settles d (entries r.toc - r.entry) r p (omega arith) g

-- ---- a byte of the table of contents

module _ (d : List ℕ) (b : ℕ) (r : Report) (g : Gathering d r) (p : Bytes (d ++ b ∷ [])) where
  abbrev grown : List ℕ
  grown = d ++ b ∷ []

  module _ (h : length d < longest_toc) where
    all_held : take longest_toc d ≡ d
    all_held = take_all longest_toc d (omega arith)

    grown-length : length grown ≡ length d + 1
    grown-length = length-append d (b ∷ [])

    grown-held : take longest_toc grown ≡ grown
    grown-held = take_all longest_toc grown (omega (arith, grown-length))

    count-is : r.count ≡ length d
    count-is = g.count ∙ ap length all_held

    held_on : take (r.count + 1) (set r.toc r.count b) ≡ grown
    held_on = rw (add-one r.count, take-suc-set r.toc r.count b (omega (arith, count-is, g.size)), g.held, all_held)

    still-broken : is_toc grown ≡ false → Gathering grown (keep_byte r b)
    unfolding keep_byte
    still-broken e =
        record {
          none = g.none;
          inside = g.inside;
          size = rw (length-set r.toc r.count b) g.size;
          places = g.places;
          count = rw grown-held (omega (arith, count-is, grown-length));
          held = held_on ∙ sym grown-held;
          broken = rw grown-held e;
        }

    toc-length : is_toc grown ≡ true → length grown ≡ toc_length (entries grown)
    toc-length e = just-whole d (b ∷ []) refl (rw all_held at g.broken) e

    toc-agree : is_toc grown ≡ true → Agree (set r.toc r.count b) grown (toc_length (entries grown))
    toc-agree e i l =
        sym (get_or-take (r.count + 1) (set r.toc r.count b) i 0 (omega (arith, toc-length e, grown-length, count-is)))
        ∙ ap (λ (s : List ℕ). get_or s i 0) held_on

    begins : is_toc grown ≡ true → Reading grown (open_entry (with_length (keep_byte r b) (file_length grown)) 0)
    unfolding open_entry with_length keep_byte sheets_at
    begins e =
        let s : entry_start grown 0 ≡ length grown = start_first grown ∙ sym (toc-length e) in
        record {
          some = refl;
          inside = g.inside;
          places = g.places;
          toc = e;
          agree = toc-agree e;
          within = omega arith;
          sheets = refl;
          came = omega arith;
          tally = λ k. tally-opened (set r.toc r.count b) grown 0 e (toc-agree e) s k;
          left = left-opened (set r.toc r.count b) grown 0 (toc-agree e) s;
        }

    first-bytes : first_bytes (keep_byte r b) ≡ grown
    unfolding keep_byte
    first-bytes = held_on

    byte-judged : Stage grown (open_first (keep_byte r b))
    unfolding open_first
    byte-judged = rw first-bytes (go (is_toc grown) refl)
      where
        go : (t : Bool) → is_toc grown ≡ t → Stage grown (cond t (close_finished (open_entry (with_length (keep_byte r b) (file_length grown)) 0)) (keep_byte r b))
        go true e = in_bodies (all_settled grown _ p (begins e))
        go false e = in_toc (still-broken e)

  -- there is no more place
  stays-broken : longest_toc ≤ length d → Gathering grown r
  stays-broken h =
      let e = take-append-le longest_toc d (b ∷ []) h in
      record {
        none = g.none;
        inside = g.inside;
        size = g.size;
        places = g.places;
        count = rw e g.count;
        held = rw e g.held;
        broken = rw e g.broken;
      }

  pub byte-taken : Stage grown (take_toc r b)
  unfolding take_toc
  byte-taken = go (dec_lt (length d) longest_toc)
    where
      go : Dec (length d < longest_toc) → Stage grown (cond (ltb r.count longest_toc) (open_first (keep_byte r b)) r)
      go (yes h) = rw (lt-ltb r.count longest_toc (omega (arith, count-is h))) (byte-judged h)
      go (no h) =
          let c : r.count ≡ longest_toc = g.count ∙ length-take-le longest_toc d (omega arith) in
          rw (le-ltb r.count longest_toc (omega arith)) (in_toc (stays-broken (omega arith)))

-- ---- a piece of a capture

module _ (d x : List ℕ) (r : Report) (g : Reading d r) (p : Bytes d) (h : r.entry < entries d) (l : length x ≤ r.left) (s : length x ≤ longest_piece) where
  whole : Whole d
  whole = whole_of d g.toc

  abbrev start : ℕ
  start = entry_start d r.entry

  added-on : add_piece r.tally x ≡ tally_of (format_at d r.entry) (delivering (drop start d ++ x))
  unfolding add_piece
  added-on =
      let n = length-drop start d in
      let k = length-fits d r.entry p in
      let i = left_in d r.entry h in
      rw (g.tally h)
      (piece_is (format_at d r.entry) (drop start d) x empty_output (format-known d whole r.entry h) s (omega (arith, g.left)) large-enough)

  pub piece-taken : Reading (d ++ x) (take_piece r x)
  unfolding take_piece
  piece-taken =
      let e = entries-on d x whole in
      let b = start-on d x whole r.entry g.within in
      let n = length-append d x in
      record {
        some = g.some;
        inside = g.inside;
        places = g.places;
        toc = toc-on d x g.toc;
        agree = λ i k. let k : i < toc_length (entries d) = rw e at k in g.agree i k ∙ sym (goes_on d x i (omega (arith, whole.uncut)));
        within = rw e g.within;
        sheets = rw (sheets-on d x whole r.entry g.within g.came) g.sheets;
        came = rw b (omega (arith, g.came));
        tally = λ k. rw (b, format-on d x whole r.entry h, drop-append-le start d x g.came) added-on;
        left = rw (b, left-on d x whole r.entry) (omega (arith, g.left, g.came));
      }
