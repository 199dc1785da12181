-- A call on a reader in its place: what it leaves held and answers. Assumes nothing.
use Rattle.std.proofs.Common.{◌≡◌, ℕ, ◌+◌, ◌-◌, ◌<◌, ◌≤◌, Bool, true, false, Result, Ok, Err, List, ◌++◌, length, take, drop, sym, ap, ◌∙◌, arith, length-append, eq-eqb, ne_eqb}
use lib.Seq.{length-take-le}
use Rattle.std.specs.Result.{IsErrAnd}
use Rattle.answer.specs.declared.Refusal.{Refusal}
use Rattle.answer.specs.declared.Refusal.TheVariants.{PieceTooLong, Closed, LineTooLong, PieceOutputTooSmall, NotWritable, OutputTooSmall, NotOneFrame, OtherMessage, OutOfForm, BrokenToc, BrokenReader}
use Rattle.answer.specs.Answer.{refusal_number, outcome_number}
use Rattle.buffer.specs.Buffer.{put, copied}
use Rattle.framing.specs.declared.Format.{Format}
use Rattle.framing.specs.Format.{format_of, pending_bound}
use Rattle.framing.specs.Reading.{Mode, ongoing, closing, read, joined, pending_count}
use Rattle.framing.proofs.ReadingLaws.{pending-bound, balance}
use Rattle.reader.specs.declared.Reader.{Reader as State}
use Rattle.reader.specs.declared.in_place.Words.{Words}
use Rattle.reader.specs.declared.in_place.Advance.{Advance}
use Rattle.reader.specs.declared.lines.LineCounts.{LineCounts}
use Rattle.reader.specs.State.{held_length, held_bytes}
use Rattle.reader.specs.Refusal.{most_bytes, refusal}
use Rattle.reader.specs.Calls.{Call, a_piece, a_close, bytes_of, out_of, returned, refused_of, outcome_of, taken, serve}
use Rattle.reader.specs.InPlace.{state_of, placed, serve_placed}
use Rattle.reader.specs.Private.{TellsStart, refusal_by, line_counts_of, advanced_of, Fits, Accepted}
use Rattle.reader.proofs.HeldLaws.{appended}
use Rattle.reader.proofs.RefusalLaws.{bound-most, judged}
use Rattle.reader.proofs.StepLaws.{frames-most, rest-stands}
use Rattle.reader.proofs.ReadLineLaws.{ReadsLine}
use Rattle.reader.proofs.JoinLaws.{joined-start, passed-held}
use Rattle.reader.proofs.CallLaws.{accepts, serve-refused, serve-piece, serve-close}

-- ---- what going through a line leaves

-- w has the counts of the reading of a line of so many bytes
module _ (c : Mode) (f : Format) (xs : List ℕ) {len : ℕ} {w : LineCounts} (l : length xs ≡ len) (e : w ≡ line_counts_of (read c f xs)) where
  -- how far it came
  pub used : w.framed + w.skipped ≤ len
  used = rw (e) (omega (arith, balance c f xs))

  left : len - (w.framed + w.skipped) ≡ pending_count (read c f xs)
  left = rw (e) (omega (arith, balance c f xs))

  -- its counts fit into the reader
  pub fits : {n : Words} → n.framed + n.skipped + len ≤ most_bytes → Fits n w (len - (w.framed + w.skipped))
  fits h =
      record {
        few = rw (e) (frames-most c f xs);
        held = omega (arith, left, pending-bound c f xs, bound-most f);
        counted = omega (arith, used);
      }

  -- what the call answers, and the bytes that it leaves held
  pub advances : (n : Words) (closed : Bool) {a : Advance} (held₀ : List ℕ) {held : List ℕ} (out : List ℕ) {out' : List ℕ} → f ≡ format_of n.format
      → a ≡ advanced_of n closed w (len - (w.framed + w.skipped))
      → held ≡ held_bytes (drop (w.framed + w.skipped) xs) → out' ≡ put (joined (read c f xs).events) out
      → placed n (Ok a) held out' ≡ taken (state_of n held₀) closed (read c (format_of n.format) xs) out
  advances n closed held₀ out g q k m =
      let r : drop (w.framed + w.skipped) xs ≡ (read c f xs).rest = rw (e) (rest-stands c f xs) in
      rw (q, k, m, left, r, e, ← g)

-- ---- an accepted piece behind pending bytes

module _ {n : Words} {held bytes out : List ℕ} (g : Accepted n held bytes out) where
  pub start-length : length (take n.pending held) ≡ n.pending
  start-length = length-take-le n.pending held (omega (arith, g.all, g.pending))

  -- they and the piece's
  pub all-length : length ((take n.pending held) ++ bytes) ≡ n.pending + length bytes
  all-length = length-append (take n.pending held) bytes ∙ ap (λ (k : ℕ). k + length bytes) start-length

  -- the line where the piece is appended to them in place
  pub in-place-line : {all : List ℕ} → n.pending + length bytes ≤ held_length → all ≡ copied bytes held n.pending
      → take (n.pending + length bytes) all ≡ (take n.pending held) ++ bytes
  in-place-line h e = ap (take (n.pending + length bytes)) e ∙ appended held bytes n.pending (omega (arith, g.all, h))

  pub in-place-length : {all : List ℕ} → n.pending + length bytes ≤ held_length → all ≡ copied bytes held n.pending
      → length (take (n.pending + length bytes) all) ≡ n.pending + length bytes
  in-place-length h e = ap length (in-place-line h e) ∙ all-length

  -- the line where a short piece is joined to them in a work area
  module _ (work : List ℕ) {k : ℕ} (j : (k ≡ length (take n.pending held) + length bytes) × (take k work ≡ (take n.pending held) ++ bytes)) where
    pub line-counted : k ≡ n.pending + length bytes
    line-counted = j.0 ∙ ap (λ (i : ℕ). i + length bytes) start-length

    pub line-length : length (take k work) ≡ k
    line-length = ap length j.1 ∙ all-length ∙ sym line-counted

  -- the reading of them and of a piece longer than what can be pending, of which so many bytes are joined to them
  module _ (f : Format) {most : ℕ} {line out' : List ℕ} {w : LineCounts} (b : most ≡ pending_bound f) (h : most < length bytes)
      (e : line ≡ take n.pending held ++ take most bytes) (r : ReadsLine f (take n.pending line ++ bytes) out w out') where
    pub longer : ReadsLine f (take n.pending held ++ bytes) out w out'
    longer = rw (joined-start (take n.pending held) bytes line n.pending most start-length e (omega arith)) at r

    pub longer-used : w.framed + w.skipped ≤ n.pending + length bytes
    longer-used = used ongoing f (take n.pending held ++ bytes) all-length longer.0

    -- it leaves them behind
    pub longer-past : n.pending ≤ w.framed + w.skipped
    longer-past = passed-held f (take n.pending held) bytes n.pending w start-length (omega (arith, h, b)) longer.0

    pub longer-fits : Fits n w (n.pending + length bytes - (w.framed + w.skipped))
    longer-fits = fits ongoing f (take n.pending held ++ bytes) all-length longer.0 (omega (arith, g.counted))

-- ---- a call

-- the number of a refusal is not 0
pub no-zero : (e : Refusal) → refusal_number e ≡ 0 → ⊥
no-zero PieceTooLong h = omega (arith, h)
no-zero Closed h = omega (arith, h)
no-zero LineTooLong h = omega (arith, h)
no-zero PieceOutputTooSmall h = omega (arith, h)
no-zero NotWritable h = omega (arith, h)
no-zero OutputTooSmall h = omega (arith, h)
no-zero NotOneFrame h = omega (arith, h)
no-zero OtherMessage h = omega (arith, h)
no-zero OutOfForm h = omega (arith, h)
no-zero BrokenToc h = omega (arith, h)
no-zero BrokenReader h = omega (arith, h)

pub no_place : (n : Words) (held : List ℕ) (c : Call) → (length held ≡ held_length → ⊥) → placed n (Err BrokenReader) held (out_of c) ≡ serve_placed n held c
unfolding serve_placed
no_place n held c h = rw (ne_eqb (length held) held_length h)

-- what a `?` gives on
pub passed-on : {A : Type 0} (r : Result A Refusal) (e : Refusal) → IsErrAnd r (λ d. d ≡ e) → r ≡ Err e
passed-on (Ok x) e h = absurd h
passed-on (Err d) e h = ap Err h

module _ (n : Words) (held : List ℕ) (l : length held ≡ held_length) where
  in_place : (c : Call) → serve (state_of n held) c ≡ serve_placed n held c
  unfolding serve_placed
  in_place c = rw (eq-eqb (length held) held_length l)

  -- the judgement d, by the test of what is pending
  pub judgement : {f : Format} {waits told : Bool} (bytes out : ℕ) (d : Result (Unit {0}) Refusal) → f ≡ format_of n.format → waits ≡ told
      → TellsStart f held n.pending told → outcome_number d ≡ refusal_by n waits bytes out → outcome_number d ≡ refusal (state_of n held) bytes out
  judgement {f} {waits} {told} bytes out d e w t q = q ∙ judged n held waits bytes out l (rw (← e, w) t)

  pub place-refused : (c : Call) (r : Result Advance Refusal) (d : Result (Unit {0}) Refusal) (e : Refusal) → d ≡ Err e → IsErrAnd r (λ x. x ≡ e)
      → outcome_number d ≡ refusal (state_of n held) (length (bytes_of c)) (length (out_of c)) → placed n r held (out_of c) ≡ serve_placed n held c
  place-refused c r d e h p q =
      let k : refusal_number e ≡ refusal (state_of n held) (length (bytes_of c)) (length (out_of c)) = rw h at q in
      rw (passed-on r e p, k) (serve-refused (state_of n held) c (rw (← k) (no-zero e))) ∙ in_place c

  -- an accepted call
  module _ {d : Result (Unit {0}) Refusal} {u : Unit {0}} (h : d ≡ Ok u) where
    pub place-piece : (bs out : List ℕ) {line : List ℕ} → outcome_number d ≡ refusal (state_of n held) (length bs) (length out)
        → take n.pending held ++ bs ≡ line → taken (state_of n held) false (read ongoing (format_of n.format) line) out ≡ serve_placed n held (a_piece bs out)
    place-piece bs out {line} e q = serve-piece (state_of n held) bs out line (sym (rw h at e)) q ∙ in_place (a_piece bs out)

    pub place-close : (out : List ℕ) → outcome_number d ≡ refusal (state_of n held) 0 (length out)
        → taken (state_of n held) true (read closing (format_of n.format) (take n.pending held)) out ≡ serve_placed n held (a_close out)
    place-close out e = serve-close (state_of n held) out (sym (rw h at e)) ∙ in_place (a_close out)

    -- what its judgement says
    pub fit-piece : (bs out : List ℕ) → outcome_number d ≡ refusal (state_of n held) (length bs) (length out) → Accepted n held bs out
    fit-piece bs out e =
        let a = accepts (state_of n held) (length bs) (length out) (sym (rw h at e)) in
        record { all = l; pending = a.held; large-enough = a.large-enough; counted = a.counted }

-- ---- a call on a reader, by its words and its held bytes

module _ (r : State) (n : Words) (c : Call) (l : length r.held ≡ held_length) (e : state_of n r.held ≡ r) (x : Result Advance Refusal)
    (held : List ℕ) {out : List ℕ} (p : placed n x held out ≡ serve_placed n r.held c) where
  served : placed n x held out ≡ serve r c
  served = p ∙ sym (in_place n r.held l c) ∙ ap (λ (s : State). serve s c) e

  pub by_value : (a : Advance) (r' : State) → x ≡ Ok a → r' ≡ state_of a.words held → returned (outcome_of (Ok a.frames) r') out ≡ serve r c
  by_value a r' h q = rw q (rw h at served)

  pub by_value_refused : (d : Refusal) (y : Result ℕ Refusal) → x ≡ Err d → IsErrAnd y (λ z. z ≡ d)
      → returned (outcome_of y (record { format = r.format; closed = r.closed; framed = r.framed; skipped = r.skipped; pending = r.pending; held = held })) out
      ≡ serve r c
  by_value_refused d y h q =
      rw (passed-on y d q)
      (ap (λ (s : State). returned (refused_of (refusal_number d) (record { format = s.format; closed = s.closed; framed = s.framed; skipped = s.skipped; pending = s.pending; held = held })) out)
      (sym e)
      ∙ (rw h at served))
