-- Laws of the report's steps: a tally does not depend on what its output holds.
-- Assumes nothing.
use Prim.Native.Nat.{ℕ, zero, suc, ◌+◌, ◌-◌, ◌≤◌, ◌<◌}
use native.Mathlib.Omega.{arith}
use native.Mathlib.Decide.{dec_le}
use borrow.Author.Tests.{ne_eqb}
use mathlib.Core.Path.{◌≡◌, refl, sym, ap, ◌∙◌}
use mathlib.Core.Bool.{Bool, true, false, cond}
use mathlib.Core.List.{List, [], ◌∷◌}
use lib.Dec.{eqb}
use Rattle.std.specs.Prelude.{is_some}
use lib.ListN.{length, take, drop, length-drop, length-replicate}
use Rattle.reader.specs.Refusal.{refusal}
use Rattle.reader.specs.Calls.{Call, a_piece, a_close, closes, bytes_of, out_of, gain, taken as accepted, refused_call, serve}
use Rattle.framing.specs.Reading.{Reading}
use Rattle.tally.specs.declared.Tally.{Tally}
use Rattle.tally.specs.Step.{Stepped, stepped, after_return, tally_step, sheet_of, max_output}
use Rattle.answer.specs.Answer.{Answer, given, refused, unless, refusal_number}
use Rattle.answer.proofs.AnswerLaws.{never-0}
use Rattle.answer.specs.declared.Refusal.{Refusal}
use Rattle.benchfile.specs.Toc.{entries, is_toc, file_length, file_length_of}
use Rattle.report.specs.declared.Report.{Report}
use Rattle.report.specs.Step.{empty_output, add_piece, final_sheet, open_entry, keep_sheet, close_entry, with_length, first_bytes, open_first, close_steps, close_finished, take_toc, take_piece, overrun, portion, take_next, take_steps, take_bytes}

any_out : (t : Tally) (shut a b : Bool) (g : Reading) (k : ℕ) (out other : List ℕ)
    → (cond a (after_return t (cond b (accepted t.reader shut g out) (refused_call k t.reader out))) (stepped t out)).tally
    ≡ (cond a (after_return t (cond b (accepted t.reader shut g other) (refused_call k t.reader other))) (stepped t other)).tally
any_out t shut true true g k out other = refl
any_out t shut true false g k out other = refl
any_out t shut false b g k out other = refl

-- what a call gives, in an output of the length of another's that brings the same
called-out : (t u : Tally) (c d : Call) (last : List ℕ) → closes c ≡ closes d → bytes_of c ≡ bytes_of d → length (out_of c) ≡ length (out_of d)
    → stepped u last ≡ tally_step t c → u ≡ (tally_step t d).tally
unfolding tally_step serve
called-out t u c d last k b h e =
    let n = refusal t.reader (length (bytes_of d)) (length (out_of d)) in
    ap (λ (s : Stepped). s.tally) e ∙ rw (k, b, h) (any_out t (closes d) (eqb t.answer 0) (eqb n 0) (gain t.reader d) n (out_of c) (out_of d))

pub empty-length : length empty_output ≡ max_output
empty-length = length-replicate {A = ℕ} max_output 0

-- a piece and a close, in any output of 4,371 bytes
pub piece_added : (t u : Tally) (bs out last : List ℕ) → length out ≡ max_output → stepped u last ≡ tally_step t (a_piece bs out) → u ≡ add_piece t bs
unfolding add_piece
piece_added t u bs out last h e = called-out t u (a_piece bs out) (a_piece bs empty_output) last refl refl (h ∙ sym empty-length) e

pub final-is : (t u : Tally) (out last : List ℕ) → length out ≡ max_output → stepped u last ≡ tally_step t (a_close out) → sheet_of u ≡ final_sheet t
unfolding final_sheet
final-is t u out last h e = ap sheet_of (called-out t u (a_close out) (a_close empty_output) last refl refl (h ∙ sym empty-length) e)

-- ---- entries of which nothing is left

kept-steps : (k : ℕ) (r : Report) → (r.left ≡ 0 → ⊥) → close_steps k r ≡ r
unfolding close_steps
kept-steps zero r h = refl
kept-steps (suc k) r h = rw (ne_eqb r.left 0 h)

-- something is left
pub finished-kept : (r : Report) → (r.left ≡ 0 → ⊥) → close_finished r ≡ r
unfolding close_finished
finished-kept r h = kept-steps (entries r.toc - r.entry) r h

-- no entry is left
pub finished-end : (r : Report) → entries r.toc ≤ r.entry → close_finished r ≡ r
unfolding close_finished close_steps
finished-end r h = let z : entries r.toc - r.entry ≡ 0 = omega arith in rw z

-- one entry is closed
pub finished-next : (r : Report) → r.entry < entries r.toc → r.left ≡ 0 → close_finished r ≡ close_finished (close_entry r)
unfolding close_finished close_steps open_entry keep_sheet
finished-next r h e =
    let s : entries r.toc - r.entry ≡ suc (entries r.toc - (r.entry + 1)) = omega arith in
    rw (s, e)

-- ---- the bytes of a read

module _ (r : Report) (b : ℕ) (bs : List ℕ) where
  -- a piece, the report after it, and the bytes that are left then
  abbrev pub piece_length : ℕ
  piece_length = portion r (length (b ∷ bs))

  abbrev pub after_piece : Report
  after_piece = close_finished (take_piece r (take piece_length (b ∷ bs)))

  pub shorter : (r.left ≡ 0 → ⊥) → length (drop piece_length (b ∷ bs)) ≤ length bs
  shorter h = rw (length-drop piece_length (b ∷ bs)) (omega arith)

  turn_byte : (go : Report → List ℕ → Report) → is_some r.length ≡ false → take_next r b bs go ≡ go (take_toc r b) bs
  unfolding take_next
  turn_byte go e = rw e

  turn-over : (go : Report → List ℕ → Report) → (is_some r.length ≡ true) → r.left ≡ 0 → take_next r b bs go ≡ overrun r
  unfolding take_next
  turn-over go h e = rw (h, e)

  turn-piece : (go : Report → List ℕ → Report) → (is_some r.length ≡ true) → (r.left ≡ 0 → ⊥) → take_next r b bs go ≡ go after_piece (drop piece_length (b ∷ bs))
  unfolding take_next
  turn-piece go h l = rw (h, ne_eqb r.left 0 l)

  -- two ways to go on that agree on fewer bytes
  turn-same : (go to : Report → List ℕ → Report) → ((q : Report) (ys : List ℕ) → length ys ≤ length bs → go q ys ≡ to q ys) → take_next r b bs go ≡ take_next r b bs to
  turn-same go to f = pick (is_some r.length) refl (dec_le r.left 0)
    where
      pick : (t : Bool) → is_some r.length ≡ t → Dec (r.left ≤ 0) → take_next r b bs go ≡ take_next r b bs to
      pick false e l = turn_byte go e ∙ f (take_toc r b) bs (omega arith) ∙ sym (turn_byte to e)
      pick true e (yes l) = let z : r.left ≡ 0 = omega arith in turn-over go e z ∙ sym (turn-over to e z)
      pick true e (no l) =
          turn-piece go e (λ x. l (omega arith))
          ∙ f after_piece (drop piece_length (b ∷ bs)) (shorter (λ x. l (omega arith)))
          ∙ sym (turn-piece to e (λ x. l (omega arith)))

-- any number of steps that is large enough
enough : (k m : ℕ) (r : Report) (bs : List ℕ) → length bs ≤ k → length bs ≤ m → take_steps k r bs ≡ take_steps m r bs
unfolding take_steps
enough zero zero r bs p q = refl
enough zero (suc m) r [] p q = refl
enough zero (suc m) r (b ∷ bs) p q = absurd (omega arith)
enough (suc k) zero r [] p q = refl
enough (suc k) zero r (b ∷ bs) p q = absurd (omega arith)
enough (suc k) (suc m) r [] p q = refl
enough (suc k) (suc m) r (b ∷ bs) p q = turn-same r b bs (take_steps k) (take_steps m) (λ s ys h. enough k m s ys (omega arith) (omega arith))

pub taken_none : (r : Report) → take_bytes r [] ≡ r
unfolding take_bytes take_steps
taken_none r = refl

pub taken_empty : (r : Report) (s : List ℕ) → length s ≡ 0 → take_bytes r s ≡ r
taken_empty r [] h = taken_none r
taken_empty r (b ∷ s) h = absurd (omega arith)

module _ (r : Report) (b : ℕ) (bs : List ℕ) where
  pub taken-byte : is_some r.length ≡ false → take_bytes r (b ∷ bs) ≡ take_bytes (take_toc r b) bs
  unfolding take_bytes take_steps
  taken-byte e = turn_byte r b bs (take_steps (length bs)) e

  pub taken-over : (is_some r.length ≡ true) → r.left ≡ 0 → take_bytes r (b ∷ bs) ≡ overrun r
  unfolding take_bytes take_steps
  taken-over h e = turn-over r b bs (take_steps (length bs)) h e

  pub taken-piece : (is_some r.length ≡ true) → (r.left ≡ 0 → ⊥) → take_bytes r (b ∷ bs) ≡ take_bytes (after_piece r b bs) (drop (piece_length r b bs) (b ∷ bs))
  unfolding take_bytes take_steps
  taken-piece h l =
      turn-piece r b bs (take_steps (length bs)) h l
      ∙ enough (length bs) (length (drop (piece_length r b bs) (b ∷ bs))) (after_piece r b bs) (drop (piece_length r b bs) (b ∷ bs)) (shorter r b bs l) (omega arith)

-- the same, as the code finds the first byte b and the rest
module _ (r : Report) (b : ℕ) (s bs : List ℕ) (h : s ≡ b ∷ bs) where
  pub take-byte : {q : Report} → is_some r.length ≡ false → q ≡ take_toc r b → take_bytes q bs ≡ take_bytes r s
  take-byte z e = rw (e, h) (sym (taken-byte r b bs z))

  pub take-over : (is_some r.length ≡ true) → r.left ≡ 0 → overrun r ≡ take_bytes r s
  take-over z l = rw h (sym (taken-over r b bs z l))

  pub take-piece : {a q : Report} (n : ℕ) → (is_some r.length ≡ true) → (r.left ≡ 0 → ⊥) → n ≡ portion r (length s)
      → a ≡ take_piece r (take n s) → q ≡ close_finished a → take_bytes q (drop n s) ≡ take_bytes r s
  take-piece n z l k e f = rw (f, e, k, h) (sym (taken-piece r b bs z l))

-- ---- the table of contents

-- what `read_length` answers
answer-given : (s : List ℕ) (n : ℕ) → given n ≡ file_length_of s → (is_toc s ≡ true) × (n ≡ file_length s)
unfolding file_length_of
answer-given s n e = go (is_toc s) e
  where
    go : (b : Bool) → given n ≡ unless 0 b 10 (given (file_length s)) → (b ≡ true) × (n ≡ file_length s)
    go true e = (refl, ap (λ (a : Answer ℕ). a.value) e)
    go false e = let z : ◌≡◌ {A = ℕ} 0 10 = ap (λ (a : Answer ℕ). a.number) e in absurd (omega arith)

answer-refused : (s : List ℕ) (k : Refusal) → refused 0 (refusal_number k) ≡ file_length_of s → is_toc s ≡ false
unfolding file_length_of
answer-refused s k e = go (is_toc s) e
  where
    go : (b : Bool) → refused 0 (refusal_number k) ≡ unless 0 b 10 (given (file_length s)) → b ≡ false
    go true e = absurd (never-0 k (ap (λ (a : Answer ℕ). a.number) e))
    go false e = refl

-- r, whose table of contents is whole or not
module _ (r : Report) where
  pub first-opened : {n : ℕ} {q : Report} → given n ≡ file_length_of (first_bytes r) → q ≡ close_finished (open_entry (with_length r n) 0) → q ≡ open_first r
  unfolding open_first
  first-opened {n} e h = let g = answer-given (first_bytes r) n e in rw (g.0, ← g.1) h

  pub first-waits : (k : Refusal) → refused 0 (refusal_number k) ≡ file_length_of (first_bytes r) → r ≡ open_first r
  unfolding open_first
  first-waits k e = rw (answer-refused (first_bytes r) k e)
