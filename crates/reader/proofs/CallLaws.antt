-- A call on any reader: what its judgement says, and what it gives when accepted or refused. Assumes nothing.
use Prim.Native.Nat.{ℕ, ◌+◌, ◌≤◌}
use mathlib.Core.Path.{◌≡◌, refl, sym}
use mathlib.Core.Bool.{Bool, true, false, cond, not, ◌||◌}
use mathlib.Core.List.{List, ◌++◌, append-nil}
use native.Mathlib.Omega.{arith}
use lib.Dec.{ltb, eqb}
use lib.ListN.{length, length-append, length-take}
use borrow.Author.Tests.{ne_eqb, eqb-true, ltb-false}
use Rattle.buffer.proofs.BufferLaws.{length-put}
use Rattle.framing.specs.Format.{known, format_of, pending_bound}
use Rattle.framing.specs.Reading.{ongoing, closing, read, joined}
use Rattle.framing.proofs.TestLaws.{past}
use Rattle.framing.proofs.ReadingLaws.{length-joined, balance}
use Rattle.reader.specs.declared.Reader.{Reader as State}
use Rattle.reader.specs.State.{sum, pending_bytes, held_length}
use Rattle.reader.specs.Refusal.{longest_piece, most_bytes, broken, refusal}
use Rattle.reader.specs.Calls.{Call, a_piece, a_close, bytes_of, out_of, closes, mode_of, gain, taken, refused_call, serve, OutLengthKept}
use Rattle.reader.proofs.RefusalLaws.{bound-most}

-- ---- what an accepted call's judgement says

pub record Accepts (r : State) (n out : ℕ) : Type 0 where
  pub held : r.pending ≤ held_length
  pub short : n ≤ longest_piece
  pub counted : sum r + n ≤ most_bytes
  pub large-enough : r.pending + n ≤ out

neither : (a b : Bool) → (a || b) ≡ false → (a ≡ false) × (b ≡ false)
neither true b e = let z : ◌≡◌ {A = ℕ} 0 1 = cc in absurd (omega arith)
neither false b e = (refl, e)

pub accepts : (r : State) (n out : ℕ) → refusal r n out ≡ 0 → Accepts r n out
unfolding refusal broken
accepts r n out e =
    let p11 = past (broken r) 11 _ (omega arith) e in
    let p2 = past r.closed 2 _ (omega arith) p11.1 in
    let p1 = past (ltb longest_piece n) 1 _ (omega arith) p2.1 in
    let p3 = past (ltb most_bytes (sum r + n)) 3 _ (omega arith) p1.1 in
    let p4 = past (ltb out (r.pending + n)) 4 0 (omega arith) p3.1 in
    let q1 = neither (not (known (format_of r.format))) _ p11.0 in
    let q2 = neither (ltb (pending_bound (format_of r.format)) r.pending) _ q1.1 in
    record {
      held = omega (arith, ltb-false _ r.pending q2.0, bound-most (format_of r.format));
      short = ltb-false longest_piece n p1.0;
      counted = ltb-false most_bytes (sum r + n) p3.0;
      large-enough = ltb-false out (r.pending + n) p4.0;
    }

-- ---- what a call gives

pub serve-refused : (r : State) (c : Call) → (refusal r (length (bytes_of c)) (length (out_of c)) ≡ 0 → ⊥)
    → refused_call (refusal r (length (bytes_of c)) (length (out_of c))) r (out_of c) ≡ serve r c
unfolding serve
serve-refused r c h = rw (ne_eqb (refusal r (length (bytes_of c)) (length (out_of c))) 0 h)

serve-taken : (r : State) (c : Call) → refusal r (length (bytes_of c)) (length (out_of c)) ≡ 0 → taken r (closes c) (gain r c) (out_of c) ≡ serve r c
unfolding serve
serve-taken r c e = rw (e)

-- an accepted piece, from the line that is read
pub serve-piece : (r : State) (bs out line : List ℕ) → refusal r (length bs) (length out) ≡ 0 → pending_bytes r ++ bs ≡ line
    → taken r false (read ongoing (format_of r.format) line) out ≡ serve r (a_piece bs out)
serve-piece r bs out line e l = rw (sym l) (serve-taken r (a_piece bs out) e)

pub serve-close : (r : State) (out : List ℕ) → refusal r 0 (length out) ≡ 0
    → taken r true (read closing (format_of r.format) (pending_bytes r)) out ≡ serve r (a_close out)
serve-close r out e = rw (append-nil (pending_bytes r)) at (serve-taken r (a_close out) e)

-- ---- the output

-- the frames of an accepted call fit into its output
frames-fit : (r : State) (c : Call) → refusal r (length (bytes_of c)) (length (out_of c)) ≡ 0 → length (joined (gain r c).events) ≤ length (out_of c)
frames-fit r c e =
    omega (
      arith,
      length-joined (gain r c).events,
      balance (mode_of (closes c)) (format_of r.format) (pending_bytes r ++ bytes_of c),
      length-append (pending_bytes r) (bytes_of c),
      length-take r.pending r.held,
      (accepts r (length (bytes_of c)) (length (out_of c)) e).large-enough,
    )

pub out-length-kept : OutLengthKept
unfolding serve
out-length-kept r c = go (eqb a 0) (eqb-true a 0)
  where
    a : ℕ
    a = refusal r (length (bytes_of c)) (length (out_of c))

    go : (t : Bool) → (t ≡ true → a ≡ 0)
        → length (cond t (taken r (closes c) (gain r c) (out_of c)) (refused_call a r (out_of c))).out ≡ length (out_of c)
    go true z = length-put (joined (gain r c).events) (out_of c) (frames-fit r c (z refl))
    go false z = refl
