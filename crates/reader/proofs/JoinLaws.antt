-- A piece behind pending bytes: as much of it as they can need is joined to them, and the reading goes on in the piece. Assumes nothing.
use Prim.Native.Nat.{ℕ, ◌+◌, ◌-◌, ◌≤◌}
use mathlib.Core.Path.{◌≡◌, sym, ap, ◌∙◌}
use mathlib.Core.List.{List, ◌++◌, append_assoc}
use native.Mathlib.Omega.{arith}
use lib.ListN.{length, take, drop, take-append-drop, length-append}
use lib.Seq.{length-take-le, drop-append-le, drop-append-add, take_at, drop_at}
use Rattle.buffer.specs.Buffer.{put}
use Rattle.framing.specs.declared.Format.{Format}
use Rattle.framing.specs.Format.{pending_bound}
use Rattle.framing.specs.Reading.{ongoing, Reading, read, extend, joined, one_frame, framed_bytes, skipped_bytes, framed_count, skipped_count}
use Rattle.framing.proofs.ReadingLaws.{streaming, pending-bound, balance, total-append, joined-append, length-joined}
use Rattle.reader.specs.declared.lines.LineCounts.{LineCounts}
use Rattle.reader.specs.Private.{line_counts_of, Joined}
use Rattle.reader.proofs.HeldLaws.{tail-length, laid_on}
use Rattle.std.proofs.lemmas.List.{take_rest}
use Rattle.reader.proofs.StepLaws.{frames-most, rest-stands}

-- how far a reading came
abbrev pub used_of : Reading → ℕ
used_of g = framed_count g + skipped_count g

-- no number passes the bytes
pub counts-most : (f : Format) (xs : List ℕ) (w : LineCounts) → w ≡ line_counts_of (read ongoing f xs) → (w.framed + w.skipped ≤ length xs) × (w.frames ≤ w.framed)
counts-most f xs w e = rw (e) (omega (arith, balance ongoing f xs), frames-most ongoing f xs)

-- behind the first of two lists
pub drop-behind : (p b : List ℕ) (n u : ℕ) → length p ≡ n → n ≤ u → drop u (p ++ b) ≡ drop (u - n) b
drop-behind p b n u l h =
    let e : u ≡ length p + (u - n) = omega arith in
    ap (λ (k : ℕ). drop k (p ++ b)) e ∙ drop-append-add p b (u - n)

module _ (f : Format) (line : List ℕ) (pending : ℕ) (bytes out : List ℕ) (j : Joined f line pending bytes out) where
  abbrev start : List ℕ
  start = take pending line

  -- the reading of what is joined, and the one that goes on in the piece
  abbrev g : Reading
  g = read ongoing f line

  abbrev h : Reading
  h = read ongoing f (drop (used_of g - pending) bytes)

  -- it leaves the pending bytes behind, and stays in the piece
  pub used-held : pending ≤ used_of g
  used-held = omega (arith, balance ongoing f line, pending-bound ongoing f line, j.enough, j.held)

  pub used-short : used_of g ≤ pending + length bytes
  used-short = omega (arith, balance ongoing f line, j.short)

  -- the counts of the two
  module _ {w : LineCounts} (e : w ≡ line_counts_of g) where
    pub first-past : pending ≤ w.framed + w.skipped
    first-past = rw e used-held

    pub first-short : w.framed + w.skipped ≤ pending + length bytes
    first-short = rw e used-short

    pub both-most : {v : LineCounts}
        → v ≡ line_counts_of (read ongoing f (take (length bytes - (w.framed + w.skipped - pending)) (drop (w.framed + w.skipped - pending) bytes)))
        → (w.framed + w.skipped + (v.framed + v.skipped) ≤ pending + length bytes) × (w.frames + v.frames ≤ w.framed + v.framed)
    both-most q =
        let m = counts-most f line w e in
        let k = counts-most f (take (length bytes - (w.framed + w.skipped - pending)) (drop (w.framed + w.skipped - pending) bytes)) _ q in
        (omega (arith, k.0, tail-length bytes (w.framed + w.skipped - pending), first-past, first-short), omega (arith, m.1, k.1))

  whole : line ++ drop (length line - pending) bytes ≡ start ++ bytes
  whole =
      let k = length line - pending in
      let parts : line ≡ start ++ take k bytes = sym (take-append-drop pending line) ∙ ap (λ (x : List ℕ). start ++ x) j.more in
      ap (λ (x : List ℕ). x ++ drop k bytes) parts ∙ append_assoc start (take k bytes) (drop k bytes)
      ∙ ap (λ (x : List ℕ). start ++ x) (take-append-drop k bytes)

  resumes : read ongoing f (start ++ bytes) ≡ extend g h
  resumes =
      let k = length line - pending in
      let u = used_of g in
      let left : g.rest ++ drop k bytes ≡ drop (u - pending) bytes =
      rw (← rest-stands ongoing f line)
      (sym (drop-append-le u line (drop k bytes) (omega (arith, balance ongoing f line)))
      ∙ ap (drop u) whole
      ∙ drop-behind start bytes pending u (length-take-le pending line j.held) used-held) in
      ap (read ongoing f) (sym whole) ∙ streaming ongoing f line (drop k bytes) ∙ rw (left)

  pub resumed : (w v : LineCounts) (out₁ ys : List ℕ) → w ≡ line_counts_of g → out₁ ≡ put (joined g.events) out
      → v ≡ line_counts_of (read ongoing f (take (length bytes - (w.framed + w.skipped - pending)) (drop (w.framed + w.skipped - pending) bytes)))
      → ys
      ≡ put (joined (read ongoing f (take (length bytes - (w.framed + w.skipped - pending)) (drop (w.framed + w.skipped - pending) bytes))).events)
      (take (length out₁ - w.framed) (drop w.framed out₁))
      → (record { framed = w.framed + v.framed; skipped = w.skipped + v.skipped; frames = w.frames + v.frames } ≡ line_counts_of (read ongoing f (start ++ bytes)))
      × (take w.framed out₁ ++ (ys ++ drop (length out₁ - w.framed) (drop w.framed out₁)) ≡ put (joined (read ongoing f (start ++ bytes)).events) out)
  resumed w v out₁ ys e l q m =
      let p : v ≡ line_counts_of h = rw (e, take_rest bytes (used_of g - pending)) at q in
      let n : ys ≡ put (joined h.events) (take (length out₁ - framed_count g) (drop (framed_count g) out₁)) =
      rw (e, take_rest bytes (used_of g - pending)) at m in
      rw (e, resumes, p) (
        rw (total-append framed_bytes g.events h.events, total-append skipped_bytes g.events h.events, total-append one_frame g.events h.events),
        rw (joined-append g.events h.events) (laid_on (joined g.events) (joined h.events) out out₁ ys (framed_count g) (length-joined g.events) l n),
      )

-- ---- before and after it

-- some pending bytes and the first bytes of a piece are such a line
module _ (start bytes line : List ℕ) (pending k : ℕ) (l : length start ≡ pending) (e : line ≡ start ++ take k bytes) (short : k ≤ length bytes) where
  pub joined_length : length line ≡ pending + k
  joined_length = ap length e ∙ length-append start (take k bytes) ∙ rw (l, length-take-le k bytes short)

  pub joined-start : take pending line ≡ start
  joined-start = ap (take pending) e ∙ take_at start (take k bytes) pending l

  pub joins-piece : (f : Format) (out : List ℕ) → pending_bound f ≤ k → pending + length bytes ≤ length out → Joined f line pending bytes out
  joins-piece f out h r =
      let m : k ≡ length line - pending = omega (arith, joined_length) in
      record {
        held = omega (arith, joined_length);
        enough = omega (arith, joined_length);
        short = omega (arith, joined_length);
        more = ap (drop pending) e ∙ drop_at start (take k bytes) pending l ∙ ap (λ (n : ℕ). take n bytes) m;
        large-enough = r;
      }

-- the reading of a longer piece leaves the pending bytes behind
pub passed-held : (f : Format) (start bytes : List ℕ) (pending : ℕ) (w : LineCounts) → length start ≡ pending → pending_bound f ≤ length bytes
    → w ≡ line_counts_of (read ongoing f (start ++ bytes)) → pending ≤ w.framed + w.skipped
passed-held f start bytes pending w l h e =
    rw (e) (omega (arith, balance ongoing f (start ++ bytes), pending-bound ongoing f (start ++ bytes), length-append start bytes))
