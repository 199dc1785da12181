-- Laws of bytes put and copied into a buffer. Assumes nothing.
use Prim.Native.Nat.{ℕ, suc, ◌+◌, ◌-◌, ◌≤◌, ◌<◌}
use mathlib.Core.Path.{◌≡◌, sym, ap, ◌∙◌}
use mathlib.Core.List.{List, [], ◌∷◌, ◌++◌, append_assoc}
use native.Mathlib.Decide.{dec_le}
use native.Mathlib.Nat.{zero-add}
use native.Mathlib.Omega.{arith}
use lib.Dec.{leb}
use lib.ListN.{length, take, drop, set, length-append, length-drop, length-set}
use lib.Seq.{append_snoc, paste, paste-zero, length-paste, length-take-le, take-length, take-append_seam, take_at, drop_at, drop-drop, take-set-le, set_split}
use borrow.Author.Tests.{le-leb, lt-leb}
use Rattle.buffer.specs.Buffer.{put, copied}

-- as many bytes as are left behind a place
pub left_behind : (n out at : ℕ) → at ≤ out → leb n (out - at) ≡ leb (at + n) out
left_behind n out at h = go (dec_le n (out - at))
  where
    go : Dec (n ≤ out - at) → leb n (out - at) ≡ leb (at + n) out
    go (yes p) = le-leb n (out - at) p ∙ sym (le-leb (at + n) out (omega arith))
    go (no p) = lt-leb n (out - at) (omega arith) ∙ sym (lt-leb (at + n) out (omega arith))

-- ---- bytes put at the start

pub length-put : (bs out : List ℕ) → length bs ≤ length out → length (put bs out) ≡ length out
length-put bs out h = rw (length-append bs (drop (length bs) out), length-drop (length bs) out) (omega arith)

-- more bytes put behind them
pub put-behind : (a b out : List ℕ) → a ++ put b (drop (length a) out) ≡ put (a ++ b) out
put-behind a b out =
    sym (append_assoc a b (drop (length b) (drop (length a) out)))
    ∙ ap (λ (r : List ℕ). a ++ b ++ r) (drop-drop (length b) (length a) out ∙ ap (λ (k : ℕ). drop k out) (sym (length-append a b)))

-- ---- bytes copied to a place

-- where they don't fit, nothing is written
pub copied_none : (bs out : List ℕ) (at : ℕ) → length out < at + length bs → out ≡ copied bs out at
unfolding copied
copied_none bs out at h = rw (lt-leb (at + length bs) (length out) h)

-- where they fit
module _ (bs out : List ℕ) (at : ℕ) (h : at + length bs ≤ length out) where
  copied-as : copied bs out at ≡ take at out ++ bs ++ drop (at + length bs) out
  unfolding copied
  copied-as = rw (le-leb (at + length bs) (length out) h)

  pub copied-fits : paste out at bs (length bs) ≡ copied bs out at
  copied-fits = rw (take-length bs) (sym copied-as)

  -- the buffer up to their end
  length_front : length (take at out ++ bs) ≡ at + length bs
  length_front = rw (length-append (take at out) bs, length-take-le at out (omega arith))

  pub take-copied : take (at + length bs) (copied bs out at) ≡ take at out ++ bs
  take-copied = rw copied-as (take_at (take at out ++ bs) (drop (at + length bs) out) (at + length bs) length_front)

  drop-copied : drop (at + length bs) (copied bs out at) ≡ drop (at + length bs) out
  drop-copied = rw copied-as (drop_at (take at out ++ bs) (drop (at + length bs) out) (at + length bs) length_front)

length-copied : (bs out : List ℕ) (at : ℕ) → length (copied bs out at) ≡ length out
length-copied bs out at = go (dec_le (at + length bs) (length out))
  where
    go : Dec (at + length bs ≤ length out) → length (copied bs out at) ≡ length out
    go (yes h) = ap length (sym (copied-fits bs out at h)) ∙ length-paste out at bs (length bs) h (omega arith)
    go (no h) = ap length (sym (copied_none bs out at (omega arith)))

pub none-copied : (out : List ℕ) (at : ℕ) → copied [] out at ≡ out
none-copied out at = go (dec_le (at + 0) (length out))
  where
    go : Dec (at + 0 ≤ length out) → copied [] out at ≡ out
    go (yes h) = copied-as [] out at h ∙ sym (paste-zero out at [])
    go (no h) = sym (copied_none [] out at (omega arith))

-- more bytes, behind those that are copied
pub copied_behind : (a b out : List ℕ) (at k : ℕ) → at + length a ≡ k → k + length b ≤ length out → copied b (copied a out at) k ≡ copied (a ++ b) out at
copied_behind a b out at k l h =
    let f : at + length a ≤ length out = omega arith in
    let e : at + length (a ++ b) ≡ k + length b = omega (arith, length-append a b) in
    copied-as b (copied a out at) k (omega (arith, length-copied a out at))
    ∙ rw (← drop-drop (length b) k (copied a out at), ← l, take-copied a out at f, drop-copied a out at f, l, drop-drop (length b) k out)
    (sym (copied-as (a ++ b) out at (omega arith) ∙ rw (e, append_assoc (take at out) a b)))

-- to the start, and to the end of what is put
pub start-copied : (b out : List ℕ) → length b ≤ length out → copied b out 0 ≡ put b out
start-copied b out h = copied-as b out 0 (omega arith) ∙ rw (zero-add (length b))

pub put-copied : (a b out : List ℕ) (k : ℕ) → length a ≡ k → k + length b ≤ length out → copied b (put a out) k ≡ put (a ++ b) out
put-copied a b out k e h =
    rw (← start-copied a out (omega arith))
    (copied_behind a b out 0 k (omega arith) h ∙ start-copied (a ++ b) out (omega (arith, length-append a b)))

pub first-copied : (b out : List ℕ) → length b ≤ length out → take (length b) (copied b out 0) ≡ b
first-copied b out h = ap (take (length b)) (start-copied b out h) ∙ take-append_seam b (drop (length b) out)

-- the last byte before the others
pub copied-last : (a out : List ℕ) (z at n : ℕ) → length a ≡ n → at + n < length out → copied a (set out (at + n) z) at ≡ copied (a ++ z ∷ []) out at
copied-last a out z at n l h =
    let k = at + n in
    let p = take at out in
    let f : at + length a ≡ k = ap (λ (i : ℕ). at + i) l in
    let e : at + length (a ++ z ∷ []) ≡ suc k = omega (arith, length-append a (z ∷ [])) in
    copied-as a (set out k z) at (omega (arith, length-set out k z))
    ∙ rw (f, take-set-le at out k z (omega arith), set_split out k z h, drop_at (take k out) (z ∷ drop (suc k) out) k (length-take-le k out (omega arith)))
    (sym (copied-as (a ++ z ∷ []) out at (omega arith) ∙ rw (e, ← append_assoc p a (z ∷ [])) (append_snoc (p ++ a) z (drop (suc k) out))))
