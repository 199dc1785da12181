-- Parts of a slice as the code takes them, and bytes copied to be held or joined. Assumes nothing.
use Prim.Native.Nat.{ℕ, ◌+◌, ◌-◌, ◌≤◌, ◌<◌}
use mathlib.Core.Path.{◌≡◌, sym, ap, ◌∙◌}
use mathlib.Core.List.{List, [], ◌++◌, append-nil}
use native.Mathlib.Nat.{add-sub_cancel_left}
use native.Mathlib.Omega.{arith}
use Rattle.std.proofs.lemmas.List.{take_rest, drop-take}
use lib.ListN.{length, take, drop, replicate, get_or, take-append-drop, length-append, length-drop, drop_of_length-le}
use lib.Seq.{take_at, drop_at, length-take-le, get_or-drop, get_or-append-add, paste, length_paste_head}
use Rattle.buffer.specs.Buffer.{put, copied}
use Rattle.buffer.proofs.BufferLaws.{start-copied, put-copied, put-behind}
use Rattle.reader.specs.State.{held_length, held_bytes}

-- ---- parts

-- `&s[a..]`
pub tail-length : (s : List ℕ) (a : ℕ) → length (take (length s - a) (drop a s)) ≡ length s - a
tail-length s a = ap length (take_rest s a) ∙ length-drop a s

-- `&s[a..a + n]`
pub mid-part : (s : List ℕ) (a n : ℕ) → take (a + n - a) (drop a s) ≡ take n (drop a s)
mid-part s a n = ap (λ (k : ℕ). take k (drop a s)) (add-sub_cancel_left a n)

-- ---- bytes that are held

-- two copies, one behind the other
pub joins : (work a b : List ℕ) (k : ℕ) → length a ≡ k → k + length b ≤ length work → take (k + length b) (copied b (copied a work 0) k) ≡ a ++ b
joins work a b k e h =
    rw (start-copied a work (omega arith), put-copied a b work k e h)
    (take_at (a ++ b) (drop (length (a ++ b)) work) (k + length b) (rw (length-append a b, e)))

-- a copy behind the first ones
pub appended : (held b : List ℕ) (p : ℕ) → p + length b ≤ length held → take (p + length b) (copied b held p) ≡ take p held ++ b
appended held b p h =
    let l : length (take p held) ≡ p = length-take-le p held (omega arith) in
    let e : copied (take p held) held 0 ≡ held = start-copied (take p held) held (omega arith) ∙ rw (l) (take-append-drop p held) in
    ap (λ (x : List ℕ). take (p + length b) (copied b x p)) (sym e) ∙ joins held (take p held) b p l h

-- ---- bytes that are moved to the start

-- what is read is not written yet
pub read-ahead : (h : List ℕ) (from j : ℕ) → from + j < length h → get_or (paste h 0 (drop from h) j) (from + j) 0 ≡ get_or (drop from h) j 0
read-ahead h from j l =
    let xs = take 0 h ++ take j (drop from h) in
    let e : from + j ≡ length xs + from = omega (arith, length_paste_head h 0 (drop from h) j (omega arith) (omega (arith, length-drop from h))) in
    ap (λ (k : ℕ). get_or (paste h 0 (drop from h) j) k 0) e
    ∙ get_or-append-add xs (drop (0 + j) h) from 0
    ∙ get_or-drop (0 + j) h from 0
    ∙ ap (λ (k : ℕ). get_or h k 0) (omega arith)
    ∙ sym (get_or-drop from h j 0)

pub shifted : (h : List ℕ) (from n : ℕ) → from + n ≤ length h → take n (paste h 0 (drop from h) n) ≡ take n (drop from h)
shifted h from n l =
    take_at (take 0 h ++ take n (drop from h)) (drop (0 + n) h) n
    (omega (arith, length_paste_head h 0 (drop from h) n (omega arith) (omega (arith, length-drop from h))))

-- the bytes of a line from used on, with zeros behind them
pub rest_part : (h : List ℕ) (used total : ℕ) → used ≤ total → drop used (take total h) ≡ take (total - used) (drop used h)
rest_part h used total u =
    let q : total ≡ used + (total - used) = omega arith in
    ap (λ (i : ℕ). drop used (take i h)) q ∙ drop-take used (total - used) h

pub holds-rest : (h h₁ : List ℕ) (used total : ℕ) → used ≤ total → total ≤ held_length → length h ≡ held_length → length h₁ ≡ length h
    → take (total - used) h₁ ≡ take (total - used) (drop used h)
    → take (total - used) h₁ ++ replicate (length h₁ - (total - used)) 0 ≡ held_bytes (drop used (take total h))
holds-rest h h₁ used total u t l k e =
    let n = total - used in
    let m : length (take n (drop used h)) ≡ n = length-take-le n (drop used h) (omega (arith, length-drop used h)) in
    rw (rest_part h used total u, m, e, k, l)

-- zeros from a place on
pub cleared : (h zs : List ℕ) (n : ℕ) → zs ≡ replicate (length (take (length h - n) (drop n h))) 0
    → take n h ++ (zs ++ drop (length h - n) (drop n h)) ≡ take n h ++ replicate (length h - n) 0
cleared h zs n e =
    let none : drop (length h - n) (drop n h) ≡ [] = drop_of_length-le (drop n h) {i = length h - n} (rw (length-drop n h) (omega arith)) in
    rw (e, tail-length h n, none) (ap (λ (x : List ℕ). take n h ++ x) (append-nil (replicate (length h - n) 0)))

-- ---- an output of which the later part is lent again

-- bytes put at the start, and then others in the part behind them
pub laid_on : (a b out out₁ ys : List ℕ) (n : ℕ) → length a ≡ n → out₁ ≡ put a out → ys ≡ put b (take (length out₁ - n) (drop n out₁))
    → take n out₁ ++ (ys ++ drop (length out₁ - n) (drop n out₁)) ≡ put (a ++ b) out
laid_on a b out out₁ ys n l p q =
    let back : drop n out₁ ≡ drop (length a) out = ap (drop n) p ∙ drop_at a (drop (length a) out) n l in
    let fore : take n out₁ ≡ a = ap (take n) p ∙ take_at a (drop (length a) out) n l in
    let none : drop (length out₁ - n) (drop n out₁) ≡ [] = drop_of_length-le (drop n out₁) {i = length out₁ - n} (rw (length-drop n out₁) (omega arith)) in
    rw (fore, none, append-nil ys, q, take_rest out₁ n, back) (put-behind a b out)
