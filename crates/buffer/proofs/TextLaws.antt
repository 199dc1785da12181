-- Laws of text that has room for n bytes: pieces pushed one behind the other are one piece, and what is short enough is whole.
-- Assumes nothing.
use Rattle.std.proofs.Common.{◌≡◌, ℕ, ◌+◌, ◌-◌, ◌≤◌, min, List, [], ◌++◌, length, take, sym, ap, ◌∙◌, append_assoc, arith, take_all}
use native.Mathlib.Decide.{dec_le}
use Rattle.std.proofs.Math.Seq.{take-append-add}
use Rattle.std.proofs.lemmas.List.{take-append-le, length-take-le}
use Rattle.buffer.specs.Buffer.{copied}
use Rattle.buffer.proofs.BufferLaws.{take-copied}

-- bs are pushed behind the first `len` bytes of a store of n, as many as there is room for
pub pushed : (n len m : ℕ) (store bs ys : List ℕ) → len ≤ n → length store ≡ n → m ≡ min (length bs) (n - len) → ys ≡ take m bs
    → take (len + m) (copied ys store len) ≡ take n (take len store ++ bs)
pushed n len m store bs ys h l e q =
    let r : m ≤ length bs = omega arith in
    let k : n ≡ length (take len store) + (n - len) = omega (arith, length-take-le len store (omega arith)) in
    let y : length ys ≡ m = omega (arith, ap length q, length-take-le m bs r) in
    ap (λ (i : ℕ). take (len + i) (copied ys store len)) (sym y)
    ∙ take-copied ys store len (omega arith)
    ∙ ap (λ (t : List ℕ). take len store ++ t) (q ∙ whole (dec_le (length bs) (n - len)))
    ∙ sym (ap (λ (i : ℕ). take i (take len store ++ bs)) k ∙ take-append-add (take len store) bs (n - len))
  where
    whole : Dec (length bs ≤ n - len) → take m bs ≡ take (n - len) bs
    whole (yes p) = take_all m bs (omega arith) ∙ sym (take_all (n - len) bs p)
    whole (no p) = ap (λ (i : ℕ). take i bs) (omega arith)

-- a piece behind a piece
pub both_pushed : (n : ℕ) (text a b : List ℕ) {u v : List ℕ} → u ≡ take n (text ++ a) → v ≡ take n (u ++ b) → v ≡ take n (text ++ (a ++ b))
both_pushed n text a b p q = q ∙ rw (p, ← append_assoc text a b) (go (text ++ a) (dec_le n (length (text ++ a))))
  where
    go : (t : List ℕ) → Dec (n ≤ length t) → take n (take n t ++ b) ≡ take n (t ++ b)
    go t (yes h) =
        let l = length-take-le n t h in
        take-append-le n (take n t) b (omega arith) ∙ take_all n (take n t) (omega arith) ∙ sym (take-append-le n t b h)
    go t (no h) = rw (take_all n t (omega arith))

-- a piece pushed into a new text, where it is short enough
pub whole_pushed : (n : ℕ) (a : List ℕ) {t u : List ℕ} → t ≡ [] → u ≡ take n (t ++ a) → length a ≤ n → u ≡ a
whole_pushed n a e p h = p ∙ rw e (take_all n a h)
