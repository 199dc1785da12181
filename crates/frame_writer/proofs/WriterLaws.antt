-- Laws of the writers, each said once for the three formats: which bodies are taken, a head, a body and a tail copied one behind the
-- other, and what a writer answers of a frame of these three parts.
-- Assumes nothing.
use Prim.Native.Nat.{ℕ, zero, suc, ◌+◌, ◌-◌, ◌%◌, ◌≤◌, ◌<◌}
use mathlib.Core.Path.{◌≡◌, refl, sym, ap, subst, ◌∙◌}
use mathlib.Core.Bool.{Bool, true, false, ◌&&◌, and-eq-true_iff}
use mathlib.Core.List.{List, [], ◌∷◌, ◌++◌}
use native.Mathlib.Omega.{arith}
use lib.Dec.{leb, eqb, T, leb→le}
use Rattle.std.specs.Prelude.{◌↔◌}
use lib.Ieee.Fits.{and_l, and_r}
use native.Mathlib.Numerals.{add-one}
use lib.ListN.{length, take, drop, get_or, length-append, length-drop, drop_of_length-le}
use Rattle.std.proofs.Common.{drop-cons}
use lib.Seq.{take_at, drop-append-le}
use borrow.Author.Tests.{le-leb, lt-leb}
use Rattle.numbers.specs.Low.{low_bytes}
use Rattle.framing.specs.Nmea.{permitted}
use Rattle.framing.specs.declared.Format.TheVariants.{Mgl}
use Rattle.buffer.specs.Buffer.{put, copied}
use Rattle.buffer.proofs.BufferLaws.{put-copied, start-copied}
use Rattle.mgl.specs.declared.Header.{Header}
use Rattle.answer.specs.declared.Refusal.{Refusal}
use Rattle.answer.specs.declared.Refusal.TheVariants.{OutputTooSmall}
use Rattle.answer.specs.Answer.{given, refused, refusal_number}
use Rattle.answer.proofs.AnswerLaws.{after, fails}
use Rattle.frame_writer.specs.Frames.{takes, all_permitted, mgl_covered, mgl_frame, onflight_covered, onflight_frame, nmea_frame}
use Rattle.frame_writer.specs.Output.{untouched, write}

-- ---- what is taken

every-permitted : (s : List ℕ) → all_permitted s ≡ true → (k : ℕ) → k < length s → permitted (get_or s k 0) ≡ true
unfolding all_permitted
every-permitted [] a k h = absurd (omega arith)
every-permitted (b ∷ s) a zero h = ((and-eq-true_iff (permitted b) (all_permitted s)).0 a).0
every-permitted (b ∷ s) a (suc k) h = every-permitted s ((and-eq-true_iff (permitted b) (all_permitted s)).0 a).1 k (omega arith)

permitted-every : (s : List ℕ) → ((k : ℕ) → k < length s → permitted (get_or s k 0) ≡ true) → all_permitted s ≡ true
unfolding all_permitted
permitted-every [] h = refl
permitted-every (b ∷ s) h = (and-eq-true_iff (permitted b) (all_permitted s)).1 (h 0 (omega arith), permitted-every s (λ k l. h (suc k) (omega arith)))

-- a byte tested, from place i on
pub permitted-more : (a : Bool) (s : List ℕ) (i : ℕ) → i < length s
    → (a && permitted (get_or s i 0)) && all_permitted (drop (i + 1) s) ≡ a && all_permitted (drop i s)
unfolding all_permitted
permitted-more true s i h = rw (add-one, drop-cons s i 0)
permitted-more false s i h = refl

pub permitted-end : (a : Bool) (s : List ℕ) (i : ℕ) → length s ≤ i → a && all_permitted (drop i s) ≡ a
unfolding all_permitted
permitted-end true s i h = rw (drop_of_length-le s h)
permitted-end false s i h = refl

-- r says whether every byte is permitted
pub permitted_iff : (s : List ℕ) {r : Bool} → (r ≡ true) ↔ ((k : ℕ) → k < length s → permitted (get_or s k 0) ≡ true) → r ≡ all_permitted s
permitted_iff s {r} e = go r (all_permitted s) refl e
  where
    go : (r b : Bool) → all_permitted s ≡ b → (r ≡ true) ↔ ((k : ℕ) → k < length s → permitted (get_or s k 0) ≡ true) → r ≡ all_permitted s
    go true b q e = sym (permitted-every s (e.0 refl))
    go false true q e = e.1 (every-permitted s q) ∙ sym q
    go false false q e = sym q

-- how long an MGL body is that is taken
pub taken-long : (body : List ℕ) → takes Mgl body ≡ true → (12 ≤ length body) × (length body ≤ 264)
unfolding takes
taken-long body h =
    let a = leb 12 (length body) in
    let b = leb (length body) 264 in
    let t = and_l (a && b) (eqb (length body % 4) 0) (subst T (sym h) tt) in
    (leb→le 12 (length body) (and_l a b t), leb→le (length body) 264 (and_r a b t))

-- ---- the length of each frame

pub mgl-length : (h : Header) (body : List ℕ) → length (mgl_frame h body) ≡ length body + 12
unfolding mgl_frame mgl_covered low_bytes
mgl-length h body = simp length-append (omega arith)

pub onflight-length : (payload : List ℕ) → length (onflight_frame payload) ≡ length payload + 6
unfolding onflight_frame onflight_covered
onflight-length payload = simp length-append (omega arith)

pub nmea-length : (body : List ℕ) → length (nmea_frame body) ≡ length body + 6
unfolding nmea_frame
nmea-length body = simp length-append (omega arith)

-- ---- a head a and a body b put at the start of the output, up to place e

pub record Laid (a b out r : List ℕ) (e : ℕ) : Type 0 where
  pub ends : length (a ++ b) ≡ e
  pub is : r ≡ put (a ++ b) out

-- the head is copied to the start, and the body behind its k bytes
pub body-laid : (a b out : List ℕ) {k e : ℕ} {r₁ r₂ : List ℕ} → length a ≡ k → k + length b ≡ e → e ≤ length out → r₁ ≡ copied a out 0
    → r₂ ≡ copied b r₁ k → Laid a b out r₂ e
body-laid a b out {k} p q h u v = record {
  ends = rw (length-append a b) (omega arith);
  is = v ∙ rw (u, start-copied a out (omega arith)) (put-copied a b out k p (omega arith));
}

-- the same, as `put_front` promises it
pub front-laid : (a b out : List ℕ) {r : List ℕ} {e : ℕ} (t : ℕ) → (e ≡ length a + length b) × ((e + t ≤ length out) × (r ≡ put (a ++ b) out)) → Laid a b out r e
front-laid a b out t p = record { ends = omega (arith, length-append a b, p.0); is = p.1.1 }

module _ {a b out r : List ℕ} {e : ℕ} (l : Laid a b out r e) where
  -- the part from i up to the body's end
  pub covered : (i : ℕ) → i ≤ e → take (e - i) (drop i r) ≡ drop i (a ++ b)
  covered i h =
      rw (l.is, drop-append-le i (a ++ b) (drop (length (a ++ b)) out) (omega (arith, l.ends)))
      (take_at (drop i (a ++ b)) _ (e - i) (rw (length-drop i (a ++ b), l.ends)))

  -- all of them
  pub front : take e r ≡ a ++ b
  front = rw l.is (take_at (a ++ b) (drop (length (a ++ b)) out) e l.ends)

  -- t is copied behind them
  frame-laid : (t : List ℕ) {x : List ℕ} → e + length t ≤ length out → x ≡ copied t r e → x ≡ put (a ++ b ++ t) out
  frame-laid t h w = w ∙ rw l.is (put-copied (a ++ b) t out e l.ends h)

-- ---- what a writer answers of a frame of m bytes

module _ (n : ℕ) {taken : Bool} (frame out : List ℕ) where
  pub not_taken : taken ≡ false → refused (untouched out) n ≡ write n taken frame out
  unfolding write
  not_taken e = fails _ e

  module _ {m : ℕ} (g : taken ≡ true) (e : length frame ≡ m) where
    -- as `put_front` refuses it, with the refusal f, and leaves the output r
    pub too_small : {r : List ℕ} {f : Refusal} → (f ≡ OutputTooSmall) × ((length out < m) × (r ≡ out)) → refused (untouched r) (refusal_number f) ≡ write n taken frame out
    unfolding write
    too_small p = rw (p.0, p.1.1) (after _ _ g (fails _ (lt-leb (length frame) (length out) (omega (arith, p.1.0)))))

    frame-written : {r : List ℕ} → m ≤ length out → r ≡ put frame out → given (record { written = m; out = r }) ≡ write n taken frame out
    unfolding write
    frame-written h w = after _ _ g (after _ _ (le-leb (length frame) (length out) (omega arith)) (rw (w, e)))

-- a tail s, which is t, is copied behind the head and the body
pub wrote : (n : ℕ) {taken : Bool} (a b t out : List ℕ) {r s x : List ℕ} {e m : ℕ} → taken ≡ true → length (a ++ b ++ t) ≡ m → m ≤ length out
    → Laid a b out r e → s ≡ t → x ≡ copied s r e → given (record { written = m; out = x }) ≡ write n taken (a ++ b ++ t) out
wrote n a b t out {r} {e = e} g p h l q w =
    frame-written n (a ++ b ++ t) out g p h
    (frame-laid l t (let k = l.ends in omega (arith, length-append (a ++ b) t)) (w ∙ ap (λ (s : List ℕ). copied s r e) q))
