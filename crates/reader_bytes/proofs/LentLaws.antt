-- What a call on a reader's bytes gives, from what the code does. Assumes nothing.
use Prim.Native.Nat.{ℕ, ◌-◌}
use mathlib.Core.Path.{◌≡◌, refl, sym, ap, ◌∙◌}
use mathlib.Core.Bool.{Bool, true, false, cond}
use mathlib.Core.List.{List, [], ◌++◌, append-nil}
use native.Mathlib.Omega.{arith}
use lib.Dec.{eqb}
use lib.ListN.{length, take, drop, take-append-drop, length-drop, drop_of_length-le}
use lib.Seq.{drop_at, length-take-le}
use borrow.Author.Tests.{eq-eqb, ne_eqb, eqb-true, eqb-false}
use Rattle.std.proofs.Common.{Result, Ok, Err}
use Rattle.std.specs.Result.{IsErrAnd}
use Rattle.answer.specs.declared.Refusal.{Refusal}
use Rattle.answer.specs.declared.Refusal.TheVariants.{BrokenReader}
use Rattle.answer.specs.Answer.{refusal_number, outcome_number}
use Rattle.reader.specs.declared.Reader.{Reader as State}
use Rattle.reader.specs.declared.in_place.Words.{Words}
use Rattle.reader.specs.declared.in_place.Advance.{Advance}
use Rattle.reader.specs.State.{held_length, Opening, fresh_of}
use Rattle.reader.specs.Refusal.{refusal}
use Rattle.reader.specs.Calls.{Call, bytes_of, out_of, Outcome, returned, Returned, closes, gain, taken, refused_call, serve}
use Rattle.reader.specs.InPlace.{state_of, placed_outcome, placed, serve_placed}
use Rattle.reader.proofs.HeldLaws.{tail-length}
use Rattle.std.proofs.lemmas.List.{take_rest}
use Rattle.reader.proofs.InPlaceLaws.{no-zero, passed-on}
use Rattle.reader_bytes.specs.Bytes.{held_at, reader_length, encode, decode}
use Rattle.reader_bytes.specs.Calls.{lent, serve_lent, fresh_lent}
use Rattle.reader_bytes.specs.Private.{word_bytes, length_test}
use Rattle.reader_bytes.proofs.BytesLaws.{encode-words, Fits32, length-encode, decode-encode}

-- ---- bytes of another length

pub is-reader : (k : ℕ) {u : Unit {0}} → length_test k ≡ Ok u → k ≡ reader_length
is-reader k {u} e = go (eqb k reader_length) (eqb-true k reader_length) e
  where
    go : (t : Bool) → (t ≡ true → k ≡ reader_length) → cond t (Ok tt) (Err BrokenReader) ≡ Ok u → k ≡ reader_length
    go true z p = z refl
    go false z p = cc p

unwrapped : (e : Refusal) → ◌≡◌ {A = Result (Unit {0}) Refusal} (Err BrokenReader) (Err e) → e ≡ BrokenReader
unwrapped e q = cc q

test-failed : (t : Bool) {e : Refusal} → ◌≡◌ {A = Result (Unit {0}) Refusal} (cond t (Ok tt) (Err BrokenReader)) (Err e) → (t ≡ false) × (e ≡ BrokenReader)
test-failed true q = cc q
test-failed false {e} q = (refl, unwrapped e q)

-- the length test fails, and its refusal is passed on
module _ (bs : List ℕ) (y : Result (Unit {0}) Refusal) {e : Refusal} (h : length_test (length bs) ≡ Err e) (p : IsErrAnd y (λ d. d ≡ e)) where
  no-reader : (eqb (length bs) reader_length ≡ false) × (e ≡ BrokenReader)
  no-reader = test-failed (eqb (length bs) reader_length) h

  pub fresh-no-reader : (n : ℕ) → lent (outcome_number y) bs [] ≡ fresh_lent n bs
  unfolding fresh_lent
  fresh-no-reader n = rw (no-reader.0, passed-on y e p, no-reader.1)

  pub serve-no-reader : (c : Call) → lent (outcome_number y) bs (out_of c) ≡ serve_lent bs c
  unfolding serve_lent
  serve-no-reader c = rw (no-reader.0, passed-on y e p, no-reader.1)

-- ---- a call on a reader

module _ (r : State) (c : Call) where
  pub serve-answer : (serve r c).outcome.answer ≡ refusal r (length (bytes_of c)) (length (out_of c))
  unfolding serve
  serve-answer = go (eqb a 0) (eqb-true a 0)
    where
      a : ℕ
      a = refusal r (length (bytes_of c)) (length (out_of c))

      go : (t : Bool) → (t ≡ true → a ≡ 0) → (cond t (taken r (closes c) (gain r c) (out_of c)) (refused_call a r (out_of c))).outcome.answer ≡ a
      go true z = sym (z refl)
      go false z = refl

  -- a refusal hands back the reader and the output
  serve-kept : ((serve r c).outcome.answer ≡ 0 → ⊥) → serve r c ≡ refused_call (serve r c).outcome.answer r (out_of c)
  unfolding serve
  serve-kept = go (eqb a 0)
    where
      a : ℕ
      a = refusal r (length (bytes_of c)) (length (out_of c))

      given : Bool → Returned
      given t = cond t (taken r (closes c) (gain r c) (out_of c)) (refused_call a r (out_of c))

      go : (t : Bool) → ((given t).outcome.answer ≡ 0 → ⊥) → given t ≡ refused_call (given t).outcome.answer r (out_of c)
      go true n = absurd (n refl)
      go false n = refl

-- ---- a reader's bytes

pub fresh-laid : (n : ℕ) (bs bs' : List ℕ) (o : Opening) → length bs ≡ reader_length → o ≡ fresh_of n → bs' ≡ encode o.reader
    → lent o.answer bs' [] ≡ fresh_lent n bs
unfolding fresh_lent
fresh-laid n bs bs' o l e q = rw (eq-eqb (length bs) reader_length l, q, e)

-- what a call on a reader leaves in its bytes
abbrev after : Outcome → List ℕ → List ℕ
after o bs = cond (eqb o.answer 0) (encode o.reader) bs

returned-in : (bs out' : List ℕ) (c : Call) (r : State) (o : Outcome) → length bs ≡ reader_length → r ≡ decode bs
    → returned o out' ≡ serve r c → lent o.answer (after o bs) out' ≡ serve_lent bs c
unfolding serve_lent
returned-in bs out' c r o l d e = rw (eq-eqb (length bs) reader_length l, ← d, ← e) (go (eqb o.answer 0) refl)
  where
    kept : (o.answer ≡ 0 → ⊥) → returned o out' ≡ refused_call o.answer r (out_of c)
    kept = rw (← e) at (serve-kept r c)

    go : (t : Bool) → eqb o.answer 0 ≡ t
        → lent o.answer (cond t (encode o.reader) bs) out' ≡ cond t (lent 0 (encode o.reader) out') (lent o.answer bs (out_of c))
    go true q = rw (eqb-true o.answer 0 q)
    go false q = ap (λ (g : Returned). lent o.answer bs g.out) (kept (eqb-false o.answer 0 q))

-- A call on the reader in the bytes, of which the part behind the words was lent.
module _ (bs : List ℕ) (c : Call) {n : Words} {u : Unit {0}} (t : length_test (length bs) ≡ Ok u)
    (d : state_of n (take held_length (drop held_at bs)) ≡ decode bs) (x : Result Advance Refusal) (held : List ℕ) {out : List ℕ}
    (p : placed n x held out ≡ serve_placed n (take (length bs - held_at) (drop held_at bs)) c) where
  bytes-length : length bs ≡ reader_length
  bytes-length = is-reader (length bs) t

  part_held : take (length bs - held_at) (drop held_at bs) ≡ take held_length (drop held_at bs)
  part_held = ap (λ (k : ℕ). take (k - held_at) (drop held_at bs)) bytes-length

  served : placed n x held out ≡ serve (state_of n (take (length bs - held_at) (drop held_at bs))) c
  unfolding serve_placed
  served =
      let m : length (take (length bs - held_at) (drop held_at bs)) ≡ held_length = tail-length bs held_at ∙ ap (λ (i : ℕ). i - held_at) bytes-length in
      p ∙ rw (eq-eqb (length (take (length bs - held_at) (drop held_at bs))) held_length m)

  -- the bytes as they come back
  back : take held_at bs ++ (held ++ drop (length bs - held_at) (drop held_at bs)) ≡ take held_at bs ++ held
  back =
      let none : drop (length bs - held_at) (drop held_at bs) ≡ [] = drop_of_length-le (drop held_at bs) {i = length bs - held_at} (omega (arith, length-drop held_at bs)) in
      rw (none, append-nil held)

  -- an accepted call: its words are put into them
  pub settled_by : (a : Advance) (bs' : List ℕ) → x ≡ Ok a
      → bs' ≡ word_bytes a.words ++ drop held_at (take held_at bs ++ (held ++ drop (length bs - held_at) (drop held_at bs)))
      → lent 0 bs' out ≡ serve_lent bs c
  settled_by a bs' h q =
      let z : bs' ≡ encode (state_of a.words held) =
      q ∙ rw (back, drop_at (take held_at bs) held held_at (length-take-le held_at bs (omega (arith, bytes-length)))) (encode-words a.words held) in
      rw (z)
      (returned-in bs out c (state_of n (take (length bs - held_at) (drop held_at bs))) (placed_outcome n (Ok a) held) bytes-length (rw (part_held) d) (rw h at served))

  -- a refused one
  pub left_by : (e : Refusal) (y : Result (Unit {0}) Refusal) → x ≡ Err e → IsErrAnd y (λ z. z ≡ e)
      → lent (outcome_number y) (take held_at bs ++ (held ++ drop (length bs - held_at) (drop held_at bs))) out ≡ serve_lent bs c
  left_by e y h r =
      let o = placed_outcome n (Err e) held in
      let g : returned o out ≡ serve (state_of n (take (length bs - held_at) (drop held_at bs))) c = rw h at served in
      let same : held ≡ take (length bs - held_at) (drop held_at bs) = ap (λ (g : Returned). g.outcome.reader.held) (g ∙ serve-kept (state_of n (take (length bs - held_at) (drop held_at bs))) c (rw (← g) (no-zero e))) in
      let whole : take held_at bs ++ held ≡ bs = rw (same, take_rest bs held_at) (take-append-drop held_at bs) in
      let z : after o bs ≡ bs = rw (ne_eqb (refusal_number e) 0 (no-zero e)) in
      rw (passed-on y e r, back, whole)
      (ap (λ (b : List ℕ). lent (refusal_number e) b out) (sym z) ∙ returned-in bs out c (state_of n (take (length bs - held_at) (drop held_at bs))) o bytes-length (rw (part_held) d) g)

-- A call on the bytes of a reader is the call on the reader.
pub serve-encoded : (r : State) (c : Call) → Fits32 r
    → lent (serve r c).outcome.answer (encode (serve r c).outcome.reader) (serve r c).out ≡ serve_lent (encode r) c
serve-encoded r c f =
    ap (λ (bs : List ℕ). lent o.answer bs (serve r c).out) (go (eqb o.answer 0) refl)
    ∙ returned-in (encode r) (serve r c).out c r o (length-encode r f) (sym (decode-encode r f)) refl
  where
    o : Outcome
    o = (serve r c).outcome

    go : (t : Bool) → eqb o.answer 0 ≡ t → encode o.reader ≡ cond t (encode o.reader) (encode r)
    go true q = refl
    go false q = ap (λ (g : Returned). encode g.outcome.reader) (serve-kept r c (eqb-false o.answer 0 q))
