-- Demand 1 for a reader that is lent bytes: a request is refused as it must be and then, but for the one exception,
-- changes nothing, along every list of requests.
-- Assumes nothing.
use Prim.Native.Nat.{ℕ}
use mathlib.Core.Path.{◌≡◌, refl, sym, ap, ◌∙◌}
use mathlib.Core.Bool.{Bool, true, false, cond, not, ◌&&◌, ◌||◌}
use mathlib.Core.List.{List, [], ◌∷◌}
use lib.Dec.{eqb}
use lib.ListN.{length}
use borrow.Author.Tests.{eqb-true, eqb-false}
use Rattle.framing.specs.Format.{known, format_of}
use Rattle.reader.specs.State.{empty, Opening, fresh_of}
use Rattle.reader.specs.Refusal.{refusal}
use Rattle.reader.specs.Calls.{Call, bytes_of, out_of, Returned, serve}
use Rattle.reader_bytes.specs.Bytes.{reader_length, encode, decode}
use Rattle.reader_bytes.specs.Calls.{Lent, lent, settled, serve_lent, fresh_lent}
use Rattle.reader_bytes.proofs.LentLaws.{serve-answer}
use Rattle.reader_bytes_theorems.specs.Lists.{Request, a_fresh, a_call, served, final_bytes, unknown_fresh, writing_requests}
use Rattle.reader_bytes_theorems.specs.Demands.{lent_refusal, refused_bytes, request_out, Kept, LentDemand1}

-- ---- one request

-- a request that answers a, and refused leaves these bytes and the output
record Answers (a : ℕ) (bs out : List ℕ) (w : Lent) : Type 0 where
  answer : w.answer ≡ a
  kept : (w.answer ≡ 0 → ⊥) → w ≡ lent a bs out

settled-answers : (bs out : List ℕ) (g : Returned) → Answers g.outcome.answer bs out (settled bs out g)
settled-answers bs out g = go (eqb g.outcome.answer 0) (eqb-true g.outcome.answer 0)
  where
    go : (t : Bool) → (t ≡ true → g.outcome.answer ≡ 0)
        → Answers g.outcome.answer bs out
        (cond t (lent 0 (encode g.outcome.reader) g.out) (lent g.outcome.answer bs out))
    go true z = record { answer = sym (z refl); kept = λ n. absurd (n refl) }
    go false z = record { answer = refl; kept = λ n. refl }

call-answers : (bs : List ℕ) (c : Call) → Answers (lent_refusal bs (a_call c)) bs (out_of c) (serve_lent bs c)
unfolding serve_lent
call-answers bs c = go (eqb (length bs) reader_length)
  where
    go : (t : Bool)
        → Answers (cond t (refusal (decode bs) (length (bytes_of c)) (length (out_of c))) 11) bs (out_of c)
        (cond t (settled bs (out_of c) (serve (decode bs) c)) (lent 11 bs (out_of c)))
    go true =
        let g = serve (decode bs) c in
        rw (← serve-answer (decode bs) c) (settled-answers bs (out_of c) g)
    go false = record { answer = refl; kept = λ n. refl }

fresh-answers : (bs : List ℕ) (n : ℕ) → Answers (lent_refusal bs (a_fresh n)) (refused_bytes bs (a_fresh n)) [] (fresh_lent n bs)
unfolding fresh_lent fresh_of
fresh-answers bs n = go (eqb (length bs) reader_length) (known (format_of n))
  where
    opening : Bool → Opening
    opening k = cond k (record { answer = 0; reader = empty n false }) (record { answer = 11; reader = empty 0 true })

    go : (t k : Bool)
        → Answers (cond t (cond k 0 11) 11) (cond (t && not k) (encode (empty 0 true)) bs) []
        (cond t (lent (opening k).answer (encode (opening k).reader) []) (lent 11 bs []))
    go true true = record { answer = refl; kept = λ z. absurd (z refl) }
    go true false = record { answer = refl; kept = λ z. refl }
    go false k = record { answer = refl; kept = λ z. refl }

request-answers : (bs : List ℕ) (q : Request) → Answers (lent_refusal bs q) (refused_bytes bs q) (request_out q) (served bs q)
request-answers bs (a_fresh n) = fresh-answers bs n
request-answers bs (a_call c) = call-answers bs c

-- ---- a list of requests

kept-along : (bs : List ℕ) (qs : List Request) → Kept bs qs
unfolding Kept
kept-along bs [] = tt
kept-along bs (q ∷ qs) =
    let a = request-answers bs q in
    (a.answer, (a.kept, kept-along (served bs q).reader qs))

-- A refused request that is no exception leaves the bytes.
left : (bs : List ℕ) (q : Request) → eqb (served bs q).answer 0 ≡ false → unknown_fresh bs q ≡ false → (served bs q).reader ≡ bs
left bs q a x =
    ap (λ (w : Lent). w.reader) ((request-answers bs q).kept (eqb-false (served bs q).answer 0 a)) ∙ rw x

writing-alone : (bs : List ℕ) (qs : List Request) → final_bytes bs qs ≡ final_bytes bs (writing_requests bs qs)
unfolding final_bytes writing_requests
writing-alone bs [] = refl
writing-alone bs (q ∷ qs) = writing-alone next qs ∙ go (eqb (served bs q).answer 0) (unknown_fresh bs q) refl refl
  where
    next : List ℕ
    next = (served bs q).reader

    later : List Request
    later = writing_requests next qs

    go : (a x : Bool) → eqb (served bs q).answer 0 ≡ a → unknown_fresh bs q ≡ x
        → final_bytes next later ≡ final_bytes bs (cond (a || x) (q ∷ later) later)
    go true x e h = refl
    go false true e h = refl
    go false false e h = ap (λ (b : List ℕ). final_bytes b later) (left bs q e h)

pub lent-demand1 : LentDemand1
lent-demand1 bs qs = record { kept = kept-along bs qs; writing = writing-alone bs qs }
