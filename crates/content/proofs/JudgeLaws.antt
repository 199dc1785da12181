-- What a test with a refusal answered, and the answers of a function that goes on by `?`: the number of the refusal, or what comes after.
-- `judging` is what a function names in `using`.
-- Assumes nothing.
use mathlib.Core.Path.{◌≡◌, refl, ap}
use mathlib.Core.Bool.{Bool, true, false}
use Rattle.std.specs.Prelude.{Result, Ok, Err, IsErrAnd}
use Rattle.answer.specs.declared.Refusal.{Refusal}
use Rattle.answer.specs.Answer.{Answer, refused, unless, refusal_number, answer_of}
use Rattle.answer.proofs.AnswerLaws.{after}
use Rattle.content.specs.Shared.{judged}

-- it holds
pub passed : (b : Bool) (r : Refusal) {u : Unit {0}} → Ok u ≡ judged b r → b ≡ true
passed true r e = refl
passed false r e = cc

-- and what comes after it answers
pub judged_done : {A : Type 0} (zeros : A) (a : Answer A) (b : Bool) (r : Refusal) {u : Unit {0}} {x : Answer A} → Ok u ≡ judged b r → x ≡ a
    → x ≡ unless zeros b (refusal_number r) a
judged_done zeros a b r e h = after zeros _ (passed b r e) h

-- it does not: q is what it answered, which the function hands on
pub judged_refused : {A R : Type 0} (zeros : A) (value : R → A) (a : Answer A) (b : Bool) (r q : Refusal) (x : Result R Refusal)
    → IsErrAnd x (λ y. y ≡ q) → Err q ≡ judged b r → answer_of zeros value x ≡ unless zeros b (refusal_number r) a
judged_refused zeros value a b r q (Ok x) h e = absurd h
judged_refused zeros value a true r q (Err y) h e = cc
judged_refused zeros value a false r q (Err y) h e = ap (λ (z : Refusal). refused zeros (refusal_number z)) (let d : q ≡ r = cc in cc)

pub ruleset judging = (judged_refused, judged_done)
