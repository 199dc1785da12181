-- What a call on a tally gives, after a refusal and before one.
-- Assumes nothing.
use Rattle.std.proofs.Common.{◌≡◌, ℕ, List, ap, ne_eqb}
use Rattle.reader.specs.Calls.{Call, out_of, Outcome, returned, serve}
use Rattle.tally.specs.declared.Tally.{Tally}
use Rattle.tally.specs.Step.{stepped, after_outcome, after_return, tally_step}

pub step-refused : (t : Tally) (c : Call) → (t.answer ≡ 0 → ⊥) → stepped t (out_of c) ≡ tally_step t c
unfolding tally_step
step-refused t c h = rw (ne_eqb t.answer 0 h)

-- the tally u counts what the reader's call answered
pub step-taken : (t u : Tally) (c : Call) (o : Outcome) (out : List ℕ) → t.answer ≡ 0 → u ≡ after_outcome t o → returned o out ≡ serve t.reader c
    → stepped u out ≡ tally_step t c
unfolding tally_step
step-taken t u c o out e q s = rw (e, q) (ap (after_return t) s)
