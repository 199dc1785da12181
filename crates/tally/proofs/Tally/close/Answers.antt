use Rattle.std.proofs.Common.{◌≡◌, rules}
use Rattle.reader.specs.Calls.{a_close}
use Rattle.tally.proofs.StepLaws.{step-refused, step-taken}
use Rattle.tally.proofs.Tally.close.Goals as goal

pub returns-then-self-eq0 : goal.returns-then-self-eq0
returns-then-self-eq0 c =
    let h : c.args.self.now.answer ≡ 0 = search rules in
    step-taken _ _ (a_close _) _ _ h c.count.ensures c.close-call.ensures

pub returns-else-self-eq0 : goal.returns-else-self-eq0
returns-else-self-eq0 c =
    let h : c.args.self.now.answer ≡ 0 → ⊥ = search rules in
    step-refused _ (a_close _) h
