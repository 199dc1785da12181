use Rattle.std.proofs.Common.{◌≡◌, rules}
use Rattle.reader.specs.Calls.{a_piece}
use Rattle.tally.proofs.StepLaws.{step-refused, step-taken}
use Rattle.tally.proofs.Tally.piece.Goals as goal

pub returns-then-self-ne0 : goal.returns-then-self-ne0
returns-then-self-ne0 c =
    let h : c.args.self.now.answer ≡ 0 → ⊥ = search rules in
    step-refused _ (a_piece _ _) h

pub returns : goal.returns
returns c =
    let h : c.args.self.now.answer ≡ 0 = search rules in
    step-taken _ _ (a_piece _ _) _ _ h c.count.ensures c.piece-call.ensures
