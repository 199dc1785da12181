use Rattle.std.proofs.Common.{ℕ, List, ◌++◌, take, ap, ◌∙◌, arith}
use Rattle.decimal.proofs.DecimalLaws.{last-put}
use Rattle.decimal.proofs.push_last.Goals as goal

pub returns : goal.returns
returns g c =
    c.push.ensures ∙ ap (λ (t : List ℕ). take g.row.N (c.args.text.now ++ t)) (last-put _ c.args.n _ c.min-most.ensures (omega arith) c.put.ensures)
