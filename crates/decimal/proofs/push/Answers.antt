use Rattle.std.proofs.Common.{ℕ, min, ◌++◌, take, ap, ◌∙◌}
use Rattle.decimal.specs.Decimal.{last_digits, decimal_text}
use Rattle.decimal.proofs.DecimalLaws.{count_wide}
use Rattle.decimal.proofs.push.Goals as goal

pub returns : goal.returns
unfolding decimal_text
returns g c =
    c.push_last.ensures
    ∙ ap (λ (k : ℕ). take g.row.N (c.args.text.now ++ last_digits k c.args.n))
    (ap (λ (k : ℕ). min k 20) c.count.ensures ∙ count_wide c.args.n c.ranges.n.fits)
