use mathlib.Core.Path.{sym, ◌∙◌}
use native.Mathlib.Omega.{arith}
use Rattle.buffer.proofs.TextLaws.{whole_pushed}
use Rattle.report.specs.Sheets.{refused_text, longest_text}
use Rattle.report.specs.Step.{printed}
use Rattle.report.proofs.Report.text.Goals as goal

pub returns-then-is_done : goal.returns-then-is_done
unfolding printed
returns-then-is_done c =
    let p = c.sheets_text.ensures in
    rw (sym c.is_done.ensures ∙ c.if-is_done.true) (record { text = p.text; short = rw p.text at p.short })

pub returns : goal.returns
unfolding printed
returns c =
    let p = whole_pushed longest_text refused_text c.new-text.ensures c.push.ensures (omega arith) in
    rw (sym c.is_done.ensures ∙ c.if-is_done.false) (record { text = p; short = omega arith })
