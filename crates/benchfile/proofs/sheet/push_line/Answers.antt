use Rattle.benchfile.proofs.SheetLaws.{line-pushed}
use Rattle.benchfile.proofs.sheet.push_line.Goals as goal

pub returns : goal.returns
returns g c =
    let a = c.args in
    line-pushed g.row.N a.text.now a.label.now a.n c.push.ensures c.push-2.ensures (rw c.from.ensures at c.push-3.ensures) c.push-4.ensures
