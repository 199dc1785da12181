use borrow.Author.Rules.{rules}
use Rattle.benchfile.proofs.SheetLaws.{sheet-short, sheet-pushed}
use Rattle.benchfile.proofs.sheet.push_sheet.Goals as goal

pub returns : goal.returns
returns g c =
    let x = c.args.sheet in
    record {
      pushed = sheet-pushed x g.row.N c.args.text.now
          c.push_line.ensures c.push_line-2.ensures c.push_line-3.ensures c.push_line-4.ensures c.push_line-5.ensures;
      short = sheet-short x (search rules) (search rules) (search rules) (search rules) (search rules);
    }
