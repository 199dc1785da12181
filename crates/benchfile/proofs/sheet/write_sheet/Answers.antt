use Rattle.benchfile.specs.Sheet.{sheet_text}
use Rattle.buffer.proofs.TextLaws.{whole_pushed}
use Rattle.benchfile.proofs.sheet.write_sheet.Goals as goal

pub returns : goal.returns
returns c =
    let p = c.push_sheet.ensures in
    let e = whole_pushed _ (sheet_text c.args.sheet) c.new-text.ensures p.pushed p.short in
    record { length = rw e at c.write.ensures.length; after = rw e at c.write.ensures.after }
