use Rattle.std.proofs.Common.{sym, ◌∙◌}
use Rattle.reader.specs.Calls.{a_close}
use Rattle.reader_bytes.proofs.LentLaws.{serve-no-reader, settled_by, left_by}
use Rattle.reader_bytes.proofs.close.Goals as goal

pub returns-in_err-holds_reader : goal.returns-in_err-holds_reader
returns-in_err-holds_reader c =
    serve-no-reader _ c.from_residual.result (sym c.holds_reader.ensures ∙ c.in_err-holds_reader.was) c.from_residual.ensures.1 (a_close _)

pub returns-in_err-call : goal.returns-in_err-call
returns-in_err-call c =
    left_by _ (a_close _) (sym c.holds_reader.ensures ∙ c.in_ok-holds_reader.was) c.words_of-n.ensures _ _ c.close-call.ensures _
    c.from_residual-in_err-call.result c.in_err-call.was c.from_residual-in_err-call.ensures.1

pub returns : goal.returns
returns c =
    settled_by _ (a_close _) (sym c.holds_reader.ensures ∙ c.in_ok-holds_reader.was) c.words_of-n.ensures _ _ c.close-call.ensures _ _ c.in_ok-call.was
    c.put.ensures
