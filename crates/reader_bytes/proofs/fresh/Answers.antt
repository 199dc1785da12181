use Rattle.std.proofs.Common.{sym, ◌∙◌}
use Rattle.reader_bytes.proofs.LentLaws.{fresh-no-reader, fresh-laid, is-reader}
use Rattle.reader_bytes.proofs.fresh.Goals as goal

pub returns-in_err-holds_reader : goal.returns-in_err-holds_reader
returns-in_err-holds_reader c =
    fresh-no-reader _ c.from_residual.result (sym c.holds_reader.ensures ∙ c.in_err-holds_reader.was) c.from_residual.ensures.1 _

pub returns : goal.returns
returns c = fresh-laid _ _ _ _ (is-reader _ (sym c.holds_reader.ensures ∙ c.in_ok-holds_reader.was)) c.fresh-opening.ensures c.encode.ensures
