use Rattle.reader_bytes.proofs.BytesLaws.{bytes-of, flag-bytes, words_copied}
use Rattle.reader_bytes.proofs.put.Goals as goal

pub returns : goal.returns
returns c =
    rw (
      c.copy-5.ensures,
      bytes-of c.args.n.pending c.to_le_bytes-5.ensures,
      c.copy-4.ensures,
      bytes-of c.args.n.skipped c.to_le_bytes-4.ensures,
      c.copy-3.ensures,
      bytes-of c.args.n.framed c.to_le_bytes-3.ensures,
      c.copy-2.ensures,
      flag-bytes c.args.n.closed c.from.ensures c.to_le_bytes-2.ensures,
      c.copy.ensures,
      bytes-of c.args.n.format c.to_le_bytes.ensures,
    )
    (words_copied c.args.n c.args.bytes.now c.requires)
