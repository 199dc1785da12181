use Rattle.checksum_slicing.proofs.StepLaws.{by-tables}
use Rattle.checksum_slicing.proofs.steps.Goals as goal

pub returns : goal.returns
returns c =
    rw (
      c.from.ensures,
      c.from-2.ensures,
      c.from-3.ensures,
      c.from-4.ensures,
      c.from-5.ensures,
      c.from-6.ensures,
      c.from-7.ensures,
      c.from-8.ensures,
      c.to_le_bytes.ensures,
      c.to_le_bytes-2.ensures,
    )
    (by-tables c.args.far c.args.near c.requires c.ranges.far.fits c.ranges.near.fits)
