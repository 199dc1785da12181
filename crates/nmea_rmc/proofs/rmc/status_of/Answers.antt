use borrow.Author.Tests.{eq-eqb, ne_eqb}
use lib.ListN.{get_or}
use mathlib.Core.Path.{sym, ap, ◌∙◌}
use native.Mathlib.Omega.{arith}
use Rattle.nmea_rmc.specs.Rmc.{letter, field_status}
use Rattle.nmea_rmc.proofs.RmcLaws.{is-letter}
use Rattle.nmea_rmc.proofs.rmc.status_of.Goals as goal
use Rattle.nmea_rmc.proofs.rmc.status_of.Goals.{then-b-lt86, else-b-lt86}

pub returns-then-s-ne1 : goal.returns-then-s-ne1
unfolding field_status
returns-then-s-ne1 c = rw (ne_eqb _ _ c.if-s-ne1.true)

pub returns-then-b-from : goal.returns-then-b-from
unfolding field_status
returns-then-b-from c = let b = get_or c.args.s.now 0 0 in
    let l = c.from.ensures in
    let n = c.if-b-from.true in
    let one = eq-eqb _ _ c.if-s-ne1.false in
    elim c.if-b-lt86.branch [
      | then-b-lt86 w ↦ let t = w.if-b-lt86.true in rw (one, ne_eqb b 0x41 (λ e. n (e ∙ sym (l ∙ ap letter w.status-is))), ne_eqb b 0x56 (λ e. omega arith))
      | else-b-lt86 w ↦ let t = w.if-b-lt86.false in rw (one, ne_eqb b 0x41 (λ e. omega arith), ne_eqb b 0x56 (λ e. n (e ∙ sym (l ∙ ap letter w.status-is))))
    ]

pub returns : goal.returns
unfolding field_status
returns c = let e = c.if-b-from.false ∙ c.from.ensures in
    rw (eq-eqb _ _ c.if-s-ne1.false, e, is-letter c.if-b-lt86.status)
