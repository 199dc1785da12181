use Rattle.std.proofs.Common.{length, take, sym, ap, ◌∙◌, arith, length-take-le, get_or-take, ltb-true, ne_eqb}
use Rattle.framing.specs.Nmea.{permitted, nmea_next}
use Rattle.framing.specs.declared.Format.TheVariants.{Nmea}
use Rattle.framing.specs.Format.{next}
use Rattle.framing.specs.Shape.{scan}
use Rattle.framing.proofs.ShapeLaws.{scan-end, scan-bad}
use Rattle.framing.proofs.NmeaLaws.{star-broken, star-more, body-broken}
use Rattle.framing.proofs.BodyLaws.{reached-within, reached-scan, reached-long, reached-all}
use Rattle.framing.proofs.nmea.FramesCoded.scan.Goals as goal
use Rattle.framing.proofs.nmea.FramesCoded.scan.Goals.{else-line-k-eq42-via-then-line-k-eq42+else-k-gt1, else-line-k-eq42-via-else-line-k-eq42}

pub returns-then-line-eq0 : goal.returns-then-line-eq0
unfolding scan next nmea_next
returns-then-line-eq0 c = sym (scan-end Nmea 0 0 (take c.args.end c.args.s.now) (omega arith))

pub returns-then-line-ne-FIRST : goal.returns-then-line-ne-FIRST
unfolding scan next nmea_next
returns-then-line-ne-FIRST c = sym (scan-bad Nmea 0 0 (take c.args.end c.args.s.now) (omega arith) (rw (ne_eqb _ 36 c.if-line-ne-FIRST.true)))

pub returns-then-line-k : goal.returns-then-line-k
unfolding scan next nmea_next
returns-then-line-k c = let n = length-take-le c.args.end c.args.s.now c.requires in
    let s = take c.args.end c.args.s.now in
    c.unended.ensures ∙ sym (reached-all s c.if-line-ne-FIRST.false (reached-within c.args.end (length s) c.body-k.ensures.0 c.requires (omega arith) c.if-line-k.true (omega arith)))

pub returns-then-k-gt77 : goal.returns-then-k-gt77
unfolding scan next nmea_next
returns-then-k-gt77 c = let n = length-take-le c.args.end c.args.s.now c.requires in
    let k = c.body-k.result in
    sym (reached-long (take c.args.end c.args.s.now) c.if-line-ne-FIRST.false k (reached-within c.args.end k c.body-k.ensures.0 c.requires (omega arith) (omega arith) (omega (arith, c.if-line-k.false))) (omega arith))

pub returns-then-k-gt1 : goal.returns-then-k-gt1
unfolding scan next nmea_next
returns-then-k-gt1 c = let s = take c.args.end c.args.s.now in
    let n = length-take-le c.args.end c.args.s.now c.requires in
    let k = c.body-k.result in
    let i = c.if-line-k.false in
    let r = reached-within c.args.end k c.body-k.ensures.0 c.requires c.body-k.ensures.0.some (omega arith) (omega arith) in
    c.ending.ensures
    ∙ sym (reached-scan s c.if-line-ne-FIRST.false k r c.if-k-gt77.false ∙ star-more s k r.some (omega arith) c.if-line-k-eq42.true (omega (arith, ltb-true 1 k c.if-k-gt1.true-raw)))

pub returns : goal.returns
unfolding scan next nmea_next
returns c = let s = take c.args.end c.args.s.now in
    let n = length-take-le c.args.end c.args.s.now c.requires in
    let b = c.body-k in
    let k = b.result in
    let l = c.if-k-gt77.false in
    let i = c.if-line-k.false in
    let r = reached-within c.args.end k c.body-k.ensures.0 c.requires b.ensures.0.some (omega arith) (omega arith) in
    let q = ap permitted (get_or-take c.args.end c.args.s.now k 0 (omega arith)) ∙ b.ensures.1 (omega arith) l (omega (arith, c.requires)) in
    sym
    (reached-scan s c.if-line-ne-FIRST.false k r l
    ∙ elim c.else-line-k-eq42.branch [
      | else-line-k-eq42-via-then-line-k-eq42+else-k-gt1 w ↦ star-broken s k r.some (omega arith) w.if-line-k-eq42.true (omega (arith, r.some))
      | else-line-k-eq42-via-else-line-k-eq42 w ↦ body-broken s k r.some (omega arith) w.if-line-k-eq42.false q
    ])
