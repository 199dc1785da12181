use mathlib.Core.Path.{refl, sym, ◌∙◌}
use borrow.Author.Tests.{eq-eqb, ne_eqb}
use Rattle.content.proofs.BodyLaws.{body-between}
use Rattle.nmea_sentence.proofs.CountLaws.{frame-not, frame_is}
use Rattle.nmea_sentence.proofs.JudgeLaws.{tests-say}
use Rattle.nmea_sentence.proofs.judge.Goals as goal

pub returns-in_default : goal.returns-in_default
returns-in_default c = tests-say _ _ _ (frame-not _ c.in_default.ensures) refl refl

pub returns-then-not-has_tag : goal.returns-then-not-has_tag
returns-then-not-has_tag c = let h = frame_is _ c.in-Some.ensures in
    let k = sym c.has_tag.ensures ∙ c.if-not-has_tag.true in
    tests-say _ _ _ h.0 (rw (c.between-body.ensures ∙ body-between _ _ h.0) at k) refl

pub returns-then-n-count : goal.returns-then-n-count
returns-then-n-count c = let h = frame_is _ c.in-Some.ensures in
    let k = sym c.has_tag.ensures ∙ c.if-not-has_tag.false in
    let n = ne_eqb _ _ c.if-n-count.true in
    tests-say _ _ _ h.0 (rw (c.between-body.ensures ∙ body-between _ _ h.0) at k) (rw h.1 at n)

pub returns : goal.returns
returns c = let h = frame_is _ c.in-Some.ensures in
    let k = sym c.has_tag.ensures ∙ c.if-not-has_tag.false in
    let n = eq-eqb _ _ c.if-n-count.false in
    tests-say _ _ _ h.0 (rw (c.between-body.ensures ∙ body-between _ _ h.0) at k) (rw h.1 at n)
