use mathlib.Core.Path.{◌≡◌, sym, ◌∙◌}
use native.Mathlib.Omega.{arith}
use Rattle.std.specs.Prelude.{Some, None}
use Rattle.framing.proofs.FormatLaws.{layout-some}
use Rattle.content.proofs.BodyLaws.{tail-inside, place_at, no-frame}
use Rattle.content.proofs.JudgeLaws.{passed}
use Rattle.content.proofs.locate.Goals as goal

pub returns-in_err-l : goal.returns-in_err-l
returns-in_err-l c = let d : c.layout_of.result ≡ None = grind arith in
    absurd (no-frame _ _ (sym d ∙ c.layout_of.ensures) (passed _ _ c.in_ok-judge.ensures))

pub overflow_sub-result : goal.overflow_sub-result
overflow_sub-result c = let d : c.layout_of.result ≡ Some c.in_ok-l.l = grind arith in
    let n = layout-some _ (sym c.layout_of.ensures ∙ d) in
    tail-inside _ _ (passed _ _ c.in_ok-judge.ensures) n.head n.tail

pub returns : goal.returns
returns c = let d : c.layout_of.result ≡ Some c.in_ok-l.l = grind arith in
    let n = layout-some _ (sym c.layout_of.ensures ∙ d) in
    place_at _ _ (passed _ _ c.in_ok-judge.ensures) n.head n.tail
