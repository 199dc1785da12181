use Prim.Native.Nat.{ℕ}
use mathlib.Core.Path.{ap, ◌∙◌}
use mathlib.Core.List.{List, [], ◌∷◌}
use native.Mathlib.Omega.{arith}
use lib.ListN.{length}
use borrow.Author.Rules.{rules}
use borrow.Author.Tests.{eq-eqb, ne_eqb}
use Rattle.std.proofs.lemmas.Result.{err_from_is_err_and}
use Rattle.checksum.specs.declared.Sums.{Sums}
use Rattle.checksum.specs.Fletcher.{fletcher_of}
use Rattle.frame_writer.specs.Frames.{takes, onflight_covered, onflight_frame}
use Rattle.frame_writer.proofs.WriterLaws.{onflight-length, front-laid, front, not_taken, too_small, wrote}
use Rattle.frame_writer.proofs.write_onflight.Goals as goal

pub returns-then-payload-ne152 : goal.returns-then-payload-ne152
unfolding takes
returns-then-payload-ne152 c = not_taken 5 _ _ (ne_eqb (length c.args.payload.now) 152 (search rules))

pub returns-in_err-end : goal.returns-in_err-end
unfolding takes
returns-in_err-end c =
    let a = c.args in
    let p = err_from_is_err_and c.from_residual.result c.from_residual.ensures.1 in
    rw (p.1, p.2) (too_small 5 _ _ (eq-eqb (length a.payload.now) 152 (omega arith)) (omega (arith, onflight-length a.payload.now)) c.in_err-end.ensures)

pub returns : goal.returns
unfolding takes onflight_frame onflight_covered
returns c =
    let a = c.args in
    let b = a.payload.now in
    let head : List ℕ = 0x42 ∷ 0x46 ∷ 0x01 ∷ 0x98 ∷ [] in
    let tail : Sums → List ℕ = λ s. s.plain ∷ s.weighted ∷ [] in
    let p = c.in_ok-end.ensures in
    let l = front-laid head b a.out.now 2 p in
    let sums = ap tail (c.fletcher16-sums.ensures ∙ ap fletcher_of (front l)) in
    wrote 5 head b _ a.out.now (eq-eqb _ 152 c.if-payload-ne152.false) (omega (arith, onflight-length b, p.0)) p.1.0 l sums c.copy.ensures
