use Prim.Native.Nat.{ℕ, ◌-◌}
use mathlib.Core.Path.{sym, ap, ◌∙◌}
use mathlib.Core.List.{List, [], ◌∷◌}
use native.Mathlib.Omega.{arith}
use Rattle.std.proofs.lemmas.Result.{err_from_is_err_and}
use Rattle.std.specs.Int.{w32}
use Rattle.numbers.specs.Low.{low_bytes}
use Rattle.numbers.proofs.LowBytes.{to_le_bytes-low}
use Rattle.checksum.specs.Crc.{crc_of}
use Rattle.frame_writer.specs.Frames.{length_byte, mgl_covered, mgl_frame}
use Rattle.frame_writer.proofs.WriterLaws.{taken-long, mgl-length, front-laid, covered, not_taken, too_small, wrote}
use Rattle.frame_writer.proofs.write_mgl.Goals as goal

pub returns-then-not-takes_mgl : goal.returns-then-not-takes_mgl
returns-then-not-takes_mgl c = not_taken 5 _ _ (sym c.takes_mgl.ensures ∙ c.if-not-takes_mgl.true)

pub overflow_sub-l : goal.overflow_sub-l
overflow_sub-l c = omega (arith, (taken-long _ (sym c.takes_mgl.ensures ∙ c.if-not-takes_mgl.false)).0)

pub returns-in_err-end : goal.returns-in_err-end
returns-in_err-end c =
    let a = c.args in
    let p = err_from_is_err_and c.from_residual.result c.from_residual.ensures.1 in
    rw (p.1, p.2) (too_small 5 _ _ (sym c.takes_mgl.ensures ∙ c.if-not-takes_mgl.false) (omega (arith, mgl-length a.header a.body.now)) c.in_err-end.ensures)

pub returns : goal.returns
unfolding mgl_frame mgl_covered length_byte
returns c =
    let a = c.args in
    let b = a.body.now in
    let head : List ℕ = 0x05 ∷ 0x02 ∷ length_byte b ∷ (255 - length_byte b) ∷ mgl_covered a.header [] in
    let p = c.in_ok-end.ensures in
    let l = front-laid head b a.out.now 4 p in
    let sum = c.to_le_bytes-sum.ensures ∙ to_le_bytes-low w32 _ ∙ ap (low_bytes 4) (c.crc32.ensures ∙ ap crc_of (covered l 4 (omega arith))) in
    wrote 5 head b _ a.out.now (sym c.takes_mgl.ensures ∙ c.if-not-takes_mgl.false) (omega (arith, mgl-length a.header b, p.0)) p.1.0 l sum c.copy.ensures
