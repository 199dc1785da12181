use Prim.Native.Nat.{ℕ, ◌/◌, ◌%◌}
use mathlib.Core.Path.{◌≡◌, sym, ap, ap₂, ◌∙◌}
use mathlib.Core.List.{List, [], ◌∷◌}
use native.Mathlib.Omega.{arith}
use Rattle.std.proofs.lemmas.Result.{err_from_is_err_and}
use Rattle.numbers.specs.Hex.{hex_digit_of}
use Rattle.frame_writer.specs.Frames.{nmea_frame}
use Rattle.frame_writer.proofs.WriterLaws.{nmea-length, front-laid, not_taken, too_small, wrote}
use Rattle.frame_writer.proofs.write_nmea.Goals as goal

pub returns-then-not-takes_nmea : goal.returns-then-not-takes_nmea
returns-then-not-takes_nmea c = not_taken 5 _ _ (sym c.takes_nmea.ensures ∙ c.if-not-takes_nmea.true)

pub returns-in_err-end : goal.returns-in_err-end
returns-in_err-end c =
    let a = c.args in
    let p = err_from_is_err_and c.from_residual.result c.from_residual.ensures.1 in
    rw (p.1, p.2) (too_small 5 _ _ (sym c.takes_nmea.ensures ∙ c.if-not-takes_nmea.false) (omega (arith, nmea-length a.body.now)) c.in_err-end.ensures)

pub returns : goal.returns
unfolding nmea_frame
returns c =
    let a = c.args in
    let b = a.body.now in
    let x = c.xor8-sum.ensures in
    let half : c.xor8-sum.result / 16 % 16 ≡ c.xor8-sum.result / 16 = omega arith in
    let high = c.hex_digit.ensures ∙ ap hex_digit_of half ∙ ap (λ (n : ℕ). hex_digit_of (n / 16)) x in
    let low = c.hex_digit-2.ensures ∙ ap (λ (n : ℕ). hex_digit_of (n % 16)) x in
    let tail : ℕ → ℕ → List ℕ = λ x y. 0x2A ∷ x ∷ y ∷ 0x0D ∷ 0x0A ∷ [] in
    let p = c.in_ok-end.ensures in
    let l = front-laid (0x24 ∷ []) b a.out.now 5 p in
    let g = sym c.takes_nmea.ensures ∙ c.if-not-takes_nmea.false in
    wrote 5 (0x24 ∷ []) b _ a.out.now g (omega (arith, nmea-length b, p.0)) p.1.0 l (ap₂ tail high low) c.copy.ensures
