use Rattle.std.proofs.Common.{◌≡◌, ℕ, ◌+◌, ◌/◌, ◌%◌, ◌<◌, true, get_or, ap, ◌∙◌, arith, eqb-true}
use Rattle.numbers.specs.Hex.{hex_digit_of}
use Rattle.framing.specs.Nmea.{hex_digit, hex_value}
use Rattle.framing.proofs.TestLaws.{true_of}
use Rattle.framing.proofs.HexLaws.{value-of-digit, digit-is}
use Rattle.framing.proofs.nmea.is_end.Goals as goal

-- a byte that is the digit of n % 16 is a digit, and has that value
writes : (b r n : ℕ) → b ≡ r → r ≡ hex_digit_of (n % 16) → (hex_digit b ≡ true) × (hex_value b ≡ n % 16)
writes b r n e f =
    let l : n % 16 < 16 = omega arith in
    (ap hex_digit (e ∙ f) ∙ true_of _ (digit-is (n % 16) l), ap hex_value (e ∙ f) ∙ value-of-digit (n % 16) l)

pub returns : goal.returns
returns c = λ e.
    let a = c.args in
    let h = writes _ _ (a.x / 16) c.if-s-at.false c.hex_digit.ensures in
    let l = writes _ _ a.x c.if-s-at-2.false c.hex_digit-2.ensures in
    record {
      ended = record {
        star = c.if-s-at-ne42.false;
        high = h.0;
        low = l.0;
        return = c.if-s-at-ne13.false;
        feed = eqb-true (get_or a.s.now (a.at + 4) 0) 0x0A e;
      };
      writes = omega (arith, h.1, l.1);
    }
