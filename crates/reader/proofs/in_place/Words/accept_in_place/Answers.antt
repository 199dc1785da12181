use Rattle.std.proofs.Common.{false, List, ℕ, ap, ◌∙◌, arith}
use Rattle.framing.specs.Format.{format_of}
use Rattle.framing.specs.Reading.{ongoing, read}
use Rattle.reader.specs.Calls.{taken}
use Rattle.reader.specs.InPlace.{state_of}
use Rattle.reader.proofs.InPlaceLaws.{used, fits, advances, in-place-line, in-place-length}
use Rattle.reader.proofs.in_place.Words.accept_in_place.Goals as goal

pub read_line_unless_start-w-requires : goal.read_line_unless_start-w-requires
read_line_unless_start-w-requires c = (
  omega (arith, c.copy.auto.out, c.requires.0.all, c.requires.1),
  c.requires.0.large-enough,
  λ e. rw (in-place-line c.requires.0 c.requires.1 c.copy.ensures, c.from-format.ensures) (c.requires.2 e),
)

pub overflow_add-used : goal.overflow_add-used
overflow_add-used c =
    let u = used _ _ _ (in-place-length c.requires.0 c.requires.1 c.copy.ensures) c.read_line_unless_start-w.ensures.0 in omega (arith, u, c.requires.1)

pub hold_rest-requires : goal.hold_rest-requires
hold_rest-requires c = (
  used _ _ _ (in-place-length c.requires.0 c.requires.1 c.copy.ensures) c.read_line_unless_start-w.ensures.0,
  c.requires.1,
  omega (arith, c.copy.auto.out, c.requires.0.all),
)

pub overflow_sub-total : goal.overflow_sub-total
overflow_sub-total c = used _ _ _ (in-place-length c.requires.0 c.requires.1 c.copy.ensures) c.read_line_unless_start-w.ensures.0

pub advanced-requires : goal.advanced-requires
advanced-requires c =
    fits _ _ _ (in-place-length c.requires.0 c.requires.1 c.copy.ensures) c.read_line_unless_start-w.ensures.0 (omega (arith, c.requires.0.counted))

pub returns : goal.returns
returns c =
    let w = c.read_line_unless_start-w in
    let n = c.args.self in
    advances _ _ _ (in-place-length c.requires.0 c.requires.1 c.copy.ensures) w.ensures.0 c.args.self _ c.args.held.now _ c.from-format.ensures c.advanced.ensures c.hold_rest.ensures w.ensures.1
    ∙ ap (λ (x : List ℕ). taken (state_of n c.args.held.now) false (read ongoing (format_of n.format) x) c.args.out.now)
    (in-place-line c.requires.0 c.requires.1 c.copy.ensures)
