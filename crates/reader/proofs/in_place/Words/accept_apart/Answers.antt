use Rattle.std.proofs.Common.{◌+◌, ◌-◌, false, List, ℕ, take, drop, sym, ap, ◌∙◌, arith, length-take}
use lib.Seq.{length-take-le}
use Rattle.framing.specs.Format.{format_of}
use Rattle.framing.specs.Reading.{ongoing, read}
use Rattle.reader.specs.State.{held_bytes}
use Rattle.reader.specs.Calls.{taken}
use Rattle.reader.specs.InPlace.{state_of}
use Rattle.reader.proofs.HeldLaws.{tail-length, rest_part}
use Rattle.std.proofs.lemmas.List.{take_rest}
use Rattle.reader.proofs.RefusalLaws.{bound-most}
use Rattle.reader.proofs.JoinLaws.{drop-behind}
use Rattle.reader.proofs.InPlaceLaws.{used, fits, advances, start-length, all-length, line-counted, line-length, longer, longer-used, longer-past, longer-fits}
use Rattle.reader.proofs.in_place.Words.accept_apart.Goals as goal

-- ---- a piece that is no longer than what can be pending

pub join-k-requires : goal.join-k-requires
join-k-requires c =
    omega (arith, start-length c.requires, c.requires.pending, c.if-bytes-most.true, c.pending_bound-most.ensures, bound-most c.from-format.result)

pub overflow_add-used : goal.overflow_add-used
overflow_add-used c =
    let u = used _ _ _ (line-length c.requires _ c.join-k.ensures) c.read_line-w.ensures.0 in
    omega (
      arith,
      u,
      line-counted c.requires _ c.join-k.ensures,
      c.requires.pending,
      c.if-bytes-most.true,
      c.pending_bound-most.ensures,
      bound-most c.from-format.result,
    )

pub slice_bounds-hold-count : goal.slice_bounds-hold-count
slice_bounds-hold-count c = used _ _ _ (line-length c.requires _ c.join-k.ensures) c.read_line-w.ensures.0

pub slice_bounds-hold-start : goal.slice_bounds-hold-start
slice_bounds-hold-start c = used _ _ _ (line-length c.requires _ c.join-k.ensures) c.read_line-w.ensures.0

pub hold-requires : goal.hold-requires
hold-requires c =
    let u = c.read_line-w.result.framed + c.read_line-w.result.skipped in
    let f = fits _ _ _ (line-length c.requires _ c.join-k.ensures) c.read_line-w.ensures.0 {n = c.args.self} (omega (arith, line-counted c.requires _ c.join-k.ensures, c.requires.counted)) in
    (omega (arith, f.held, length-take (c.join-k.result - u) (drop u c.join-k.new.work)), c.requires.all)

pub overflow_sub-k : goal.overflow_sub-k
overflow_sub-k c = used _ _ _ (line-length c.requires _ c.join-k.ensures) c.read_line-w.ensures.0

pub advanced-requires : goal.advanced-requires
advanced-requires c =
    fits _ _ _ (line-length c.requires _ c.join-k.ensures) c.read_line-w.ensures.0 (omega (arith, line-counted c.requires _ c.join-k.ensures, c.requires.counted))

pub returns-then-bytes-most : goal.returns-then-bytes-most
returns-then-bytes-most c =
    let w = c.read_line-w in
    let n = c.args.self in
    let l = line-length c.requires _ c.join-k.ensures in
    advances _ _ _ l w.ensures.0 n _ c.args.held.now _ c.from-format.ensures c.advanced.ensures
    (c.hold.ensures ∙ ap held_bytes (sym (rest_part c.join-k.new.work (w.result.framed + w.result.skipped) c.join-k.result (used _ _ _ l w.ensures.0)))) w.ensures.1
    ∙ ap (λ (x : List ℕ). taken (state_of n c.args.held.now) false (read ongoing (format_of n.format) x) c.args.out.now) c.join-k.ensures.1

-- ---- a longer one

pub join-k-requires-2 : goal.join-k-requires-2
join-k-requires-2 c =
    omega (
      arith,
      start-length c.requires,
      c.requires.pending,
      length-take-le c.pending_bound-most.result c.args.bytes.now (omega (arith, c.if-bytes-most.false)),
      c.pending_bound-most.ensures,
      bound-most c.from-format.result,
    )

pub overflow_add-used-2 : goal.overflow_add-used-2
overflow_add-used-2 c =
    let u = longer-used c.requires _ c.pending_bound-most.ensures c.if-bytes-most.false c.join-k-2.ensures.1 c.read_line_joined-w.ensures in
    omega (arith, u, c.requires.large-enough)

pub overflow_sub-used : goal.overflow_sub-used
overflow_sub-used c = longer-past c.requires _ c.pending_bound-most.ensures c.if-bytes-most.false c.join-k-2.ensures.1 c.read_line_joined-w.ensures

pub slice_bounds-hold-count-2 : goal.slice_bounds-hold-count-2
slice_bounds-hold-count-2 c =
    let u = longer-used c.requires _ c.pending_bound-most.ensures c.if-bytes-most.false c.join-k-2.ensures.1 c.read_line_joined-w.ensures in
    let p = longer-past c.requires _ c.pending_bound-most.ensures c.if-bytes-most.false c.join-k-2.ensures.1 c.read_line_joined-w.ensures in
    omega (arith, u, p)

pub slice_bounds-hold-start-2 : goal.slice_bounds-hold-start-2
slice_bounds-hold-start-2 c =
    let u = longer-used c.requires _ c.pending_bound-most.ensures c.if-bytes-most.false c.join-k-2.ensures.1 c.read_line_joined-w.ensures in
    let p = longer-past c.requires _ c.pending_bound-most.ensures c.if-bytes-most.false c.join-k-2.ensures.1 c.read_line_joined-w.ensures in
    omega (arith, u, p)

pub hold-requires-2 : goal.hold-requires-2
hold-requires-2 c =
    let r = c.read_line_joined-w.result in
    let f = longer-fits c.requires _ c.pending_bound-most.ensures c.if-bytes-most.false c.join-k-2.ensures.1 c.read_line_joined-w.ensures in
    let p = longer-past c.requires _ c.pending_bound-most.ensures c.if-bytes-most.false c.join-k-2.ensures.1 c.read_line_joined-w.ensures in
    (omega (arith, f.held, p, tail-length c.args.bytes.now (r.framed + r.skipped - c.args.self.pending)), c.requires.all)

pub overflow_sub-pending : goal.overflow_sub-pending
overflow_sub-pending c = longer-used c.requires _ c.pending_bound-most.ensures c.if-bytes-most.false c.join-k-2.ensures.1 c.read_line_joined-w.ensures

pub advanced-requires-2 : goal.advanced-requires-2
advanced-requires-2 c = longer-fits c.requires _ c.pending_bound-most.ensures c.if-bytes-most.false c.join-k-2.ensures.1 c.read_line_joined-w.ensures

pub returns : goal.returns
returns c =
    let n = c.args.self in
    let r = c.read_line_joined-w.result in
    let b = longer c.requires _ c.pending_bound-most.ensures c.if-bytes-most.false c.join-k-2.ensures.1 c.read_line_joined-w.ensures in
    let p = longer-past c.requires _ c.pending_bound-most.ensures c.if-bytes-most.false c.join-k-2.ensures.1 c.read_line_joined-w.ensures in
    advances _ _ _ (all-length c.requires) b.0 n _ c.args.held.now _ c.from-format.ensures c.advanced-2.ensures
    (c.hold-2.ensures
    ∙ ap held_bytes (take_rest c.args.bytes.now (r.framed + r.skipped - n.pending)
    ∙ sym (drop-behind (take n.pending c.args.held.now) c.args.bytes.now n.pending (r.framed + r.skipped) (start-length c.requires) p)))
    b.1
