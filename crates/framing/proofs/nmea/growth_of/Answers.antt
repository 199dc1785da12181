use Rattle.std.proofs.Common.{◌≡◌, ℕ, ◌≤◌, List, length, get_or, take, ap, ◌∙◌, arith, length-take-le, get_or-take}
use Rattle.framing.specs.Nmea.{permitted}
use Rattle.framing.specs.Private.{Permitted, Reached}
use Rattle.framing.proofs.GrowthLaws.{body-waits, body-grows}
use Rattle.framing.proofs.nmea.growth_of.Goals as goal

-- the first e bytes are an unended body
record Unended (e : ℕ) (s : List ℕ) : Type 0 where
  first : get_or (take e s) 0 0 ≡ 0x24
  short : length (take e s) ≤ 77
  all : Reached (length (take e s)) (take e s)

unended : (e : ℕ) (s : List ℕ) → e ≤ length s → (e ≡ 0 → ⊥) → get_or s 0 0 ≡ 0x24 → e ≤ 77 → Permitted 1 e s → Unended e s
unended e s l z f m p =
    let n = length-take-le e s l in
    record {
      first = get_or-take e s 0 0 (omega arith) ∙ f;
      short = rw n m;
      all = record { some = rw n (omega arith); inside = omega arith; body = λ j l h. ap permitted (get_or-take e s j 0 (rw n at h)) ∙ p j l (rw n at h) };
    }

pub returns-then-min-bytes : goal.returns-then-min-bytes
returns-then-min-bytes c = let u = unended _ _ c.requires c.if-end-eq0.false c.if-s-ne-FIRST.false (omega arith) (c.is_body.ensures c.if-not-is_body.false) in
    body-waits _ u.first u.short u.all

pub returns-then-are_permitted : goal.returns-then-are_permitted
returns-then-are_permitted c = let u = unended _ _ c.requires c.if-end-eq0.false c.if-s-ne-FIRST.false (omega arith) (c.is_body.ensures c.if-not-is_body.false) in
    (body-waits _ u.first u.short u.all, body-grows _ _ u.first u.all (rw (length-take-le c.args.end c.args.s.now c.requires) (omega arith)) (c.are_permitted.ensures c.if-are_permitted.true))

pub returns : goal.returns
returns c = let u = unended _ _ c.requires c.if-end-eq0.false c.if-s-ne-FIRST.false (omega arith) (c.is_body.ensures c.if-not-is_body.false) in
    body-waits _ u.first u.short u.all
