-- The formats by their numbers, and the table of what their rules owe.
-- Assumes nothing.
use Rattle.std.proofs.Common.{◌≡◌, ℕ, zero, suc, ◌+◌, ◌≤◌, T, true, List, sym, refl, ap, subst, inr, ⊎_elim, arith, Some, None, is_some}
use Rattle.framing.specs.Rules.{Rules, no_rules, numbers_of}
use Rattle.framing.specs.declared.Format.{Format}
use Rattle.framing.specs.declared.Format.TheVariants.{Mgl, Onflight, Nmea, Unknown}
use Rattle.framing.specs.declared.Layout.{Layout}
use Rattle.framing.specs.Format.{format_of, layout_of, known, first, shortest, longest, pending_bound, body_start, body_end, next, good, rules_of}
use Rattle.framing.proofs.Lawful.{Lawful}
use Rattle.framing.proofs.MglLaws.{mgl-lawful}
use Rattle.framing.proofs.OnflightLaws.{onflight-lawful}
use Rattle.framing.proofs.NmeaLaws.{nmea-lawful}

unknown-lawful : Lawful Unknown
unfolding known shortest longest pending_bound next
unknown-lawful =
    record {
      known-or-none = inr refl;
      opens = λ t. absurd t;
      Sound = λ P k m. k ≤ 0;
      sound-zero = λ P. omega arith;
      sound-next = λ P k m b p h. tt;
      sound-bound = λ P k m h. h;
      completes = λ t. absurd t;
      body-space = λ t. absurd t;
      in_order = omega arith;
      most = omega arith;
    }

pub lawful : (f : Format) → Lawful f
lawful Mgl = mgl-lawful
lawful Onflight = onflight-lawful
lawful Nmea = nmea-lawful
lawful Unknown = unknown-lawful

-- ---- what follows at once

good_none : (f : Format) (s : List ℕ) → rules_of f ≡ no_rules → T (good f s) → ⊥
unfolding good
good_none f s e g = subst (λ (r : Rules). T (r.good s)) e g

pub good-known : (f : Format) (s : List ℕ) → T (good f s) → T (known f)
good-known f s g = ⊎_elim (λ t. t) (λ e. absurd (good_none f s e g)) (lawful f).known-or-none

fits-none : (f : Format) → rules_of f ≡ no_rules → body_start f + body_end f ≤ shortest f
unfolding body_start body_end shortest
fits-none f e = subst (λ (r : Rules). let l = numbers_of r.layout in l.head + l.tail ≤ l.shortest) (sym e) (omega arith)

-- what stands before the body and after it lies inside
pub body-fits : (f : Format) → body_start f + body_end f ≤ shortest f
body-fits f = ⊎_elim (λ t. omega (arith, (lawful f).body-space t)) (fits-none f) (lawful f).known-or-none

-- ---- the layout, as a caller of `layout_of` has it

pub record LayoutOf (f : Format) (l : Layout) : Type 0 where
  pub first : l.first ≡ first f
  pub shortest : l.shortest ≡ shortest f
  pub longest : l.longest ≡ longest f
  pub head : l.head ≡ body_start f
  pub tail : l.tail ≡ body_end f
  pub known : known f ≡ true

pub layout-some : (f : Format) {l : Layout} → layout_of f ≡ Some l → LayoutOf f l
unfolding layout_of known first shortest longest body_start body_end
layout-some f {l} e =
    let n : numbers_of (rules_of f).layout ≡ l = ap numbers_of e in
    record {
      first = ap (λ (k : Layout). k.first) (sym n);
      shortest = ap (λ (k : Layout). k.shortest) (sym n);
      longest = ap (λ (k : Layout). k.longest) (sym n);
      head = ap (λ (k : Layout). k.head) (sym n);
      tail = ap (λ (k : Layout). k.tail) (sym n);
      known = ap is_some e;
    }

pub layout-none : (f : Format) → layout_of f ≡ None → f ≡ Unknown
unfolding layout_of
layout-none Mgl e = cc
layout-none Onflight e = cc
layout-none Nmea e = cc
layout-none Unknown e = refl
