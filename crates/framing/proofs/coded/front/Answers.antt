use Rattle.std.proofs.Common.{◌≡◌, ℕ, ◌≤◌, List, length, take, sym, ap, ◌∙◌, arith, length-take-le, take-take}
use Rattle.framing.specs.declared.Scanned.TheVariants.{Whole}
use Rattle.framing.specs.declared.Format.{Format}
use Rattle.framing.specs.Format.{good}
use Rattle.framing.specs.Shape.{scan}
use Rattle.framing.proofs.FrameLaws.{front_at, front-whole}
use Rattle.framing.proofs.Length.{whole-within}
use Rattle.framing.proofs.coded.front.Goals as goal

-- a shape in the first e bytes ends there
within : (f : Format) (s : List ℕ) (e n : ℕ) → e ≤ length s → scan f (take e s) ≡ Whole n → n ≤ e
within f s e n h w = rw (length-take-le e s h) at (whole-within f n (take e s) w).inside

pub checksum_ok-requires : goal.checksum_ok-requires
checksum_ok-requires g c = let e = sym c.scan.ensures ∙ c.in-Whole.is in
    let w = whole-within _ _ _ e in
    (w.least, w.most, omega (arith, within _ _ _ _ c.requires e, c.requires))

pub returns-in-Whole : goal.returns-in-Whole
returns-in-Whole g c = let e = sym c.scan.ensures ∙ c.in-Whole.is in
    c.judged.ensures ∙ sym (front-whole _ _ e (ap (good g.F.Coded.format) (take-take _ _ _ (within _ _ _ _ c.requires e)) ∙ sym c.checksum_ok.ensures))

pub returns-in-Partial : goal.returns-in-Partial
returns-in-Partial g c = sym (front_at _ _ (sym c.scan.ensures ∙ c.in-Partial.is))

pub returns-in-Broken : goal.returns-in-Broken
returns-in-Broken g c = sym (front_at _ _ (sym c.scan.ensures ∙ c.in-Broken.is))
