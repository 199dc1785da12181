-- OnFlight: what its rules owe.
-- Assumes nothing.
use Rattle.std.proofs.Common.{ℕ, zero, suc, ◌≤◌, eqb, refl, inl, arith}
use Rattle.framing.specs.Onflight.{onflight_next}
use Rattle.framing.specs.declared.Format.TheVariants.{Onflight}
use Rattle.framing.specs.Format.{known, first, shortest, longest, pending_bound, body_start, body_end, next}
use Rattle.framing.proofs.ShapeLaws.{CountsFrom, from-four}
use Rattle.framing.proofs.HeadLaws.{StartsWith}
use Rattle.framing.proofs.Lawful.{After, must-after, Completes, one_more, Lawful, Counted, up_to-after, counted-bound, the-missing, head-completes}

pub onflight-counts : CountsFrom Onflight 4
unfolding next onflight_next
onflight-counts = from-four Onflight (λ k m b. refl)

pub onflight-starts : StartsWith Onflight 0x42 0x46
unfolding next onflight_next
onflight-starts = record { first = λ m x. refl; second = λ m x. refl }

onflight-after : (k m b : ℕ) → Counted (λ j. Unit {0}) 158 158 k m
    → After (Counted (λ j. Unit {0}) 158 158 (suc k)) (158 ≤ suc k) (onflight_next k m b)
unfolding onflight_next
onflight-after zero m b h = must-after _ _ (eqb b 0x42) _ _ (λ t. tt)
onflight-after (suc zero) m b h = must-after _ _ (eqb b 0x46) _ _ (λ t. tt)
onflight-after (suc (suc zero)) m b h = must-after _ _ (eqb b 0x01) _ _ (λ t. tt)
onflight-after (suc (suc (suc zero))) m b h = must-after _ _ (eqb b 0x98) _ _ (λ t. omega arith)
onflight-after (suc (suc (suc (suc k)))) m b h = up_to-after 158 158 (suc (suc (suc (suc k)))) m h

-- OnFlight: the payload's length, and the version
onflight-fourth : (m : ℕ) → Completes Onflight 3 m
unfolding next onflight_next
onflight-fourth m = one_more 0x98 158 (omega arith) refl (the-missing Onflight 4 onflight-counts 4 158 (omega arith) (omega arith))

onflight-third : (m : ℕ) → Completes Onflight 2 m
unfolding next onflight_next
onflight-third m = one_more 0x01 0 (omega arith) refl (onflight-fourth 0)

pub onflight-lawful : Lawful Onflight
unfolding known first shortest longest pending_bound body_start body_end next onflight_next
onflight-lawful =
    record {
      known-or-none = inl tt;
      opens = λ t x. refl;
      Sound = λ P. Counted (λ j. Unit {0}) 158 158;
      sound-zero = λ P. tt;
      sound-next = λ P k m b p h. onflight-after k m b h;
      sound-bound = λ P k m h. counted-bound (λ j. Unit {0}) 158 157 k m (omega arith) h;
      completes = λ t k m h. head-completes onflight-starts onflight-counts (omega arith) (omega arith) onflight-third (λ j. Unit {0}) 158 158 (λ j u. onflight-fourth j) k m h;
      body-space = λ t. omega arith;
      in_order = omega arith;
      most = omega arith;
    }
