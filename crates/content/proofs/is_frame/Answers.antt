use mathlib.Core.Path.{◌≡◌, refl, ap, ◌∙◌}
use mathlib.Core.Bool.{false}
use mathlib.Core.List.{List}
use Prim.Native.Nat.{ℕ}
use native.Mathlib.Omega.{arith}
use lib.Dec.{eqb}
use lib.ListN.{length}
use Rattle.framing.specs.declared.Found.{Found}
use Rattle.framing.specs.declared.Found.TheVariants.{Frame, Start, Neither}
use Rattle.framing.specs.declared.frame_run.Run.{Run}
use Rattle.framing.specs.declared.Format.{Format}
use Rattle.framing.specs.Frame.{front}
use Rattle.framing.specs.FrameRun.{frame_run}
use Rattle.framing.proofs.FrameRunLaws.{one_of, run-one}
use Rattle.content.specs.Body.{spans, is_frame}
use Rattle.content.proofs.is_frame.Goals as goal

-- by the first frame alone
spans-one : (o : Found) (n : ℕ) (r : Run) → r ≡ one_of o → r.frames ≡ 1 → eqb r.bytes n ≡ spans o n
spans-one (Frame m) n r e h = ap (λ (x : Run). eqb x.bytes n) e
spans-one Start n r e h = let z : r.frames ≡ 0 = ap (λ (x : Run). x.frames) e in absurd (omega arith)
spans-one (Neither x) n r e h = let z : r.frames ≡ 0 = ap (λ (x : Run). x.frames) e in absurd (omega arith)

spans-none : (o : Found) (n : ℕ) (r : Run) → r ≡ one_of o → (r.frames ≡ 1 → ⊥) → false ≡ spans o n
spans-none (Frame m) n r e h = absurd (h (ap (λ (x : Run). x.frames) e))
spans-none Start n r e h = refl
spans-none (Neither x) n r e h = refl

module _ (f : Format) (s : List ℕ) (r : Run) (e : r ≡ frame_run f 1 s) where
  framed : r.frames ≡ 1 → eqb r.bytes (length s) ≡ is_frame f s
  unfolding is_frame
  framed h = spans-one (front f s) (length s) r (e ∙ run-one f s) h

  none : (r.frames ≡ 1 → ⊥) → false ≡ is_frame f s
  unfolding is_frame
  none h = spans-none (front f s) (length s) r (e ∙ run-one f s) h

pub returns-then-found-eq1 : goal.returns-then-found-eq1
returns-then-found-eq1 c = framed _ _ _ c.frame_run-found.ensures c.if-found-eq1.true

pub returns : goal.returns
returns c = none _ _ _ c.frame_run-found.ensures c.if-found-eq1.false
