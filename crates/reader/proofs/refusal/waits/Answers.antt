use mathlib.Core.Path.{ap, ◌∙◌}
use Rattle.framing.specs.declared.frame_run.Run.{Run}
use Rattle.reader.proofs.RefusalLaws.{front-start}
use Rattle.reader.proofs.ReadLineLaws.{one-waits}
use Rattle.reader.proofs.refusal.waits.Goals as goal

pub returns : goal.returns
returns c = λ h. ap (λ (r : Run). r.waits) c.frame_run_within.ensures ∙ one-waits _ _ ∙ front-start _ _
