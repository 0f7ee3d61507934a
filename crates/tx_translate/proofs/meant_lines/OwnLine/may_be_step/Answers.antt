use Rattle.std.proofs.Common.{◌≡◌, ◌∙◌, List, ℕ, Option, Some, ap, rules}
use Rattle.tx_lines.specs.Lines.{step_text}
use Rattle.tx_lines.specs.declared.read.header.TextKind.TheVariants.{Schedule}
use Rattle.tx_translate.proofs.StayingLines.{line_means}
use Rattle.tx_translate.proofs.StayingSteps.{step_stays}
use Rattle.tx_translate.specs.Lines.{plain_line}
use Rattle.tx_translate.specs.MeantLines.{line_by}
use Rattle.tx_translate.specs.Plain.{bare}
use Rattle.tx_translate.specs.declared.stage.Stage.{Stage}
use Rattle.tx_translate.specs.declared.stage.Stage.TheVariants.{Within}
use Rattle.tx_translate.proofs.meant_lines.OwnLine.may_be_step.Goals as goal

pub returns-in-Some-Within-Schedule : goal.returns-in-Some-Within-Schedule
returns-in-Some-Within-Schedule c = λ is step fits same.
    let stage : c.args.self.stage ≡ Some (Within Schedule) = search rules in
    ap (λ (s : Option Stage). line_by s c.args.self.bytes.now) stage ∙ ap (λ (line : List ℕ). bare (plain_line (Within Schedule) line)) same
    ∙ ap bare (line_means Schedule (step_text step) (step_stays step fits))
