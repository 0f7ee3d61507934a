use Rattle.std.proofs.Common.{rules, ◌≡◌, ◌≤◌, ◌++◌, [], ℕ, List, Some, false, length, option_map, sym, ◌∙◌}
use Rattle.tx_base.specs.declared.steps.Step.{Step}
use Rattle.tx_lines.specs.Lines.{step_text, FitsStep}
use Rattle.tx_lines.specs.declared.read.header.TextKind.TheVariants.{Schedule}
use Rattle.tx_translate.proofs.RespelledLines.{holds_of, squeezed_means}
use Rattle.tx_translate.specs.Lines.{plain_line}
use Rattle.tx_translate.specs.Respelled.{squeezed}
use Rattle.tx_translate.specs.Words.{next_from}
use Rattle.tx_translate.specs.declared.stage.Stage.TheVariants.{Within}
use Rattle.tx_translate.proofs.respelled.read_squeezed.Goals as goal

pub returns-then-put_squeezed-clause-found : goal.returns-then-put_squeezed-clause-found
returns-then-put_squeezed-clause-found c =
    let text : List ℕ = c.put_squeezed.new.room.items in
    let is : Some text ≡ option_map (λ (t : List ℕ). [] ++ t) (squeezed false (next_from c.args.line.now)) = search rules in
    let few : length text ≤ 512 = search rules in
    let read : c.as_slice.result.now ≡ text = search rules in
    holds_of c.read_step_into.result c.read_step_into.new.step (λ (s : Step). c.as_slice.result.now ≡ step_text s) FitsStep
    (λ (s : Step). plain_line (Within Schedule) c.args.line.now ≡ Some (step_text s)) c.read_step_into.ensures.found c.read_step_into.ensures.fits
    (λ found fits. squeezed_means c.args.line.now text c.read_step_into.new.step is (sym read ∙ found) fits c.requires few)
