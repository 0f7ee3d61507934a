use Rattle.std.proofs.Common.{◌≡◌, ◌∙◌, ◌∷◌, ◌++◌, List, Option, Some, None, Result, Ok, Err, IfOk, IfSome, ℕ, ap}
use Rattle.tx_lines.specs.Schedule.{lines_of}
use Rattle.tx_lines.specs.Walks.{command_text, debug_line, AreCommands}
use Rattle.tx_translate.proofs.FirstLines.{next_left}
use Rattle.tx_translate.specs.MeantLines.{left_of, line_of}
use Rattle.tx_translate.proofs.walks.commands_after.Goals as goal

each : {A E : Type 0} (P Q : A → Type 0) (result : Result (Option A) E) → ((x : A) → P x → Q x) → IfOk result (λ found. IfSome found P) → IfOk result (λ found. IfSome found Q)
each P Q (Ok (Some x)) more is = more x is
each P Q (Ok None) more is = tt
each P Q (Err error) more is = tt

pub returns-then-is_debug : goal.returns-then-is_debug
returns-then-is_debug c =
    let version = c.args.version in
    let following = left_of c.cut.result.1 in
    let debug : line_of c.cut.result.0 ≡ debug_line = c.is_debug.ensures.0 c.if-is_debug.true in
    let left = next_left (left_of c.args.lines) c.cut.result.0 following c.cut.ensures.line c.if-line.true ∙ ap (λ (t : List ℕ). t ++ 10 ∷ following) debug in
    each (λ commands. AreCommands version commands.items × (following ≡ lines_of command_text commands.items))
    (λ commands. AreCommands version commands.items × (left_of c.args.lines ≡ debug_line ++ 10 ∷ lines_of command_text commands.items)) c.commands_in.result
    (λ commands is. (is.0, left ∙ ap (λ (t : List ℕ). debug_line ++ 10 ∷ t) is.1)) c.commands_in.ensures
