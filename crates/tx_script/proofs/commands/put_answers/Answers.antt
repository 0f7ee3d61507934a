use Rattle.std.proofs.Common.{◌≡◌, ◌+◌, ℕ, List, ◌∷◌, drop, get_or, string_bytes, sym, ap, ◌∙◌, subst, add-one, drop-cons}
use Rattle.std.proofs.Math.ListN.{drop_of_length-le}
use Rattle.tx_script.proofs.Walked.{CommandsSoFar, commands_whole, no_commands, one_command_more}
use Rattle.tx_script.specs.JsonLines.{written_in}
use Rattle.tx_lines.specs.declared.read.command.Command.{Command}
use Rattle.tx_lines.specs.declared.read.command.Command.TheVariants.{Back}
use Rattle.tx_script.proofs.commands.put_answers.Goals as goal

pub loop-command-init : goal.loop-command-init
loop-command-init c = no_commands (written_in c.args.form) c.args.session.now c.args.commands.now (string_bytes c.args.text.now)

pub loop-command-preserved : goal.loop-command-preserved
loop-command-preserved c =
    let i = c.loop-command.command-index in
    let commands = c.args.commands.now in
    let command = get_or commands i Back in
    let before = string_bytes c.args.text.now in
    let text = string_bytes c.loop-command.text in
    let cut : drop i commands ≡ command ∷ drop (i + 1) commands =
    drop-cons commands i Back c.loop-command-test.true ∙ ap (λ (n : ℕ). command ∷ drop n commands) (sym (add-one i)) in
    one_command_more (written_in c.args.form) c.args.session.now c.loop-command.session c.put_in.new.session commands command (drop (i + 1) commands) before text (string_bytes c.put_in.new.text)
    (subst (λ (xs : List Command). CommandsSoFar (written_in c.args.form) c.args.session.now c.loop-command.session commands xs before text) cut c.loop-command.invariant)
    c.in_ok-put_in.ensures.text c.in_ok-put_in.ensures.moved c.in_ok-put_in.ensures.journal

pub returns-clause-text : goal.returns-clause-text
returns-clause-text c =
    commands_whole (written_in c.args.form) c.args.session.now c.loop-command.session c.args.commands.now (drop c.loop-command.command-index c.args.commands.now) (string_bytes c.args.text.now) (string_bytes c.loop-command.text)
    c.loop-command.invariant (drop_of_length-le c.args.commands.now c.loop-command-test.false)
