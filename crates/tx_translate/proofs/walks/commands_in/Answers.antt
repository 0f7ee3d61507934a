use Rattle.std.proofs.Common.{◌≡◌, ◌<◌, ◌++◌, ◌∷◌, [], arith, rules, length}
use Rattle.tx_lines.proofs.Growing.{all_more, length_more}
use Rattle.tx_lines.specs.Walks.{command_text, AreCommands, FitsCommand}
use Rattle.tx_translate.proofs.FirstLines.{one_more}
use Rattle.tx_translate.specs.MeantLines.{left_of}
use Rattle.tx_translate.proofs.walks.commands_in.Goals as goal

pub loop-line-preserved : goal.loop-line-preserved
loop-line-preserved c =
    let so = c.loop-line in
    let version = c.args.version in
    let before = so.commands.items in
    let command = c.in-Some-command_of.command in
    let of = c.in-Some-command_of.ensures in
    let more = c.push.new.self.items in
    let few : length before < 4096 = search rules in
    let grown : more ≡ before ++ command ∷ [] = search rules in
    one_more command_text (AreCommands version) (FitsCommand version) before more c.in-Some.line (left_of so.left) (left_of c.in-Some.rest) (left_of c.args.lines) so.invariant
    c.in-Some.ensures.line of.ended (record { added = command; more = grown; spelled = of.found; good = of.fits })
    (record { fit = all_more (FitsCommand version) before command more so.invariant.good.fit of.fits grown; few = omega (arith, few, length_more before command more grown) })
