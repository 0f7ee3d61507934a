use Rattle.std.proofs.Common.{rules, ◌≡◌, ◌<◌, ◌∷◌, ◌++◌, [], length, arith}
use Rattle.tx_lines.proofs.Growing.{all_more, length_more, text_more}
use Rattle.tx_lines.proofs.LineEnds.{line_spelled, shorter_rest}
use Rattle.tx_lines.specs.Walks.{command_text, FitsCommand}
use Rattle.tx_lines.proofs.read.walk_text.read_commands.Goals as goal

pub loop-left-smaller : goal.loop-left-smaller
loop-left-smaller c = shorter_rest c.loop-left.left.now c.in_ok-line.line.now c.in_ok-line.rest.now c.in_ok-line.ensures.line

pub loop-left-preserved : goal.loop-left-preserved
loop-left-preserved c =
    let commands = c.loop-left.commands.items in
    let command = c.in-Some.command in
    let more = c.push.new.self.items in
    let pushed : more ≡ commands ++ command ∷ [] = search rules in
    let few : length commands < 4096 = search (rules, c.in_ok-line.ensures.few, c.len.ensures) in
    let spelled = line_spelled c.loop-left.left.now c.in_ok-line.line.now (command_text command) c.in_ok-line.rest.now c.in_ok-line.ensures.line c.in-Some.ensures.found in
    record {
      good = record {
        fit = all_more (FitsCommand c.args.version) commands command more c.loop-left.invariant.good.fit c.in-Some.ensures.fits pushed;
        few = omega (arith, few, length_more commands command more pushed);
      };
      parts = text_more command_text commands command more c.args.text.now c.loop-left.left.now c.in_ok-line.rest.now c.loop-left.invariant.parts spelled pushed;
    }
