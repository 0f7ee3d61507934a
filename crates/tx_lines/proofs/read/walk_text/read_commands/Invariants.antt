use Rattle.std.proofs.Common.{◌≡◌, ◌++◌, length}
use Rattle.tx_lines.specs.Schedule.{lines_of}
use Rattle.tx_lines.specs.Walks.{command_text, AreCommands}
use Rattle.tx_lines.proofs.read.walk_text.read_commands.Given as goal

abbrev pub invariant-loop-left : goal.invariant-loop-left
invariant-loop-left l = record {
  good : AreCommands l.version l.commands.items;
  parts : l.text ≡ lines_of command_text l.commands.items ++ l.left;
}

abbrev pub decreases-loop-left : goal.decreases-loop-left
decreases-loop-left l = length l.left
