use Rattle.std.proofs.Common.{length}
use Rattle.tx_lines.specs.Walks.{command_text, AreCommands}
use Rattle.tx_translate.specs.FirstLines.{IsBefore}
use Rattle.tx_translate.specs.MeantLines.{left_of}
use Rattle.tx_translate.proofs.walks.commands_in.Given as goal

abbrev pub invariant-loop-line : goal.invariant-loop-line
invariant-loop-line l = IsBefore command_text (AreCommands l.version) l.commands.items (left_of l.left) (left_of l.initial.lines)

abbrev pub decreases-loop-line : goal.decreases-loop-line
decreases-loop-line l = length l.left.left.now
