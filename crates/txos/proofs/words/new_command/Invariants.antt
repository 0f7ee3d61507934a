use Rattle.std.proofs.Common.{◌≡◌, length, map}
use Rattle.std.specs.List.{fold}
use Rattle.clap.specs.Simple.{app_of, with_subcommand}
use Rattle.txos.specs.CommandLine.{command_line, line_of}
use Rattle.txos.proofs.words.new_command.Given as goal

abbrev pub invariant-loop-name : goal.invariant-loop-name
invariant-loop-name l = fold with_subcommand (app_of l.line) (map line_of l.left) ≡ command_line

abbrev pub decreases-loop-name : goal.decreases-loop-name
decreases-loop-name l = length l.left
