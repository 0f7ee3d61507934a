use Rattle.std.proofs.Common.{◌≡◌, ◌<◌, ℕ, Some, slice_get, true}
use Rattle.tx_lines.specs.Arguments.{Argument}
use Rattle.tx_lines.specs.Calls.{program_arguments}
use Rattle.tx_lines.specs.Instructions as spec
use Rattle.tx_lines.specs.declared.instructions.Spelling.{Spelling}
use Rattle.tx_lines.proofs.read.instructions.may_all_be.Given as goal

abbrev pub invariant-loop-place : goal.invariant-loop-place
invariant-loop-place l = (place : ℕ) (spelling : Spelling) (argument : Argument) → place < l.place → slice_get l.spellings place ≡ Some spelling
    → slice_get (program_arguments l.call) place ≡ Some argument → spec.may_be spelling (spec.kind_of argument) ≡ true
