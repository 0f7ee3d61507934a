-- The parts of a text with commands.
use Rattle.std.proofs.Common.{◌≡◌, inr, ℕ, ◌+◌, List, length, subst}
use Rattle.tx_base.specs.declared.steps.Step.{Step}
use Rattle.tx_lines.proofs.Growing.{faults_by}
use Rattle.tx_lines.specs.Schedule.{AreSteps, FaultsAmong, FaultsBy, SpellsHeader}
use Rattle.tx_lines.specs.Walks.{before_commands, command_text, AreCommands, FaultsAtCommand, IsWalkFault}
use Rattle.tx_lines.specs.declared.faults.Fault.{Fault}
use Rattle.tx_lines.specs.declared.read.header.Header.{Header}
use Rattle.tx_lines.specs.declared.read.header.TextKind.TheVariants as kinds

-- a fault among the commands is one of the text
pub commands_fault : (text : List ℕ) (header : Header) (left : List ℕ) (steps : List Step) (rest : List ℕ) (number : ℕ) (fault : Fault) → SpellsHeader kinds.Schedule text header left → AreSteps header.version steps
    → left ≡ before_commands steps rest → number ≡ length steps + 3 → FaultsBy (FaultsAmong command_text (AreCommands header.version) (FaultsAtCommand header.version number) rest) fault → FaultsBy (IsWalkFault text) fault
commands_fault text header left steps rest number fault spells are parts same =
    faults_by (FaultsAmong command_text (AreCommands header.version) (FaultsAtCommand header.version number) rest) (IsWalkFault text)
    (λ f is. inr (header, left, spells, inr (steps, rest, are, parts, subst (λ (n : ℕ). FaultsAmong command_text (AreCommands header.version) (FaultsAtCommand header.version n) rest f) same is))) fault
