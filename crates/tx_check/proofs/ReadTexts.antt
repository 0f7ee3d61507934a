-- A text whose lines are those of its kind is read, and one of which they are not is at fault.
use Rattle.std.proofs.Common.{◌≡◌, ◌∙◌, ◌⊎◌, ℕ, ◌≤◌, List, ◌++◌, ◌∷◌, Option, Some, length, map, refl, ap, arith, inl, inr}
use Rattle.std.proofs.lemmas.List.{length-map}
use Rattle.std.specs.declared.alloc.Global.{Global}
use Rattle.std.specs.Prelude.{Vec}
use Rattle.indexmap.specs.Layout.{hash_map}
use denote.RawPtr.{null_ptr}
use Rattle.tx_base.specs.declared.steps.Step.{Step}
use Rattle.tx_check.specs.AfterHeader.{AreProgramLines, IsReadBut}
use Rattle.tx_check.specs.Kinds.{head_of}
use Rattle.tx_check.specs.Reads.{IsAtFault, IsRead}
use Rattle.tx_check.specs.declared.kinds.Kind.{Kind}
use Rattle.tx_check.specs.declared.kinds.Kind.TheVariants as kinds
use Rattle.tx_lines.specs.Lines.{header_text, step_text}
use Rattle.tx_lines.specs.Programs.{instructions_of, labels_of, linked, AreLines, FaultsAmongLines}
use Rattle.tx_lines.specs.Schedule.{lines_of, steps_text, AreSteps, FaultsAmong, FaultsAtHeader, FaultsAtStep, SpellsHeader}
use Rattle.tx_lines.specs.Walks.{before_commands, command_text, AreCommands, FaultsAfterHeader}
use Rattle.tx_lines.specs.declared.faults.Fault.{Fault}
use Rattle.tx_lines.specs.declared.instructions.Instruction.{Instruction}
use Rattle.tx_lines.specs.declared.instructions.Line.{Line}
use Rattle.tx_lines.specs.declared.read.command.Command.{Command}
use Rattle.tx_lines.specs.declared.read.header.Header.{Header}
use Rattle.tx_lines.specs.declared.read.header.Version.{Version}
use Rattle.tx_lines.specs.declared.read.header.TextKind.TheVariants as texts

-- a vector of some things
vec_of : {A : Type 0} (xs : List A) → length xs ≤ 4096 → Vec A Global
vec_of xs few = record {
  ptr = null_ptr;
  len = length xs;
  cap = length xs;
  alloc = record { memory = record { seal = tt } };
  items = xs;
  ok = (refl, omega arith);
  small = omega (arith, few);
}

pub schedule_read : (text : List ℕ) (header : Header) (rest : List ℕ) (steps : List Step) → SpellsHeader texts.Schedule text header rest → AreSteps header.version steps → rest ≡ steps_text steps → IsRead kinds.Schedule text
unfolding vec_of
schedule_read text header rest steps spells are spelled = (
  record { header = header; steps = vec_of steps are.few },
  (spells.spelled ∙ ap (λ (t : List ℕ). header_text texts.Schedule header ++ 10 ∷ t) spelled, record { header_fits = spells.fits; steps_fit = are }),
)

pub walk_read : (text : List ℕ) (header : Header) (rest : List ℕ) (steps : List Step) (commands : List Command) → SpellsHeader texts.Schedule text header rest → AreSteps header.version steps → AreCommands header.version commands
    → rest ≡ before_commands steps (lines_of command_text commands) → IsRead kinds.Walk text
unfolding vec_of
walk_read text header rest steps commands spells are_steps are_commands spelled = (
  record { schedule = record { header = header; steps = vec_of steps are_steps.few }; commands = vec_of commands are_commands.few },
  (
    spells.spelled ∙ ap (λ (t : List ℕ). header_text texts.Schedule header ++ 10 ∷ t) spelled,
    record { schedule_fits = record { header_fits = spells.fits; steps_fit = are_steps }; commands_fit = are_commands },
  ),
)

few_made : (version : Version) (lines : List Line) (made : List Instruction) → AreLines version lines → map (linked (labels_of lines)) (instructions_of lines) ≡ map Some made → length made ≤ 4096
few_made version lines made are same =
    omega (arith, are.few_instructions, ap length same, length-map (instructions_of lines) (linked (labels_of lines)), length-map made some)
  where
    some : Instruction → Option Instruction
    some = Some

pub program_read : (text : List ℕ) (header : Header) (rest : List ℕ) (all : AreProgramLines header.version rest) (made : List Instruction) → SpellsHeader texts.Program text header rest
    → map (linked (labels_of all.lines)) (instructions_of all.lines) ≡ map Some made → IsRead kinds.Program text
unfolding vec_of
program_read text header rest all made spells is = (
  record {
    header = header;
    instructions = vec_of made (few_made header.version all.lines made all.are is);
    labels = hash_map (labels_of all.lines) (record { initial = record { state = 0 } }) 0;
  },
  (
    all.lines,
    record { header_fits = spells.fits; lines_fit = all.are; labels = refl; instructions = is },
    spells.spelled ∙ ap (λ (t : List ℕ). header_text texts.Program header ++ 10 ∷ t) all.spelled,
  ),
)

-- a text of only steps has no labels
pub but_read : (kind : Kind) (text : List ℕ) (version : Version) (rest : List ℕ) → IsReadBut kind text version rest → (kind ≡ kinds.Schedule) ⊎ (kind ≡ kinds.Walk) → IsRead kind text
but_read kinds.Program text version rest but (inl is) = absurd (cc)
but_read kinds.Program text version rest but (inr is) = absurd (cc)
but_read _ text version rest but is = but

-- what follows a header is at fault, and so a text is: at its header, or after it
abbrev pub FaultsAfter : Kind → Version → List ℕ → Fault → Type 0
FaultsAfter kinds.Schedule version rest fault = FaultsAmong step_text (AreSteps version) (FaultsAtStep version) rest fault
FaultsAfter kinds.Walk version rest fault = FaultsAfterHeader version rest fault
FaultsAfter kinds.Program version rest fault = FaultsAmongLines version rest fault

abbrev pub IsFault : Kind → List ℕ → Fault → Type 0
IsFault kind text fault = FaultsAtHeader (head_of kind) text fault ⊎ ((header : Header) × (rest : List ℕ) × SpellsHeader (head_of kind) text header rest × FaultsAfter kind header.version rest fault)

pub same_fault : (kind : Kind) (text : List ℕ) (fault : Fault) → IsAtFault kind text fault → IsFault kind text fault
same_fault kinds.Schedule text fault is = is
same_fault kinds.Walk text fault is = is
same_fault kinds.Program text fault is = is

pub fault_after_header : (kind : Kind) (text : List ℕ) (header : Header) (rest : List ℕ) (fault : Fault) → SpellsHeader (head_of kind) text header rest → FaultsAfter kind header.version rest fault → IsAtFault kind text fault
fault_after_header kinds.Schedule text header rest fault spells is = inr (header, rest, spells, is)
fault_after_header kinds.Walk text header rest fault spells is = inr (header, rest, spells, is)
fault_after_header kinds.Program text header rest fault spells is = inr (header, rest, spells, is)
