-- A text of a kind is read, or has one fault, and never both.
use Rattle.std.proofs.Common.{◌≡◌, ◌∙◌, ℕ, List, [], ◌∷◌, ◌++◌, map, refl, ap, sym, subst, inl, inr, append-nil}
use Rattle.tx_check.proofs.EndedLines.{spelled_lines, with_ends}
use Rattle.tx_check.proofs.NextLines.{header_once, header_right}
use Rattle.tx_check.proofs.OneFault.{never_both, one_fault}
use Rattle.tx_check.proofs.ProgramTexts.{program_faulty, program_grammar, IsWholeProgram}
use Rattle.tx_check.proofs.SameHeaders.{same_header}
use Rattle.tx_check.proofs.SteppedTexts.{schedule_faulty, schedule_grammar, BeginsSteps}
use Rattle.tx_check.proofs.WalkedTexts.{before_lines, walk_faulty, walk_grammar, BeginsCommands}
use Rattle.tx_check.proofs.ReadTexts.{same_fault, FaultsAfter, IsFault}
use Rattle.tx_check.specs.Kinds.{head_of}
use Rattle.tx_check.specs.Reads.{IsAtFault, IsRead}
use Rattle.tx_check.specs.declared.kinds.Kind.{Kind}
use Rattle.tx_check.specs.declared.kinds.Kind.TheVariants as kinds
use Rattle.tx_lines.specs.Lines.{step_text}
use Rattle.tx_lines.specs.Programs.{line_text}
use Rattle.tx_lines.specs.Schedule.{lines_of, steps_text, SpellsHeader}
use Rattle.tx_lines.specs.Walks.{before_commands, command_text, debug_line}
use Rattle.tx_lines.specs.declared.faults.Fault.{Fault}
use Rattle.tx_lines.specs.declared.read.header.Header.{Header}
use Rattle.tx_lines.specs.declared.read.header.Version.{Version}

-- a whole text after its header
abbrev IsRest : Kind → Version → List (List ℕ) → Type 0
IsRest kinds.Schedule version lines = BeginsSteps version lines
IsRest kinds.Walk version lines = BeginsCommands version lines
IsRest kinds.Program version lines = IsWholeProgram version lines

-- a text that is read
record IsWhole (kind : Kind) (text : List ℕ) : Type 0 where
  header : Header
  rest : List ℕ
  spells : SpellsHeader (head_of kind) text header rest
  lines : List (List ℕ)
  same : rest ≡ with_ends lines
  whole : IsRest kind header.version lines

whole : (kind : Kind) (text : List ℕ) → IsRead kind text → IsWhole kind text
whole kinds.Schedule text read =
    let schedule = read.0 in
    record {
      header = schedule.header;
      rest = steps_text schedule.steps.items;
      spells = record { spelled = read.1.0; fits = read.1.1.header_fits };
      lines = map step_text schedule.steps.items;
      same = spelled_lines step_text schedule.steps.items;
      whole = record { steps = schedule.steps.items; same = refl; are = read.1.1.steps_fit };
    }
whole kinds.Walk text read =
    let walk = read.0 in
    let steps = walk.schedule.steps.items in
    let commands = walk.commands.items in
    let fits = read.1.1 in
    let lines = map step_text steps ++ debug_line ∷ map command_text commands in
    record {
      header = walk.schedule.header;
      rest = before_commands steps (lines_of command_text commands);
      spells = record { spelled = read.1.0; fits = fits.schedule_fits.header_fits };
      lines = lines;
      same = ap (before_commands steps) (spelled_lines command_text commands ∙ sym (append-nil (with_ends (map command_text commands))))
          ∙ before_lines steps (map command_text commands) []
          ∙ append-nil (with_ends lines);
      whole = record { steps = steps; commands = commands; same = refl; are_steps = fits.schedule_fits.steps_fit; are_commands = fits.commands_fit };
    }
whole kinds.Program text read =
    let program = read.0 in
    let ones = read.1.0 in
    let is = read.1.1 in
    record {
      header = program.header;
      rest = lines_of line_text ones;
      spells = record { spelled = read.1.2; fits = is.header_fits };
      lines = map line_text ones;
      same = spelled_lines line_text ones;
      whole = record { begins = record { ones = ones; same = refl; are = is.lines_fit }; made = program.instructions.items; linked_all = is.instructions };
    }

never_later : (kind : Kind) (version : Version) (rest : List ℕ) (lines : List (List ℕ)) (fault : Fault) → IsRest kind version lines → rest ≡ with_ends lines → FaultsAfter kind version rest fault → ⊥
never_later kinds.Schedule version rest lines fault all same is = never_both (schedule_grammar version) rest lines fault all same (schedule_faulty version rest fault is)
never_later kinds.Walk version rest lines fault all same is = never_both (walk_grammar version) rest lines fault all same (walk_faulty version rest fault is)
never_later kinds.Program version rest lines fault all same is = never_both (program_grammar version) rest lines fault all same (program_faulty version rest fault is)

one_later : (kind : Kind) (version : Version) (rest : List ℕ) (a b : Fault) → FaultsAfter kind version rest a → FaultsAfter kind version rest b → a ≡ b
one_later kinds.Schedule version rest a b first second = one_fault (schedule_grammar version) rest a b (schedule_faulty version rest a first) (schedule_faulty version rest b second)
one_later kinds.Walk version rest a b first second = one_fault (walk_grammar version) rest a b (walk_faulty version rest a first) (walk_faulty version rest b second)
one_later kinds.Program version rest a b first second = one_fault (program_grammar version) rest a b (program_faulty version rest a first) (program_faulty version rest b second)

never : (kind : Kind) (text : List ℕ) (fault : Fault) → IsWhole kind text → IsFault kind text fault → ⊥
never kind text fault all (inl header) = header_right (head_of kind) text all.header all.rest fault all.spells header
never kind text fault all (inr found) =
    let same = same_header (head_of kind) text found.0 all.header found.1 all.rest found.2 all.spells in
    never_later kind all.header.version all.rest all.lines fault all.whole all.same
    (subst (λ (r : List ℕ). FaultsAfter kind all.header.version r fault) same.1 (subst (λ (v : Version). FaultsAfter kind v found.1 fault) same.0 found.3))

two : (kind : Kind) (text : List ℕ) (a b : Fault) → IsFault kind text a → IsFault kind text b → a ≡ b
two kind text a b (inl first) (inl second) = header_once (head_of kind) text a b first second
two kind text a b (inl first) (inr found) = absurd (header_right (head_of kind) text found.0 found.1 a found.2 first)
two kind text a b (inr found) (inl second) = absurd (header_right (head_of kind) text found.0 found.1 b found.2 second)
two kind text a b (inr first) (inr second) =
    let same = same_header (head_of kind) text second.0 first.0 second.1 first.1 second.2 first.2 in
    one_later kind first.0.version first.1 a b first.3
    (subst (λ (r : List ℕ). FaultsAfter kind first.0.version r b) same.1 (subst (λ (v : Version). FaultsAfter kind v second.1 b) same.0 second.3))

pub none_is_both : (kind : Kind) (text : List ℕ) (fault : Fault) → IsRead kind text → IsAtFault kind text fault → ⊥
none_is_both kind text fault read is = never kind text fault (whole kind text read) (same_fault kind text fault is)

pub none_has_two : (kind : Kind) (text : List ℕ) (one other : Fault) → IsAtFault kind text one → IsAtFault kind text other → one ≡ other
none_has_two kind text one other first second = two kind text one other (same_fault kind text one first) (same_fault kind text other second)
