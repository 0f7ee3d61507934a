-- The steps and the commands of a debugger's text: it has one fault at most, and none where it is whole.
use Rattle.std.proofs.Common.{◌≡◌, ◌≢◌, ◌∙◌, ◌⊎◌, ℕ, suc, ◌+◌, ◌<◌, ◌≤◌, Bool, true, false, not, ◌&&◌, nat_eq, List, [], ◌∷◌, ◌++◌, Some, None, length, length-append, map, refl, ap, sym, subst, inl, inr, arith, append_assoc, All, codes}
use Rattle.std.proofs.lemmas.List.Folds.{list_all-append}
use Rattle.std.proofs.lemmas.List.{length-map}
use Rattle.std.specs.Fmt.{decimal}
use Rattle.std.specs.List.{list_all}
use Rattle.tx_base.specs.declared.steps.Step.{Step}
use Rattle.tx_base.specs.declared.steps.Step.TheVariants as steps
use Rattle.tx_check.proofs.EndedLines.{all_at, all_each, among, each_both, ends_both, heads_same, spelled_lines, with_ends, AreLinesEach}
use Rattle.tx_check.proofs.NextLines.{next_once, next_right, some_after}
use Rattle.tx_check.proofs.OneFault.{IsFaulty, IsGrammar}
use Rattle.tx_check.proofs.ShortLines.{short_command}
use Rattle.tx_check.proofs.SteppedTexts.{each_step, same_length, step_at, step_right, BeginsSteps, IsStepAt}
use Rattle.tx_lines.specs.Calls.{call_text}
use Rattle.tx_lines.specs.Lines.{step_text}
use Rattle.tx_lines.specs.Schedule.{after_line, first_line, steps_text, AreSteps, FaultsAtNext, FitsStepOf}
use Rattle.tx_lines.specs.Walks.{before_commands, command_text, debug_line, AreCommands, FaultsAfterHeader, FaultsAtCommand, FaultsBeforeCommands, FitsCommand, IsNoCommand, IsPastSteps}
use Rattle.tx_lines.specs.declared.faults.Fault.{Fault}
use Rattle.tx_lines.specs.declared.faults.Fault.TheVariants.{NotALine, TooLong}
use Rattle.tx_lines.specs.declared.read.command.Command.{Command}
use Rattle.tx_lines.specs.declared.read.header.Version.{Version}

-- the line before the commands is no step's: it has no space
abbrev is_no_space : ℕ → Bool
is_no_space byte = not (nat_eq byte 32)

none_and : (b : Bool) → (b && false) ≡ true → ⊥
none_and true e = absurd (cc)
none_and false e = absurd (cc)

spaced : (front rest : List ℕ) → front ++ 32 ∷ rest ≡ debug_line → ⊥
spaced front rest e =
    let all : list_all is_no_space (front ++ 32 ∷ rest) ≡ true = ap (list_all is_no_space) e in
    none_and (list_all is_no_space front) (sym (list_all-append is_no_space front (32 ∷ rest)) ∙ all)

pub no_debug : (step : Step) → step_text step ≡ debug_line → ⊥
no_debug (steps.Call pid c) e = spaced (decimal pid.0) (call_text c) e
no_debug (steps.Deliver pid signo) e = spaced (decimal pid.0) (codes "deliver " ++ decimal signo.0) e
no_debug (steps.KernelAbort starter) e = spaced (codes "kernel") (decimal starter.0) e

steps_alone : (xs ys : List Step) (us : List (List ℕ)) → map step_text xs ≡ map step_text ys ++ debug_line ∷ us → ⊥
steps_alone [] [] us e = absurd (cc)
steps_alone [] (y ∷ ys) us e = absurd (cc)
steps_alone (x ∷ xs) [] us e = no_debug x (heads_same (step_text x) debug_line (map step_text xs) us e).0
steps_alone (x ∷ xs) (y ∷ ys) us e = steps_alone xs ys us (heads_same (step_text x) (step_text y) (map step_text xs) (map step_text ys ++ debug_line ∷ us) e).1

-- the line before the commands is in one place
same_debug : (xs ys : List Step) (us vs : List (List ℕ)) → map step_text xs ++ debug_line ∷ us ≡ map step_text ys ++ debug_line ∷ vs → (length xs ≡ length ys) × (us ≡ vs)
same_debug [] [] us vs e = (refl, (heads_same debug_line debug_line us vs e).1)
same_debug [] (y ∷ ys) us vs e = absurd (no_debug y (sym (heads_same debug_line (step_text y) us (map step_text ys ++ debug_line ∷ vs) e).0))
same_debug (x ∷ xs) [] us vs e = absurd (no_debug x (heads_same (step_text x) debug_line (map step_text xs ++ debug_line ∷ us) vs e).0)
same_debug (x ∷ xs) (y ∷ ys) us vs e =
    let later = same_debug xs ys us vs (heads_same (step_text x) (step_text y) (map step_text xs ++ debug_line ∷ us) (map step_text ys ++ debug_line ∷ vs) e).1 in
    (ap suc later.0, later.1)

-- the line after some steps is that one, or one step more
step_or_debug : (xs ys : List Step) (line : List ℕ) (more us : List (List ℕ)) → map step_text xs ++ line ∷ more ≡ map step_text ys ++ debug_line ∷ us
    → (line ≡ debug_line) ⊎ ((others : List (List ℕ)) × (map step_text xs ++ line ∷ others ≡ map step_text ys))
step_or_debug [] [] line more us e = inl (heads_same line debug_line more us e).0
step_or_debug [] (y ∷ ys) line more us e =
    inr (map step_text ys, ap (λ (l : List ℕ). l ∷ map step_text ys) (heads_same line (step_text y) more (map step_text ys ++ debug_line ∷ us) e).0)
step_or_debug (x ∷ xs) [] line more us e = absurd (no_debug x (heads_same (step_text x) debug_line (map step_text xs ++ line ∷ more) us e).0)
step_or_debug (x ∷ xs) (y ∷ ys) line more us e =
    let same = heads_same (step_text x) (step_text y) (map step_text xs ++ line ∷ more) (map step_text ys ++ debug_line ∷ us) e in
    elim (step_or_debug xs ys line more us same.1) [
      | inl here ↦ inl here
      | inr on ↦ inr (on.0, ap (λ (l : List ℕ). l ∷ (map step_text xs ++ line ∷ on.0)) same.0 ∙ ap (λ (ls : List (List ℕ)). step_text y ∷ ls) on.1)
    ]

-- the lines are those of steps, the line before commands, and commands
pub record BeginsCommands (version : Version) (lines : List (List ℕ)) : Type 0 where
  pub steps : List Step
  pub commands : List Command
  pub same : lines ≡ map step_text steps ++ debug_line ∷ map command_text commands
  pub are_steps : AreSteps version steps
  pub are_commands : AreCommands version commands

abbrev pub BeginsWalk : Version → List (List ℕ) → Type 0
BeginsWalk version lines = BeginsSteps version lines ⊎ BeginsCommands version lines

-- what is at fault after some steps, and after some commands
pub record FaultsAfterBefore (version : Version) (lines : List (List ℕ)) (rest : List ℕ) (fault : Fault) : Type 0 where
  pub begins : BeginsSteps version lines
  pub fault_after : FaultsBeforeCommands version (length begins.steps) rest fault

pub record FaultsAfterCommands (version : Version) (lines : List (List ℕ)) (rest : List ℕ) (fault : Fault) : Type 0 where
  pub begins : BeginsCommands version lines
  pub fault_after : FaultsAtCommand version (length begins.steps + 3) (length begins.commands) rest fault

abbrev pub FaultsInWalk : Version → List (List ℕ) → List ℕ → Fault → Type 0
FaultsInWalk version lines rest fault = FaultsAfterBefore version lines rest fault ⊎ FaultsAfterCommands version lines rest fault

-- the line before commands, or a step, is not at fault before them
before_right : (version : Version) (count : ℕ) (rest : List ℕ) (fault : Fault) → length (first_line rest) ≤ 512 → (IsPastSteps count rest → ⊥) → ((after_line rest ≡ None) → ⊥)
    → (((step : Step) → FitsStepOf version step → first_line rest ≢ step_text step) → first_line rest ≢ debug_line → ⊥) → FaultsBeforeCommands version count rest fault → ⊥
before_right version count rest (TooLong line) short few ended some is = elim is.1 [ inl long ↦ omega (arith, long, short) | inr past ↦ few past ]
before_right version count rest (NotALine line) short few ended some is =
    elim is.3 [ inl none ↦ ended none | inr other ↦ some (λ step fits. other.0 step fits.fits fits.of) other.1 ]
before_right version count rest _ short few ended some is = is

before_once : (version : Version) (count : ℕ) (rest : List ℕ) (a b : Fault) → FaultsBeforeCommands version count rest a → FaultsBeforeCommands version count rest b → a ≡ b
before_once version count rest (TooLong line) (TooLong other) first second = ap TooLong (first.0 ∙ sym second.0)
before_once version count rest (TooLong line) (NotALine other) first second =
    elim first.1 [ inl long ↦ absurd (omega (arith, long, second.1)) | inr past ↦ absurd (second.2 past) ]
before_once version count rest (NotALine line) (TooLong other) first second =
    elim second.1 [ inl long ↦ absurd (omega (arith, long, first.1)) | inr past ↦ absurd (first.2 past) ]
before_once version count rest (NotALine line) (NotALine other) first second = ap NotALine (first.0 ∙ sym second.0)
before_once version count rest (TooLong line) b first second = absurd second
before_once version count rest (NotALine line) b first second = absurd second
before_once version count rest _ b first second = absurd first

-- a step that goes on
step_on : (version : Version) (before : List (List ℕ)) (line rest behind : List ℕ) (fault : Fault) → IsStepAt version before line → first_line rest ≡ line → after_line rest ≡ Some behind → FaultsAfterBefore version before rest fault → ⊥
step_on version before line rest behind fault found is after faults =
    let right = step_right version found.step rest behind found.fits (is ∙ sym found.spelled) after in
    let size : length faults.begins.steps < 4096 = omega (arith, found.few, ap length faults.begins.same, length-map faults.begins.steps step_text) in
    before_right version (length faults.begins.steps) rest fault right.short (λ past. omega (arith, past.most, size)) right.ended
    (λ none other. none found.step found.fits (is ∙ sym found.spelled)) faults.fault_after

debug_on : (version : Version) (before : List (List ℕ)) (rest behind : List ℕ) (fault : Fault) → first_line rest ≡ debug_line → after_line rest ≡ Some behind → FaultsAfterBefore version before rest fault → ⊥
debug_on version before rest behind fault is after faults =
    before_right version (length faults.begins.steps) rest fault (omega (arith, ap length is)) (λ past. past.other is) (some_after rest behind after) (λ none other. other is) faults.fault_after

-- a command that goes on
command_on : (version : Version) (commands : List Command) (before : List (List ℕ)) (line : List ℕ) (more : List (List ℕ)) (number : ℕ) (rest behind : List ℕ) (fault : Fault) → AreCommands version commands → before ++ line ∷ more ≡ map command_text commands
    → first_line rest ≡ line → after_line rest ≡ Some behind → FaultsAtNext number (IsNoCommand version) (length before) rest fault → ⊥
command_on version commands before line more number rest behind fault are same is after faults =
    let found = among command_text commands before line more (sym same) in
    let fits = all_at (FitsCommand version) found.earlier found.this found.later (subst (All (FitsCommand version)) found.parts are.fit) in
    let spelled = is ∙ sym found.spelled in
    let few : length before < 4096 = omega (
      arith,
      are.few,
      ap length found.parts,
      length-append found.earlier (found.this ∷ found.later),
      ap length found.before_this,
      length-map found.earlier command_text,
    ) in
    next_right number (IsNoCommand version) (length before) rest fault (record {
      short = omega (arith, ap length spelled, (short_command version found.this fits).few);
      ended = some_after rest behind after;
      some = λ none. none found.this fits spelled;
    }) few faults

right_walk : (version : Version) (before : List (List ℕ)) (line : List ℕ) (more : List (List ℕ)) (rest behind : List ℕ) (fault : Fault) → BeginsWalk version (before ++ line ∷ more)
    → first_line rest ≡ line → after_line rest ≡ Some behind → FaultsInWalk version before rest fault → ⊥
right_walk version before line more rest behind fault (inl begun) is after (inl faults) =
    step_on version before line rest behind fault (step_at version begun.steps before line more begun.are begun.same) is after faults
right_walk version before line more rest behind fault (inl begun) is after (inr faults) =
    let begins = faults.begins in
    let moved : map step_text begun.steps ≡ map step_text begins.steps ++ debug_line ∷ (map command_text begins.commands ++ line ∷ more) =
    sym begun.same ∙ ap (λ (ls : List (List ℕ)). ls ++ line ∷ more) begins.same ∙ append_assoc (map step_text begins.steps) (debug_line ∷ map command_text begins.commands) (line ∷ more) in
    steps_alone begun.steps begins.steps (map command_text begins.commands ++ line ∷ more) moved
right_walk version before line more rest behind fault (inr begun) is after (inl faults) =
    let begins = faults.begins in
    let moved : map step_text begins.steps ++ line ∷ more ≡ map step_text begun.steps ++ debug_line ∷ map command_text begun.commands =
    ap (λ (ls : List (List ℕ)). ls ++ line ∷ more) (sym begins.same) ∙ begun.same in
    elim (step_or_debug begins.steps begun.steps line more (map command_text begun.commands) moved) [
      | inl here ↦ debug_on version before rest behind fault (is ∙ here) after faults
      | inr on ↦ step_on version before line rest behind fault
          (step_at version begun.steps before line on.0 begun.are_steps (ap (λ (ls : List (List ℕ)). ls ++ line ∷ on.0) begins.same ∙ on.1)) is after faults
    ]
right_walk version before line more rest behind fault (inr begun) is after (inr faults) =
    let begins = faults.begins in
    let moved : map step_text begins.steps ++ debug_line ∷ (map command_text begins.commands ++ line ∷ more) ≡ map step_text begun.steps ++ debug_line ∷ map command_text begun.commands =
    sym (ap (λ (ls : List (List ℕ)). ls ++ line ∷ more) begins.same ∙ append_assoc (map step_text begins.steps) (debug_line ∷ map command_text begins.commands) (line ∷ more)) ∙ begun.same in
    let later = same_debug begins.steps begun.steps (map command_text begins.commands ++ line ∷ more) (map command_text begun.commands) moved in
    command_on version begun.commands (map command_text begins.commands) line more (length begins.steps + 3) rest behind fault begun.are_commands later.1 is after
    (subst (λ (n : ℕ). FaultsAtNext (length begins.steps + 3) (IsNoCommand version) n rest fault) (sym (length-map begins.commands command_text)) faults.fault_after.1)

walk_each : (version : Version) (lines : List (List ℕ)) → BeginsWalk version lines → AreLinesEach lines
walk_each version lines (inl begun) = subst AreLinesEach (sym begun.same) (each_step version begun.steps begun.are)
walk_each version lines (inr begun) =
    let commands = all_each (FitsCommand version) command_text begun.commands (λ command fits. (short_command version command fits).in_line) begun.are_commands.fit in
    subst AreLinesEach (sym begun.same)
    (each_both (map step_text begun.steps) (debug_line ∷ map command_text begun.commands) (each_step version begun.steps begun.are_steps) (refl, commands))

walk_ends : (version : Version) (lines : List (List ℕ)) (fault : Fault) → BeginsCommands version lines → FaultsInWalk version lines [] fault → ⊥
walk_ends version lines fault whole (inl faults) = steps_alone faults.begins.steps whole.steps (map command_text whole.commands) (sym faults.begins.same ∙ whole.same)
walk_ends version lines fault whole (inr faults) = faults.fault_after.0 refl

walk_begun : (version : Version) (lines : List (List ℕ)) (rest : List ℕ) (fault : Fault) → FaultsInWalk version lines rest fault → BeginsWalk version lines
walk_begun version lines rest fault (inl faults) = inl faults.begins
walk_begun version lines rest fault (inr faults) = inr faults.begins

commands_once : (version : Version) (lines : List (List ℕ)) (rest : List ℕ) (a b : Fault) → FaultsAfterCommands version lines rest a → FaultsAfterCommands version lines rest b → a ≡ b
commands_once version lines rest a b first second =
    let same = same_debug second.begins.steps first.begins.steps (map command_text second.begins.commands) (map command_text first.begins.commands) (sym second.begins.same ∙ first.begins.same) in
    let size = same_length command_text second.begins.commands first.begins.commands (map command_text second.begins.commands) refl same.1 in
    next_once (length first.begins.steps + 3) (IsNoCommand version) (length first.begins.commands) rest a b first.fault_after.1
    (subst (λ (n : ℕ). FaultsAtNext (length first.begins.steps + 3) (IsNoCommand version) n rest b) size
    (subst (λ (n : ℕ). FaultsAtNext (n + 3) (IsNoCommand version) (length second.begins.commands) rest b) same.0 second.fault_after.1))

walk_once : (version : Version) (lines : List (List ℕ)) (rest : List ℕ) (a b : Fault) → FaultsInWalk version lines rest a → FaultsInWalk version lines rest b → a ≡ b
walk_once version lines rest a b (inl first) (inl second) =
    let size = same_length step_text second.begins.steps first.begins.steps lines second.begins.same first.begins.same in
    before_once version (length first.begins.steps) rest a b first.fault_after (subst (λ (n : ℕ). FaultsBeforeCommands version n rest b) size second.fault_after)
walk_once version lines rest a b (inl first) (inr second) = absurd (steps_alone first.begins.steps second.begins.steps (map command_text second.begins.commands) (sym first.begins.same ∙ second.begins.same))
walk_once version lines rest a b (inr first) (inl second) = absurd (steps_alone second.begins.steps first.begins.steps (map command_text first.begins.commands) (sym second.begins.same ∙ first.begins.same))
walk_once version lines rest a b (inr first) (inr second) = commands_once version lines rest a b first second

pub walk_grammar : (version : Version) → IsGrammar (BeginsWalk version) (BeginsCommands version) (FaultsInWalk version)
walk_grammar version = record {
  whole_begun = λ lines whole. inr whole;
  fault_begun = walk_begun version;
  each = walk_each version;
  right = right_walk version;
  ends = walk_ends version;
  one = walk_once version;
}

-- what is before some commands, line by line
pub before_lines : (steps : List Step) (commands : List (List ℕ)) (rest : List ℕ) →
    steps_text steps ++ (debug_line ++ 10 ∷ (with_ends commands ++ rest)) ≡ with_ends (map step_text steps ++ debug_line ∷ commands) ++ rest
before_lines steps commands rest =
    ap (λ (t : List ℕ). t ++ (debug_line ++ 10 ∷ (with_ends commands ++ rest))) (spelled_lines step_text steps) ∙ sym (ends_both (map step_text steps) (debug_line ∷ commands) rest)

-- what the definition of such a text says is at fault
pub walk_faulty : (version : Version) (text : List ℕ) (fault : Fault) → FaultsAfterHeader version text fault → IsFaulty (FaultsInWalk version) text fault
walk_faulty version text fault (inl found) = record {
  lines = map step_text found.before;
  rest = found.rest;
  parts = found.parts ∙ ap (λ (t : List ℕ). t ++ found.rest) (spelled_lines step_text found.before);
  next = inl (record { begins = record { steps = found.before; same = refl; are = found.good }; fault_after = found.fault_after });
}
walk_faulty version text fault (inr found) =
    let commands = found.4 in
    record {
      lines = map step_text found.0 ++ debug_line ∷ map command_text commands.before;
      rest = commands.rest;
      parts = found.3
          ∙ ap (λ (t : List ℕ). before_commands found.0 t) (commands.parts ∙ ap (λ (t : List ℕ). t ++ commands.rest) (spelled_lines command_text commands.before))
          ∙ before_lines found.0 (map command_text commands.before) commands.rest;
      next = inr (record {
        begins = record { steps = found.0; commands = commands.before; same = refl; are_steps = found.2; are_commands = commands.good };
        fault_after = commands.fault_after;
      });
    }
