-- A text that is one of a kind is meant to be of that kind.
use Rattle.std.proofs.Common.{◌≡◌, ◌∙◌, Bool, true, false, ◌||◌, ℕ, List, [], ◌∷◌, ◌++◌, All, ap, sym, refl, arith, append_assoc, append-nil}
use Rattle.std.specs.Fmt.{decimal}
use Rattle.std.specs.Str.{bytes_eq}
use Rattle.tx_base.specs.declared.steps.Step.{Step}
use Rattle.tx_check.proofs.EndedLines.{after_ended, first_ended}
use Rattle.tx_check.proofs.Growing.{all_after}
use Rattle.tx_check.proofs.ShortLines.{short_header, short_step}
use Rattle.tx_check.proofs.SoFar.{debug_later, not_debug}
use Rattle.tx_check.proofs.WalkedTexts.{no_debug}
use Rattle.tx_check.specs.Kinds.{debug_ahead, has_debug, is_program_head, kind_of}
use Rattle.tx_check.specs.Reads.{IsRead}
use Rattle.tx_check.specs.Diagnostics.{IsInLine}
use Rattle.tx_check.specs.declared.kinds.Kind.{Kind}
use Rattle.tx_check.specs.declared.kinds.Kind.TheVariants as kinds
use Rattle.tx_lines.specs.Lines.{header_front, header_text, step_text}
use Rattle.tx_lines.specs.Programs.{line_text}
use Rattle.tx_lines.specs.Schedule.{first_line, lines_of, steps_text, FitsStepOf, SpellsHeader}
use Rattle.tx_lines.specs.Walks.{before_commands, command_text, debug_line}
use Rattle.tx_lines.specs.declared.read.header.Header.{Header}
use Rattle.tx_lines.specs.declared.read.header.TextKind.{TextKind}
use Rattle.tx_lines.specs.declared.read.header.TextKind.TheVariants as texts
use Rattle.tx_lines.specs.declared.read.header.Version.{Version}
use Rattle.tx_lines.specs.declared.read.header.Version.TheVariants.{One, Two}

-- the line before commands, after a line
ahead_line : (line rest : List ℕ) → IsInLine line → debug_ahead (line ++ 10 ∷ rest) ≡ (bytes_eq line debug_line || debug_ahead rest)
ahead_line line rest in_line =
    ap (λ (first : List ℕ). bytes_eq first debug_line || has_debug (line ++ 10 ∷ rest)) (first_ended line rest in_line)
    ∙ ap (λ (later : Bool). bytes_eq line debug_line || later) (debug_later (line ++ 10 ∷ rest) rest (after_ended line rest in_line))

-- no step is that one
ahead_steps : (version : Version) (steps : List Step) (rest : List ℕ) → All (FitsStepOf version) steps → debug_ahead (steps_text steps ++ rest) ≡ debug_ahead rest
ahead_steps version [] rest fit = refl
ahead_steps version (step ∷ steps) rest fit =
    let fits = fit 0 step (omega arith) in
    ap debug_ahead (append_assoc (step_text step) (10 ∷ steps_text steps) rest)
    ∙ ahead_line (step_text step) (steps_text steps ++ rest) (short_step step fits.fits).in_line
    ∙ ap (λ (here : Bool). here || debug_ahead (steps_text steps ++ rest)) (not_debug (step_text step) (no_debug step))
    ∙ ahead_steps version steps rest (all_after (FitsStepOf version) step steps fit)

-- the first line separates programs from schedules
head_of_schedule : (version : Version) (count : ℕ) → is_program_head (header_front texts.Schedule version ++ decimal count) ≡ false
head_of_schedule One count = refl
head_of_schedule Two count = refl

head_of_program : (version : Version) (count : ℕ) → is_program_head (header_front texts.Program version ++ decimal count) ≡ true
head_of_program One count = refl
head_of_program Two count = refl

first_of : (kind : TextKind) (text rest : List ℕ) (header : Header) → SpellsHeader kind text header rest → first_line text ≡ header_text kind header
first_of kind text rest header spells =
    ap first_line spells.spelled ∙ first_ended (header_text kind header) rest (short_header kind header spells.fits).in_line

later_of : (kind : TextKind) (text rest : List ℕ) (header : Header) → SpellsHeader kind text header rest → has_debug text ≡ debug_ahead rest
later_of kind text rest header spells =
    ap has_debug spells.spelled
    ∙ debug_later (header_text kind header ++ 10 ∷ rest) rest (after_ended (header_text kind header) rest (short_header kind header spells.fits).in_line)

schedule_kind : (text rest : List ℕ) (header : Header) → SpellsHeader texts.Schedule text header rest → debug_ahead rest ≡ false → kind_of text ≡ kinds.Schedule
schedule_kind text rest header spells none =
    let head = ap is_program_head (first_of texts.Schedule text rest header spells) ∙ head_of_schedule header.version header.count in
    let later = later_of texts.Schedule text rest header spells ∙ none in
    rw (head, later) refl

walk_kind : (text rest : List ℕ) (header : Header) → SpellsHeader texts.Schedule text header rest → debug_ahead rest ≡ true → kind_of text ≡ kinds.Walk
walk_kind text rest header spells some =
    let head = ap is_program_head (first_of texts.Schedule text rest header spells) ∙ head_of_schedule header.version header.count in
    let later = later_of texts.Schedule text rest header spells ∙ some in
    rw (head, later) refl

program_kind : (text rest : List ℕ) (header : Header) → SpellsHeader texts.Program text header rest → kind_of text ≡ kinds.Program
program_kind text rest header spells =
    let head = ap is_program_head (first_of texts.Program text rest header spells) ∙ head_of_program header.version header.count in
    rw head refl

pub own_kind : (kind : Kind) (text : List ℕ) → IsRead kind text → kind ≡ kind_of text
own_kind kinds.Schedule text (schedule, is) =
    let steps = schedule.steps.items in
    sym (schedule_kind text (steps_text steps) schedule.header (record { spelled = is.0; fits = is.1.header_fits })
    (ap debug_ahead (sym (append-nil (steps_text steps))) ∙ ahead_steps schedule.header.version steps [] is.1.steps_fit.fit))
own_kind kinds.Walk text (walk, is) =
    let header = walk.schedule.header in
    let steps = walk.schedule.steps.items in
    let commands = lines_of command_text walk.commands.items in
    sym (walk_kind text (before_commands steps commands) header (record { spelled = is.0; fits = is.1.schedule_fits.header_fits })
    (ahead_steps header.version steps (debug_line ++ 10 ∷ commands) is.1.schedule_fits.steps_fit.fit ∙ ahead_line debug_line commands refl))
own_kind kinds.Program text (program, (lines, is, spelled)) =
    sym (program_kind text (lines_of line_text lines) program.header (record { spelled = spelled; fits = is.header_fits }))
