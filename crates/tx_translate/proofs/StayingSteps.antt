-- The lines of schedules and of commands mean themselves.
use Rattle.std.proofs.Common.{◌≡◌, ℕ, List, [], ◌∷◌, ◌++◌, codes, map, refl, ap, sym, ◌∙◌, arith, append_assoc, subst}
use Rattle.std.proofs.lemmas.List.{append-nil}
use Rattle.std.specs.Fmt.{decimal}
use Rattle.std.specs.List.{All}
use Rattle.tx_base.specs.declared.steps.Step.{Step}
use Rattle.tx_base.specs.declared.steps.Step.TheVariants as steps
use Rattle.tx_lines.specs.Arguments.{word_of}
use Rattle.tx_lines.specs.Calls.{arguments_of, name_of}
use Rattle.tx_lines.specs.Lines.{step_text, FitsStep}
use Rattle.tx_lines.specs.Schedule.{lines_of, FitsStepOf}
use Rattle.tx_lines.specs.Walks.{before_commands, command_text, debug_line, FitsCommand}
use Rattle.tx_lines.specs.declared.read.command.Command.{Command}
use Rattle.tx_lines.specs.declared.read.command.Command.TheVariants.{Back, Forward, Goto, State, Moved}
use Rattle.tx_lines.specs.declared.read.header.TextKind.TheVariants.{Schedule}
use Rattle.tx_lines.specs.declared.read.header.Version.TheVariants.{Two}
use Rattle.tx_translate.specs.Laws.{ScheduleStays, StepsStay, WalkStays, Means, second, third_header}
use Rattle.tx_lines.specs.Lines.{header_text}
use Rattle.tx_translate.proofs.BareLines.{first_whole, joined_spaced, no_return}
use Rattle.tx_translate.proofs.Bytes.{bare, bare_decimal, low_decimal}
use Rattle.tx_translate.proofs.NamingWords.{decimal_unnamed, other_unnamed}
use Rattle.tx_translate.proofs.StayingLines.{all_stay, ended_by, line_means, lines_mapped, stays_within, text_means, AllStay, StaysIn}
use Rattle.tx_translate.proofs.StayingWords.{call_bare, call_stays}
use Rattle.tx_translate.proofs.Unnamed.{low_signal}

unfoldable pub step_stays : (step : Step) → FitsStep step → StaysIn Schedule (step_text step)
step_stays (steps.Call pid call) fits =
    let words = map word_of (arguments_of call) in
    let are = call_bare call fits.1 in
    record {
      first = decimal pid.0;
      others = name_of call ∷ words;
      spelled = ap (λ (t : List ℕ). decimal pid.0 ++ 32 ∷ t) (joined_spaced (name_of call) words);
      first_bare = bare_decimal pid.0 (omega (arith, fits.0));
      others_bare = (are.0, are.1);
      stay = ap (λ (ws : List (List ℕ)). name_of call ∷ ws) (call_stays call fits.1);
      unnamed = other_unnamed (decimal pid.0) (name_of call ∷ words) (decimal_unnamed pid.0 (omega (arith, fits.0)));
    }
step_stays (steps.Deliver pid signo) fits =
    record {
      first = decimal pid.0;
      others = codes "deliver" ∷ decimal signo.0 ∷ [];
      spelled = ap (λ (t : List ℕ). decimal pid.0 ++ 32 ∷ (codes "deliver " ++ t)) (sym (append-nil (decimal signo.0)));
      first_bare = bare_decimal pid.0 (omega (arith, fits.0));
      others_bare = (bare (codes "deliver") refl, (bare_decimal signo.0 (omega (arith, fits.1)), tt));
      stay = ap (λ (word : List ℕ). codes "deliver" ∷ word ∷ []) (low_signal (decimal signo.0) (low_decimal signo.0 (omega (arith, fits.1))));
      unnamed = other_unnamed (decimal pid.0) (codes "deliver" ∷ decimal signo.0 ∷ []) (decimal_unnamed pid.0 (omega (arith, fits.0)));
    }
step_stays (steps.KernelAbort starter) fits =
    record {
      first = codes "kernel";
      others = decimal starter.0 ∷ [];
      spelled = ap (λ (t : List ℕ). codes "kernel" ++ 32 ∷ t) (sym (append-nil (decimal starter.0)));
      first_bare = bare (codes "kernel") refl;
      others_bare = (bare_decimal starter.0 (omega (arith, fits)), tt);
      stay = refl;
      unnamed = refl;
    }

command_stays : (command : Command) → FitsCommand Two command → StaysIn Schedule (command_text command)
command_stays Back fits = record { first = codes "back"; others = []; spelled = refl; first_bare = bare (codes "back") refl; others_bare = tt; stay = refl; unnamed = refl }
command_stays Forward fits = record { first = codes "forward"; others = []; spelled = refl; first_bare = bare (codes "forward") refl; others_bare = tt; stay = refl; unnamed = refl }
command_stays State fits = record { first = codes "state"; others = []; spelled = refl; first_bare = bare (codes "state") refl; others_bare = tt; stay = refl; unnamed = refl }
command_stays (Goto position) fits =
    record {
      first = codes "goto";
      others = decimal position ∷ [];
      spelled = ap (λ (t : List ℕ). codes "goto " ++ t) (sym (append-nil (decimal position)));
      first_bare = bare (codes "goto") refl;
      others_bare = (bare_decimal position (omega (arith, fits)), tt);
      stay = refl;
      unnamed = refl;
    }
command_stays (Moved number) fits =
    record {
      first = codes "moved";
      others = decimal number ∷ [];
      spelled = ap (λ (t : List ℕ). codes "moved " ++ t) (sym (append-nil (decimal number)));
      first_bare = bare (codes "moved") refl;
      others_bare = (bare_decimal number (omega (arith, fits.1)), tt);
      stay = refl;
      unnamed = refl;
    }

debug_stays : StaysIn Schedule debug_line
debug_stays = record { first = debug_line; others = []; spelled = refl; first_bare = bare debug_line refl; others_bare = tt; stay = refl; unnamed = refl }

steps_stay : (taken : List Step) → All (FitsStepOf Two) taken → AllStay Schedule (map step_text taken)
steps_stay taken fit = all_stay Schedule step_text (FitsStepOf Two) (λ step is. step_stays step is.fits) taken fit

commands_stay : (commands : List Command) → All (FitsCommand Two) commands → AllStay Schedule (map command_text commands)
commands_stay commands fit = all_stay Schedule command_text (FitsCommand Two) command_stays commands fit

pub each_stays : StepsStay
each_stays step fits =
    let stays = step_stays step fits in
    let within = stays_within Schedule (step_text step) stays in
    record {
      one = first_whole (step_text step) within;
      means = rw (no_return (step_text step) within) (line_means Schedule (step_text step) stays);
    }

pub schedule_stays : ScheduleStays
schedule_stays count taken small fit =
    let P : List ℕ → Type 0 = λ t. Means (third_header Schedule count ++ 10 ∷ t) (header_text Schedule (second count) ++ 10 ∷ t) in
    subst P (sym (lines_mapped step_text taken)) (text_means Schedule count (map step_text taken) small (steps_stay taken fit))

both_stay : (before after : List (List ℕ)) → AllStay Schedule before → AllStay Schedule after → AllStay Schedule (before ++ after)
both_stay [] after a b = b
both_stay (line ∷ before) after a b = (a.0, both_stay before after a.1 b)

lines_append : (before after : List (List ℕ)) → ended_by (before ++ after) ≡ ended_by before ++ ended_by after
lines_append [] after = refl
lines_append (line ∷ before) after = ap (λ (t : List ℕ). line ++ 10 ∷ t) (lines_append before after) ∙ sym (append_assoc line (10 ∷ ended_by before) (ended_by after))

walk_spelled : (taken : List Step) (commands : List Command) →
    before_commands taken (lines_of command_text commands) ≡ ended_by (map step_text taken ++ debug_line ∷ map command_text commands)
walk_spelled taken commands =
    ap (λ (t : List ℕ). t ++ (debug_line ++ 10 ∷ lines_of command_text commands)) (lines_mapped step_text taken)
    ∙ ap (λ (t : List ℕ). ended_by (map step_text taken) ++ (debug_line ++ 10 ∷ t)) (lines_mapped command_text commands)
    ∙ sym (lines_append (map step_text taken) (debug_line ∷ map command_text commands))

pub walk_stays : WalkStays
walk_stays count taken commands small fit fit_commands =
    let P : List ℕ → Type 0 = λ t. Means (third_header Schedule count ++ 10 ∷ t) (header_text Schedule (second count) ++ 10 ∷ t) in
    subst P (sym (walk_spelled taken commands))
    (text_means Schedule count (map step_text taken ++ debug_line ∷ map command_text commands) small
    (both_stay (map step_text taken) (debug_line ∷ map command_text commands) (steps_stay taken fit) (debug_stays, commands_stay commands fit_commands)))
