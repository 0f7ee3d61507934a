-- What a session is asked for by lines that are no steps, how that is spelled, what the lines are
-- answered, and how that moves the session.
use Rattle.std.specs.Fmt.{decimal}
use Rattle.std.specs.Prelude.{◌≢◌, ℕ, ◌<◌, ◌≤◌, ◌^◌, Bool, List, ◌∷◌, ◌++◌, codes, false, true, ◌≡◌, ◌⊎◌, Option, None, Some, IsTrue, if◌then◌else◌, length, nat_eq, option_map, string_bytes}
use Rattle.tx_base.specs.Slots.{with_slot}
use Rattle.tx_base.specs.declared.steps.Accepted.{Accepted}
use Rattle.tx_base.specs.declared.steps.Reply.{Reply}
use Rattle.tx_base.specs.declared.steps.Step.{Step}
use Rattle.tx_explain.specs.Topics.{is_page}
use Rattle.tx_journal.specs.Sessions.{IsBetween}
use Rattle.tx_journal.specs.Trials.{view_with}
use Rattle.tx_lines.specs.Lines.{step_text, FitsStep, IsOf}
use Rattle.tx_lines.specs.Schedule.{IsNoStep}
use Rattle.tx_lines.specs.Walks.{command_text, FitsCommand}
use Rattle.tx_lines.specs.declared.read.command.Command.TheVariants as commands
use Rattle.tx_lines.specs.declared.read.command.Command.{Command}
use Rattle.tx_model.specs.Answer.{answer}
use Rattle.tx_model.specs.Schedules.{history_with}
use Rattle.tx_model.specs.State.{State, is_between}
use Rattle.tx_model.specs.View.{present, view}
use Rattle.tx_translate.specs.Names.{is_name}
use Rattle.tx_translate.specs.Written.{NameAt}
use Rattle.tx_script.specs.Debug.{command_response, first_steps, position_after, responded_in, Responded}
use Rattle.tx_shell.specs.Attempts.{attempt_of, awaited_child}
use Rattle.tx_shell.specs.Changes.{shown_at, FindsLast, FindsNext}
use Rattle.tx_shell.specs.Comparisons.{compared_at, differing_between, IsAmong}
use Rattle.tx_shell.specs.Differences.{differing_without, views_differing}
use Rattle.tx_shell.specs.Forms.{SaysAhead, SaysAnswer, SaysReply, ReportsIn}
use Rattle.tx_shell.specs.Held.{desc_held, held_desc, held_pipe, pipe_held, HeldDesc, HeldPipe}
use Rattle.tx_shell.specs.Names.{forked, maker, names_at, names_by}
use Rattle.tx_shell.specs.Origins.{start_in, grammar_of, Origin}
use Rattle.tx_shell.specs.Pieces.{piece_name, FitsPiece}
use Rattle.tx_shell.specs.Places.{Place}
use Rattle.tx_shell.specs.Reasons.{HelpsOn}
use Rattle.tx_shell.specs.declared.answers.answer.Answer.TheVariants as answers
use Rattle.tx_shell.specs.declared.answers.answer.Answer.{Answer}
use Rattle.tx_script.specs.declared.forms.Form.{Form}
use Rattle.tx_shell.specs.declared.lines.asks.Ask.TheVariants as asks
use Rattle.tx_shell.specs.declared.lines.asks.Ask.{Ask}
use Rattle.tx_shell.specs.declared.lines.versions.TextVersion.{TextVersion}
use Rattle.tx_shell.specs.declared.lines.versions.TextVersion.TheVariants.{Three}
use Rattle.tx_shell.specs.declared.questions.changes.Change.{Change}

-- the spelling, without the line's end
abbrev pub ask_text : Ask → List ℕ
ask_text (asks.Walk command) = command_text command
ask_text asks.GotoEnd = codes "goto end"
ask_text asks.Steps = codes "steps"
ask_text (asks.StepsFrom first) = codes "steps " ++ decimal first
ask_text (asks.StepsBetween first last) = codes "steps " ++ (decimal first ++ 32 ∷ decimal last)
ask_text asks.Text = codes "text"
ask_text (asks.Try step) = codes "try " ++ step_text step
ask_text (asks.When piece) = codes "when " ++ piece_name piece
ask_text (asks.Next piece) = codes "next " ++ piece_name piece
ask_text (asks.Diff from to) = codes "diff " ++ (decimal from ++ 32 ∷ decimal to)
ask_text (asks.Without starter) = codes "without " ++ decimal starter
ask_text (asks.Why step) = codes "why " ++ step_text step
ask_text asks.WhyRefused = codes "why"
ask_text asks.Owns = codes "owns"
ask_text (asks.OwnsOf starter) = codes "owns " ++ decimal starter
ask_text (asks.HoldsPipe number) = codes "holds pipe " ++ decimal number.0
ask_text (asks.HoldsDesc number) = codes "holds desc " ++ decimal number.0
ask_text (asks.Name process name) = codes "name " ++ (decimal process.0 ++ 32 ∷ name.now)
ask_text asks.Cut = codes "cut"
ask_text asks.Help = codes "help"
ask_text (asks.HelpOn word) = codes "help " ++ word.now

-- it is one of that version, and its numbers ones that a line can hold
abbrev pub FitsAsk : TextVersion → Ask → Type 0
FitsAsk version (asks.Walk command) = FitsCommand (grammar_of version) command
FitsAsk version (asks.StepsFrom first) = first < 2 ^ 63
FitsAsk version (asks.StepsBetween first last) = (first < 2 ^ 63) × (last < 2 ^ 63)
FitsAsk version (asks.Try step) = FitsStep step × IsOf (grammar_of version) step
FitsAsk version (asks.When piece) = FitsPiece piece
FitsAsk version (asks.Next piece) = FitsPiece piece
FitsAsk version (asks.Diff from to) = (from < 2 ^ 63) × (to < 2 ^ 63)
FitsAsk version (asks.Without starter) = starter < 2 ^ 16
FitsAsk version (asks.Why step) = FitsStep step × IsOf (grammar_of version) step
FitsAsk version (asks.OwnsOf starter) = starter < 2 ^ 16
FitsAsk version (asks.HoldsPipe number) = number.0 < 2 ^ 8
FitsAsk version (asks.HoldsDesc number) = number.0 < 2 ^ 8
FitsAsk version (asks.Name process name) =
    (version ≡ Three) × ((1 ≤ process.0) × (process.0 ≤ 256)) × (is_name name.now ≡ true)
FitsAsk version ask = Unit {0}

-- a line that is spelled so asks for nothing
abbrev pub IsNoAsk : TextVersion → List ℕ → Type 0
IsNoAsk version line = (ask : Ask) → FitsAsk version ask → line ≢ ask_text ask

-- it is one of those that are a word or two, and have no number
abbrev pub IsOfWords : Ask → Type 0
IsOfWords asks.GotoEnd = Unit {0}
IsOfWords asks.Steps = Unit {0}
IsOfWords asks.Text = Unit {0}
IsOfWords asks.WhyRefused = Unit {0}
IsOfWords asks.Owns = Unit {0}
IsOfWords asks.Cut = Unit {0}
IsOfWords asks.Help = Unit {0}
IsOfWords ask = ⊥

-- it is one of those that have numbers after their first word
abbrev pub IsOfNumbers : Ask → Type 0
IsOfNumbers (asks.StepsFrom first) = Unit {0}
IsOfNumbers (asks.StepsBetween first last) = Unit {0}
IsOfNumbers (asks.Diff from to) = Unit {0}
IsOfNumbers (asks.Without starter) = Unit {0}
IsOfNumbers (asks.OwnsOf starter) = Unit {0}
IsOfNumbers (asks.HoldsPipe number) = Unit {0}
IsOfNumbers (asks.HoldsDesc number) = Unit {0}
IsOfNumbers ask = ⊥

-- it is one that gives a name to a process
abbrev pub IsOfName : Ask → Type 0
IsOfName (asks.Name process name) = Unit {0}
IsOfName ask = ⊥

-- steps must be dropped
abbrev pub lets_go : Ask → Bool
lets_go asks.Cut = true
lets_go ask = false

-- at the end a step is made: its reply is reported, and it is recorded where it was accepted
pub record MakesStep (form : Form) (start : State) (p : Place) (step : Step) (text : List ℕ)
    (q : Place) : Type 0 where
  pub at_end : p.at ≡ length p.history
  pub report : SaysReply form (length q.history) (answer (view start p.history) step) text
  pub recorded : q.history ≡ history_with p.history step (answer (view start p.history) step)
  pub after : q.at ≡ length q.history

-- it is made nowhere else
pub record LeavesStep (form : Form) (p : Place) (text : List ℕ) (q : Place) : Type 0 where
  pub inside : p.at < length p.history
  pub report : SaysAhead form text
  pub stays : q ≡ p

abbrev pub AnswersStep : Form → State → Place → Step → List ℕ → Place → Type 0
AnswersStep form start p step text q = MakesStep form start p step text q ⊎ LeavesStep form p text q

-- the debugger responds that
abbrev pub IsWalked : Responded → Answer → Type 0
IsWalked responded (answers.Walked response) = responded_in response ≡ responded
IsWalked responded other = ⊥

-- a command of the debugger responds as in a text for it, and leads to the same position
pub record Walks (start : State) (p : Place) (command : Command) (found : Answer) (q : Place)
    : Type 0 where
  pub report : IsWalked (command_response start p.history p.at command) found
  pub at : q.at ≡ position_after p.history p.at command

-- a step would get that reply, and the state after it would differ by those lines
abbrev pub IsTrial : Reply → List ℕ → Answer → Type 0
IsTrial reply lines (answers.Trial replied differences) =
    (replied ≡ reply) × (string_bytes differences ≡ lines)
IsTrial reply lines other = ⊥

-- the state would differ by those lines without the transaction of s
abbrev pub IsWithout : ℕ → Option (List ℕ) → Answer → Type 0
IsWithout s lines (answers.Without starter differences) =
    (starter ≡ s) × (option_map string_bytes differences ≡ lines)
IsWithout s lines other = ⊥

-- the state after so many steps differs by those lines from that after so many others, where both
-- are there
abbrev pub IsDiff : ℕ → ℕ → Option (List ℕ) → Answer → Type 0
IsDiff from to lines (answers.Diff one other differences) =
    (one ≡ from) × (other ≡ to) × (option_map string_bytes differences ≡ lines)
IsDiff from to lines other = ⊥

-- who has a pipe open, or a description, where it is there
abbrev pub IsPipeHeld : Option HeldPipe → Answer → Type 0
IsPipeHeld held (answers.PipeHolders found) = option_map pipe_held found ≡ held
IsPipeHeld held other = ⊥

abbrev pub IsDescHeld : Option HeldDesc → Answer → Type 0
IsDescHeld held (answers.DescHolders found) = option_map desc_held found ≡ held
IsDescHeld held other = ⊥

-- a page of help that says that
abbrev pub IsPage : (List ℕ → Type 0) → Answer → Type 0
IsPage says (answers.Page page) = says page.now
IsPage says other = ⊥

module _ (start : State) (h : List Accepted) (own : List (Option Step)) where
  -- why a step would be refused, and the last refused step of the child that it waits for
  abbrev pub why : Step → Answer
  why step =
      let V = view start h in
      let reply = answer V step in
      answers.Why step reply (attempt_of V own (awaited_child step reply))

  -- why the step would be refused that was refused last, or that none was
  abbrev pub last_why : Option Step → Answer
  last_why None = answers.NothingRefused
  last_why (Some step) = why step

  -- the answer to what is asked for after the history h, where those steps were refused, and the
  -- place to which that leads. A cut drops no step yet
  abbrev pub IsAnswer : Place → Option Step → Ask → Answer → Place → Type 0
  IsAnswer p refused (asks.Walk command) found q = Walks start p command found q
  IsAnswer p refused asks.GotoEnd found q = Walks start p (commands.Goto (length p.history)) found q
  IsAnswer p refused asks.Steps found q = (found ≡ answers.Steps 1 (length p.history)) × (q ≡ p)
  IsAnswer p refused (asks.StepsFrom first) found q =
      (found ≡ answers.Steps first (length p.history)) × (q ≡ p)
  IsAnswer p refused (asks.StepsBetween first last) found q =
      (found ≡ answers.Steps first last) × (q ≡ p)
  IsAnswer p refused asks.Text found q = (found ≡ answers.Schedule) × (q ≡ p)
  IsAnswer p refused (asks.Try step) found q =
      IsTrial (answer (view start h) step) (views_differing (view start h) (view_with start h step))
      found
      × (q ≡ p)
  IsAnswer p refused (asks.When piece) found q =
      (change : Option Change)
      × (found ≡ answers.Change change)
      × FindsLast (shown_at start p.history piece) p change q
  IsAnswer p refused (asks.Next piece) found q =
      (change : Option Change)
      × (found ≡ answers.Change change)
      × FindsNext (shown_at start p.history piece) p change q
  IsAnswer p refused (asks.Diff from to) found q =
      IsDiff from to (differing_between start p.history from to) found × (q ≡ p)
  IsAnswer p refused (asks.Without starter) found q =
      IsWithout starter (differing_without start h starter) found × (q ≡ p)
  IsAnswer p refused (asks.Why step) found q = (found ≡ why step) × (q ≡ p)
  IsAnswer p refused asks.WhyRefused found q = (found ≡ last_why refused) × (q ≡ p)
  IsAnswer p refused asks.Owns found q = (found ≡ answers.Owners) × (q ≡ p)
  IsAnswer p refused (asks.OwnsOf starter) found q = (found ≡ answers.OwnersOf starter) × (q ≡ p)
  IsAnswer p refused (asks.HoldsPipe number) found q =
      IsPipeHeld (held_pipe (present (view start h)) number.0) found × (q ≡ p)
  IsAnswer p refused (asks.HoldsDesc number) found q =
      IsDescHeld (held_desc (present (view start h)) number.0) found × (q ≡ p)
  IsAnswer p refused (asks.Name process name) found q = (found ≡ answers.Position) × (q ≡ p)
  IsAnswer p refused asks.Cut found q = (found ≡ answers.Position) × (q ≡ p)
  IsAnswer p refused asks.Help found q = IsPage (λ page. IsTrue (is_page page)) found × (q ≡ p)
  IsAnswer p refused (asks.HelpOn word) found q = IsPage (HelpsOn word.now) found × (q ≡ p)

-- a cut drops the steps after the position
abbrev pub left_by : Bool → Place → Place
left_by goes p = if goes then record { history = first_steps p.at p.history; at = p.at } else p

-- what is kept beside the steps: which of them was refused last, of each process its last step
-- where that was refused, and the names that were given to processes
pub record Kept : Type 0 where
  pub refused : Option Step
  pub own : List (Option Step)
  pub names : List NameAt

-- what is asked for is done, and its answer is printed where it led, with the names of processes
-- there, before steps are dropped and names are kept
pub record AnswersAskIn (form : Form) (o : Origin) (p : Place) (before : Kept) (ask : Ask)
    (text : List ℕ) (q : Place) (later : Kept) : Type 0 where
  pub found : Answer
  pub there : Place
  pub is :
      IsAnswer (start_in o) (first_steps p.at p.history) before.own p before.refused ask found there
  pub kept : there.history ≡ p.history
  pub says :
      SaysAnswer form o (names_at o.count there before.names) (first_steps there.at there.history)
      there found text
  pub after : q ≡ left_by (lets_go ask) there
  pub names : later ≡ record before { names = names_by ask there.at before.names }

-- what a line means is a step
pub record IsStepLine (o : Origin) (words : List ℕ) (step : Step) : Type 0 where
  pub fits : FitsStep step
  pub of : IsOf (grammar_of o.version) step
  pub spelled : words ≡ step_text step

-- it is no step, and asks for that
pub record IsAskLine (o : Origin) (words : List ℕ) (ask : Ask) : Type 0 where
  pub no_step : IsNoStep (grammar_of o.version) words
  pub fits : FitsAsk o.version ask
  pub spelled : words ≡ ask_text ask

-- it is neither: what is wrong with the line is reported, and nothing changes
pub record AnswersNeither (form : Form) (o : Origin) (p : Place) (line words text : List ℕ)
    (q : Place) : Type 0 where
  pub no_step : IsNoStep (grammar_of o.version) words
  pub no_ask : IsNoAsk o.version words
  pub reports : ReportsIn form line text
  pub stays : q ≡ p

-- the last steps of all processes, once it is known which one process has, where there is one of
-- that number
abbrev pub own_with : Option ℕ → Option Step → List (Option Step) → List (Option Step)
own_with None last own = own
own_with (Some q) last own = if is_between (length own) q then with_slot own q last else own

-- what is kept once a step was refused, and once one was accepted: a process that it forks has made
-- no step
abbrev pub kept_refused : Step → Kept → Kept
kept_refused step before =
    record before { refused = Some step; own = own_with (maker step) (Some step) before.own }

abbrev pub kept_accepted : Step → Kept → Kept
kept_accepted step before =
    record before { own = own_with (forked step) None (own_with (maker step) None before.own) }

-- what is kept after a step that had to be made, and was refused where it led nowhere; any other
-- changes nothing
abbrev pub kept_by : Place → Step → Place → Kept → Kept
kept_by p step q before =
    if nat_eq p.at (length p.history)
    then (if nat_eq (length q.history) (length p.history)
    then kept_refused step before
    else kept_accepted step before) else before

-- a line that means those words is a step, or else asks for something, or else is neither, and is
-- answered as such. What was kept before it leads to what is kept after it
abbrev pub AnswersWords : Form → Origin → Place → Kept → List ℕ → List ℕ → List ℕ → Place → Kept
    → Type 0
AnswersWords form o p before line words text q after =
    ((step : Step)
    × IsStepLine o words step
    × AnswersStep form (start_in o) p step text q
    × (after ≡ kept_by p step q before))
    ⊎ (((ask : Ask) × IsAskLine o words ask × AnswersAskIn form o p before ask text q after)
    ⊎ (AnswersNeither form o p line words text q × (after ≡ before)))

-- the furthest position to which what is asked for leads
abbrev pub position_asked : Place → Ask → ℕ
position_asked p (asks.Walk command) = position_after p.history p.at command
position_asked p asks.GotoEnd = position_after p.history p.at (commands.Goto (length p.history))
position_asked p (asks.When piece) = 0
position_asked p (asks.Next piece) = length p.history
position_asked p ask = p.at

-- the position may stop on the way to what is asked for: it is between the old one and that one,
-- or, where two are compared, among the old one and both
abbrev pub IsOnWay : Place → Ask → ℕ → Type 0
IsOnWay p (asks.Diff from to) at =
    IsAmong p.at (compared_at p.history from to p.at from) (compared_at p.history from to p.at to)
    at
IsOnWay p ask at = IsBetween p.at at (position_asked p ask)

-- no step came or went, and the position is on that way
pub record StopsShort (p : Place) (ask : Ask) (q : Place) : Type 0 where
  pub history : q.history ≡ p.history
  pub between : IsOnWay p ask q.at

-- nothing changed but perhaps the position, where the line asks for another one
abbrev pub StopsShortOf : Origin → Place → List ℕ → Place → Type 0
StopsShortOf o p words q = (q ≡ p) ⊎ ((ask : Ask) × IsAskLine o words ask × StopsShort p ask q)
