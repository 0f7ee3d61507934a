-- What the words of a command line with no fault name.
use Rattle.std.proofs.Common.{◌≡◌, ◌∙◌, ◌⊎◌, ◌++◌, ◌||◌, Bool, true, false, cond, List, [], ◌∷◌, Option, Some, None, ap, arith, codes, inl, inr, map, refl, rules, subst, sym, is_some, option_map}
use Rattle.std.specs.Prelude.{Box, IfSome, find}
use Rattle.std.specs.Box.{box_value}
use Rattle.std.specs.List.{fold, list_all}
use Rattle.std.specs.Str.{bytes_eq}
use Rattle.std.proofs.lemmas.Slice.Eq.{bytes_eq-Decides}
use Rattle.clap.specs.Faults.{check_fault, defaults_fault, entered_fault, fault_of, is_simple_and_free, level_fault, other_fault, settle_fault, turn_fault, walk_fault, word_fault}
use Rattle.clap.specs.Kinds.{HasKind, Kinds, or_else}
use Rattle.clap.specs.declared.error.Error.{Error}
use Rattle.clap.specs.Lexer.{long_of, short_of}
use Rattle.clap.specs.Matches.{subcommand_name_of}
use Rattle.clap.specs.Simple.{App, HasMatchesOf, Shape, app_of, argument_words, built, entered, is_simple, label_of, names_of, rows_at, subcommand_of, subcommand_rows, with_subcommand}
use Rattle.clap.specs.Walk as walks
use Rattle.clap.specs.Walk.{Held, Names, Outcome, Row, Rule, Step, Text, Waiting, Walk, after_flag, after_step, answers_to, arg_by_index, finished, is_empty, long_or_other, nothing_held, plain_word, settled, stop_after, subcommand_met, subcommand_or_other, to_positional, walk, walk_from, walked, word_met}
use Rattle.clap.specs.Built.{AddsSubcommand}
use Rattle.clap.specs.declared.builder.command.Command.TheViews.{out-Command}
use Rattle.clap.specs.declared.builder.command.Command.{Command}
use Rattle.clap.specs.declared.parser.matches.ArgMatches.{ArgMatches}
use Rattle.clap.specs.declared.parser.matches.ArgMatches.TheViews.{out-ArgMatches, out-SubCommand}
use Rattle.clap.specs.declared.parser.matches.SubCommand.{SubCommand}
use Rattle.txos.specs.CommandLine.{command_line, command_names, named, IsOneOf, SomeOneOf}

-- ---- names

before_last : (names : List Text) (last name : Text) → IsOneOf (names ++ last ∷ []) name → IsOneOf names name ⊎ (name ≡ last)
before_last [] last name (inl is) = inr is
before_last [] last name (inr none) = absurd none
before_last (first ∷ rest) last name (inl is) = inl (inl is)
before_last (first ∷ rest) last name (inr under) = elim (before_last rest last name under) [
  | inl own ↦ inl (inr own)
  | inr is ↦ inr is
]

abbrev labels_named : Names → List Text
labels_named = map (λ (label : Text × List Text). label.0)

abbrev name_found : Option (Text × List Text) → Option Text
name_found = option_map (λ (label : Text × List Text). label.0)

-- the name that a word finds is one of the names
found_among : (word found : Text) (labels : Names) → name_found (find (answers_to word) labels) ≡ Some found → IsOneOf (labels_named labels) found
found_among word found [] is = cc
found_among word found (label ∷ rest) is = go (answers_to word label) (found_among word found rest) is
  where
    go : (answers : Bool) → (name_found (find (answers_to word) rest) ≡ Some found → IsOneOf (labels_named rest) found)
        → name_found (cond answers (Some label) (find (answers_to word) rest)) ≡ Some found → IsOneOf (labels_named (label ∷ rest)) found
    go true below is = inl (cc)
    go false below is = inr (below is)

-- a command with no other names answers to its own
answers_as : (word name : Text) (aliases : List Text) → is_empty aliases ≡ true → answers_to word (name, aliases) ≡ true → name ≡ word
answers_as word name [] none answers = (bytes_eq-Decides name word).0 (go (bytes_eq name word) answers)
  where
    go : (same : Bool) → (same || false) ≡ true → same ≡ true
    go true is = refl
    go false is = is
answers_as word name (alias ∷ aliases) none answers = grind arith

abbrev name_entered : Option (Text × List Row) → Option Text
name_entered = option_map (λ (entered : Text × List Row). entered.0)

abbrev answering : Text → List Shape → Option Shape
answering word = find (λ (s : Shape). answers_to word (label_of s))

abbrev entered_at : List Text → Option Shape → Option (Text × List Row)
entered_at words = option_map (λ (s : Shape). rows_at s words)

entered_as : (subs : List Shape) (word : Text) (words : List Text) → list_all (λ (s : Shape). is_empty s.aliases) subs ≡ true
    → is_some (entered_at words (answering word subs)) ≡ true → name_entered (entered_at words (answering word subs)) ≡ Some word
entered_as [] word words none has = cc
entered_as (sub ∷ rest) word words none has =
    let none_here : is_empty sub.aliases ≡ true = grind arith in
    let none_below : list_all (λ (s : Shape). is_empty s.aliases) rest ≡ true = grind arith in
    go (answers_to word (label_of sub)) (answers_as word sub.name sub.aliases none_here) (entered_as rest word words none_below) has
  where
    go : (answers : Bool) → (answers ≡ true → sub.name ≡ word)
        → (is_some (entered_at words (answering word rest)) ≡ true → name_entered (entered_at words (answering word rest)) ≡ Some word)
        → is_some (entered_at words (cond answers (Some sub) (answering word rest))) ≡ true
        → name_entered (entered_at words (cond answers (Some sub) (answering word rest))) ≡ Some word
    go true here below has = ap (λ (t : Text). Some t) (here refl)
    go false here below has = below has

-- ---- the walk

-- a step that passes, and those after it
both_pass : (first rest : Kinds) → or_else first rest ≡ [] → (first ≡ []) × (rest ≡ [])
both_pass [] rest none = (refl, none)
both_pass (kind ∷ kinds) rest none = cc

-- the walk stopped nowhere else than at one of the names
abbrev StopsAt : List Text → Option (Text × List Text) → Type 0
StopsAt known stop = IfSome stop (λ (s : Text × List Text). IsOneOf known s.0)

-- the step enters no other command
abbrev EntersOnly : List Text → Step → Type 0
EntersOnly known (walks.subcommand entered) = IsOneOf known entered
EntersOnly known _ = Unit {0}

-- a word that names no command enters none
plain_enters : (known : List Text) (rules : List Rule) (waiting : Waiting) (word : Text) (h : Held) → EntersOnly known (plain_word rules waiting word h).1
plain_enters known rules walks.idle word h = tt
plain_enters known rules (walks.option id) word h = tt
plain_enters known rules walks.positional word h = tt

flag_enters : (known : List Text) (rules : List Rule) (waiting : Waiting) (word : Text) (h : Held) (outcome : Outcome)
    → EntersOnly known (after_flag rules waiting word h outcome).1
flag_enters known rules waiting word h walks.done = tt
flag_enters known rules waiting word h (walks.waits id) = tt
flag_enters known rules waiting word h walks.plain = plain_enters known rules waiting word h
flag_enters known rules waiting word h walks.refused = plain_enters known rules waiting word h

short_enters : (known : List Text) (rules : List Rule) (waiting : Waiting) (word : Text) (flags : Option Text) (h : Held)
    → EntersOnly known (walks.short_or_plain rules waiting word flags h).1
short_enters known rules waiting word None h = plain_enters known rules waiting word h
short_enters known rules waiting word (Some flags) h = flag_enters known rules waiting word _ _

long_enters : (known : List Text) (rules : List Rule) (waiting : Waiting) (word : Text) (flag : Option (Text × Option Text)) (h : Held)
    → EntersOnly known (long_or_other rules waiting word flag h).1
long_enters known rules waiting word None h = short_enters known rules waiting word (short_of word) h
long_enters known rules waiting word (Some flag) h = flag_enters known rules waiting word _ _

-- what a step stops at
after_stops : (known : List Text) (rules : List Rule) (word : Text) (w : Walk) (h : Held) (step : Step) → EntersOnly known step
    → StopsAt known (after_step rules word (record w { stopped = None }) h step).stopped
after_stops known rules word w h (walks.next waiting) enters = tt
after_stops known rules word w h (walks.trailing position) enters = tt
after_stops known rules word w h (walks.subcommand entered) enters = enters
after_stops known rules word w h walks.value enters = go (arg_by_index rules w.position)
  where
    go : (argument : Option Rule) → StopsAt known (to_positional rules argument word (record w { stopped = None }) h).stopped
    go None = tt
    go (Some argument) = tt

module _ (s : Shape) (names : Names) (known : List Text)
    (only : (waiting : Waiting) (word found : Text) (h : Held) → subcommand_met names waiting word ≡ Some found → other_fault s (Some found) word h ≡ [] → IsOneOf known found) where
  -- a word that passes enters no other command
  other_enters : (met : Option Text) (waiting : Waiting) (position : _) (word : Text) (h : Held) → subcommand_met names waiting word ≡ met → other_fault s met word h ≡ []
      → EntersOnly known (subcommand_or_other s.rules met waiting position word h).1
  other_enters (Some found) waiting position word h is none = only waiting word found h is none
  other_enters None waiting position word h is none = go (bytes_eq word (45 ∷ 45 ∷ []))
    where
      go : (dashes : Bool) → EntersOnly known (cond dashes (h, walks.trailing position) (long_or_other s.rules waiting word (long_of word) h)).1
      go true = tt
      go false = long_enters known s.rules waiting word (long_of word) h

  word_enters : (is_trailing : Bool) (waiting : Waiting) (position : _) (word : Text) (h : Held) → word_fault s names is_trailing waiting word h ≡ []
      → EntersOnly known (word_met s.rules names is_trailing waiting position word h).1
  word_enters true waiting position word h none = tt
  word_enters false waiting position word h none = other_enters (subcommand_met names waiting word) waiting position word h refl none

  -- one more word
  turn_stops : (w : Walk) (stop : Option (Text × List Text)) (word : Text) → StopsAt known stop → turn_fault s names (record w { stopped = stop }) word ≡ []
      → StopsAt known (walked s.rules names (record w { stopped = stop }) word).stopped
  unfolding walked
  turn_stops w (Some stop) word stops none = stops
  turn_stops w None word stops none =
      after_stops known s.rules word w _ _ (word_enters w.is_trailing w.waiting w.position word w.held (both_pass _ _ none).0)

  -- and all of them
  walk_stops : (words : List Text) (w : Walk) → StopsAt known w.stopped → walk_fault s names w words ≡ [] → StopsAt known (fold (walked s.rules names) w words).stopped
  unfolding walk_fault
  walk_stops [] w stops none = stops
  walk_stops (word ∷ words) w stops none =
      let parts = both_pass (turn_fault s names w word) _ none in
      walk_stops words (walked s.rules names w word) (turn_stops w w.stopped word stops parts.0) parts.1

-- ---- the command line

-- `help` never passes
commands_only : (waiting : Waiting) (word found : Text) (h : Held) → subcommand_met (names_of (built command_line)) waiting word ≡ Some found
    → other_fault (built command_line).top (Some found) word h ≡ [] → IsOneOf command_names found
commands_only walks.idle word found h met none = elim (before_last command_names (codes "help") found (found_among word found (names_of (built command_line)) met)) [
  | inl own ↦ own
  | inr help ↦ (let bad = rw help at none in cc)
]
commands_only (walks.option id) word found h met none = cc
commands_only walks.positional word found h met none = cc

-- a command is wanted, and the one that is entered is the one that the walk stopped at
needs_command : (rows : List Row) (has : Bool) → check_fault (built command_line).top rows has ≡ [] → has ≡ true
needs_command rows true none = refl
needs_command rows false none = cc

enters : (stop : Option (Text × List Text)) → StopsAt command_names stop → is_some (entered (built command_line) stop) ≡ true
    → SomeOneOf command_names (name_entered (entered (built command_line) stop))
enters None at has = cc
enters (Some stop) at has = subst (SomeOneOf command_names) (sym (entered_as (built command_line).subs stop.0 stop.1 refl has)) at

-- a parse with no fault passes at the words and at the last checks
level_passes : (s : Shape) (names : Names) (words : List Text) (has : Bool) (below : Kinds) → level_fault s names nothing_held words has below ≡ []
    → (walk_fault s names (walk_from nothing_held) words ≡ []) × (check_fault s (finished s.rules (walk s.rules names nothing_held words).held) has ≡ [])
level_passes s names words has below none =
    let end = (walk s.rules names nothing_held words).held in
    let walk_passes = both_pass (walk_fault s names (walk_from nothing_held) words) _ none in
    let below_passes = both_pass below _ walk_passes.1 in
    let settle_passes = both_pass (settle_fault s.rules s.args_override_self end) _ below_passes.1 in
    (walk_passes.0, (both_pass (defaults_fault (settled s.rules end).rows s.rules) _ settle_passes.1).1)

-- a command line with no fault names a command
pub no_fault_names : (words : List Text) → fault_of command_line words ≡ [] → SomeOneOf command_names (named words)
no_fault_names words none =
    let app = built command_line in
    let given = argument_words command_line words in
    let stop = stop_after app.top.rules (names_of app) given in
    let passes = level_passes app.top (names_of app) given (is_some (entered app stop)) (entered_fault app stop) none in
    let stops = walk_stops app.top (names_of app) command_names commands_only given (walk_from nothing_held) tt passes.0 in
    enters stop stops (needs_command (finished app.top.rules (walk app.top.rules (names_of app) nothing_held given).held) (is_some (entered app stop)) passes.1)

-- the name that a parse met, by its rows
module _ {Z : Type 0} where
  name_met : (met : Option (Box SubCommand Z)) → name_entered (subcommand_rows met) ≡ option_map (λ b. (out-SubCommand (box_value b)).name.now) met
  name_met None = refl
  name_met (Some met) = refl

-- a parse met the command that the words name
pub parse_names : (a : App) (words : List Text) (m : ArgMatches) → a ≡ command_line → HasMatchesOf a words m → named words ≡ subcommand_name_of m
parse_names a words m is has =
    let met = has (ap is_simple is) in
    ap (λ (x : App). name_entered (subcommand_of x words)) (sym is) ∙ ap name_entered (sym met.1) ∙ name_met (out-ArgMatches m).subcommand

-- and has its rows
pub parse_rows : (a : App) (words : List Text) (m : ArgMatches) → a ≡ command_line → HasMatchesOf a words m → subcommand_of command_line words ≡ subcommand_rows (out-ArgMatches m).subcommand
parse_rows a words m is has =
    let met = has (ap is_simple is) in
    ap (λ (x : App). subcommand_of x words) (sym is) ∙ sym met.1

pub no_fault : (a : App) (words : List Text) → a ≡ command_line → (is_simple_and_free a ≡ true → fault_of a words ≡ []) → fault_of command_line words ≡ []
no_fault a words is passes = ap (λ (x : App). fault_of x words) (sym is) ∙ passes (ap is_simple_and_free is)

pub fault_kind : (a : App) (words : List Text) (error : Error) → a ≡ command_line → (is_simple_and_free a ≡ true → HasKind (fault_of a words) error) → HasKind (fault_of command_line words) error
fault_kind a words error is kind = subst (λ (x : App). HasKind (fault_of x words) error) is (kind (ap is_simple_and_free is))

-- ---- the command that the program builds

pub added : (old sub new : Command) (s : Shape) → (app_of sub).top ≡ s → (out-Command sub).has_globals ≡ false → AddsSubcommand old sub new
    → app_of new ≡ with_subcommand (app_of old) s
added old sub new s is_sub local adds = adds.shape local ∙ ap (with_subcommand (app_of old)) is_sub
