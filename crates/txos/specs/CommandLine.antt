-- The words of the program's command line.
use Rattle.std.specs.Char.{is_ascii_digit}
use Rattle.std.specs.Str.{bytes_eq}
use Rattle.std.specs.Prelude.{◌≡◌, ◌≢◌, ◌≤◌, ◌==◌, ◌&&◌, ◌⊎◌, if◌then◌else◌, Bool, false, None, ℕ, List, [], ◌∷◌, Option, Some, codes, find, fold, is_some, map, not, option_and_then, option_map, pos, true}
use Rattle.clap.specs.Simple.{Shape, new_rule, new_shape, on_top}
use Rattle.clap.specs.Walk.{Rule}
use Rattle.clap.specs.Words.{App, Row, Text, new_app, one_of, subcommand_of, with_subcommand}
use Rattle.clap.specs.declared.builder.action.ArgAction.TheVariants.{SetTrue}
use Rattle.clap.specs.declared.builder.value_parser.ValueParser.TheVariants.{Signed}
use Rattle.tx_check.specs.declared.readers.Reader.{Reader}
use Rattle.tx_check.specs.declared.readers.Reader.TheVariants as readers
use Rattle.tx_script.specs.declared.forms.Form.{Form}
use Rattle.tx_script.specs.declared.forms.Form.TheVariants as forms
use Rattle.txos.specs.declared.words.CommandName.{CommandName}
use Rattle.txos.specs.declared.words.CommandName.TheVariants as names
use Rattle.txos.specs.declared.words.Asked.{Asked}
use Rattle.txos.specs.declared.words.Asked.TheVariants.{Check, Debug, Expect, Explain, HalfRun, Json, JsonRun, NoExcerpt, NoReader, Picture, Plain, Replay, Run, Shell, Version}

-- an option whose value is a number from 1 to that one, and one that is required
abbrev pub number_option : Text → ℕ → Rule
number_option name most = record (new_rule name) {
  long = Some name;
  parser = Some (Signed (pos 1) (pos most));
}

abbrev pub required_option : Text → ℕ → Rule
required_option name most = record (number_option name most) { required = true }

-- a command with no words of its own
abbrev pub text_line : Text → Shape
text_line name = new_shape name

-- a flag, which may be there
abbrev pub flag : Text → Rule
flag name = record (new_rule name) {
  long = Some name;
  action = Some SetTrue;
}

-- the command that answers line by line
abbrev pub shell_line : Shape
shell_line = record (new_shape (codes "shell")) { rules = flag (codes "json") ∷ [] }

-- the command that answers by JSON, with the two numbers of a run, of which both may be missing
abbrev pub json_line : Shape
json_line =
    record (new_shape (codes "json")) {
      rules = number_option (codes "workers") 16 ∷ number_option (codes "turns") 10000 ∷ [];
    }

-- the command that draws a schedule, with the first and the last step of an excerpt, of which both
-- may be missing
abbrev pub picture_line : Shape
picture_line =
    record (new_shape (codes "picture")) {
      rules = number_option (codes "from") 4096 ∷ number_option (codes "to") 4096 ∷ [];
    }

-- the command that runs a program
abbrev pub run_line : Shape
run_line =
    record (new_shape (codes "run")) {
      rules = required_option (codes "workers") 16 ∷ required_option (codes "turns") 10000 ∷ [];
    }

-- the command that checks a text, with the name of the command that would read it, which may be
-- missing
abbrev pub check_line : Shape
check_line = record (new_shape (codes "check")) { rules = new_rule (codes "command") ∷ [] }

-- the command that explains a word, which may be missing
abbrev pub explain_line : Shape
explain_line = record (new_shape (codes "explain")) { rules = new_rule (codes "word") ∷ [] }

-- the word that names a command
abbrev pub text_of : CommandName → Text
text_of names.Replay = codes "replay"
text_of names.Debug = codes "debug"
text_of names.Json = codes "json"
text_of names.Picture = codes "picture"
text_of names.Expect = codes "expect"
text_of names.Shell = codes "shell"
text_of names.Run = codes "run"
text_of names.Check = codes "check"
text_of names.Plain = codes "plain"
text_of names.Explain = codes "explain"
text_of names.Version = codes "version"

-- and its own words
abbrev pub line_of : CommandName → Shape
line_of names.Json = json_line
line_of names.Picture = picture_line
line_of names.Shell = shell_line
line_of names.Run = run_line
line_of names.Check = check_line
line_of names.Explain = explain_line
line_of name = text_line (text_of name)

-- all, in the order in which they are added
abbrev pub all_commands : List CommandName
all_commands =
    names.Replay ∷ names.Debug ∷ names.Json ∷ names.Picture ∷ names.Expect ∷ names.Shell
    ∷ names.Run ∷ names.Check ∷ names.Plain ∷ names.Explain ∷ names.Version ∷ []

-- the first of some that a word names, and the one among all
abbrev pub named_among : Text → List CommandName → Option CommandName
named_among word = find (λ (name : CommandName). bytes_eq (text_of name) word)

abbrev pub command_named : Text → Option CommandName
command_named word = named_among word all_commands

abbrev pub commands : List Shape
commands = map line_of all_commands

-- the names of the program's commands
abbrev pub command_names : List Text
command_names = map (λ (s : Shape). s.name) commands

-- a name is one of some
abbrev pub IsOneOf : List Text → Text → Type 0
IsOneOf [] name = ⊥
IsOneOf (first ∷ rest) name = (name ≡ first) ⊎ IsOneOf rest name

abbrev pub SomeOneOf : List Text → Option Text → Type 0
SomeOneOf names None = ⊥
SomeOneOf names (Some name) = IsOneOf names name

-- the program's name, and that a command is wanted; clap adds its own `--version`
abbrev pub top_line : App
top_line =
    on_top (λ top. record top { subcommand_required = true; has_version = true })
    (new_app (codes "txos"))

-- one of the commands, which is required; clap adds its own `help`
abbrev pub command_line : App
command_line = fold with_subcommand top_line commands

-- the word of a command
abbrev pub name_of : Asked → Text
name_of Replay = codes "replay"
name_of Debug = codes "debug"
name_of Json = codes "json"
name_of (JsonRun crew) = codes "json"
name_of HalfRun = codes "json"
name_of (Picture excerpt) = codes "picture"
name_of NoExcerpt = codes "picture"
name_of Expect = codes "expect"
name_of (Shell form) = codes "shell"
name_of (Run crew) = codes "run"
name_of (Check reader) = codes "check"
name_of (NoReader word) = codes "check"
name_of Plain = codes "plain"
name_of (Explain word) = codes "explain"
name_of Version = codes "version"

-- the command that the words name
abbrev pub named : List Text → Option Text
named words = option_map (λ found. found.0) (subcommand_of command_line words)

-- the text that a flag or an option has in the rows of a command, where it has one
abbrev pub text_in : Text → Option (Text × List Row) → Option Text
text_in name entered = option_and_then (λ found. one_of name found.1) entered

-- whether the words give how many workers, and how many turns
abbrev pub gives_workers : Option (Text × List Row) → Bool
gives_workers entered = is_some (text_in (codes "workers") entered)

abbrev pub gives_turns : Option (Text × List Row) → Bool
gives_turns entered = is_some (text_in (codes "turns") entered)

-- whether they give an excerpt's first step, and its last one
abbrev pub gives_from : Option (Text × List Row) → Bool
gives_from entered = is_some (text_in (codes "from") entered)

abbrev pub gives_to : Option (Text × List Row) → Bool
gives_to entered = is_some (text_in (codes "to") entered)

-- the command that a word names, by which a text can be checked
abbrev pub reader_named : Text → Option Reader
reader_named word =
    if bytes_eq word (codes "replay") then Some readers.Replay
    else if bytes_eq word (codes "debug") then Some readers.Debug
    else if bytes_eq word (codes "run") then Some readers.Run
    else if bytes_eq word (codes "picture") then Some readers.Picture
    else if bytes_eq word (codes "json") then Some readers.Json
    else None

-- the command of the text's kind
abbrev pub is_any : Reader → Bool
is_any readers.Any = true
is_any reader = false

-- whether the words give a command by which a text is to be checked
abbrev pub gives_reader : Option (Text × List Row) → Bool
gives_reader entered = is_some (text_in (codes "command") entered)

-- JSON is asked for only where the flag has a text other than `false`, and text only where that is
-- not `true`
abbrev pub IsFormOf : Option Text → Form → Type 0
IsFormOf said forms.Text = said ≢ Some (codes "true")
IsFormOf said forms.Json = (said ≢ None) × (said ≢ Some (codes "false"))

-- the form is the one that the flag of the words says; and the JSON of a run is asked for where
-- both of its numbers are given, and that of a schedule where neither is; a picture begins with
-- step 1 where no first step is given, and goes to the last where none is given, and its first step
-- is not after its last; and a text is checked as that of its kind is read where no command is
-- given
abbrev pub IsAskedIn : Option (Text × List Row) → Asked → Type 0
IsAskedIn entered (Shell form) = IsFormOf (text_in (codes "json") entered) form
IsAskedIn entered Json = (gives_workers entered ≡ false) × (gives_turns entered ≡ false)
IsAskedIn entered (JsonRun crew) = (gives_workers entered ≡ true) × (gives_turns entered ≡ true)
IsAskedIn entered HalfRun = gives_workers entered ≢ gives_turns entered
IsAskedIn entered (Picture excerpt) =
    (excerpt.from ≤ excerpt.to)
    × (gives_from entered ≡ false → excerpt.from ≡ 1)
    × (gives_to entered ≡ false → excerpt.to ≡ 4096)
IsAskedIn entered NoExcerpt = (gives_from entered ≡ true) ⊎ (gives_to entered ≡ true)
IsAskedIn entered (Check reader) = gives_reader entered ≡ not (is_any reader)
IsAskedIn entered (NoReader word) = gives_reader entered ≡ true
IsAskedIn entered asked = Unit {0}

-- `-` and then a digit, and maybe more
abbrev pub begins_negative : Text → Bool
begins_negative [] = false
begins_negative (first ∷ []) = false
begins_negative (first ∷ second ∷ rest) = first == 45 && is_ascii_digit second

abbrev pub number_after : Text → Text → Option Text
number_after command word =
    if bytes_eq command (codes "explain") && begins_negative word then Some word else None

-- the number with `-` before it that words ask to explain
abbrev pub asked_number : List Text → Option Text
asked_number (name ∷ command ∷ word ∷ []) = number_after command word
asked_number words = None
