-- What a line of a text must be, by the kind of the text and the lines before it.
use Rattle.std.specs.Prelude.{◌≡◌, ℕ, zero, suc, ◌+◌, ◌-◌, ◌^◌, ◌<◌, min, Bool, List, ◌⊎◌, take, if◌then◌else◌}
use Rattle.std.specs.Str.{bytes_eq}
use Rattle.tx_check.specs.Kinds.{head_of, kind_of}
use Rattle.tx_check.specs.Numbered.{after_lines}
use Rattle.tx_check.specs.declared.kinds.Kind.{Kind}
use Rattle.tx_check.specs.declared.places.Part.TheVariants as parts
use Rattle.tx_check.specs.declared.places.Place.{Place}
use Rattle.tx_lines.specs.Programs.{label_front}
use Rattle.tx_lines.specs.Schedule.{first_line, SpellsHeader}
use Rattle.tx_lines.specs.Walks.{debug_line}
use Rattle.tx_lines.specs.declared.read.header.Header.{Header}
use Rattle.tx_lines.specs.declared.read.header.TextKind.{TextKind}
use Rattle.tx_lines.specs.declared.read.header.TextKind.TheVariants.{Schedule, Program}
use Rattle.tx_lines.specs.declared.read.header.Version.{Version}
use Rattle.tx_lines.specs.declared.read.header.Version.TheVariants.{Two}

-- a line is the header; or it is among steps, among commands, or among the lines of a program:
-- after so many of them, in a program after so many instructions and so many labels
pub data Context : Type 0 where
  AtHeader : TextKind → Context
  AmongSteps : ℕ → Context
  AmongCommands : ℕ → Context
  AmongLines : ℕ → ℕ → Context

-- whether a line begins as a label's
abbrev pub begins_label : List ℕ → Bool
begins_label line = bytes_eq (take 6 line) label_front

-- the context after one more line
abbrev pub next_context : Context → List ℕ → Context
next_context (AtHeader Schedule) line = AmongSteps 0
next_context (AtHeader Program) line = AmongLines 0 0
next_context (AmongSteps steps) line =
    if bytes_eq line debug_line then AmongCommands 0 else AmongSteps (steps + 1)
next_context (AmongCommands commands) line = AmongCommands (commands + 1)
next_context (AmongLines instructions labels) line =
    if begins_label line
    then AmongLines instructions (labels + 1)
    else AmongLines (instructions + 1) labels

-- the context after so many lines
abbrev pub context_after : Kind → List ℕ → ℕ → Context
context_after kind text zero = AtHeader (head_of kind)
context_after kind text (suc count) =
    next_context (context_after kind text count) (first_line (after_lines count text))

-- a line that was one too many is before that
abbrev pub IsPastAll : Context → Type 0
IsPastAll (AtHeader kind) = ⊥
IsPastAll (AmongSteps steps) = 4096 < steps
IsPastAll (AmongCommands commands) = 4096 < commands
IsPastAll (AmongLines instructions labels) = (1024 < instructions) ⊎ (256 < labels)

-- the version of a text of that kind: its header's, or the second where it has none
abbrev pub IsVersionOf : TextKind → List ℕ → Version → Type 0
IsVersionOf kind text version =
    ((header : Header)
    × (rest : List ℕ)
    × SpellsHeader kind text header rest
    × (version ≡ header.version))
    ⊎ (((header : Header) (rest : List ℕ) → SpellsHeader kind text header rest → ⊥)
    × (version ≡ Two))

-- a count that stops at the most that there is room for
abbrev pub counted : ℕ → ℕ
counted number = min number (2 ^ 64 - 1)

-- the place is of that context; after a line whose label is nowhere, lines of a program are not
-- counted
abbrev pub IsPlaceOf : Context → Place → Type 0
IsPlaceOf (AtHeader kind) place =
    (place.part ≡ parts.Header kind) × (place.count ≡ 0) × (place.labels ≡ 0)
IsPlaceOf (AmongSteps steps) place = (place.part ≡ parts.Step) × (place.count ≡ counted steps)
IsPlaceOf (AmongCommands commands) place =
    (place.part ≡ parts.Command) × (place.count ≡ counted commands)
IsPlaceOf (AmongLines instructions labels) place =
    ((place.part ≡ parts.ProgramLine)
    × (place.count ≡ counted instructions)
    × (place.labels ≡ counted labels))
    ⊎ (place.part ≡ parts.Link)

-- the place is that of the line of that number
pub record IsPlaceAt (text : List ℕ) (number : ℕ) (place : Place) : Type 0 where
  pub version : IsVersionOf (head_of (kind_of text)) text place.version
  pub in_context : IsPlaceOf (context_after (kind_of text) text (number - 1)) place
