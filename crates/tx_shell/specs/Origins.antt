-- How a session begins.
use Rattle.std.specs.Prelude.{◌≡◌, ℕ, Bool, true, false, List, [], ◌∷◌, ◌++◌}
use Rattle.tx_lines.specs.Lines.{most_of}
use Rattle.tx_lines.specs.Schedule.{FaultsAtHeader, SpellsHeader}
use Rattle.tx_lines.specs.declared.faults.Fault.{Fault}
use Rattle.tx_lines.specs.declared.read.header.Header.{Header}
use Rattle.tx_lines.specs.declared.read.header.TextKind.TheVariants as kinds
use Rattle.tx_lines.specs.declared.read.header.Version.{Version}
use Rattle.tx_lines.specs.declared.read.header.Version.TheVariants as versions
use Rattle.tx_model.specs.State.{State, boot_state}
use Rattle.tx_translate.specs.Meant.{meant_of}
use Rattle.tx_translate.specs.Plain.{is_third}
use Rattle.tx_shell.specs.declared.lines.openings.Opening.{Opening}
use Rattle.tx_shell.specs.declared.lines.versions.TextVersion.{TextVersion}
use Rattle.tx_shell.specs.declared.lines.versions.TextVersion.TheVariants.{One, Two, Three}

-- the version whose grammar a line is read by, once it is known what it means
abbrev pub grammar_of : TextVersion → Version
grammar_of One = versions.One
grammar_of Two = versions.Two
grammar_of Three = versions.Two

-- of which version the lines are, how many processes there may be, and how many there were at the
-- start
pub record Origin : Type 0 where
  pub version : TextVersion
  pub width : ℕ
  pub count : ℕ

-- the state at the start
abbrev pub start_in : Origin → State
start_in o = boot_state o.width o.count

-- the header of a text that begins so
abbrev pub header_in : Origin → Header
header_in o = record { version = grammar_of o.version; count = o.count }

-- the version that a header is of
abbrev pub version_of : Bool → Version → TextVersion
version_of true version = Three
version_of false versions.One = One
version_of false versions.Two = Two

-- the text of a line on its own
abbrev pub text_of : List ℕ → List ℕ
text_of line = line ++ 10 ∷ []

-- without a header a session begins as a text of version 3 with two processes
abbrev pub unsaid_origin : Origin
unsaid_origin = record { version = Three; width = 256; count = 2 }

-- what a header says, once it is read
abbrev pub origin_said : Opening → Origin
origin_said o =
    record { version = o.version; width = most_of o.header.version; count = o.header.count }

-- the line is the first one of a schedule, and says that
pub record SaysOrigin (line : List ℕ) (o : Origin) : Type 0 where
  pub header : Header
  pub rest : List ℕ
  pub spelled : SpellsHeader kinds.Schedule (meant_of (text_of line)) header rest
  pub version : o.version ≡ version_of (is_third (text_of line)) header.version
  pub width : o.width ≡ most_of header.version
  pub count : o.count ≡ header.count

-- it is none: a text that begins with it is at fault there
pub record SaysNoOrigin (line : List ℕ) : Type 0 where
  pub fault : Fault
  pub is_fault : FaultsAtHeader kinds.Schedule (meant_of (text_of line)) fault
