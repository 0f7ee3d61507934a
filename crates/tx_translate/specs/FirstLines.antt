-- What the first lines of a text spell.
use Rattle.std.specs.Prelude.{◌≡◌, ℕ, List, ◌++◌}
use Rattle.tx_base.specs.declared.steps.Step.{Step}
use Rattle.tx_lines.specs.Lines.{step_text}
use Rattle.tx_lines.specs.Schedule.{lines_of, AreSteps, SpellsHeader}
use Rattle.tx_lines.specs.declared.read.header.Header.{Header}
use Rattle.tx_lines.specs.declared.read.header.TextKind.TheVariants as kinds

-- the first lines spell these things, and those are left
pub record IsBefore {A : Type 0} (spelling : A → List ℕ) (AreGood : List A → Type 0)
    (things : List A) (left text : List ℕ) : Type 0 where
  pub good : AreGood things
  pub parts : text ≡ lines_of spelling things ++ left

-- the text begins with the header of a schedule and these steps, and that is left
abbrev pub BeginsWith : Header → List Step → List ℕ → List ℕ → Type 0
BeginsWith header steps left text =
    (following : List ℕ)
    × SpellsHeader kinds.Schedule text header following
    × IsBefore step_text (AreSteps header.version) steps left following
