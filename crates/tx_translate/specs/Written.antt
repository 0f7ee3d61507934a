-- What the author of a schedule of version 3 wrote besides what it means: the lines of its steps,
-- and the names of processes.
use Rattle.std.specs.Prelude.{ℕ, ◌-◌, List, [], ◌∷◌, ◌++◌, fold, length, map, Option, Some, None, if◌then◌else◌}
use Rattle.tx_translate.specs.Names.{naming_of}
use Rattle.tx_translate.specs.OwnLines.{own_lines}
use Rattle.tx_translate.specs.Plain.{is_third}
use Rattle.tx_translate.specs.Words.{words_in}
use Rattle.tx_translate.specs.declared.written.Named.{Named}
use Rattle.tx_translate.specs.declared.written.Written.{Written}

-- a process and its name, and how many steps are before the line that gives it
pub record NameAt : Type 0 where
  pub position : ℕ
  pub process : ℕ
  pub name : List ℕ

pub record Notes : Type 0 where
  -- the header, and the line of each step
  pub lines : List (List ℕ)
  -- the names, in the order in which they are given
  pub names : List NameAt

abbrev pub no_notes : Notes
no_notes = record { lines = []; names = [] }

-- a name that is given after those lines, of which the first is the header
abbrev pub name_after : List (List ℕ) → ℕ × List ℕ → NameAt
name_after lines named = record { position = length lines - 1; process = named.0; name = named.1 }

-- with a line more that has a word: it gives a name, or is kept
abbrev pub noted_as : Notes → List ℕ → Option (ℕ × List ℕ) → Notes
noted_as notes line None = record notes { lines = notes.lines ++ line ∷ [] }
noted_as notes line (Some named) =
    record notes { names = notes.names ++ name_after notes.lines named ∷ [] }

-- with a line of those words more
abbrev pub noted_by : Notes → List ℕ → List (List ℕ) → Notes
noted_by notes line [] = notes
noted_by notes line (first ∷ others) = noted_as notes line (naming_of first others)

abbrev pub noted : Notes → List ℕ → Notes
noted notes line = noted_by notes line (words_in line)

-- of a text of version 3
abbrev pub notes_of : List ℕ → Notes
notes_of text = if is_third text then fold noted no_notes (own_lines text) else no_notes

-- the same, as it is kept
abbrev pub name_at : Named → NameAt
name_at named =
    record {
      position = named.position;
      process = named.naming.process.0;
      name = named.naming.name.now;
    }

abbrev pub notes_as : Written → Notes
notes_as written =
    record {
      lines = map (λ line. line.now) written.lines.items;
      names = map name_at written.names.items;
    }
