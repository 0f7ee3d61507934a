-- What is written beside rows and above columns: the steps as their author wrote them, and the
-- names of processes.
use Rattle.std.specs.Prelude.{ℕ, ◌-◌, ◌==◌, Bool, List, ◌++◌, codes, find, length, nat_lt, not, Option, Some, None, option_map, slice_get, take, if◌then◌else◌}
use Rattle.tx_base.specs.declared.steps.Step.{Step}
use Rattle.tx_lines.specs.declared.read.header.Header.{Header}
use Rattle.tx_picture.specs.Names.{births_for, instance, is_life, lives_from}
use Rattle.tx_picture.specs.declared.births.Birth.{Birth}
use Rattle.tx_picture.specs.declared.captions.Captions.{Captions}
use Rattle.tx_picture.specs.declared.lives.Life.{Life}
use Rattle.tx_translate.specs.Written.{notes_as, NameAt, Notes}

pub record Captioned : Type 0 where
  -- what the author wrote
  pub notes : Notes
  -- how many processes are there at the start
  pub start : ℕ
  -- the processes that forks make
  pub births : List Birth
  -- the processes that have names
  pub lives : List Life

abbrev pub captioned_as : Captions → Captioned
captioned_as captions =
    record {
      notes = notes_as captions.written;
      start = captions.start;
      births = captions.births.items;
      lives = captions.lives.items;
    }

-- of a schedule whose author wrote that
abbrev pub captioned_in : Notes → Header → List Step → Captioned
captioned_in notes header steps =
    let births = births_for notes.names header steps in
    record {
      notes = notes;
      start = header.count;
      births = births;
      lives = lives_from header.count births 0 notes.names;
    }

-- which of the processes of number p is there after the first k steps
abbrev pub instance_of : Captioned → ℕ → ℕ → ℕ
instance_of captioned p k = instance captioned.start captioned.births p k

-- whether that is none of those that the number had before the first step, or first
abbrev pub is_anew : Captioned → ℕ → ℕ → Bool
is_anew captioned p k = not (instance_of captioned p k == instance_of captioned p 0)

abbrev pub name_in : List NameAt → Option Life → Option (List ℕ)
name_in names None = None
name_in names (Some life) = option_map (λ given. given.name) (slice_get names life.name)

-- the name of the process of number p that is there after the first k steps
abbrev pub name_of : Captioned → ℕ → ℕ → Option (List ℕ)
name_of captioned p k =
    name_in captioned.notes.names (find (is_life p (instance_of captioned p k)) captioned.lives)

-- the line of a step as its author wrote it
abbrev pub line_of : Captioned → ℕ → Option (List ℕ)
line_of captioned step = slice_get captioned.notes.lines step

-- a word as it is shown: where it has more than so many bytes the first ones, and two dots
abbrev pub short : ℕ → List ℕ → List ℕ
short most word = if nat_lt most (length word) then take (most - 2) word ++ codes ".." else word
