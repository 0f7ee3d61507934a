-- Who has a pipe or a description open, as it is reported.
use Rattle.std.specs.Fmt.{decimal}
use Rattle.std.specs.Prelude.{ℕ, List, [], ◌∷◌, ◌++◌, Option, Some, None, codes, is_some, option_map, if◌then◌else◌}
use Rattle.json.specs.Token.{Token}
use Rattle.tx_desc.specs.Descriptions.{end_for}
use Rattle.tx_json.specs.Holders.{holders_member}
use Rattle.tx_json.specs.Members.{count_member, null_member, word_member}
use Rattle.tx_json.specs.declared.holders.Holder.{Holder}
use Rattle.tx_model.specs.State.{Description, ReadSide, Side, State, WriteSide}
use Rattle.tx_shell.specs.Holders.{holder_text, holders_line, next_text, side_word}
use Rattle.tx_waits.specs.Holders.{desc_holders, holders}
use Rattle.tx_shell.specs.Names.{Names}
use Rattle.tx_shell.specs.declared.questions.held.DescHolders.{DescHolders}
use Rattle.tx_shell.specs.declared.questions.held.PipeHolders.{PipeHolders}
use Rattle.tx_state_text.specs.Each.{each_text}

-- who has the sides of a pipe open
pub record HeldPipe : Type 0 where
  pub readers : List Holder
  pub writers : List Holder

-- of which pipe a description is which side, and who has it open
pub record HeldDesc : Type 0 where
  pub pipe : ℕ
  pub side : Side
  pub holders : List Holder

-- what the code has of them
abbrev pub pipe_held : PipeHolders → HeldPipe
pipe_held found = record { readers = found.readers.items; writers = found.writers.items }

abbrev pub desc_held : DescHolders → HeldDesc
desc_held found =
    record { pipe = found.pipe.0; side = end_for found.side; holders = found.holders.items }

-- who has pipe k open, and who description d, where they are there
abbrev pub held_pipe : State → ℕ → Option HeldPipe
held_pipe S k =
    if is_some (S.pipes k)
    then Some (record { readers = holders S ReadSide k; writers = holders S WriteSide k })
    else None

abbrev pub held_desc : State → ℕ → Option HeldDesc
held_desc S d =
    option_map
    (λ (description : Description).
    record { pipe = description.pipe; side = description.side; holders = desc_holders S d })
    (S.descs d)

module _ (names : Names) where
  -- a line for each side of the pipe
  abbrev pub pipe_text : Option HeldPipe → List ℕ
  pipe_text None = codes "no pipe\n"
  pipe_text (Some held) =
      holders_line names ReadSide held.readers ++ holders_line names WriteSide held.writers

  -- the descriptors, or that there are none
  abbrev pub named_text : List Holder → List ℕ
  named_text [] = codes "nobody has it open"
  named_text (first ∷ others) =
      codes "descriptor " ++ (holder_text names first ++ each_text (next_text names) others)

  -- which side of which pipe a description is, and by which descriptors it is open
  abbrev pub desc_text : Option HeldDesc → List ℕ
  desc_text None = codes "no description\n"
  desc_text (Some held) =
      codes "it is the "
      ++ (side_word held.side
      ++ (codes " side of pipe "
      ++ (decimal held.pipe ++ (codes ": " ++ (named_text held.holders ++ 10 ∷ [])))))

-- what JSON has of them after these lines
abbrev pub pipe_members : Option HeldPipe → List Token
pipe_members None = null_member (codes "readers") ++ null_member (codes "writers")
pipe_members (Some held) =
    holders_member (codes "readers") held.readers ++ holders_member (codes "writers") held.writers

abbrev pub desc_members : Option HeldDesc → List Token
desc_members None =
    null_member (codes "pipe") ++ (null_member (codes "side") ++ null_member (codes "holders"))
desc_members (Some held) =
    count_member (codes "pipe") held.pipe
    ++ (word_member (codes "side") (side_word held.side)
    ++ holders_member (codes "holders") held.holders)
