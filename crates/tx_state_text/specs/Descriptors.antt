-- The text of descriptors, descriptions and pipes.
use Rattle.std.specs.Prelude.{ℕ, Bool, true, false, List, [], ◌∷◌, ◌++◌, codes, Option, Some, None, slice_index_or}
use Rattle.std.specs.Fmt.{decimal}
use Rattle.tx_base.specs.declared.limits.TheConstants.{DESCRIPTIONS, DESCRIPTORS, PIPES}
use Rattle.tx_model.specs.State.{Description, Side, ReadSide, WriteSide}
use Rattle.tx_lines.specs.Bytes.{bytes_text}
use Rattle.tx_state_text.specs.Each.{upto}

-- the line of a descriptor, where it is open: the description that it names
abbrev pub fd_line : ℕ → Option ℕ → List ℕ
fd_line fd None = []
fd_line fd (Some number) = codes "fd " ++ (decimal fd ++ 32 ∷ (decimal number ++ 10 ∷ []))

-- the lines of the open descriptors
abbrev pub fds_text : List (Option ℕ) → List ℕ
fds_text descriptors = upto (λ fd. fd_line fd (slice_index_or descriptors fd None)) DESCRIPTORS

-- the side of a pipe
abbrev pub side_text : Side → List ℕ
side_text ReadSide = codes " r"
side_text WriteSide = codes " w"

-- whether a description waits
abbrev pub wait_text : Bool → List ℕ
wait_text true = codes " nonblock\n"
wait_text false = codes " block\n"

-- the line of a description
abbrev pub desc_text : ℕ → Description → List ℕ
desc_text number description =
    codes "desc "
    ++ (decimal number ++ 32
    ∷ (decimal description.pipe
    ++ (side_text description.side ++ wait_text description.nonblock)))

-- the line of the description of a number: none if there is none
abbrev pub desc_line : ℕ → Option Description → List ℕ
desc_line number None = []
desc_line number (Some description) = desc_text number description

-- the lines of the descriptions, by rising number
abbrev pub descs_text : (ℕ → Option Description) → List ℕ
descs_text descs = upto (λ number. desc_line number (descs number)) DESCRIPTIONS

-- the line of the pipe of a number, with all its bytes: none if there is none
abbrev pub pipe_line : ℕ → Option (List ℕ) → List ℕ
pipe_line number None = []
pipe_line number (Some bytes) =
    codes "pipe " ++ (decimal number ++ 32 ∷ (bytes_text bytes ++ 10 ∷ []))

-- the lines of the pipes, by rising number
abbrev pub pipes_text : (ℕ → Option (List ℕ)) → List ℕ
pipes_text pipes = upto (λ number. pipe_line number (pipes number)) PIPES
