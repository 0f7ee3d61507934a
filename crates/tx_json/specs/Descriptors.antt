-- Descriptors, descriptions and pipes.
use Rattle.std.specs.Prelude.{ℕ, List, [], ◌++◌, codes, Option, Some, None, slice_index_or}
use Rattle.hex.specs.Hex.{encode_lower}
use Rattle.json.specs.Token.{Token}
use Rattle.tx_base.specs.declared.limits.TheConstants.{DESCRIPTIONS, DESCRIPTORS, PIPES}
use Rattle.tx_json.specs.Each.{upto}
use Rattle.tx_json.specs.Members.{begin_object, count_member, end_object, flag_member, list_member, word_member}
use Rattle.tx_model.specs.State.{Description, Side, ReadSide, WriteSide}

-- a descriptor, where it is open: the description that it names
abbrev pub fd_item : ℕ → Option ℕ → List Token
fd_item fd None = []
fd_item fd (Some number) =
    begin_object
    ++ (count_member (codes "fd") fd ++ (count_member (codes "desc") number ++ end_object))

-- the open descriptors
abbrev pub fds_member : List (Option ℕ) → List Token
fds_member descriptors =
    list_member (codes "fds")
    (upto (λ fd. fd_item fd (slice_index_or descriptors fd None)) DESCRIPTORS)

-- the word for a side of a pipe
abbrev pub side_word : Side → List ℕ
side_word ReadSide = codes "read"
side_word WriteSide = codes "write"

-- a description: none where there is none of the number
abbrev pub desc_item : ℕ → Option Description → List Token
desc_item number None = []
desc_item number (Some description) =
    begin_object
    ++ (count_member (codes "desc") number
    ++ (count_member (codes "pipe") description.pipe
    ++ (word_member (codes "side") (side_word description.side)
    ++ (flag_member (codes "nonblock") description.nonblock ++ end_object))))

-- the descriptions, by rising number
abbrev pub descs_member : (ℕ → Option Description) → List Token
descs_member descs =
    list_member (codes "descs") (upto (λ number. desc_item number (descs number)) DESCRIPTIONS)

-- a pipe, with all its bytes: none where there is none of the number
abbrev pub pipe_item : ℕ → Option (List ℕ) → List Token
pipe_item number None = []
pipe_item number (Some bytes) =
    begin_object
    ++ (count_member (codes "pipe") number
    ++ (word_member (codes "bytes") (encode_lower bytes) ++ end_object))

-- the pipes, by rising number
abbrev pub pipes_member : (ℕ → Option (List ℕ)) → List Token
pipes_member pipes =
    list_member (codes "pipes") (upto (λ number. pipe_item number (pipes number)) PIPES)
