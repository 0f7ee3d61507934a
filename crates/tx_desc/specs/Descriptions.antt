-- Open descriptions, as the definitions have them.
use Rattle.std.specs.Prelude.{◌≡◌, ℕ, ◌+◌, ◌-◌, Bool, List, Option, Some, None, if◌then◌else◌, nat_lt, slice_index_or, slice_set, false}
use Rattle.tx_base.specs.declared.names.PipeNo.{PipeNo}
use Rattle.tx_model.specs.State.{Side as End, ReadSide, WriteSide, Description, State, side_in}
use Rattle.tx_model.specs.Descriptors.{is_side}
use Rattle.tx_model.specs.Book.{is_read_side, is_write_side, has_reader, has_writer}
use Rattle.tx_desc.specs.declared.opened.Side.{Side}
use Rattle.tx_desc.specs.declared.opened.Side.TheVariants.{Read, Write}
use Rattle.tx_desc.specs.declared.opened.Desc.{Desc}
use Rattle.tx_desc.specs.declared.opened.Opened.{Opened}
use Rattle.tx_desc.specs.declared.given.Given.{Given}
use Rattle.tx_desc.specs.declared.counts.Names.{Names}
use Rattle.tx_desc.specs.declared.counts.Names.TheVariants.{More, Fewer}

abbrev pub end_for : Side → End
end_for Read = ReadSide
end_for Write = WriteSide

abbrev pub description_of : Desc → Description
description_of desc =
    record { pipe = desc.pipe.0; side = end_for desc.side; nonblock = desc.nonblock }

abbrev pub described : Option Opened → Option Description
described None = None
described (Some opened) = Some (description_of opened.desc)

-- the description of a number
abbrev pub description_at : List (Option Opened) → ℕ → Option Description
description_at descs d = described (slice_index_or descs d None)

-- the state has these descriptions
abbrev pub HasDescs : State → List (Option Opened) → Type 0
HasDescs S descs = (d : ℕ) → S.descs d ≡ description_at descs d

-- whether a reader, or a writer, is left
abbrev pub has_side : Side → ℕ → State → Bool
has_side Read k S = has_reader k S
has_side Write k S = has_writer k S

abbrev pub side_test : Side → End → Bool
side_test Read = is_read_side
side_test Write = is_write_side

-- whether a place has this side of the pipe
abbrev pub is_end_of : Side → ℕ → Option Opened → Bool
is_end_of side k place = is_side (side_test side) (side_in k (described place))

-- what is there with so many names more
abbrev pub with_more : ℕ → Option Opened → Option Opened
with_more n None = None
with_more n (Some opened) = Some (record { desc = opened.desc; names = opened.names + n })

-- what is there with so many names fewer: nothing where no name is left
abbrev pub with_fewer : ℕ → Option Opened → Option Opened
with_fewer n None = None
with_fewer n (Some opened) =
    if nat_lt n opened.names
    then Some (record { desc = opened.desc; names = opened.names - n })
    else None

-- what is there, with O_NONBLOCK set or not
abbrev pub with_flag : Bool → Option Opened → Option Opened
with_flag on None = None
with_flag on (Some opened) =
    Some
    (record {
      desc = record { pipe = opened.desc.pipe; side = opened.desc.side; nonblock = on };
      names = opened.names;
    })

-- what is there once so many names came or were given up; as it was where there are none
abbrev pub recounted : Names → ℕ → Option Opened → Option Opened
recounted More n place = if nat_lt 0 n then with_more n place else place
recounted Fewer n place = if nat_lt 0 n then with_fewer n place else place

-- the descriptions with what a number has changed so, if there is a number
abbrev pub changed_at : (Option Opened → Option Opened) → Option ℕ → List (Option Opened)
    → List (Option Opened)
changed_at change None descs = descs
changed_at change (Some d) descs = slice_set descs d (change (slice_index_or descs d None))

-- a new description of a side of a pipe, with its first name
abbrev pub first_named : PipeNo → Side → Opened
first_named pipe side =
    record { desc = record { pipe = pipe; side = side; nonblock = false }; names = 1 }

-- the description that was there and is gone
abbrev pub gone_between : Option Opened → Option Opened → Option Desc
gone_between None new = None
gone_between (Some opened) None = Some opened.desc
gone_between (Some opened) (Some new) = None

-- which description went with the name that was given up, if any
abbrev pub IsGone : Option Given → List (Option Opened) → List (Option Opened) → Type 0
IsGone None old new = Unit {0}
IsGone (Some given) old new =
    given.gone
    ≡ gone_between (slice_index_or old given.number.0 None) (slice_index_or new given.number.0 None)
