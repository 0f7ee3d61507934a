-- What an exchange of bytes leaves of the pipes.
use Rattle.std.specs.Prelude.{ℕ, List, Option, Some, None}
use Rattle.tx_change.specs.declared.pipes.PipePart.{PipePart}
use Rattle.tx_change.specs.declared.pipes.PipePart.TheVariants.{Whole, Front, Back}
use Rattle.tx_pipe.specs.Exchanges.{front_exchanged, back_exchanged, front_given, back_given, count_given}

-- a pipe with some of its bytes replaced
abbrev pub piped : List ℕ → PipePart → List ℕ
piped held (Whole pipe) = held
piped held (Front count bytes) = front_exchanged count bytes held
piped held (Back count bytes) = back_exchanged count bytes held

-- the bytes that were there
abbrev pub part_of : List ℕ → PipePart → PipePart
part_of held (Whole pipe) = Whole pipe
part_of held (Front count bytes) =
    Front (count_given count bytes held) (front_given count bytes held)
part_of held (Back count bytes) = Back (count_given count bytes held) (back_given count bytes held)

abbrev pub part_in : Option (List ℕ) → PipePart → PipePart
part_in pipe (Whole kept) = Whole pipe
part_in None (Front count bytes) = Front count bytes
part_in None (Back count bytes) = Back count bytes
part_in (Some held) (Front count bytes) = part_of held (Front count bytes)
part_in (Some held) (Back count bytes) = part_of held (Back count bytes)

-- what the number has then
abbrev pub piped_in : Option (List ℕ) → PipePart → Option (List ℕ)
piped_in slot (Whole pipe) = pipe
piped_in None (Front count bytes) = None
piped_in None (Back count bytes) = None
piped_in (Some held) (Front count bytes) = Some (piped held (Front count bytes))
piped_in (Some held) (Back count bytes) = Some (piped held (Back count bytes))
