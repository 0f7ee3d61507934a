-- Some bytes of a pipe exchanged for others, at its front or at its back.
use Rattle.std.specs.Prelude.{ℕ, ◌+◌, ◌-◌, Bool, false, List, ◌++◌, length, take, drop, if◌then◌else◌, nat_lt}
use Rattle.tx_base.specs.declared.limits.TheConstants.{PIPE_BYTES}

-- whether so many bytes are held, and those that come in their place have room
abbrev pub can_exchange : ℕ → List ℕ → List ℕ → Bool
can_exchange count bytes held =
    if nat_lt (length held) count then false
    else (if nat_lt PIPE_BYTES (length held)
    then false
    else nat_lt (length bytes + (length held - count)) (PIPE_BYTES + 1))

-- the pipe with other bytes in place of its first few
abbrev pub front_exchanged : ℕ → List ℕ → List ℕ → List ℕ
front_exchanged count bytes held =
    if can_exchange count bytes held then bytes ++ drop count held else held

-- the pipe with other bytes in place of its last few
abbrev pub back_exchanged : ℕ → List ℕ → List ℕ → List ℕ
back_exchanged count bytes held =
    if can_exchange count bytes held then take (length held - count) held ++ bytes else held

-- the bytes that were there
abbrev pub front_given : ℕ → List ℕ → List ℕ → List ℕ
front_given count bytes held = if can_exchange count bytes held then take count held else bytes

abbrev pub back_given : ℕ → List ℕ → List ℕ → List ℕ
back_given count bytes held =
    if can_exchange count bytes held then drop (length held - count) held else bytes

-- how many must be exchanged to take it back
abbrev pub count_given : ℕ → List ℕ → List ℕ → ℕ
count_given count bytes held = if can_exchange count bytes held then length bytes else count
