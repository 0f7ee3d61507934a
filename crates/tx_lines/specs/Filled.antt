-- The call that an instruction makes: numbers in slots of the process are put in.
use Rattle.std.specs.Prelude.{ℕ, ℤ, ◌+◌, List, [], ◌∷◌, slice_index_or}
use Rattle.tx_base.specs.declared.steps.Call.{Call}
use Rattle.tx_lines.specs.Arguments.{Argument, Number}
use Rattle.tx_lines.specs.Calls.{arguments_of, with_numbers}
use Rattle.tx_lines.specs.declared.instructions.Instruction.{Instruction}
use Rattle.tx_lines.specs.declared.instructions.Spelling.{Spelling}
use Rattle.tx_lines.specs.declared.instructions.Spelling.TheVariants.{Plain, Slot, Label}

-- the number of an argument: what the slot holds that it is spelled by, or else the number itself
abbrev pub number_of : List ℤ → ℤ → Spelling → ℤ
number_of slots number (Slot slot) = slice_index_or slots slot number
number_of slots number Plain = number
number_of slots number (Label name) = number

-- the number of the argument at a place
abbrev pub number_at : List ℤ → List Spelling → ℕ → ℤ → ℤ
number_at slots spellings place number =
    number_of slots number (slice_index_or spellings place Plain)

-- the call that an instruction makes where the slots hold those numbers
abbrev pub filled : List ℤ → Instruction → Call
filled slots instruction =
    with_numbers (number_at slots instruction.spellings.items) instruction.call

-- arguments with what their numbers are, where the first of them is at a place
abbrev pub numbered : (ℕ → ℤ → ℤ) → ℕ → List Argument → List Argument
numbered at place [] = []
numbered at place (Number number ∷ arguments) =
    Number (at place number) ∷ numbered at (place + 1) arguments
numbered at place (argument ∷ arguments) = argument ∷ numbered at (place + 1) arguments

-- the arguments of the call that an instruction makes: each of its numbers is put in, and no other
-- argument is changed
abbrev pub filled_arguments : List ℤ → Instruction → List Argument
filled_arguments slots instruction =
    numbered (number_at slots instruction.spellings.items) 0 (arguments_of instruction.call)
