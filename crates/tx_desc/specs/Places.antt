-- The descriptors of a process, as the definitions have them.
use Rattle.std.specs.Prelude.{◌≡◌, ℕ, List, Option, Some, None, Result, Ok, Err, slice_index_or, slice_set}
use Rattle.tx_base.specs.declared.names.DescNo.{DescNo}
use Rattle.tx_base.specs.declared.errors.Errno.{Errno}
use Rattle.tx_base.specs.declared.errors.Errno.TheVariants.{BadDescriptor}
use Rattle.tx_model.specs.Descriptors.{first_free}
use Rattle.tx_model.specs.FreeNumbers.{with_second}

-- the description that each descriptor of a process names
abbrev pub Descriptors : Type 0
Descriptors = List (Option ℕ)

abbrev pub number_in : Option DescNo → Option ℕ
number_in None = None
number_in (Some d) = Some d.0

-- the description that a descriptor names, of a number that may be one of a descriptor
abbrev pub named_in : Descriptors → Option ℕ → Option ℕ
named_in table None = None
named_in table (Some f) = slice_index_or table f None

-- the open descriptor that was asked for, and the description that it names
abbrev pub Finds : Descriptors → Option ℕ → Result (ℕ × DescNo) Errno → Type 0
Finds table f (Ok found) = (f ≡ Some found.0) × (slice_index_or table found.0 None ≡ Some found.1.0)
Finds table f (Err errno) = (errno ≡ BadDescriptor) × (named_in table f ≡ None)

-- the answer to which description a descriptor names
abbrev pub looked_up : Option ℕ → Result DescNo Errno
looked_up None = Err BadDescriptor
looked_up (Some d) = Ok (record { 0 = d })

-- the first free descriptor once this one names description d
abbrev pub free_beside : ℕ → Descriptors → Option ℕ → Option ℕ
free_beside d table None = None
free_beside d table (Some f) = first_free 0 (slice_set table f (Some d))

-- the two lowest free descriptors, the lower one first: the second is free once the first names
-- description d
abbrev pub two_free : ℕ → Descriptors → Option (ℕ × ℕ)
two_free d table = with_second (first_free 0 table) (free_beside d table (first_free 0 table))
