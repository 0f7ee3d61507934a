-- The memory of a process: sixteen pages of 64 bytes each. Own rules.
use Rattle.std.specs.Prelude.{ℕ, zero, suc, ◌+◌, ◌/◌, ◌%◌, ℤ, Bool, true, false, List, [], ◌∷◌, Option, Some, None, if◌then◌else◌, nat_lt, ◌==◌, replicate, slice_index, option_map, unwrap_or, slice_index_or, slice_set, is_some}
use Rattle.tx_base.specs.declared.limits.TheConstants.{PAGES, PAGE_BYTES, ADDRESSES}
pub use Rattle.tx_model.specs.Numbers.{below}

pub record PageView : Type 0 where
  pub writable : Bool
  pub bytes : List ℕ

-- by page number
abbrev pub Memory : Type 0
Memory = List (Option PageView)

abbrev pub page_at : Memory → ℕ → Option PageView
page_at memory n = slice_index_or memory n None

abbrev pub is_writable : Option PageView → Bool
is_writable None = false
is_writable (Some page) = page.writable

abbrev pub is_mapped : Option PageView → Bool
is_mapped = is_some

abbrev pub zero_page : PageView
zero_page = record { writable = true; bytes = replicate PAGE_BYTES 0 }

abbrev pub with_byte : ℕ → ℕ → Option PageView → Option PageView
with_byte offset byte =
    option_map (λ (page : PageView). record page { bytes = slice_set page.bytes offset byte })

abbrev pub put_byte : Memory → ℕ → ℕ → Memory
put_byte memory address byte =
    slice_set memory (address / PAGE_BYTES)
    (with_byte (address % PAGE_BYTES) byte (page_at memory (address / PAGE_BYTES)))

abbrev pub put_bytes : Memory → ℕ → List ℕ → Memory
put_bytes memory address [] = memory
put_bytes memory address (byte ∷ bytes) =
    put_bytes (put_byte memory address byte) (address + 1) bytes

abbrev pub stored_memory : Memory → Option ℕ → List ℕ → Memory
stored_memory memory None bytes = memory
stored_memory memory (Some address) bytes = put_bytes memory address bytes

-- an address that a program computed: 0 to 1,023
abbrev pub address_of : ℤ → Option ℕ
address_of = below ADDRESSES

abbrev pub all_good : (Option PageView → Bool) → Memory → ℕ → ℕ → Bool
all_good test memory address zero = true
all_good test memory address (suc n) =
    let is_one = test (page_at memory (address / PAGE_BYTES)) in
    if nat_lt address ADDRESSES
    then (if is_one then all_good test memory (address + 1) n else false)
    else false

-- whether n bytes are good: there are none, or they lie in 0 to 1,023 on pages that pass the test
abbrev pub is_good : (Option PageView → Bool) → Memory → ℤ → ℕ → Bool
is_good test memory address n =
    if n == 0
    then true
    else elim (address_of address) [ None ↦ n == 0 | Some first ↦ all_good test memory first n ]

abbrev pub loaded_byte : Memory → Option ℕ → Option ℕ
loaded_byte memory None = None
loaded_byte memory (Some address) =
    option_map (λ page. slice_index page.bytes (address % PAGE_BYTES))
    (page_at memory (address / PAGE_BYTES))

-- 0 where a page is not mapped
abbrev pub bytes_from : Memory → ℕ → ℕ → List ℕ
bytes_from memory address zero = []
bytes_from memory address (suc n) =
    unwrap_or (loaded_byte memory (Some address)) 0 ∷ bytes_from memory (address + 1) n

abbrev pub bytes_at : Memory → Option ℕ → ℕ → List ℕ
bytes_at memory None n = []
bytes_at memory (Some address) n = bytes_from memory address n

abbrev pub no_memory : Memory
no_memory = replicate PAGES None
