-- What a call on pages says of the page of the rule book.
use Rattle.std.proofs.Common.{◌≡◌, ◌≢◌, ℕ, ℤ, Bool, true, false, not, List, length, Err, None, ap, refl, sym}
use Rattle.tx_base.specs.declared.errors.Errno.TheVariants.{BadAddress, InvalidArgument}
use Rattle.tx_model.specs.Book.{store, with_memory}
use Rattle.tx_model.specs.Forms.{Caller, Outcome, Rule, changes, fails, ◌when◌}
use Rattle.tx_model.specs.Memory.{Memory, address_of, is_good, is_writable, loaded_byte, stored_memory}
use Rattle.tx_pages.specs.Outcomes.{Loads, Remembers}
use Rattle.tx_pages.specs.declared.errors.PageError.{PageError}
use Rattle.tx_pages.specs.declared.errors.PageError.TheVariants.{Fault, Invalid, NoMemory}

-- an error, where memory was not refused
pub is_invalid : (why : PageError) (memory : Memory) (page : Rule) (c : Caller) → why ≢ NoMemory → why ≢ Fault → Remembers {A = Unit {0}} (Err why) memory page c →
    page c ≡ fails InvalidArgument
is_invalid Invalid memory page c some fault says = says
is_invalid Fault memory page c some fault says = absurd (fault refl)
is_invalid NoMemory memory page c some fault says = absurd (some refl)

pub is_fault : (why : PageError) (memory : Memory) (page : Rule) (c : Caller) → why ≢ NoMemory → why ≢ Invalid → Remembers {A = Unit {0}} (Err why) memory page c →
    page c ≡ fails BadAddress
is_fault Fault memory page c some invalid says = says
is_fault Invalid memory page c some invalid says = absurd (invalid refl)
is_fault NoMemory memory page c some invalid says = absurd (some refl)

-- a load that fails finds no byte
pub not_loaded : (memory : Memory) (address : ℤ) (why : PageError) → Loads memory address (Err why) → loaded_byte memory (address_of address) ≡ None
not_loaded memory address Fault says = says
not_loaded memory address Invalid says = absurd says
not_loaded memory address NoMemory says = absurd says

-- the memory that an outcome leaves
memory_left : Memory → Outcome → Memory
memory_left memory (changes r q writes) = q.memory
memory_left memory outcome = memory

-- a store that is carried out leaves its bytes
pub stored_by : (address : ℤ) (bytes : List ℕ) (memory : Memory) (c : Caller) → store address bytes c ≡ with_memory memory c →
    memory ≡ stored_memory c.process.memory (address_of address) bytes
unfolding memory_left
stored_by address bytes memory c is = by (is_good is_writable c.process.memory address (length bytes)) is
  where
    by : (b : Bool) → (fails BadAddress when not b) (with_memory (stored_memory c.process.memory (address_of address) bytes) c) ≡ with_memory memory c →
        memory ≡ stored_memory c.process.memory (address_of address) bytes
    by true e = sym (ap (memory_left memory) e)
    by false e = let never : ⊥ = cc in absurd never
