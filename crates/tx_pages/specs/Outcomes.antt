-- The outcome of a call on pages, by its page of the rule book.
use Rattle.std.specs.Prelude.{◌≡◌, ◌<◌, ℕ, true, false, List, [], ◌∷◌, Some, None, Result, Ok, Err, length, slice_set, ℤ}
use Rattle.tx_base.specs.declared.errors.Errno.TheVariants.{BadAddress, InvalidArgument}
use Rattle.tx_model.specs.Book.{with_memory}
use Rattle.tx_model.specs.Forms.{Caller, Outcome, Rule, changes, fails}
use Rattle.tx_model.specs.Memory.{Memory, below, page_at, is_mapped, is_writable, is_good, loaded_byte, bytes_at}
use Rattle.tx_pages.specs.Frames.{written}
use Rattle.tx_pages.specs.declared.errors.PageError.{PageError}
use Rattle.tx_pages.specs.declared.errors.PageError.TheVariants.{Invalid, Fault, NoMemory}
use Rattle.tx_pages.specs.declared.plans.NewPage.{NewPage}
use Rattle.tx_pages.specs.declared.plans.NewPages.{NewPages}

-- the process is changed, and the call answers
abbrev pub IsChange : Outcome → Type 0
IsChange (changes r q writes) = Unit {0}
IsChange outcome = ⊥

-- where the result is Ok the process has this memory and answers 0, else the error is the answer;
-- only a change can be refused memory
abbrev pub Remembers : {A : Type 0} → Result A PageError → Memory → Rule → Caller → Type 0
Remembers (Ok _) memory rule c = rule c ≡ with_memory memory c
Remembers (Err Invalid) memory rule c = rule c ≡ fails InvalidArgument
Remembers (Err Fault) memory rule c = rule c ≡ fails BadAddress
Remembers (Err NoMemory) memory rule c = IsChange (rule c)

-- the byte at an address
abbrev pub Loads : Memory → ℤ → Result ℕ PageError → Type 0
Loads memory address (Ok byte) = loaded_byte memory (below 1024 address) ≡ Some byte
Loads memory address (Err Fault) = loaded_byte memory (below 1024 address) ≡ None
Loads memory address (Err NoMemory) = ⊥
Loads memory address (Err Invalid) = ⊥

-- the bytes of a range, copied out over others
abbrev pub Takes : {A : Type 0} → Memory → ℤ → List ℕ → Result A PageError → List ℕ → Type 0
Takes memory address old (Ok _) new =
    (is_good is_mapped memory address (length old) ≡ true)
    × (new ≡ bytes_at memory (below 1024 address) (length old))
Takes memory address old (Err Fault) new =
    (is_good is_mapped memory address (length old) ≡ false) × (new ≡ old)
Takes memory address old (Err NoMemory) new = ⊥
Takes memory address old (Err Invalid) new = ⊥

-- a page with some of its bytes written over, where it may be written
abbrev pub Patches : Memory → ℕ → ℕ → List ℕ → Result NewPage PageError → Type 0
Patches memory number offset bytes (Ok new) =
    (is_writable (page_at memory number) ≡ true)
    × ((new.number ≡ number) × (new.page ≡ written memory number offset bytes))
Patches memory number offset bytes (Err Fault) = is_writable (page_at memory number) ≡ false
Patches memory number offset bytes (Err NoMemory) = is_writable (page_at memory number) ≡ true
Patches memory number offset bytes (Err Invalid) = ⊥

-- memory with new pages in place, the first one first
abbrev pub with_pages : Memory → List NewPage → Memory
with_pages memory [] = memory
with_pages memory (new ∷ pages) = with_pages (slice_set memory new.number new.page) pages

-- each page number is valid
abbrev pub AreNumbered : List NewPage → Type 0
AreNumbered [] = Unit {0}
AreNumbered (new ∷ pages) = (new.number < 16) × AreNumbered pages

-- the memory that a plan of one page makes, and that of a plan of several; an error puts nothing in
-- place
abbrev pub with_new : Memory → Result NewPage PageError → Memory
with_new memory (Ok new) = slice_set memory new.number new.page
with_new memory (Err why) = memory

abbrev pub with_all_new : Memory → Result NewPages PageError → Memory
with_all_new memory (Ok new) = with_pages memory new.pages.items
with_all_new memory (Err why) = memory
