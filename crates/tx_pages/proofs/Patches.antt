-- A store of bytes that lie on one page.
use Rattle.std.proofs.Common.{◌≡◌, ℕ, ℤ, Bool, true, false, ◌+◌, ◌*◌, ◌/◌, ◌%◌, ◌<◌, ◌≤◌, List, length, Some, Result, Ok, Err, arith, ap, sym, refl, ◌∙◌, ◌==◌}
use Rattle.std.proofs.lemmas.Bool.Decides.{nat_tests}
use Rattle.std.proofs.Math.ListN.{set}
use Rattle.tx_model.specs.Book.{store}
use Rattle.tx_model.specs.Forms.{Caller}
use Rattle.tx_model.specs.Memory.{Memory, address_of, all_good, is_good, is_writable, page_at, put_bytes}
use Rattle.tx_pages.proofs.Ranges.{all_good_on_page}
use Rattle.tx_pages.proofs.Writes.{put_bytes-page}
use Rattle.tx_pages.specs.Frames.{written}
use Rattle.tx_pages.specs.Outcomes.{Patches, Remembers, with_new}
use Rattle.tx_pages.specs.declared.errors.PageError.{PageError}
use Rattle.tx_pages.specs.declared.errors.PageError.TheVariants.{Fault, Invalid, NoMemory}
use Rattle.tx_pages.specs.declared.plans.NewPage.{NewPage}

-- they are as good as the page of the first one
is_good_on_page : (memory now : Memory) (address : ℤ) (first n : ℕ) (good : Bool) → address_of address ≡ Some first → first < 1024 → 0 < n → first % 64 + n ≤ 64 →
    is_writable (page_at memory (first / 64)) ≡ good → now ≡ memory → is_good is_writable now address n ≡ good
is_good_on_page memory now address first n good there low some within tested same =
    let counted : (n == 0) ≡ false = grind (arith, nat_tests) in
    rw (counted, there) (ap (λ m. all_good is_writable m first n) same ∙ all_good_on_page is_writable memory first n good some low within tested)

-- and are written over that page
put_bytes_on_page : (memory : Memory) (first : ℕ) (bytes : List ℕ) → length memory ≡ 16 → first < 1024 → first % 64 + length bytes ≤ 64 →
    put_bytes memory first bytes ≡ set memory (first / 64) (written memory (first / 64) (first % 64) bytes)
put_bytes_on_page memory first bytes sized low within =
    let place : first ≡ first / 64 * 64 + first % 64 = omega arith in
    ap (λ a. put_bytes memory a bytes) place ∙ put_bytes-page memory (first / 64) (first % 64) bytes (omega arith) within

-- what a patch of that page comes to, the store comes to
pub remembers_patch : (memory : Memory) (address : ℤ) (first : ℕ) (bytes : List ℕ) (result : Result NewPage PageError) (c : Caller) → length memory ≡ 16 →
    address_of address ≡ Some first → first < 1024 → 0 < length bytes → first % 64 + length bytes ≤ 64 → Patches memory (first / 64) (first % 64) bytes result →
    c.process.memory ≡ memory → Remembers result (with_new memory result) (store address bytes) c
remembers_patch memory address first bytes (Ok new) c sized there low some within says same =
    let good = is_good_on_page memory c.process.memory address first (length bytes) true there low some within says.0 same in
    let put : put_bytes memory first bytes ≡ set memory new.number new.page
    = put_bytes_on_page memory first bytes sized low within ∙ (λ i. set memory (sym says.1.0 i) (sym says.1.1 i)) in
    rw (good, same, there, put) refl
remembers_patch memory address first bytes (Err Fault) c sized there low some within says same =
    let bad = is_good_on_page memory c.process.memory address first (length bytes) false there low some within says same in
    rw bad refl
remembers_patch memory address first bytes (Err NoMemory) c sized there low some within says same =
    let good = is_good_on_page memory c.process.memory address first (length bytes) true there low some within says same in
    rw good tt
remembers_patch memory address first bytes (Err Invalid) c sized there low some within says same = absurd says
