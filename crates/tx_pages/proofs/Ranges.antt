-- A page of a range more.
use Rattle.std.proofs.Common.{◌≡◌, ℕ, zero, suc, ◌+◌, ◌-◌, ◌/◌, ◌%◌, ◌<◌, ◌≤◌, [], ◌∷◌, ◌++◌, take, drop, length, List, Some, None, append_assoc, Bool, true, false, ltb, Option, arith, refl, ap, sym, ◌∙◌, add-zero, rules, ◌*◌, replicate}
use Rattle.std.proofs.lemmas.Bool.{lt-ltb}
use Rattle.std.proofs.lemmas.List.{take_more_set, drop_more, drop-set-lt, take-append-drop, length-set, length-take, length-drop, length-append}
use Rattle.std.proofs.Math.ListN.{set}
use Rattle.tx_pages.specs.Frames.{overlaid}
use Rattle.tx_model.specs.Memory.{Memory, PageView, page_at, all_good, loaded_byte, bytes_from}
use Rattle.tx_model.specs.Words.{byte_or_zero}

all_good_more : (test : Option PageView → Bool) (memory : Memory) (address n i : ℕ) → i < n → address + i < 1024 →
    test (page_at memory ((address + i) / 64)) ≡ true → all_good test memory (address + i) (n - i) ≡ all_good test memory (address + (i + 1)) (n - (i + 1))
all_good_more test memory address n i below low passes =
    let inside : ltb (address + i) 1024 ≡ true = lt-ltb _ _ low in
    let one : n - i ≡ suc (n - (i + 1)) = omega arith in
    let next : address + i + 1 ≡ address + (i + 1) = omega arith in
    rw (one, inside, passes, next) refl

-- so many bytes more that lie on a page that passes
pub all_good_page : (test : Option PageView → Bool) (memory : Memory) (address n k : ℕ) → k ≤ n → address < 1024 → address % 64 + k ≤ 64 →
    test (page_at memory (address / 64)) ≡ true → all_good test memory address n ≡ all_good test memory (address + k) (n - k)
all_good_page test memory address n zero few low within passes =
    let same : n - 0 ≡ n = omega arith in
    rw (add-zero, same) refl
all_good_page test memory address n (suc k) few low within passes =
    let same : (address + k) / 64 ≡ address / 64 = omega arith in
    let still : test (page_at memory ((address + k) / 64)) ≡ true = rw same passes in
    let one : k + 1 ≡ suc k = omega arith in
    all_good_page test memory address n k (omega arith) low (omega arith) passes
    ∙ all_good_more test memory address n k (omega arith) (omega arith) still
    ∙ ap (λ j. all_good test memory (address + j) (n - j)) one

-- bytes that lie on one page are as good as that page
pub all_good_on_page : (test : Option PageView → Bool) (memory : Memory) (address n : ℕ) (good : Bool) → 0 < n → address < 1024 → address % 64 + n ≤ 64 →
    test (page_at memory (address / 64)) ≡ good → all_good test memory address n ≡ good
all_good_on_page test memory address n true some low within tested =
    let none : n - n ≡ 0 = omega arith in
    all_good_page test memory address n n (omega arith) low within tested ∙ rw none refl
all_good_on_page test memory address zero false some low within tested = absurd (omega arith)
all_good_on_page test memory address (suc n) false some low within tested =
    let inside : ltb address 1024 ≡ true = lt-ltb _ _ low in
    rw (inside, tested) refl

-- the bytes from an offset of a page on
pub bytes_from_page : (memory : Memory) (page : PageView) (number offset n : ℕ) → page_at memory number ≡ Some page → length page.bytes ≡ 64 → offset + n ≤ 64 →
    bytes_from memory (number * 64 + offset) n ≡ take n (drop offset page.bytes)
bytes_from_page memory page number offset zero there sized fits = refl
bytes_from_page memory page number offset (suc n) there sized fits =
    let where_page : (number * 64 + offset) / 64 ≡ number = omega arith in
    let where_byte : (number * 64 + offset) % 64 ≡ offset = omega arith in
    let next : number * 64 + offset + 1 ≡ number * 64 + (offset + 1) = omega arith in
    let more = drop_more page.bytes offset 0 (omega arith) in
    rw (where_page, where_byte, next, there, more, bytes_from_page memory page number (offset + 1) n there sized (omega arith)) refl

-- the bytes of a page that is not mapped
pub bytes_from_none : (memory : Memory) (number offset n : ℕ) → page_at memory number ≡ None → offset + n ≤ 64 →
    bytes_from memory (number * 64 + offset) n ≡ replicate n 0
bytes_from_none memory number offset zero there fits = refl
bytes_from_none memory number offset (suc n) there fits =
    let where_page : (number * 64 + offset) / 64 ≡ number = omega arith in
    let next : number * 64 + offset + 1 ≡ number * 64 + (offset + 1) = omega arith in
    rw (where_page, next, there, bytes_from_none memory number (offset + 1) n there (omega arith)) refl

-- the bytes from an address on that lie on one page
pub page_bytes : (memory : Memory) (page : PageView) (address n : ℕ) → page_at memory (address / 64) ≡ Some page → length page.bytes ≡ 64 → address % 64 + n ≤ 64 →
    bytes_from memory address n ≡ take n (drop (address % 64) page.bytes)
page_bytes memory page address n there sized fits =
    let place : address ≡ address / 64 * 64 + address % 64 = omega arith in
    ap (λ a. bytes_from memory a n) place ∙ bytes_from_page memory page (address / 64) (address % 64) n there sized fits

-- and where that is not mapped
pub page_zeros : (memory : Memory) (address n : ℕ) → page_at memory (address / 64) ≡ None → address % 64 + n ≤ 64 →
    bytes_from memory address n ≡ replicate n 0
page_zeros memory address n there fits =
    let place : address ≡ address / 64 * 64 + address % 64 = omega arith in
    ap (λ a. bytes_from memory a n) place ∙ bytes_from_none memory (address / 64) (address % 64) n there fits

-- the bytes of two ranges, one behind the other
pub bytes_from_append : (memory : Memory) (address n k : ℕ) → bytes_from memory address (n + k) ≡ bytes_from memory address n ++ bytes_from memory (address + n) k
bytes_from_append memory address zero k =
    let same : 0 + k ≡ k = omega arith in
    rw (add-zero, same) refl
bytes_from_append memory address (suc n) k =
    let next : address + 1 + n ≡ address + suc n = omega arith in
    let one : suc n + k ≡ suc (n + k) = omega arith in
    rw one (ap (λ bytes. byte_or_zero (loaded_byte memory (Some address)) ∷ bytes) (bytes_from_append memory (address + 1) n k ∙ ap (λ a. bytes_from memory (address + 1) n ++ bytes_from memory a k) next))

length_bytes_from : (memory : Memory) (address n : ℕ) → length (bytes_from memory address n) ≡ n
length_bytes_from memory address zero = refl
length_bytes_from memory address (suc n) = ap suc (length_bytes_from memory (address + 1) n)

-- bytes of a range are as many as it has
pub bytes_from_all : (memory : Memory) (address n : ℕ) (bytes : List ℕ) → bytes ≡ bytes_from memory address n → bytes ≡ bytes_from memory address (length bytes)
bytes_from_all memory address n bytes same = same ∙ ap (bytes_from memory address) (sym (ap length same ∙ length_bytes_from memory address n))

-- such bytes, and those after them
pub bytes_from_rest : (memory : Memory) (address : ℕ) (bytes : List ℕ) → bytes ≡ bytes_from memory address (length bytes) → (n : ℕ) →
    bytes_from memory address (length bytes + n) ≡ bytes ++ bytes_from memory (address + length bytes) n
bytes_from_rest memory address bytes same n =
    bytes_from_append memory address (length bytes) n ∙ ap (λ (front : List ℕ). front ++ bytes_from memory (address + length bytes) n) (sym same)

-- bytes written over others at once
pub overlaid_is : (old : List ℕ) (offset : ℕ) (bytes : List ℕ) → offset + length bytes ≤ length old →
    overlaid old offset bytes ≡ take offset old ++ bytes ++ drop (offset + length bytes) old
overlaid_is old offset [] fits =
    let nil : take offset old ++ [] ≡ take offset old = search rules in
    rw (add-zero, nil) (sym (take-append-drop offset old))
overlaid_is old offset (byte ∷ bytes) fits =
    let there : offset < length old = omega arith in
    let room : offset + 1 + length bytes ≤ length (set old offset byte) = rw length-set (omega arith) in
    let next : offset + 1 + length bytes ≡ offset + suc (length bytes) = omega arith in
    let front = take_more_set old offset byte there in
    let back : drop (offset + 1 + length bytes) (set old offset byte) ≡ drop (offset + suc (length bytes)) old
    = drop-set-lt (offset + 1 + length bytes) old offset byte (omega arith) ∙ ap (λ n. drop n old) next in
    overlaid_is (set old offset byte) (offset + 1) bytes room ∙ (λ i. front i ++ bytes ++ back i)
    ∙ ap (λ xs. xs ++ drop (offset + suc (length bytes)) old) (append_assoc (take offset old) (byte ∷ []) bytes)

-- a write to a part leaves the length
pub length_written : (a k : ℕ) (xs ys : List ℕ) → length ys ≡ k → a + k ≤ length xs → length (take a xs ++ (ys ++ drop k (drop a xs))) ≡ length xs
length_written a k xs ys same fits =
    rw (length-append (take a xs) (ys ++ drop k (drop a xs)), length-append ys (drop k (drop a xs)), length-take a xs, length-drop k (drop a xs), length-drop a xs) (omega arith)
