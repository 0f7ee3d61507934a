-- Bytes that are written page by page.
use Rattle.std.proofs.Common.{◌≡◌, ◌≢◌, ℕ, suc, ◌+◌, ◌*◌, ◌%◌, [], ◌∷◌, ◌++◌, Some, None, add-zero, ◌/◌, ◌<◌, ◌≤◌, Option, List, length, arith, ap, refl, ◌∙◌, sym}
use Rattle.std.proofs.lemmas.List.{set-set, set-get_or, get_or-set_same, get_or-set_other, length-set}
use Rattle.std.proofs.Math.ListN.{set}
use Rattle.tx_model.specs.Memory.{Memory, PageView, page_at, with_byte, put_byte, put_bytes}
use Rattle.tx_pages.specs.Frames.{with_bytes, bytes_of, overlaid, written}
use Rattle.tx_pages.specs.Outcomes.{with_pages, AreNumbered}
use Rattle.tx_pages.specs.declared.plans.NewPage.{NewPage}

same_page : (page : Option PageView) → with_bytes (bytes_of page) page ≡ page
same_page None = refl
same_page (Some page) = refl

one_byte : (page : Option PageView) (offset byte : ℕ) (bytes : List ℕ) →
    with_bytes (overlaid (bytes_of (with_byte offset byte page)) (offset + 1) bytes) (with_byte offset byte page) ≡ with_bytes (overlaid (bytes_of page) offset (byte ∷ bytes)) page
one_byte None offset byte bytes = refl
one_byte (Some page) offset byte bytes = refl

-- bytes that lie on one page are written over that page
pub put_bytes-page : (memory : Memory) (n offset : ℕ) (bytes : List ℕ) → n < length memory → offset + length bytes ≤ 64 →
    put_bytes memory (n * 64 + offset) bytes ≡ set memory n (written memory n offset bytes)
put_bytes-page memory n offset [] inside fits = rw (same_page (page_at memory n)) (sym (set-get_or memory n None))
put_bytes-page memory n offset (byte ∷ bytes) inside fits =
    let where_page : (n * 64 + offset) / 64 ≡ n = omega arith in
    let where_byte : (n * 64 + offset) % 64 ≡ offset = omega arith in
    let next : n * 64 + offset + 1 ≡ n * 64 + (offset + 1) = omega arith in
    let page : Option PageView = with_byte offset byte (page_at memory n) in
    let there : n < length (set memory n page) = rw length-set inside in
    let again = put_bytes-page (set memory n page) n (offset + 1) bytes there (omega arith) in
    let now : page_at (set memory n page) n ≡ page = get_or-set_same memory n page None inside in
    let both : set (set memory n page) n (written (set memory n page) n (offset + 1) bytes) ≡ set memory n (written memory n offset (byte ∷ bytes))
    = set-set memory n page _ ∙ rw now (ap (set memory n) (one_byte (page_at memory n) offset byte bytes)) in
    rw (where_page, where_byte, next) (again ∙ both)

-- bytes one after another
put_bytes-append : (memory : Memory) (address : ℕ) (front back : List ℕ) →
    put_bytes memory address (front ++ back) ≡ put_bytes (put_bytes memory address front) (address + length front) back
put_bytes-append memory address [] back = rw add-zero refl
put_bytes-append memory address (byte ∷ front) back =
    let next : address + 1 + length front ≡ address + suc (length front) = omega arith in
    put_bytes-append (put_byte memory address byte) (address + 1) front back ∙ ap (λ a. put_bytes (put_bytes memory address (byte ∷ front)) a back) next

-- the bytes that reach the end of a page, or all that are left, are one new page, made of one that has not changed yet
pub put_bytes_front : (memory old : Memory) (n offset : ℕ) (front back : List ℕ) → n < length memory → offset + length front ≤ 64 →
    (0 < length back → offset + length front ≡ 64) → page_at memory n ≡ page_at old n →
    put_bytes memory (n * 64 + offset) (front ++ back) ≡ put_bytes (set memory n (written old n offset front)) ((n + 1) * 64 + 0) back
put_bytes_front memory old n offset front [] inside fits whole same =
    put_bytes-append memory (n * 64 + offset) front [] ∙ put_bytes-page memory n offset front inside fits
    ∙ ap (λ p. set memory n (with_bytes (overlaid (bytes_of p) offset front) p)) same
put_bytes_front memory old n offset front (byte ∷ back) inside fits whole same =
    let cut : offset + length front ≡ 64 = whole (omega arith) in
    let place : n * 64 + offset + length front ≡ (n + 1) * 64 + 0 = omega arith in
    let first : put_bytes memory (n * 64 + offset) front ≡ set memory n (written old n offset front)
    = put_bytes-page memory n offset front inside fits ∙ ap (λ p. set memory n (with_bytes (overlaid (bytes_of p) offset front) p)) same in
    put_bytes-append memory (n * 64 + offset) front (byte ∷ back) ∙ (λ i. put_bytes (first i) (place i) (byte ∷ back))

-- one new page more
pub with_pages_push : (memory : Memory) (pages : List NewPage) (new : NewPage) → with_pages memory (pages ++ (new ∷ [])) ≡ set (with_pages memory pages) new.number new.page
with_pages_push memory [] new = refl
with_pages_push memory (first ∷ pages) new = with_pages_push (set memory first.number first.page) pages new

pub length-with_pages : (memory : Memory) (pages : List NewPage) → length (with_pages memory pages) ≡ length memory
length-with_pages memory [] = refl
length-with_pages memory (new ∷ pages) = length-with_pages (set memory new.number new.page) pages ∙ length-set memory new.number new.page

pub numbered_push : (pages : List NewPage) (new : NewPage) → AreNumbered pages → new.number < 16 → AreNumbered (pages ++ (new ∷ []))
numbered_push [] new known below = (below, tt)
numbered_push (first ∷ pages) new known below = (known.0, numbered_push pages new known.1 below)

-- the bytes up to the end of a page are planned: what is left to store
pub store_more : (self : Memory) (pages items : List NewPage) (new : NewPage) (number offset : ℕ) (rest front back : List ℕ) (done : Memory) →
    items ≡ pages ++ (new ∷ []) → new.number ≡ number → new.page ≡ written self number offset front → rest ≡ front ++ back →
    length self ≡ 16 → number < 16 → offset + length front ≤ 64 → (0 < length back → offset + length front ≡ 64) →
    page_at (with_pages self pages) number ≡ page_at self number → put_bytes (with_pages self pages) (number * 64 + offset) rest ≡ done →
    put_bytes (with_pages self items) ((number + 1) * 64 + 0) back ≡ done
store_more self pages items new number offset rest front back done pushed named page cut sized below fits whole fresh same =
    let there : number < length (with_pages self pages) = rw (length-with_pages self pages) (omega arith) in
    let step = put_bytes_front (with_pages self pages) self number offset front back there fits whole fresh in
    let now : with_pages self items ≡ set (with_pages self pages) number (written self number offset front)
    = ap (with_pages self) pushed ∙ with_pages_push self pages new ∙ (λ i. set (with_pages self pages) (named i) (page i)) in
    ap (λ m. put_bytes m ((number + 1) * 64 + 0) back) now ∙ sym step ∙ ap (put_bytes (with_pages self pages) (number * 64 + offset)) (sym cut) ∙ same

-- the pages from the next one on have not changed yet
pub fresh_more : (self : Memory) (pages items : List NewPage) (new : NewPage) (number : ℕ) → items ≡ pages ++ (new ∷ []) → new.number ≡ number →
    ((k : ℕ) → number ≤ k → page_at (with_pages self pages) k ≡ page_at self k) → (k : ℕ) → number + 1 ≤ k → page_at (with_pages self items) k ≡ page_at self k
fresh_more self pages items new number pushed named fresh k above =
    let apart : k ≢ new.number = omega arith in
    ap (λ p. page_at (with_pages self p) k) pushed ∙ ap (λ m. page_at m k) (with_pages_push self pages new)
    ∙ get_or-set_other (with_pages self pages) new.number k new.page None apart ∙ fresh k (omega arith)
