-- Pages in a text.
use Rattle.std.proofs.Common.{◌≡◌, ℕ, zero, suc, ◌<◌, ◌≤◌, Bool, true, false, ◌==◌, List, [], ◌∷◌, ◌++◌, codes, Option, Some, None, drop, length, refl, sym, ap, ◌∙◌, arith, append_assoc, subst}
use Rattle.std.specs.Prelude.{All, slice_index}
use Rattle.std.proofs.lemmas.List.{ext_get_or}
use Rattle.hex.specs.Hex.{IsBytes}
use Rattle.tx_base.specs.declared.limits.TheConstants.{PAGES, PAGE_BYTES}
use Rattle.tx_model.specs.Memory.{Memory, PageView}
use Rattle.tx_laws.specs.WellFormed.{IsWholePage}
use Rattle.tx_lines.specs.Bytes.{two_digits}
use Rattle.tx_state_text.specs.Each.{upto}
use Rattle.tx_state_text.specs.Processes.{byte_text, flag_text, page_line, pages_text}
use Rattle.tx_reads_back.specs.StateTexts.{HasBytes}
use Rattle.tx_reads_back.proofs.Bytes.{byte_unique}
use Rattle.tx_reads_back.proofs.Fronts.{other_byte, regroup, Stops}
use Rattle.tx_reads_back.proofs.Lines.{AreLines, list_rank, list_unique}
use Rattle.tx_reads_back.proofs.Numbered.{numbered, numbered_unique, Determines}
use Rattle.tx_reads_back.proofs.Ranks.{rank}
use Rattle.tx_reads_back.proofs.Upto.{keeps_upto}

byte_rest : ℕ → Option (List ℕ)
byte_rest zero = None
byte_rest (suc byte) = Some (two_digits (suc byte))

byte_numbered : (offset byte : ℕ) → byte_text offset byte ≡ numbered (32 ∷ []) 61 offset (byte_rest byte)
unfolding byte_rest
byte_numbered offset byte = grind arith

unique_by_digits : (a b : ℕ) (R S : List ℕ) → a < 256 → b < 256 → Determines (byte_rest a) (byte_rest b) R S (a ≡ b)
unfolding byte_rest
unique_by_digits zero zero R S in_a in_b = refl
unique_by_digits zero (suc b) R S in_a in_b = tt
unique_by_digits (suc a) zero R S in_a in_b = tt
unique_by_digits (suc a) (suc b) R S in_a in_b = λ e. byte_unique (suc a) (suc b) R S in_a in_b e

-- the bytes of a page, where they are not 0
abbrev bytes_of : List ℕ → List ℕ
bytes_of bytes = upto (λ offset. byte_text offset (slice_index bytes offset)) 64

page_bytes_unique : (xs ys R S : List ℕ) → length xs ≡ PAGE_BYTES → length ys ≡ PAGE_BYTES → IsBytes xs → IsBytes ys →
    bytes_of xs ++ 10 ∷ R ≡ bytes_of ys ++ 10 ∷ S → (xs ≡ ys) × (R ≡ S)
page_bytes_unique xs ys R S x_count y_count in_x in_y e =
    let unique = numbered_unique (32 ∷ []) 61 refl (λ i. i) (λ i j same. same) (λ t. Unit {0}) (λ t. tt) 64 (λ i inside. omega arith)
    (λ i. byte_rest (slice_index xs i)) (λ i. byte_rest (slice_index ys i)) (λ i. slice_index xs i ≡ slice_index ys i)
    (λ i R S inside r s. unique_by_digits (slice_index xs i) (slice_index ys i) R S (in_x i) (in_y i))
    (λ i. byte_text i (slice_index xs i)) (λ i. byte_text i (slice_index ys i)) (10 ∷ R) (10 ∷ S)
    (λ i. byte_numbered i (slice_index xs i)) (λ i. byte_numbered i (slice_index ys i)) tt tt
    (λ t same. other_byte 0 same refl) (λ t same. other_byte 0 same refl) e in
    (ext_get_or 0 xs ys (x_count ∙ sym y_count) (λ i below. unique.0 i (omega arith)), ap (drop 1) unique.1)

-- the byte that says of a page that it may be written
abbrev is_writing : ℕ → Bool
is_writing byte = byte == 119

bytes_stop : (bytes R : List ℕ) → Stops is_writing (bytes_of bytes ++ 10 ∷ R)
bytes_stop bytes R = keeps_upto (Stops is_writing) (λ offset. byte_text offset (slice_index bytes offset)) (λ offset t so. by offset (slice_index bytes offset) t so) 64 (10 ∷ R) refl
  where
    by : (offset byte : ℕ) (t : List ℕ) → Stops is_writing t → Stops is_writing (byte_text offset byte ++ t)
    by offset zero t so = so
    by offset (suc byte) t so = refl

not_writable : (r s : List ℕ) → Stops is_writing r → r ≡ 119 ∷ s → ⊥
not_writable r s stops e = grind (arith, other_byte)

flag_end : Bool → List ℕ
flag_end true = codes "rw"
flag_end false = codes "r"

flag_is : (flag : Bool) → flag_text flag ≡ 32 ∷ flag_end flag
unfolding flag_end
flag_is flag = grind arith

flag_unique : (a b : Bool) (r s : List ℕ) → Stops is_writing r → Stops is_writing s → flag_end a ++ r ≡ flag_end b ++ s → (a ≡ b) × (r ≡ s)
unfolding flag_end
flag_unique true true r s at_r at_s e = (refl, ap (drop 2) e)
flag_unique true false r s at_r at_s e = absurd (not_writable s r at_s (sym (ap (drop 1) e)))
flag_unique false true r s at_r at_s e = absurd (not_writable r s at_r (ap (drop 1) e))
flag_unique false false r s at_r at_s e = (refl, ap (drop 1) e)

page_rest : Option PageView → Option (List ℕ)
page_rest None = None
page_rest (Some page) = Some (flag_end page.writable ++ (bytes_of page.bytes ++ 10 ∷ []))

page_numbered : (number : ℕ) (x : Option PageView) → page_line number x ≡ numbered (codes "page ") 32 number (page_rest x)
unfolding page_rest
page_numbered number x = grind (arith, flag_is)

page_unique : (x y : Option PageView) (R S : List ℕ) → IsWholePage x → IsWholePage y → HasBytes x → HasBytes y → Determines (page_rest x) (page_rest y) R S (x ≡ y)
unfolding page_rest
page_unique None None R S whole_x whole_y in_x in_y = refl
page_unique None (Some b) R S whole_x whole_y in_x in_y = tt
page_unique (Some a) None R S whole_x whole_y in_x in_y = tt
page_unique (Some a) (Some b) R S whole_x whole_y in_x in_y = λ e.
    (let line : (bytes T : List ℕ) → (bytes_of bytes ++ 10 ∷ []) ++ T ≡ bytes_of bytes ++ 10 ∷ T = λ bytes T. append_assoc (bytes_of bytes) (10 ∷ []) T in
    let flag = flag_unique a.writable b.writable ((bytes_of a.bytes ++ 10 ∷ []) ++ R) ((bytes_of b.bytes ++ 10 ∷ []) ++ S)
    (subst (Stops is_writing) (sym (line a.bytes R)) (bytes_stop a.bytes R)) (subst (Stops is_writing) (sym (line b.bytes S)) (bytes_stop b.bytes S))
    (regroup (flag_end a.writable) (bytes_of a.bytes ++ 10 ∷ []) R (flag_end b.writable) (bytes_of b.bytes ++ 10 ∷ []) S e) in
    let bytes = page_bytes_unique a.bytes b.bytes R S whole_x whole_y in_x in_y (sym (line a.bytes R) ∙ flag.1 ∙ line b.bytes S) in
    ((λ j. Some (record { writable = flag.0 j; bytes = bytes.0 j })), bytes.1))

-- a mapped page has 64 bytes
abbrev pub IsGoodPage : Option PageView → Type 0
IsGoodPage x = IsWholePage x × HasBytes x

page_lines : AreLines 3 (codes "page ") page_line page_rest (λ x. x) IsGoodPage
page_lines = record { ranked = λ t. refl; spelled = page_numbered; unique = λ x y R S in_x in_y r s. page_unique x y R S in_x.0 in_y.0 in_x.1 in_y.1 }

pub pages_unique : (xs ys : Memory) (R S : List ℕ) → length xs ≡ PAGES → length ys ≡ PAGES → All IsGoodPage xs → All IsGoodPage ys → 3 < rank R → 3 < rank S →
    pages_text xs ++ R ≡ pages_text ys ++ S → (xs ≡ ys) × (R ≡ S)
pages_unique = list_unique page_lines 16 (omega arith) None

pub pages_rank : (xs : Memory) (R : List ℕ) → 3 ≤ rank R → 3 ≤ rank (pages_text xs ++ R)
pages_rank = list_rank page_lines 16 (omega arith) None
