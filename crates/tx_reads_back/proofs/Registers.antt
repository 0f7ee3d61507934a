-- The numbers in slots, in a text.
use Rattle.std.proofs.Common.{◌≡◌, ℕ, ◌<◌, ◌≤◌, true, List, [], ◌∷◌, ◌++◌, codes, drop, get_or, length, refl, ap, arith}
use Rattle.std.specs.Prelude.{All, ℤ, FitsSigned}
use Rattle.std.specs.Int.{w64}
use Rattle.std.proofs.lemmas.Bool.Decides.{Decides-int_eq}
use Rattle.tx_state_text.specs.Each.{each_text}
use Rattle.tx_state_text.specs.Registers.{is_blank_of, slot_text, slots_end, slots_line}
use Rattle.tx_reads_back.proofs.Fronts.{in_number, regroup, signed_unique, Stops}
use Rattle.tx_reads_back.proofs.Items.{all_unique, AreItems, optional_rank, optional_unique}
use Rattle.tx_reads_back.proofs.Lists.{in_list}
use Rattle.tx_reads_back.proofs.Ranks.{rank}

-- the line ends
abbrev pub EndsLine : List ℕ → Type 0
EndsLine bytes = get_or bytes 0 0 ≡ 10

pub end_stops : (bytes : List ℕ) → EndsLine bytes → Stops in_number bytes
end_stops bytes end = grind (arith, in_number)

slots_are : AreItems slot_text (λ z. z) (FitsSigned w64) (Stops in_number) EndsLine
slots_are = grind (arith, end_stops, signed_unique)

pub slots_end_unique : (xs ys : List ℤ) (R S : List ℕ) → All (FitsSigned w64) xs → All (FitsSigned w64) ys → slots_end xs ++ R ≡ slots_end ys ++ S → (xs ≡ ys) × (R ≡ S)
slots_end_unique xs ys R S x_fits y_fits e =
    let unique = all_unique slots_are xs ys (10 ∷ R) (10 ∷ S) x_fits y_fits refl refl
    (regroup (each_text slot_text xs) (10 ∷ []) R (each_text slot_text ys) (10 ∷ []) S e) in
    (unique.0, ap (drop 1) unique.1)

pub slots_stop : (xs : List ℤ) (R : List ℕ) → Stops in_list (slots_end xs ++ R)
slots_stop [] R = refl
slots_stop (x ∷ xs) R = refl

blank_same : (xs ys : List ℤ) → length xs ≡ length ys → is_blank_of xs ≡ true → is_blank_of ys ≡ true → xs ≡ ys
blank_same [] [] count x_blank y_blank = refl
blank_same [] (y ∷ ys) count x_blank y_blank = absurd (omega arith)
blank_same (x ∷ xs) [] count x_blank y_blank = absurd (omega arith)
blank_same (x ∷ xs) (y ∷ ys) count x_blank y_blank = grind (arith, Decides-int_eq, blank_same xs ys)

pub slots_unique : (xs ys : List ℤ) (R S : List ℕ) → length xs ≡ length ys → All (FitsSigned w64) xs → All (FitsSigned w64) ys → 2 < rank R → 2 < rank S →
    slots_line xs ++ R ≡ slots_line ys ++ S → (xs ≡ ys) × (R ≡ S)
slots_unique xs ys R S count x_fits y_fits r s e =
    optional_unique 2 (xs ≡ ys) (is_blank_of xs) (is_blank_of ys) (codes "slots" ++ slots_end xs) (codes "slots" ++ slots_end ys) R S (λ t. refl) (λ t. refl) r s
    (blank_same xs ys count) (λ x_some y_some same. slots_end_unique xs ys R S x_fits y_fits (ap (drop 5) same)) e

pub slots_rank : (xs : List ℤ) (R : List ℕ) → 2 ≤ rank R → 2 ≤ rank (slots_line xs ++ R)
slots_rank xs R r = optional_rank 2 (is_blank_of xs) (codes "slots" ++ slots_end xs) R (λ t. refl) r
