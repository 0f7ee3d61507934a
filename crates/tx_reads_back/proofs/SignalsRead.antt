-- The signals of a process are read as they are written.
use Rattle.std.proofs.Common.{◌≡◌, ◌∙◌, ◌<◌, ◌≤◌, ◌^◌, ◌==◌, ℕ, ℤ, zero, suc, Bool, false, cond, List, [], ◌∷◌, ◌++◌, Option, Some, ap, arith, inl, inr, refl}
use Rattle.std.proofs.lemmas.Bool.{cases_lt}
use Rattle.std.proofs.lemmas.Bool.Decides.{nat_tests}
use Rattle.std.proofs.lemmas.Nat.Bits.{bit_at_or, bit_at-lt, bit_at-pow_same, bit_at-pow_other, bit_at-zero, same_from_bits}
use Rattle.std.specs.Int.{bit_at, w64}
use Rattle.std.specs.List.{All}
use Rattle.std.specs.Prelude.{FitsSigned}
use Rattle.json.specs.Token.{Token}
use Rattle.tx_base.specs.declared.limits.TheConstants.{SIGNALS}
use Rattle.tx_model.specs.SignalSets.{is_in_set, is_one_of, set_of}
use Rattle.tx_json.specs.Each.{each_tokens}
use Rattle.tx_json.specs.Members.{list_member}
use Rattle.tx_json.specs.Lists.{count_item, number_item, numbers_member, set_member, signal_item}
use Rattle.tx_reads_back.proofs.Gathered.{gathered_good, gathered_written}
use Rattle.tx_reads_back.proofs.Lists.{known_small, one_of_both, same_bit, IsKnownSet}
use Rattle.tx_reads_back.proofs.MembersRead.{list_read, IsItem}
use Rattle.tx_reads_back.proofs.NumbersRead.{count_read, number_read}
use Rattle.tx_reads_back.specs.ReadProcesses.{set_in}
use Rattle.tx_reads_back.specs.JsonStates.{gathered}
use Rattle.tx_reads_back.specs.Reading.{◌>>=◌, count_at, list_in, number_at}

-- ---- lists of numbers

abbrev pub IsCount : ℕ → Type 0
IsCount n = n < 2 ^ 64

pub count_is_item : IsItem count_at count_item IsCount
unfolding count_at count_item
count_is_item = record {
  reads = λ n rest small. rw (count_read n small) refl;
  begins = λ n rest small. refl;
  some = λ n small. omega arith;
}

pub number_is_item : IsItem number_at number_item (FitsSigned w64)
unfolding number_at number_item
number_is_item = record {
  reads = λ z rest fits. rw (number_read z fits) refl;
  begins = λ z rest fits. refl;
  some = λ z fits. omega arith;
}

pub numbers_read : (name : List ℕ) (numbers : List ℤ) (rest : List Token) → All (FitsSigned w64) numbers → list_in name number_at (numbers_member name numbers ++ rest) ≡ Some (numbers, rest)
numbers_read = list_read number_at number_item (FitsSigned w64) number_is_item

-- ---- sets

-- the signals of a set below a limit
abbrev signals_in_set : ℕ → ℕ → List ℕ
signals_in_set set limit = gathered (λ signo. cond (is_in_set set signo) (signo ∷ []) []) limit

one_signal : (is : Bool) (signo : ℕ) → cond is (count_item signo) [] ≡ each_tokens count_item (cond is (signo ∷ []) [])
unfolding count_item
one_signal is signo = grind arith

one_small : (is : Bool) (signo : ℕ) → signo < 40 → All IsCount (cond is (signo ∷ []) [])
one_small is signo below = grind arith

-- a set of numbers has those
in_set_of : (signos : List ℕ) (k : ℕ) → is_in_set (set_of signos) k ≡ is_one_of signos k
in_set_of [] k = ap (λ (b : ℕ). b == 1) (bit_at-zero k)
in_set_of (signo ∷ signos) k = grind (arith, nat_tests, bit_at_or, bit_at-lt, bit_at-pow_same, bit_at-pow_other, in_set_of signos k)

-- those below a limit are the set's, and no others
beyond_limit : (set limit k : ℕ) → limit ≤ k → is_one_of (signals_in_set set limit) k ≡ false
unfolding gathered
beyond_limit set zero k above = refl
beyond_limit set (suc limit) k above = grind (arith, nat_tests, one_of_both, beyond_limit set limit k)

below_limit : (set limit k : ℕ) → k < limit → is_one_of (signals_in_set set limit) k ≡ is_in_set set k
unfolding gathered
below_limit set zero k below = absurd (omega (arith, below))
below_limit set (suc limit) k below = grind (arith, nat_tests, one_of_both, beyond_limit, below_limit set limit k)

set_again : (set : ℕ) → IsKnownSet set → set_of (signals_in_set set SIGNALS) ≡ set
set_again set known = same_from_bits (set_of signos) set (λ i. same_bit (bit_at (set_of signos) i) (bit_at set i) (bit_at-lt (set_of signos) i) (bit_at-lt set i) (in_set_of signos i ∙ same i))
  where
    signos : List ℕ
    signos = signals_in_set set SIGNALS

    same : (i : ℕ) → is_one_of signos i ≡ is_in_set set i
    same i = elim (cases_lt i 40) [
      | inl below ↦ below_limit set 40 i below
      | inr above ↦ beyond_limit set 40 i above ∙ grind (arith, known_small i, known i)
    ]

pub set_read : (name : List ℕ) (set : ℕ) (rest : List Token) → IsKnownSet set → set_in name (set_member name set ++ rest) ≡ Some (set, rest)
unfolding set_in
set_read name set rest known =
    let signos = signals_in_set set SIGNALS in
    let next : List ℕ × List Token → Option (ℕ × List Token) = λ signos. Some (set_of signos.0, signos.1) in
    let written = gathered_written (signal_item set) count_item (λ signo. cond (is_in_set set signo) (signo ∷ []) []) (λ signo. one_signal (is_in_set set signo) signo) SIGNALS in
    let small = gathered_good IsCount (λ signo. cond (is_in_set set signo) (signo ∷ []) []) SIGNALS (λ signo below. one_small (is_in_set set signo) signo below) in
    ap (λ (items : List Token). list_in name count_at (list_member name items ++ rest) >>= next) written
    ∙ ap (λ read. read >>= next) (list_read count_at count_item IsCount count_is_item name signos rest small)
    ∙ ap (λ (set : ℕ). Some (set, rest)) (set_again set known)
