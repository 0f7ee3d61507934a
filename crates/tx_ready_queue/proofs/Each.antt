-- Hands that put back what they take, and the one that has put each number once at the start.
use Rattle.std.proofs.Common.{◌≡◌, ℕ, zero, suc, ◌+◌, ◌-◌, ◌<◌, ◌≤◌, List, [], ◌∷◌, ◌++◌, sym, refl, ap, ◌∙◌, arith, inl, inr}
use Rattle.std.specs.List.{range_with_len}
use Rattle.std.proofs.lemmas.List.Sums.{sum_by-cons}
use Rattle.std.proofs.lemmas.Bool.{cases_eq}
use Rattle.tx_ready_queue.specs.declared.rule.Hand.{Hand}
use Rattle.tx_ready_queue.specs.declared.tally.Tally.{Tally}
use Rattle.tx_ready_queue.specs.Numbers.{times}
use Rattle.tx_ready_queue.specs.Hands.{hand, puts, takes, keeps, begins, both, GivesBack, HoldsEach}
use Rattle.tx_ready_queue.specs.Stations.{IsTally, LeavesEach}
use Rattle.tx_ready_queue.proofs.Counting.{one_if, is_same, is_other, times_push, times_append, range_more}

-- the next number is put after those up to it
pub puts_next : (now : Hand) (number count : ℕ) → 1 ≤ number → number ≡ count → now ≡ hand 65536 (range_with_len 1 (number - 1)) [] → puts now number ≡ hand 65536 (range_with_len 1 count) []
puts_next now number count some same is =
    let more : range_with_len 1 (number - 1 + 1) ≡ range_with_len 1 (number - 1) ++ number ∷ [] = range_more 1 (number - 1) number (omega arith) in
    let all : number - 1 + 1 ≡ count = omega arith in
    ap (λ (v : Hand). puts v number) is ∙ ap (λ (l : List ℕ). hand 65536 l []) (sym more ∙ ap (range_with_len 1) all)

-- a number below the first is not in them
none_before : (first count number : ℕ) → number < first → times number (range_with_len first count) ≡ 0
none_before first zero number below = refl
none_before first (suc count) number below =
    omega (arith, sum_by-cons (λ x. one_if x number) first (range_with_len (first + 1) count), is_other first number (λ e. omega arith), none_before (first + 1) count number (omega arith))

-- a number is once in the numbers from the first on
pub once_within : (first count number : ℕ) → first ≤ number → number < first + count → times number (range_with_len first count) ≡ 1
once_within first zero number low high = absurd (omega arith)
once_within first (suc count) number low high =
    let more = sum_by-cons (λ x. one_if x number) first (range_with_len (first + 1) count) in elim (cases_eq first number) [
      | inl same ↦ omega (arith, is_same first number same, none_before (first + 1) count number (omega arith))
      | inr not_same ↦ omega (arith, is_other first number not_same, once_within (first + 1) count number (omega arith) (omega arith))
    ]

-- and not past the last of them
pub none_above : (first count number : ℕ) → first + count ≤ number → times number (range_with_len first count) ≡ 0
none_above first zero number above = refl
none_above first (suc count) number above =
    omega (arith, sum_by-cons (λ x. one_if x number) first (range_with_len (first + 1) count), is_other first number (λ e. omega arith), none_above (first + 1) count number (omega arith))

-- the hand that has put the numbers 1 to count
pub holds_each : (parts count : ℕ) → HoldsEach count (hand parts (range_with_len 1 count) [])
holds_each parts count = record {
  once = λ number low high. once_within 1 count number low (omega arith);
  none = λ number above. none_above 1 count number (omega arith);
}

-- a hand that begins gives back what it has taken, and so does one that takes a number and puts it back
pub begins_back : (now : Hand) → now ≡ begins → GivesBack now
begins_back now is = rw is (record { even = λ number. refl })

pub turns_back : (held between now : Hand) (number : ℕ) → between ≡ takes held number → now ≡ puts between number → GivesBack held → GivesBack now
turns_back held between now number took put back = rw (put, took) (record {
  even = λ other. let even = back.even other in omega (arith, times_push other held.put number, times_push other held.taken number);
})

-- a hand that gives one part away
pub keeps_back : (held now : Hand) → now ≡ keeps held → GivesBack held → GivesBack now
keeps_back held now is back = rw is (record { even = back.even })

pub keeps_each : (count : ℕ) (held now : Hand) → now ≡ keeps held → HoldsEach count held → HoldsEach count now
keeps_each count held now is each = rw is (record { once = each.once; none = each.none })

-- two hands in one
pub both_back : (one other now : Hand) → now ≡ both one other → GivesBack one → GivesBack other → GivesBack now
both_back one other now is back back' = rw is (record {
  even = λ number.
      let even = back.even number in
      let even' = back'.even number in
      omega (arith, times_append number one.put other.put, times_append number one.taken other.taken);
})

pub both_each : (count : ℕ) (one other now : Hand) → now ≡ both one other → HoldsEach count one → GivesBack other → HoldsEach count now
both_each count one other now is each back = rw is (record {
  once = λ number low high.
      let more = each.once number low high in
      let even = back.even number in
      omega (arith, times_append number one.put other.put, times_append number one.taken other.taken);
  none = λ number above.
      let same = each.none number above in
      let even = back.even number in
      omega (arith, times_append number one.put other.put, times_append number one.taken other.taken);
})

-- the tally of a hand that has put each number once more than it has taken it
pub leaves_each : (held : Hand) (tally : Tally) (count : ℕ) → count ≤ 256 → IsTally held tally → HoldsEach count held → LeavesEach count tally
leaves_each held tally count most is each = record {
  once = λ place within.
      let more = each.once (place + 1) (omega arith) (omega arith) in
      let left = is.left place (omega arith) in
      omega arith;
  none = λ place above within.
      let same = each.none (place + 1) (omega arith) in
      let left = is.left place within in
      omega arith;
}
