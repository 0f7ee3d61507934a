-- One write more.
use Rattle.std.proofs.Common.{◌≡◌, ℕ, zero, suc, ◌+◌, ◌-◌, List, [], ◌∷◌, ◌++◌, Option, Some, None, take, drop, length, refl, ap, ◌∙◌, arith, append_assoc, add-zero, zero-add}
use Rattle.std.specs.Io.KnownBytes.{Appends}
use Rattle.std.proofs.lemmas.List.{take_rest}

take_both : (text : List ℕ) (at n : ℕ) → take at text ++ take n (drop at text) ≡ take (at + n) text
take_both text zero n = rw zero-add refl
take_both [] (suc at) zero = rw add-zero refl
take_both [] (suc at) (suc n) = let one : suc at + suc n ≡ suc (at + suc n) = omega arith in rw one refl
take_both (byte ∷ text) (suc at) n = let one : suc at + n ≡ suc (at + n) = omega arith in rw one (ap (λ (t : List ℕ). byte ∷ t) (take_both text at n))

-- where a front of the text is written, and then a front of the rest
pub more_written : (before now after : Option (List ℕ)) (text : List ℕ) (at n : ℕ) → Appends before now (take at text) →
    Appends now after (take n (take (length text - at) (drop at text))) → Appends before after (take (at + n) text)
more_written None now after text at n so_far more = tt
more_written (Some before) None after text at n so_far more = absurd so_far
more_written (Some before) (Some now) None text at n so_far more = absurd more
more_written (Some before) (Some now) (Some after) text at n so_far more =
    more ∙ rw (so_far, take_rest, append_assoc) (ap (λ (t : List ℕ). before ++ t) (take_both text at n))
