-- How many transactions are live, where what is live changes at one number.
use Rattle.std.proofs.Common.{◌≡◌, ◌≢◌, ℕ, zero, suc, ◌+◌, ◌<◌, ◌≤◌, Bool, true, arith}
use Rattle.tx_core.specs.Lives.{lives_to, one_if}
use Rattle.tx_model.specs.Membership.{Table, is_live}

pub one_most : (a : Bool) → one_if a ≤ 1
one_most a = grind arith

-- what is live after is live before, but for one number
abbrev pub LessBut : ℕ → Table → Table → Type 0
LessBut s new old = (n : ℕ) → n ≢ s → is_live new n ≡ true → is_live old n ≡ true

pub one_less : (a b : Bool) → (a ≡ true → b ≡ true) → one_if a ≤ one_if b
one_less a b h = grind arith

-- the number is greater than all of those
pub above : (s : ℕ) (new old : Table) (n : ℕ) → n < s → LessBut s new old → lives_to new n ≤ lives_to old n
unfolding lives_to
above s new old zero under less = omega arith
above s new old (suc n) under less = grind (arith, one_less, above s new old n)

-- the number is among those
pub among : (s : ℕ) (new old : Table) (n : ℕ) → 1 ≤ s → s ≤ n → LessBut s new old → lives_to new n + one_if (is_live old s) ≤ lives_to old n + one_if (is_live new s)
unfolding lives_to
among s new old zero low high less = absurd (omega (arith, low, high))
among s new old (suc n) low high less = grind (arith, above, one_less, among s new old n)

-- where no more are live, no more are counted
pub no_more : (new old : Table) (n : ℕ) → ((s : ℕ) → is_live new s ≡ true → is_live old s ≡ true) → lives_to new n ≤ lives_to old n
no_more new old n less = above (suc n) new old n (omega arith) (λ s other. less s)
