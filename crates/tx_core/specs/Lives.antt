-- How many transactions are live.
use Rattle.std.specs.Prelude.{ℕ, zero, suc, ◌+◌, Bool, true, false}
use Rattle.tx_model.specs.Membership.{Table, is_live}

abbrev pub one_if : Bool → ℕ
one_if true = 1
one_if false = 0

-- the starters of live transactions among the numbers 1 to n
unfoldable pub lives_to : Table → ℕ → ℕ
lives_to t zero = 0
lives_to t (suc n) = one_if (is_live t (suc n)) + lives_to t n

abbrev pub lives : Table → ℕ
lives t = lives_to t t.width
