-- How a page is read: what is so where a line decides, and where it does not.
use Rattle.std.proofs.Common.{◌≡◌, Bool, true, false, Option, Some, None, ap}
use Rattle.tx_model.specs.Forms.{Outcome, ◌or◌, ◌when◌}

pub decides : (b : Bool) (r rest : Outcome) → b ≡ true → (r when b) rest ≡ r
decides b r rest is = ap (λ (x : Bool). (r when x) rest) is

pub passes : (b : Bool) (r rest : Outcome) → b ≡ false → (r when b) rest ≡ rest
passes b r rest is = ap (λ (x : Bool). (r when x) rest) is

pub misses : {A : Type 0} (o : Option A) (r : Outcome) (rest : A → Outcome) → o ≡ None → (o or r) rest ≡ r
misses {A = A} o r rest is = ap (λ (x : Option A). (x or r) rest) is

pub finds : {A : Type 0} (o : Option A) (x : A) (r : Outcome) (rest : A → Outcome) → o ≡ Some x → (o or r) rest ≡ rest x
finds {A = A} o x r rest is = ap (λ (y : Option A). (y or r) rest) is
