-- What is so of a text, and of it with lines in front.
use Rattle.std.proofs.Common.{ℕ, zero, suc, List, ◌++◌, sym, subst, append_assoc}
use Rattle.tx_state_text.specs.Each.{upto}

module _ (P : List ℕ → Type 0) where
  pub keeps_upto : (f : ℕ → List ℕ) → ((i : ℕ) (r : List ℕ) → P r → P (f i ++ r)) → (n : ℕ) (r : List ℕ) → P r → P (upto f n ++ r)
  unfolding upto
  keeps_upto f keeps zero r so = so
  keeps_upto f keeps (suc n) r so = subst P (sym (append_assoc (upto f n) (f n) r)) (keeps_upto f keeps n (f n ++ r) (keeps n r so))
