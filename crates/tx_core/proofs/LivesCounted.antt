-- The slots that have a transaction are as many as are live.
use Rattle.std.proofs.Common.{◌≡◌, ℕ, zero, suc, ◌+◌, ◌≤◌, Bool, true, false, cond, List, Option, Some, None, is_some, option_map, length, get_or, take, take_all, refl, sym, ap, ◌∙◌, arith}
use Rattle.std.proofs.lemmas.List.Sums.{sum_by_more}
use Rattle.tx_base.specs.Slots.{slot_at}
use Rattle.tx_content.specs.Content.{txn_of, view_of}
use Rattle.tx_content.specs.Tables.{live_count}
use Rattle.tx_content.specs.declared.content.BoxedTxn.{BoxedTxn}
use Rattle.tx_content.specs.declared.content.Content.{Content}
use Rattle.tx_core.specs.Lives.{lives, lives_to, one_if}
use Rattle.tx_laws.specs.TwoStates.{states_view}
use Rattle.tx_model.specs.Membership.{Table, is_live}
use Rattle.tx_step.specs.Contents.{IsContent}
use Rattle.tx_txn.specs.Marks.{table_at}

one_is : (b : Bool) → cond b 1 0 ≡ one_if b
one_is true = refl
one_is false = refl

-- among the first slots
counted_to : (slots : List (Option BoxedTxn)) (t : Table) (n : ℕ) → n ≤ length slots → ((s : ℕ) → is_some (slot_at slots s) ≡ is_live t s) → live_count (take n slots) ≡ lives_to t n
unfolding lives_to
counted_to slots t zero few same = refl
counted_to slots t (suc n) few same =
    let after : suc n ≡ n + 1 = omega arith in
    let next : live_count (take (suc n) slots) ≡ live_count (take n slots) + cond (is_some (get_or slots n None)) 1 0
    = ap (λ (m : ℕ). live_count (take m slots)) after ∙ sum_by_more (λ slot. cond (is_some slot) 1 0) slots n None (omega arith) in
    let one : cond (is_some (get_or slots n None)) 1 0 ≡ one_if (is_live t (suc n)) = one_is (is_some (get_or slots n None)) ∙ ap one_if (same (suc n)) in
    let rest : live_count (take n slots) ≡ lives_to t n = counted_to slots t n (omega arith) same in
    omega (arith, next, one, rest)

still_some : (slot : Option BoxedTxn) → is_some slot ≡ is_some (option_map txn_of slot)
still_some None = refl
still_some (Some boxed) = refl

pub lives_counted : (k : Content) → IsContent k → live_count k.txns ≡ lives (view_of k).table
unfolding view_of states_view
lives_counted k is =
    let long : length k.txns ≡ length k.marks = is.shaped.txns ∙ sym is.shaped.marks in
    sym (ap live_count (take_all (length k.txns) k.txns (omega arith)))
    ∙ counted_to k.txns (table_at k.marks) (length k.txns) (omega arith) (λ s. still_some (slot_at k.txns s) ∙ is.kept.live s)
    ∙ ap (lives_to (table_at k.marks)) long
