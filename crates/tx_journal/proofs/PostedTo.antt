-- Whether sends go to a process.
use Rattle.std.proofs.Common.{◌≡◌, ◌<◌, ◌≤◌, ◌+◌, ℕ, zero, suc, Bool, true, false, ◌||◌, ◌==◌, List, [], ◌∷◌, ◌++◌, map, drop, length, slice_index_or, Option, None, refl, sym, ap, ◌∙◌, arith}
use Rattle.std.proofs.Math.Bool.{or-false}
use Rattle.tx_base.specs.declared.names.Sending.{Sending}
use Rattle.tx_step.specs.Faces.{sent_at_commit}
use Rattle.tx_kernel.specs.Plans.{sending_of, sent_at_once}
use Rattle.tx_kernel.specs.declared.planned.Sends.{Sends}
use Rattle.tx_kernel.specs.declared.planned.Sends.TheVariants.{AtOnce, AtCommit}
use Rattle.tx_laws.specs.OneMoment.{is_sent_to}
use Rattle.tx_content.specs.Content.{held_in}
use Rattle.tx_content.specs.declared.content.BoxedTxn.{BoxedTxn}
use Rattle.tx_model.specs.State.{Sending as TheSending}

or_assoc : (a b c : Bool) → ((a || b) || c) ≡ (a || (b || c))
or_assoc a b c = grind arith

-- a send alone, and none
pub one_sent : (s : ℕ) (m : TheSending) → (m.target == s) ≡ is_sent_to s (m ∷ [])
unfolding is_sent_to
one_sent s m = sym (or-false (m.target == s))

pub none_sent : (s : ℕ) → false ≡ is_sent_to s []
unfolding is_sent_to
none_sent s = refl

-- of two lists of sends
pub sent_of_both : (s : ℕ) (xs ys : List TheSending) → is_sent_to s (xs ++ ys) ≡ (is_sent_to s xs || is_sent_to s ys)
unfolding is_sent_to
sent_of_both s [] ys = refl
sent_of_both s (m ∷ xs) ys = ap (λ (b : Bool). m.target == s || b) (sent_of_both s xs ys) ∙ sym (or_assoc (m.target == s) (is_sent_to s xs) (is_sent_to s ys))

-- of the sends from a place on
pub sent_from : (s : ℕ) (ms : List Sending) (i : ℕ) (d : Sending) → i < length ms →
    is_sent_to s (map sending_of (drop i ms)) ≡ ((slice_index_or ms i d).target.0 == s || is_sent_to s (map sending_of (drop (suc i) ms)))
unfolding is_sent_to
sent_from s [] i d h = let never : ⊥ = omega (arith, h) in absurd never
sent_from s (m ∷ ms) zero d h = refl
sent_from s (m ∷ ms) (suc i) d h = sent_from s ms i d (omega (arith, h))

pub sent_end : (s : ℕ) (ms : List Sending) (i : ℕ) → length ms ≤ i → is_sent_to s (map sending_of (drop i ms)) ≡ false
unfolding is_sent_to
sent_end s [] zero few = refl
sent_end s [] (suc i) few = refl
sent_end s (m ∷ ms) zero few = absurd (omega (arith, few))
sent_end s (m ∷ ms) (suc i) few = sent_end s ms i (omega (arith, few))

-- of what a step itself sends, at once and at a commit
pub not_at_once : (s : ℕ) (first : Sends) → ((m : Sending) → first ≡ AtOnce m → ⊥) → false ≡ is_sent_to s (sent_at_once first)
not_at_once s first other = grind (arith, none_sent)

pub not_at_commit : (s : ℕ) (first : Sends) → ((m : Sending) → first ≡ AtCommit m → ⊥) → false ≡ is_sent_to s (sent_at_commit first)
not_at_commit s first other = grind (arith, none_sent)

pub sent_here : (s : ℕ) (ms : List Sending) (i : ℕ) (d : Sending) → i < length ms → ((slice_index_or ms i d).target.0 == s) ≡ true → is_sent_to s (map sending_of (drop i ms)) ≡ true
sent_here s ms i d h here = sent_from s ms i d h ∙ ap (λ (b : Bool). b || is_sent_to s (map sending_of (drop (suc i) ms))) here

pub sent_later : (s : ℕ) (ms : List Sending) (i : ℕ) (d : Sending) → i < length ms → ((slice_index_or ms i d).target.0 == s) ≡ false →
    is_sent_to s (map sending_of (drop i ms)) ≡ is_sent_to s (map sending_of (drop (i + 1) ms))
sent_later s ms i d h other =
    let more : suc i ≡ i + 1 = omega arith in
    sent_from s ms i d h ∙ ap (λ (b : Bool). b || is_sent_to s (map sending_of (drop (suc i) ms))) other ∙ ap (λ (n : ℕ). is_sent_to s (map sending_of (drop n ms))) more

-- a starter with no transaction holds nothing
pub none_held : (s : ℕ) (slot : Option BoxedTxn) → slot ≡ None → false ≡ is_sent_to s (held_in slot)
none_held s slot none = none_sent s ∙ ap (λ (x : Option BoxedTxn). is_sent_to s (held_in x)) (sym none)
