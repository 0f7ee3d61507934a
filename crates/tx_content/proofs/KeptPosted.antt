-- Posts to what is kept, in the table of the transactions.
use Rattle.std.proofs.Common.{◌≡◌, ℕ, ◌≤◌, false, List, [], ◌∷◌, length, if◌then◌else◌, ◌==◌, Option, Some, None, is_some, option_map, Bor, refl, sym, ap, subst, ◌∙◌, inl, inr, eq-eqb, eqb-true}
use Rattle.std.proofs.lemmas.Bool.{both_ways, cases_Bool}
use Rattle.tx_base.specs.SlotFacts.{length-with_slot, slot_at-with_slot, slot_now, slot_same, slot_there, slot_twice}
use Rattle.tx_base.specs.Slots.{slot_at, with_slot}
use Rattle.tx_content.specs.Inverses.{unposted_at, unposted_if}
use Rattle.tx_content.specs.KeptPosts.{posted_at, posted_one, PostsKept}
use Rattle.tx_content.specs.Redone.{reposted_at}
use Rattle.tx_content.specs.declared.content.BoxedTxn.{BoxedTxn}
use Rattle.tx_model.specs.State.{Sending}
use Rattle.tx_txn.specs.declared.kept.Unpost.{Unpost}
use Rattle.std.specs.Box.{with_value}
use Rattle.std.specs.Option.{option_copied}
use Rattle.tx_cred.specs.Cred.{ids_of}
use Rattle.tx_txn.specs.Faces.{pending_after, pending_by, running}
use Rattle.tx_txn.specs.KeptParts.{posted_again, unposted}
use Rattle.tx_txn.specs.declared.kept.Repost.{Repost}
use Rattle.tx_txn.specs.declared.kept.Kept.{Kept}
use Rattle.tx_txn.specs.declared.txn.Txn.{Txn}

none_at : (n : ℕ) (slot : Option BoxedTxn) → slot ≡ option_map (posted_at n []) slot
unfolding pending_by
none_at n None = refl
none_at n (Some boxed) = refl

pub none_posted : (txns : List (Option BoxedTxn)) → PostsKept txns txns []
none_posted txns = record { width = refl; each = λ n. none_at n (slot_at txns n) }

here : (m : Sending) (boxed : BoxedTxn) → posted_at m.target (m ∷ []) boxed ≡ posted_one m boxed
unfolding pending_by
here m boxed = rw (eq-eqb m.target m.target refl) refl

elsewhere : (n : ℕ) (m : Sending) (slot : Option BoxedTxn) → (m.target == n) ≡ false → option_map (posted_at n (m ∷ [])) slot ≡ slot
unfolding pending_by
elsewhere n m None e = refl
elsewhere n m (Some boxed) e = rw e refl

-- nothing is kept of a target that is no starter
pub absent_posted : (txns : List (Option BoxedTxn)) (m : Sending) → slot_at txns m.target ≡ None → PostsKept txns txns (m ∷ [])
absent_posted txns m none = record { width = refl; each = λ n. by n }
  where
    by : (n : ℕ) → slot_at txns n ≡ option_map (posted_at n (m ∷ [])) (slot_at txns n)
    by n = elim (cases_Bool (m.target == n)) [
      | inl e ↦ let empty : slot_at txns n ≡ None = subst (λ (k : ℕ). slot_at txns k ≡ None) (eqb-true m.target n e) none in rw empty refl
      | inr e ↦ sym (elsewhere n m (slot_at txns n) e)
    ]

-- the target's slot alone changes
pub slot_posted : (old new : List (Option BoxedTxn)) (m : Sending) (boxed after : BoxedTxn) → slot_at old m.target ≡ Some boxed → after ≡ posted_one m boxed →
    new ≡ with_slot old m.target (Some after) → PostsKept old new (m ∷ [])
slot_posted old new m boxed after there is now = record {
  width = ap length now ∙ length-with_slot old m.target (Some after);
  each = λ n. ap (λ (txns : List (Option BoxedTxn)). slot_at txns n) now ∙ slot_at-with_slot old m.target (Some after) n bounds.0 bounds.1 ∙ by n;
}
  where
    bounds : (1 ≤ m.target) × (m.target ≤ length old)
    bounds = slot_there old m.target boxed there

    by : (n : ℕ) → (if n == m.target then Some after else slot_at old n) ≡ option_map (posted_at n (m ∷ [])) (slot_at old n)
    by n = elim (cases_Bool (n == m.target)) [
      | inl e ↦ rw e (subst (λ (k : ℕ). Some after ≡ option_map (posted_at k (m ∷ [])) (slot_at old k)) (sym (eqb-true n m.target e))
          (ap Some (is ∙ sym (here m boxed)) ∙ ap (option_map (posted_at m.target (m ∷ []))) (sym there)))
      | inr e ↦ rw e (sym (elsewhere n m (slot_at old n) (by_other n e)))
    ]
      where
        by_other : (k : ℕ) → (k == m.target) ≡ false → (m.target == k) ≡ false
        by_other k e = elim (cases_Bool (m.target == k)) [
          | inl z ↦ absurd (both_ways (k == m.target) e (eq-eqb k m.target (sym (eqb-true m.target k z))))
          | inr z ↦ z
        ]

-- and back
pub slot_back : (old new : List (Option BoxedTxn)) (n : ℕ) (boxed after : BoxedTxn) (change : BoxedTxn → BoxedTxn) → slot_at old n ≡ Some boxed → change after ≡ boxed →
    new ≡ with_slot old n (Some after) → with_slot new n (option_map change (slot_at new n)) ≡ old
slot_back old new n boxed after change there back now =
    let bounds : (1 ≤ n) × (n ≤ length old) = slot_there old n boxed there in
    let at : slot_at new n ≡ Some after = ap (λ (txns : List (Option BoxedTxn)). slot_at txns n) now ∙ slot_now old n (Some after) bounds.0 bounds.1 in
    ap (λ (x : Option BoxedTxn). with_slot new n (option_map change x)) at
    ∙ ap (λ (b : BoxedTxn). with_slot new n (Some b)) back
    ∙ ap (λ (txns : List (Option BoxedTxn)). with_slot txns n (Some boxed)) now
    ∙ slot_twice old n (Some after) (Some boxed)
    ∙ ap (with_slot old n) (sym there) ∙ slot_same old n bounds.0

pub slot_kept : (old new : List (Option BoxedTxn)) (n : ℕ) (boxed after : BoxedTxn) → slot_at old n ≡ Some boxed → after ≡ boxed → new ≡ with_slot old n (Some after) → new ≡ old
slot_kept old new n boxed after there same now =
    let bounds : (1 ≤ n) × (n ≤ length old) = slot_there old n boxed there in
    now ∙ ap (λ (b : BoxedTxn). with_slot old n (Some b)) same ∙ ap (with_slot old n) (sym there) ∙ slot_same old n bounds.0

-- a slot that has nothing to read is empty
pub gone : {A : Type 0} (slot : Option (Bor A)) → is_some slot ≡ false → option_copied slot ≡ None
gone None e = refl
gone (Some it) e = cc

-- a box whose transaction keeps something else of its starter
abbrev pub keeping : BoxedTxn → Txn → Kept → BoxedTxn
keeping boxed txn kept = record boxed { txn = with_value boxed.txn (record txn { kept = kept }) }

pub boxed_posted : (boxed : BoxedTxn) (txn : Txn) (kept : Kept) (m : Sending) → txn ≡ boxed.txn.value →
    kept.pending ≡ pending_after m (Some (running (ids_of txn.kept.ids))) txn.kept.pending → kept.ids ≡ txn.kept.ids → keeping boxed txn kept ≡ posted_one m boxed
boxed_posted boxed txn kept m is pending ids =
    subst (λ (t : Txn). kept.pending ≡ pending_after m (Some (running (ids_of t.kept.ids))) t.kept.pending → kept.ids ≡ t.kept.ids → keeping boxed t kept ≡ posted_one m boxed) (sym is)
    (λ p i j. keeping boxed boxed.txn.value (record { ids = i j; pending = p j })) pending ids

pub boxed_unposted : (boxed : BoxedTxn) (txn : Txn) (kept : Kept) (unpost : Option Unpost) → txn ≡ boxed.txn.value →
    unposted unpost kept.pending ≡ txn.kept.pending → kept.ids ≡ txn.kept.ids → unposted_if unpost (keeping boxed txn kept) ≡ boxed
boxed_unposted boxed txn kept None is back ids =
    subst (λ (t : Txn). kept.pending ≡ t.kept.pending → kept.ids ≡ t.kept.ids → keeping boxed t kept ≡ boxed) (sym is)
    (λ p i j. keeping boxed boxed.txn.value (record { ids = i j; pending = p j })) back ids
boxed_unposted boxed txn kept (Some unpost) is back ids =
    subst (λ (t : Txn). unposted (Some unpost) kept.pending ≡ t.kept.pending → kept.ids ≡ t.kept.ids → unposted_at unpost (keeping boxed t kept) ≡ boxed) (sym is)
    (λ p i j. keeping boxed boxed.txn.value (record { ids = i j; pending = p j })) back ids

-- a post that was taken back, and what makes it again
pub boxed_reposted : (boxed : BoxedTxn) (txn : Txn) (kept : Kept) (repost : Repost) → txn ≡ boxed.txn.value →
    posted_again repost kept.pending ≡ txn.kept.pending → kept.ids ≡ txn.kept.ids → reposted_at repost (keeping boxed txn kept) ≡ boxed
boxed_reposted boxed txn kept repost is again ids =
    subst (λ (t : Txn). posted_again repost kept.pending ≡ t.kept.pending → kept.ids ≡ t.kept.ids → reposted_at repost (keeping boxed t kept) ≡ boxed) (sym is)
    (λ p i j. keeping boxed boxed.txn.value (record { ids = i j; pending = p j })) again ids
