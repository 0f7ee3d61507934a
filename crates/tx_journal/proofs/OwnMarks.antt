-- The marks of a transaction's members, as far as they are copied.
use Rattle.std.proofs.Common.{◌≡◌, ◌≤◌, ◌<◌, ◌+◌, ℕ, zero, suc, List, Option, Some, None, length, replicate, get_or, arith, refl, ap, ◌∙◌}
use Rattle.std.proofs.lemmas.List.{length-replicate}
use Rattle.tx_base.specs.SlotFacts.{length-with_slot, slot_at-with_slot}
use Rattle.tx_base.specs.Slots.{slot_at, with_slot}
use Rattle.tx_base.specs.declared.marks.Mark.{Mark}
use Rattle.tx_journal.specs.Reach.{own_mark}

-- the slots of the first numbers have the marks of s, and the others nothing
pub record AreCopied (marks : ℕ → Option Mark) (width s : ℕ) (own : List (Option Mark)) (done : ℕ) : Type 0 where
  pub wide : length own ≡ width
  pub below : (n : ℕ) → n ≤ done → slot_at own n ≡ own_mark s (marks n)
  pub above : (n : ℕ) → done < n → slot_at own n ≡ None

same_in : {B : Type 0} (w n : ℕ) (x : B) → get_or (replicate w x) n x ≡ x
same_in zero n x = refl
same_in (suc w) zero x = refl
same_in (suc w) (suc n) x = same_in w n x

none_at : {A : Type 0} (slots : List (Option A)) (w n : ℕ) → slots ≡ replicate w None → slot_at slots n ≡ None
none_at slots w n h = grind (arith, same_in)

module _ (marks : ℕ → Option Mark) (width s : ℕ) where
  pub none_copied : (own : List (Option Mark)) → own ≡ replicate width None → marks 0 ≡ None → AreCopied marks width s own 0
  none_copied own new first = grind (arith, length-replicate, none_at)

  module _ (own : List (Option Mark)) (done : ℕ) (so : AreCopied marks width s own done) where
    pub one_copied : (next : List (Option Mark)) (mark : Mark) → done < width → next ≡ with_slot own (done + 1) (Some mark) → Some mark ≡ own_mark s (marks (done + 1)) → AreCopied marks width s next (done + 1)
    one_copied next mark under put is = record {
      wide = ap length put ∙ length-with_slot own (done + 1) (Some mark) ∙ so.wide;
      below = λ n low. grind (arith, slot_at-with_slot);
      above = λ n high. grind (arith, slot_at-with_slot);
    }

    pub none_added : None ≡ own_mark s (marks (done + 1)) → AreCopied marks width s own (done + 1)
    none_added none = grind arith

    pub all_copied : width ≤ done → ((n : ℕ) → width < n → marks n ≡ None) → (n : ℕ) → slot_at own n ≡ own_mark s (marks n)
    all_copied past beyond n = grind arith
