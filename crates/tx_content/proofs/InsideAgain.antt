-- A step inside of a transaction that was taken back, and what makes it again.
use Rattle.std.proofs.Common.{◌≡◌, ℕ, ◌+◌, ◌-◌, ◌≤◌, Bool, true, false, not, ◌&&◌, if◌then◌else◌, List, [], ◌∷◌, ◌++◌, length, length-drop, map, take, Option, Some, None, is_some, arith, refl, sym, ap, subst, ◌∙◌, inl, inr}
use Rattle.std.proofs.lemmas.Bool.{cases_Bool}
use Rattle.std.proofs.lemmas.List.{length-take-le, take-append-drop}
use Rattle.tx_base.specs.SlotFacts.{length-with_slot, slot_now, slot_same, slot_twice}
use Rattle.tx_base.specs.Slots.{slot_at, with_slot}
use Rattle.tx_base.specs.declared.marks.Mark.{Mark}
use Rattle.tx_base.specs.declared.names.Sending.{Sending}
use Rattle.tx_change.specs.Exchange.{applied, exchanged, reverted, sizes_of, undone, Sizes, AreNamed, AreWithin}
use Rattle.tx_change.specs.Laws.{BringPlaces}
use Rattle.tx_change.specs.Stacks.{below_top, moved_onto, top_of}
use Rattle.tx_change.specs.declared.change.Change.{Change}
use Rattle.tx_change.specs.declared.parts.Parts.{Parts}
use Rattle.tx_content.proofs.Insides.{but_last, map_append, no_more}
use Rattle.tx_base.specs.SlotFacts.{slot_there}
use Rattle.tx_content.proofs.OutsideAgain.{led_named}
use Rattle.tx_content.proofs.Others.{owned_by}
use Rattle.tx_content.specs.Content.{IsShaped, IsTxn}
use Rattle.tx_content.specs.Inverses.{first_of, last_of, less_last, remarked, step_back, with_txn, HasLog, HasMark, UndoesInside}
use Rattle.tx_content.specs.Laws.{LiveLaws}
use Rattle.tx_content.specs.Redone.{mark_there, turned, with_last, HasStep, IsLastOf, IsTakenBack}
use Rattle.tx_content.specs.declared.content.BoxedTxn.{BoxedTxn}
use Rattle.tx_content.specs.declared.content.Content.{Content}
use Rattle.tx_content.specs.declared.inverse.Inverse.TheVariants.{Inside}
use Rattle.tx_content.specs.declared.marking.Marked.{Marked}
use Rattle.tx_content.specs.declared.member_step.MemberStep.{MemberStep}
use Rattle.tx_content.specs.declared.undone.Undone.TheVariants as undo
use Rattle.tx_model.specs.State.{Object}
use Rattle.tx_reserve.specs.Objects.{is_in}
use Rattle.tx_reserve.specs.Reservations.{owner_of}
use Rattle.tx_reserve.specs.declared.objects.Objects.{Objects}
use Rattle.tx_txn.specs.Outboxes.{unmade, Held}
use Rattle.tx_txn.specs.declared.outbox.HeldPost.{HeldPost}
use Rattle.tx_txn.specs.declared.txn.Txn.{Txn}

pub named_later : (sizes : Sizes) (front behind : List Change) → AreWithin sizes (front ++ behind) → AreWithin sizes behind
named_later sizes [] behind named = named
named_later sizes (change ∷ front) behind named = named_later sizes front behind named.1

brings_later : (front behind : List Change) → BringPlaces (front ++ behind) → BringPlaces behind
brings_later [] behind brings = brings
brings_later (change ∷ front) behind brings = brings_later front behind brings.1

-- a mark that was put back, and the one that stood there
marks_again : (marked : Option Marked) (marks : List (Option Mark)) → HasMark marks marked → remarked (mark_there marked marks) (remarked marked marks) ≡ marks
marks_again None marks has = refl
marks_again (Some marked) marks has = slot_twice marks marked.pid.0 marked.mark (slot_at marks marked.pid.0) ∙ slot_same marks marked.pid.0 has.0

mark_same : (marked : Option Marked) (marks : List (Option Mark)) → HasMark marks marked → mark_there (mark_there marked marks) (remarked marked marks) ≡ marked
mark_same None marks has = refl
mark_same (Some marked) marks has = ap (λ (mark : Option Mark). Some (record { pid = marked.pid; mark = mark })) (slot_now marks marked.pid.0 marked.mark has.0 has.1)

has_there : (marked : Option Marked) (marks : List (Option Mark)) → HasMark marks marked → HasMark (remarked marked marks) (mark_there marked marks)
has_there None marks has = tt
has_there (Some marked) marks has = (has.0, subst (λ (n : ℕ). marked.pid.0 ≤ n) (sym (length-with_slot marks marked.pid.0 marked.mark)) has.1)

-- a list of which nothing is left out by leaving out the last
none_left_out : {A : Type 0} (xs : List A) → length (take (length xs - 1) xs) + 0 ≡ length xs → take (length xs - 1) xs ≡ xs
none_left_out [] long = refl
none_left_out (x ∷ xs) long =
    let all = length-take-le (length (x ∷ xs) - 1) (x ∷ xs) (omega arith) in
    let never : ⊥ = omega (arith, all, long) in
    absurd never

-- what is held but for the last, if it was handed out, and that held again
pub held_again : (held : Bool) (sendings : List Sending) (posts : List HeldPost) (last : Option Sending) → posts ≡ map (λ m. unmade) sendings →
    IsLastOf held (record { sendings = sendings; posts = posts }) last → with_last last (less_last held (record { sendings = sendings; posts = posts })) ≡ record { sendings = sendings; posts = posts }
held_again false sendings posts None unmades is = refl
held_again false sendings posts (Some m) unmades is = cc
held_again true sendings posts None unmades is = λ i. record {
  sendings = sym (is.0 ∙ no_more (take (length sendings - 1) sendings)) i;
  posts = none_left_out posts is.1 i;
}
held_again true sendings posts (Some m) unmades is = λ i. record { sendings = sym is.0 i; posts = posts_are i }
  where
    front : List HeldPost
    front = map (λ m. unmade) (take (length sendings - 1) sendings)

    all : posts ≡ front ++ unmade ∷ []
    all = unmades ∙ ap (map (λ m. unmade)) is.0 ∙ map_append (λ m. unmade) (take (length sendings - 1) sendings) (m ∷ [])

    posts_are : take (length posts - 1) posts ++ unmade ∷ [] ≡ posts
    posts_are = ap (λ (ps : List HeldPost). take (length ps - 1) ps ++ unmade ∷ []) all ∙ ap (λ (ps : List HeldPost). ps ++ unmade ∷ []) (but_last front unmade) ∙ sym all

less_same : (held : Bool) (sendings : List Sending) (posts : List HeldPost) (last : Option Sending) →
    IsLastOf held (record { sendings = sendings; posts = posts }) last → less_last (is_some last) (record { sendings = sendings; posts = posts }) ≡ less_last held (record { sendings = sendings; posts = posts })
less_same false sendings posts None is = refl
less_same false sendings posts (Some m) is = cc
less_same true sendings posts (Some m) is = refl
less_same true sendings posts None is = λ i. record {
  sendings = (is.0 ∙ no_more (take (length sendings - 1) sendings)) i;
  posts = sym (none_left_out posts is.1) i;
}

module _ (laws : LiveLaws) (k before : Content) (step : MemberStep) (held : Bool) (last : Option Sending) (boxed : BoxedTxn) (stack moved : List Change)
    (shaped : IsShaped k) (has : HasLog k step.starter step.count boxed) (mark : HasMark k.marks step.marked) (undoes : UndoesInside k step held before boxed)
    (moved_is : moved ≡ moved_onto stack k.parts (last_of step.count boxed.txn.value.log)) (is_last : IsLastOf held boxed.txn.value.outbox last) where
  abbrev s : ℕ
  s = step.starter.0

  abbrev t0 : Txn
  t0 = boxed.txn.value

  abbrev own : List Change
  own = last_of step.count t0.log

  abbrev U : Parts
  U = undone k.parts own

  abbrev left : Option Marked
  left = mark_there step.marked k.marks

  -- the transaction before the step
  abbrev t1 : Txn
  t1 = step_back step held t0

  was : IsTxn k s t0
  was = shaped.each s boxed has.there

  bounds : (1 ≤ s) × (s ≤ length k.txns)
  bounds = slot_there k.txns s boxed has.there

  long : length own ≡ step.count
  long = let all = length-drop (length t0.log - step.count) t0.log in let few = has.few in omega (arith, all, few)

  whole : first_of step.count t0.log ++ own ≡ t0.log
  whole = take-append-drop (length t0.log - step.count) t0.log

  named_own : AreNamed k.parts own
  named_own = named_later (sizes_of k.parts) (first_of step.count t0.log) own (subst (AreNamed k.parts) (sym whole) was.named)

  brings_own : BringPlaces own
  brings_own = brings_later (first_of step.count t0.log) own (subst BringPlaces (sym whole) was.brings)

  top_is : top_of step.count moved ≡ reverted k.parts own
  top_is = ap (top_of step.count) moved_is ∙ subst (λ (n : ℕ). top_of n (moved_onto stack k.parts own) ≡ reverted k.parts own) long (laws.on_top stack k.parts own)

  few_moved : step.count ≤ length moved
  few_moved = subst (λ (cs : List Change). step.count ≤ length cs) (sym moved_is) (subst (λ (n : ℕ). n ≤ length (moved_onto stack k.parts own)) long (laws.moved stack k.parts own))

  below_is : below_top step.count moved ≡ stack
  below_is = ap (below_top step.count) moved_is ∙ subst (λ (n : ℕ). below_top n (moved_onto stack k.parts own) ≡ stack) long (laws.below stack k.parts own)

  log_again : first_of step.count t0.log ++ exchanged U (top_of step.count moved) ≡ t0.log
  log_again = ap (λ (cs : List Change). first_of step.count t0.log ++ exchanged U cs) top_is
      ∙ ap (λ (cs : List Change). first_of step.count t0.log ++ cs) (laws.come_back k.parts own named_own brings_own shaped.places) ∙ whole

  outbox_again : with_last last (less_last held t0.outbox) ≡ t0.outbox
  outbox_again = held_again held t0.outbox.sendings t0.outbox.posts last was.posts is_last

  -- the content before, but for what is known of its owners
  abbrev prior : Content
  prior = record { parts = U; marks = remarked step.marked k.marks; owners = before.owners; txns = with_slot k.txns s (Some (with_txn boxed t1)) }

  prior_is : prior ≡ before
  prior_is = λ i. record { parts = undoes.parts i; marks = undoes.marks i; owners = before.owners; txns = undoes.txns i }

  there_prior : slot_at prior.txns s ≡ Some (with_txn boxed t1)
  there_prior = slot_now k.txns s (Some (with_txn boxed t1)) bounds.0 bounds.1

  owners_again : (o : Object) → owner_of k.owners o ≡ (if is_in t0.objects o then Some t0.starter.0 else owner_of before.owners o)
  owners_again o = elim (cases_Bool (is_in t0.objects o)) [
    | inl e ↦ rw e (owned_by s (owner_of k.owners o) (sym (was.objects o) ∙ e) ∙ ap Some (sym was.starter))
    | inr e ↦ rw e (sym (undoes.owners o ∙ ap (λ (b : Bool). if b && not (is_in step.objects o) then None else owner_of k.owners o) e))
  ]

  has_step : HasStep prior (turned k boxed step) moved
  has_step = record {
    boxed = with_txn boxed t1;
    there = there_prior;
    few = few_moved;
    named = subst (AreNamed U) (sym top_is) (led_named laws k.parts own named_own);
    mark = has_there step.marked k.marks mark;
  }

  again_here : IsTakenBack prior (undo.Inside (turned k boxed step) last) moved k stack
  again_here = record {
    inverse = Inside step (is_some last);
    fits = has_step;
    redoes = (
      with_txn boxed t1,
      record {
        there = there_prior;
        parts = ap (applied U) top_is ∙ laws.apply_again k.parts own named_own;
        marks = marks_again step.marked k.marks mark;
        owners = owners_again;
        sized = shaped.owners;
        txns = slot_twice k.txns s (Some (with_txn boxed t1)) (Some (with_txn boxed (record t0 { log = first_of step.count t0.log ++ exchanged U (top_of step.count moved); outbox = with_last last (less_last held t0.outbox) })))
            ∙ (λ i. with_slot k.txns s (Some (with_txn boxed (record t0 { log = log_again i; outbox = outbox_again i }))))
            ∙ ap (with_slot k.txns s) (sym has.there) ∙ slot_same k.txns s bounds.0;
      },
      (λ i. Inside (record step { marked = mark_same step.marked k.marks mark i }) (is_some last)),
    );
    below = below_is;
    goes = ((boxed, has), mark);
    whole = tt;
    back = (
      boxed,
      record {
        there = has.there;
        parts = refl;
        marks = refl;
        owners = undoes.owners;
        sized = undoes.sized;
        txns = ap (λ (h : Held). with_slot k.txns s (Some (with_txn boxed (record t1 { outbox = h })))) (less_same held t0.outbox.sendings t0.outbox.posts last is_last);
      },
    );
  }

  inside_here : IsTakenBack before (undo.Inside (turned k boxed step) last) moved k stack
  inside_here = subst (λ (b : Content). IsTakenBack b (undo.Inside (turned k boxed step) last) moved k stack) prior_is again_here

pub inside_again : LiveLaws → (k before : Content) (step : MemberStep) (after : Objects) (left : Option Marked) (held : Bool) (last : Option Sending) (boxed : BoxedTxn) (txn old : Txn) (stack moved : List Change) →
    IsShaped k → HasLog k step.starter step.count boxed → HasMark k.marks step.marked → UndoesInside k step held before boxed →
    txn ≡ boxed.txn.value → old ≡ boxed.txn.value → after ≡ old.objects → left ≡ mark_there step.marked k.marks → moved ≡ moved_onto stack k.parts (last_of step.count txn.log) → IsLastOf held txn.outbox last →
    IsTakenBack before (undo.Inside (record step { objects = after; marked = left }) last) moved k stack
inside_again laws k before step after left held last boxed txn old stack moved shaped has mark undoes is was_is after_is left_is moved_is is_last =
    subst (λ (os : Objects). IsTakenBack before (undo.Inside (record step { objects = os; marked = left }) last) moved k stack) (sym (after_is ∙ ap (λ (t : Txn). t.objects) was_is))
    (subst (λ (m : Option Marked). IsTakenBack before (undo.Inside (record step { objects = boxed.txn.value.objects; marked = m }) last) moved k stack) (sym left_is)
    (inside_here laws k before step held last boxed stack moved shaped has mark undoes
    (moved_is ∙ ap (λ (t : Txn). moved_onto stack k.parts (last_of step.count t.log)) is) (subst (λ (t : Txn). IsLastOf held t.outbox last) is is_last)))
