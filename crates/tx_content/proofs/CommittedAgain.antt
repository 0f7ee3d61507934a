-- A commit that was taken back, and what makes it again.
use Rattle.std.proofs.Common.{◌≡◌, ℕ, ◌-◌, ◌≤◌, Bool, List, length, length-drop, map, Option, Some, None, option_map, arith, refl, sym, ap, subst, ◌∙◌}
use Rattle.std.proofs.lemmas.List.{length-map, take-append-drop}
use Rattle.std.proofs.lemmas.Option.{same_Some}
use Rattle.tx_base.specs.SlotFacts.{slot_now, slot_same, slot_twice}
use Rattle.tx_base.specs.Slots.{slot_at, with_slot}
use Rattle.tx_base.specs.declared.names.Pid.{Pid}
use Rattle.tx_base.specs.declared.names.Sending.{Sending}
use Rattle.tx_change.specs.Exchange.{applied, reverted, sizes_of, undone, Sizes, AreNamed, AreWithin}
use Rattle.tx_change.specs.Stacks.{below_top, moved_onto, top_of}
use Rattle.tx_change.specs.declared.change.Change.{Change}
use Rattle.tx_change.specs.declared.parts.Parts.{Parts}
use Rattle.tx_kernel.specs.Plans.{sending_of}
use Rattle.tx_content.proofs.AbortedAgain.{ended_marks, ended_owners}
use Rattle.tx_content.specs.ContentFacts.{is_covered}
use Rattle.tx_content.proofs.InsideAgain.{held_again, named_later}
use Rattle.tx_content.proofs.OutsideAgain.{led_named}
use Rattle.tx_content.proofs.PostsTaken.{unposted_long}
use Rattle.tx_content.specs.Content.{IsShaped, IsTxn}
use Rattle.tx_content.specs.HeldPosts.{HaveSignals, PostsAll}
use Rattle.tx_content.specs.Inverses.{first_of, last_of, none_made, post_changes, uncommitted, unposted_all, with_txn, HasPosts, UndoesCommitted}
use Rattle.tx_content.specs.Laws.{LiveLaws}
use Rattle.tx_content.specs.KeptPosts.{posted_at}
use Rattle.tx_content.specs.Redone.{with_last, HasCommit, IsGone, IsLastOf, IsTakenBack, WasPosted}
use Rattle.tx_content.specs.declared.content.BoxedTxn.{BoxedTxn}
use Rattle.tx_content.specs.declared.content.Content.{Content}
use Rattle.tx_content.specs.declared.inverse.Inverse.TheVariants.{Committed}
use Rattle.tx_content.specs.declared.undone.Undone.TheVariants as undo
use Rattle.tx_txn.specs.Outboxes.{unmade, Held}
use Rattle.tx_txn.specs.declared.members.Members.{Members}
use Rattle.tx_txn.specs.declared.txn.Txn.{Txn}

-- a slot that has nothing after posts had nothing before
none_before : (f : BoxedTxn → BoxedTxn) (x y : Option BoxedTxn) → y ≡ option_map f x → y ≡ None → x ≡ None
none_before f None y is none = refl
none_before f (Some b) y is none = let never : Some (f b) ≡ None = sym is ∙ none in cc

module _ (laws : LiveLaws) (k before : Content) (boxed : BoxedTxn) (count : ℕ) (held : Bool) (last : Option Sending) (members : Members) (stack moved : List Change)
    (shaped : IsShaped k) (shaped_before : IsShaped before) (gone : IsGone k boxed.txn.value members) (posted : WasPosted k boxed.txn.value) (fits : HasPosts k count boxed.txn.value)
    (undoes : UndoesCommitted k boxed count held before members)
    (moved_is : moved ≡ moved_onto stack (undone k.parts (post_changes boxed.txn.value.outbox.posts)) (last_of count boxed.txn.value.log))
    (is_last : IsLastOf held (none_made boxed.txn.value.outbox.sendings) last) where
  abbrev t0 : Txn
  t0 = boxed.txn.value

  abbrev s : ℕ
  s = t0.starter.0

  abbrev own : List Change
  own = last_of count t0.log

  -- the parts and the transactions before the posts
  abbrev M : Parts
  M = undone k.parts (post_changes t0.outbox.posts)

  abbrev V : List (Option BoxedTxn)
  V = unposted_all t0.outbox.sendings t0.outbox.posts k.txns

  abbrev U : Parts
  U = undone M own

  -- the transaction before the last step
  abbrev t1 : Txn
  t1 = uncommitted count held t0

  abbrev prior : Content
  prior = record { parts = U; marks = before.marks; owners = before.owners; txns = with_slot V s (Some (with_txn boxed t1)) }

  prior_is : prior ≡ before
  prior_is = λ i. record { parts = undoes.parts i; marks = before.marks; owners = before.owners; txns = undoes.txns i }

  shaped_prior : IsShaped prior
  shaped_prior = subst IsShaped (sym prior_is) shaped_before

  high_V : s ≤ length V
  high_V = subst (λ (n : ℕ). s ≤ n) (sym (unposted_long t0.outbox.sendings t0.outbox.posts k.txns ∙ fits.numbers.slots)) fits.numbers.high

  there_prior : slot_at prior.txns s ≡ Some (with_txn boxed t1)
  there_prior = slot_now V s (Some (with_txn boxed t1)) fits.numbers.low high_V

  was : IsTxn prior s t1
  was = shaped_prior.each s (with_txn boxed t1) there_prior

  long : length own ≡ count
  long = let all = length-drop (length t0.log - count) t0.log in let few = fits.few in omega (arith, all, few)

  named_own : AreNamed M own
  named_own = subst (λ (z : Sizes). AreWithin z own) (sym (laws.sizes_back k.parts (post_changes t0.outbox.posts)))
      (named_later (sizes_of k.parts) (first_of count t0.log) own (subst (AreNamed k.parts) (sym (take-append-drop (length t0.log - count) t0.log)) fits.numbers.named))

  top_is : top_of count moved ≡ reverted M own
  top_is = ap (top_of count) moved_is ∙ subst (λ (n : ℕ). top_of n (moved_onto stack M own) ≡ reverted M own) long (laws.on_top stack M own)

  few_moved : count ≤ length moved
  few_moved = subst (λ (cs : List Change). count ≤ length cs) (sym moved_is) (subst (λ (n : ℕ). n ≤ length (moved_onto stack M own)) long (laws.moved stack M own))

  below_is : below_top count moved ≡ stack
  below_is = ap (below_top count) moved_is ∙ subst (λ (n : ℕ). below_top n (moved_onto stack M own) ≡ stack) long (laws.below stack M own)

  empty_V : slot_at V s ≡ None
  empty_V = none_before (posted_at s (map sending_of t0.outbox.sendings)) (slot_at V s) (slot_at k.txns s) (posted.posts.kept.each s) gone.slot

  sendings_again : (with_last last t1.outbox).sendings ≡ t0.outbox.sendings
  sendings_again = ap (λ (h : Held). h.sendings) (held_again held t0.outbox.sendings (map (λ m. unmade) t0.outbox.sendings) last refl is_last)

  parts_again : applied U (top_of count moved) ≡ M
  parts_again = ap (applied U) top_is ∙ laws.apply_again M own named_own

  txns_again : with_slot prior.txns s None ≡ V
  txns_again = slot_twice V s (Some (with_txn boxed t1)) None ∙ ap (with_slot V s) (sym empty_V) ∙ slot_same V s fits.numbers.low

  posts_again : PostsAll (applied U (top_of count moved)) k.parts (with_slot prior.txns s None) k.txns (with_last last t1.outbox).sendings t0.outbox.posts
  posts_again =
      subst (λ (p : Parts). PostsAll p k.parts (with_slot prior.txns s None) k.txns (with_last last t1.outbox).sendings t0.outbox.posts) (sym parts_again)
      (subst (λ (ts : List (Option BoxedTxn)). PostsAll M k.parts ts k.txns (with_last last t1.outbox).sendings t0.outbox.posts) (sym txns_again)
      (subst (λ (ms : List Sending). PostsAll M k.parts V k.txns ms t0.outbox.posts) (sym sendings_again) posted.posts))

  has_commit : HasCommit prior t0.starter count last moved
  has_commit = record {
    boxed = with_txn boxed t1;
    there = there_prior;
    same = refl;
    few = few_moved;
    named = subst (AreNamed U) (sym top_is) (led_named laws M own named_own);
    long = ap length was.posts ∙ length-map t1.outbox.sendings (λ m. unmade);
    signals = subst (λ (ms : List Sending). HaveSignals (map sending_of ms)) (sym sendings_again) posted.signals;
    covered = is_covered prior s t1 s refl was;
  }

  again_here : IsTakenBack prior (undo.Committed t0.starter count last) moved k stack
  again_here = record {
    inverse = Committed boxed count held;
    fits = has_commit;
    redoes = (
      with_txn boxed t1,
      record {
        there = there_prior;
        made = t0.outbox.posts;
        posts = posts_again;
        marks = ended_marks k before t0 members gone undoes.revives;
        width = sym undoes.revives.width;
        owners = ended_owners k before t0 members gone undoes.revives;
        sized = shaped.owners;
      },
    );
    below = below_is;
    goes = fits;
    whole = (members, gone, posted);
    back = (
      members,
      record {
        revives = record {
          ended = undoes.revives.ended;
          marks = undoes.revives.marks;
          width = undoes.revives.width;
          owners = undoes.revives.owners;
          sized = undoes.revives.sized;
        };
        parts = refl;
        txns = refl;
      },
    );
  }

  committed_here : IsTakenBack before (undo.Committed t0.starter count last) moved k stack
  committed_here = subst (λ (b : Content). IsTakenBack b (undo.Committed t0.starter count last) moved k stack) prior_is again_here

pub committed_again : LiveLaws → (k before : Content) (boxed : BoxedTxn) (count : ℕ) (held : Bool) (last : Option Sending) (own members : Members) (starter : Pid) (txn : Txn) (middle : Parts) (stack moved : List Change) →
    IsShaped k → IsShaped before → IsGone k boxed.txn.value own → WasPosted k boxed.txn.value → HasPosts k count boxed.txn.value → UndoesCommitted k boxed count held before members →
    starter ≡ boxed.txn.value.starter → txn ≡ record boxed.txn.value { outbox = none_made boxed.txn.value.outbox.sendings } → middle ≡ undone k.parts (post_changes boxed.txn.value.outbox.posts) →
    moved ≡ moved_onto stack middle (last_of count txn.log) → IsLastOf held txn.outbox last → IsTakenBack before (undo.Committed starter count last) moved k stack
committed_again laws k before boxed count held last own members starter txn middle stack moved shaped shaped_before gone posted fits undoes named is parts moved_is is_last =
    subst (λ (p : Pid). IsTakenBack before (undo.Committed p count last) moved k stack) (sym named)
    (committed_here laws k before boxed count held last members stack moved shaped shaped_before
    (subst (IsGone k boxed.txn.value) (same_Some own members (sym gone.ended ∙ undoes.revives.ended)) gone) posted fits undoes
    (moved_is ∙ (λ i. moved_onto stack (parts i) (last_of count (is i).log))) (subst (λ (t : Txn). IsLastOf held t.outbox last) is is_last))
