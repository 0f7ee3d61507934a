-- What makes a step again that was taken back.
use Rattle.std.specs.Prelude.{◌≡◌, ℕ, ◌+◌, ◌≤◌, Bool, true, false, List, [], ◌∷◌, ◌++◌, length, map, Option, Some, None, is_some, if◌then◌else◌, option_map, option_to_list}
use Rattle.tx_base.specs.Slots.{slot_at, with_slot}
use Rattle.tx_base.specs.declared.marks.Mark.{Mark}
use Rattle.tx_base.specs.declared.names.Pid.{Pid}
use Rattle.tx_base.specs.declared.names.Sending.{Sending}
use Rattle.tx_change.specs.Exchange.{applied, exchanged, parts_after, undone, AreNamed}
use Rattle.tx_change.specs.Stacks.{below_top, top_of}
use Rattle.tx_change.specs.declared.change.Change.{Change}
use Rattle.tx_change.specs.declared.parts.Parts.{Parts}
use Rattle.tx_kernel.specs.Plans.{sending_of}
use Rattle.tx_content.specs.Aborts.{led_parts, led_txn, standing, standing_at}
use Rattle.tx_content.specs.HeldPosts.{HaveSignals, PostsAll}
use Rattle.tx_content.specs.Inverses.{less_last, post_changes, remarked, unposted_all, with_kept_pending, with_txn, GoesWith, HasMark, HasStarter, Undoes}
use Rattle.tx_content.specs.declared.content.BoxedTxn.{BoxedTxn}
use Rattle.tx_content.specs.declared.content.Content.{Content}
use Rattle.tx_content.specs.declared.inverse.Inverse.{Inverse}
use Rattle.tx_content.specs.declared.inverse.Inverse.TheVariants.{Outside, Inside, Begun, Committed, Aborted}
use Rattle.tx_content.specs.declared.kept_posts.KeptPost.{KeptPost}
use Rattle.tx_content.specs.declared.kept_posts.TakenPost.{TakenPost}
use Rattle.tx_content.specs.declared.marking.Marked.{Marked}
use Rattle.tx_content.specs.declared.member_step.MemberStep.{MemberStep}
use Rattle.tx_content.specs.declared.undone.Undone.{Undone}
use Rattle.tx_content.specs.declared.undone.Undone.TheVariants as taken
use Rattle.tx_model.specs.Membership.{is_of, mark_unless_of}
use Rattle.tx_model.specs.State.{Object, Proc}
use Rattle.tx_proc.specs.declared.proc.Answer.{Answer as TheAnswer}
use Rattle.tx_reserve.specs.Objects.{is_in}
use Rattle.tx_reserve.specs.Reservations.{owner_of}
use Rattle.tx_txn.specs.KeptParts.{posted_again}
use Rattle.tx_txn.specs.Marks.{IsCovered}
use Rattle.tx_txn.specs.Outboxes.{Held, unmade}
use Rattle.tx_txn.specs.declared.kept.Repost.{Repost}
use Rattle.tx_txn.specs.declared.members.Members.{Members}
use Rattle.tx_txn.specs.declared.outbox.HeldPost.{HeldPost}
use Rattle.tx_txn.specs.declared.txn.Txn.{Txn}

-- with the post to what is kept made again
abbrev pub reposted_at : Repost → BoxedTxn → BoxedTxn
reposted_at posted boxed =
    with_kept_pending (posted_again posted boxed.txn.value.kept.pending) boxed

abbrev pub reposted_by : Pid → Option Repost → List (Option BoxedTxn) → List (Option BoxedTxn)
reposted_by starter None txns = txns
reposted_by starter (Some posted) txns =
    with_slot txns starter.0 (option_map (reposted_at posted) (slot_at txns starter.0))

abbrev pub reposted_in : Option TakenPost → List (Option BoxedTxn) → List (Option BoxedTxn)
reposted_in None txns = txns
reposted_in (Some taken) txns = reposted_by taken.post.starter taken.posted txns

-- the post that was taken back
abbrev pub post_in : Option TakenPost → Option KeptPost
post_in taken = option_map (λ taken. taken.post) taken

-- the mark at the place where this one is put
abbrev pub mark_there : Option Marked → List (Option Mark) → Option Marked
mark_there None marks = None
mark_there (Some marked) marks =
    Some (record { pid = marked.pid; mark = slot_at marks marked.pid.0 })

-- what is held, with this added
abbrev pub with_last : Option Sending → Held → Held
with_last None held = held
with_last (Some m) held =
    record { sendings = held.sendings ++ m ∷ []; posts = held.posts ++ unmade ∷ [] }

-- this was held last, if anything was
abbrev pub IsLastOf : Bool → Held → Option Sending → Type 0
IsLastOf false held last = last ≡ None
IsLastOf true held last =
    (held.sendings ≡ (less_last true held).sendings ++ option_to_list last)
    × (length (less_last true held).posts + length (option_to_list last) ≡ length held.posts)

-- the content after a step outside transactions
abbrev pub after_outside : Content → List Change → Option TakenPost → Content
after_outside k log post = record k { parts = applied k.parts log; txns = reposted_in post k.txns }

-- the transaction after its last step, whose changes are on top of the stack
abbrev pub step_again : Parts → MemberStep → Option Sending → List Change → Txn → Txn
step_again parts step held stack txn = record txn {
  log = txn.log ++ exchanged parts (top_of step.count stack);
  outbox = with_last held txn.outbox;
  objects = step.objects;
}

-- the content after a step inside the transaction in the box
pub record RedoesInside (k : Content) (step : MemberStep) (held : Option Sending)
    (stack : List Change) (after : Content) (boxed : BoxedTxn) : Type 0 where
  pub there : slot_at k.txns step.starter.0 ≡ Some boxed
  pub parts : applied k.parts (top_of step.count stack) ≡ after.parts
  pub marks : remarked step.marked k.marks ≡ after.marks
  pub owners : (o : Object)
      → owner_of after.owners o
      ≡ (if is_in step.objects o then Some boxed.txn.value.starter.0 else owner_of k.owners o)
  pub sized : length after.owners ≡ 352
  pub txns :
      with_slot k.txns step.starter.0
      (Some (with_txn boxed (step_again k.parts step held stack boxed.txn.value)))
      ≡ after.txns

-- the step with what it reserves and its mark exchanged for what is there now
abbrev pub turned : Content → BoxedTxn → MemberStep → MemberStep
turned k boxed step =
    record step { objects = boxed.txn.value.objects; marked = mark_there step.marked k.marks }

-- the content after the first step of the transaction in the box
pub record RedoesBegun (k : Content) (boxed : BoxedTxn) (mark : Option Mark) (after : Content)
    : Type 0 where
  pub parts : applied k.parts boxed.txn.value.log ≡ after.parts
  pub marks : with_slot k.marks boxed.txn.value.starter.0 mark ≡ after.marks
  pub owners : (o : Object)
      → owner_of after.owners o
      ≡ (if is_in boxed.txn.value.objects o
      then Some boxed.txn.value.starter.0
      else owner_of k.owners o)
  pub sized : length after.owners ≡ 352
  pub txns :
      with_slot k.txns boxed.txn.value.starter.0
      (Some
      (with_txn boxed
      (record boxed.txn.value { log = exchanged k.parts boxed.txn.value.log })))
      ≡ after.txns

-- the content after the abort of the transaction in the box, with its starter at this point
pub record RedoesAborted (k : Content) (starter : Pid) (stands : TheAnswer) (after : Content)
    (boxed : BoxedTxn) : Type 0 where
  pub there : slot_at k.txns starter.0 ≡ Some boxed
  pub parts :
      parts_after (led_parts k.parts boxed.txn.value) (standing_at starter stands) ≡ after.parts
  pub marks : (n : ℕ)
      → slot_at after.marks n ≡ mark_unless_of boxed.txn.value.starter.0 (slot_at k.marks n)
  pub width : length after.marks ≡ length k.marks
  pub owners : (o : Object)
      → owner_of after.owners o
      ≡ (if is_in boxed.txn.value.objects o then None else owner_of k.owners o)
  pub sized : length after.owners ≡ 352
  pub txns : with_slot k.txns starter.0 None ≡ after.txns

-- the content after the commit of the transaction in the box, whose last step makes the topmost
-- changes and hands this out
pub record RedoesCommitted (k : Content) (starter : Pid) (count : ℕ) (held : Option Sending)
    (stack : List Change) (after : Content) (boxed : BoxedTxn) : Type 0 where
  pub there : slot_at k.txns starter.0 ≡ Some boxed
  pub made : List HeldPost
  pub posts :
      PostsAll (applied k.parts (top_of count stack)) after.parts (with_slot k.txns starter.0 None)
      after.txns (with_last held boxed.txn.value.outbox).sendings made
  pub marks : (n : ℕ)
      → slot_at after.marks n ≡ mark_unless_of boxed.txn.value.starter.0 (slot_at k.marks n)
  pub width : length after.marks ≡ length k.marks
  pub owners : (o : Object)
      → owner_of after.owners o
      ≡ (if is_in boxed.txn.value.objects o then None else owner_of k.owners o)
  pub sized : length after.owners ≡ 352

-- the inverse of that abort
abbrev pub inverse_aborted : Content → Pid → Option Members → BoxedTxn → Inverse
inverse_aborted k starter members boxed =
    Aborted (with_txn boxed (record (led_txn k.parts boxed.txn.value) { members = members }))
    (standing (slot_at (led_parts k.parts boxed.txn.value).procs starter.0))

-- the step leads to this content, and its inverse is this one, if it is no commit
abbrev pub Redoes : Content → Undone → List Change → Content → Inverse → Type 0
Redoes k (taken.Outside log post) stack after inverse =
    (after_outside k log post ≡ after) × (Outside (exchanged k.parts log) (post_in post) ≡ inverse)
Redoes k (taken.Inside step held) stack after inverse =
    (boxed : BoxedTxn)
    × RedoesInside k step held stack after boxed
    × (Inside (turned k boxed step) (is_some held) ≡ inverse)
Redoes k (taken.Begun boxed mark) stack after inverse =
    RedoesBegun k boxed mark after × (Begun boxed.txn.value.starter ≡ inverse)
Redoes k (taken.Committed starter count held) stack after inverse =
    (boxed : BoxedTxn) × RedoesCommitted k starter count held stack after boxed
Redoes k (taken.Aborted starter stands members) stack after inverse =
    (boxed : BoxedTxn)
    × RedoesAborted k starter stands after boxed
    × (inverse_aborted k starter members boxed ≡ inverse)

-- how many changes of the stack are the step's own
abbrev pub moved_by : Undone → ℕ
moved_by (taken.Outside log post) = 0
moved_by (taken.Inside step held) = step.count
moved_by (taken.Begun boxed mark) = 0
moved_by (taken.Committed starter count held) = count
moved_by (taken.Aborted starter stands members) = 0

-- how many changes go onto the stack as the step is taken back
abbrev pub moved_of : Inverse → ℕ
moved_of (Outside log post) = 0
moved_of (Inside step held) = step.count
moved_of (Begun starter) = 0
moved_of (Committed boxed count held) = count
moved_of (Aborted boxed stood) = 0

-- there is such a transaction, whose step makes the topmost changes
pub record HasStep (k : Content) (step : MemberStep) (stack : List Change) : Type 0 where
  pub boxed : BoxedTxn
  pub there : slot_at k.txns step.starter.0 ≡ Some boxed
  pub few : step.count ≤ length stack
  pub named : AreNamed k.parts (top_of step.count stack)
  pub mark : HasMark k.marks step.marked

-- the number of the starter is in range
pub record HasPlace (k : Content) (txn : Txn) : Type 0 where
  pub low : 1 ≤ txn.starter.0
  pub slot : txn.starter.0 ≤ length k.txns
  pub mark : txn.starter.0 ≤ length k.marks
  pub named : AreNamed k.parts txn.log

-- there is such a transaction, and it can be ended
pub record HasEnd (k : Content) (starter : Pid) : Type 0 where
  pub boxed : BoxedTxn
  pub there : slot_at k.txns starter.0 ≡ Some boxed
  pub same : boxed.txn.value.starter ≡ starter
  pub high : starter.0 ≤ length k.parts.procs
  pub named : AreNamed k.parts boxed.txn.value.log
  pub covered : IsCovered starter.0 k.marks boxed.txn.value.objects

-- there is such a transaction, whose last step makes the topmost changes, and which can post what
-- it holds and be ended
pub record HasCommit (k : Content) (starter : Pid) (count : ℕ) (held : Option Sending)
    (stack : List Change) : Type 0 where
  pub boxed : BoxedTxn
  pub there : slot_at k.txns starter.0 ≡ Some boxed
  pub same : boxed.txn.value.starter ≡ starter
  pub few : count ≤ length stack
  pub named : AreNamed k.parts (top_of count stack)
  pub long : length boxed.txn.value.outbox.posts ≡ length boxed.txn.value.outbox.sendings
  pub signals : HaveSignals (map sending_of (with_last held boxed.txn.value.outbox).sendings)
  pub covered : IsCovered starter.0 k.marks boxed.txn.value.objects

-- the numbers of what makes the step again are in range
abbrev pub GoesAgain : Content → Undone → List Change → Type 0
GoesAgain k (taken.Outside log post) stack = AreNamed k.parts log × HasStarter k.txns (post_in post)
GoesAgain k (taken.Inside step held) stack = HasStep k step stack
GoesAgain k (taken.Begun boxed mark) stack = HasPlace k boxed.txn.value
GoesAgain k (taken.Committed starter count held) stack = HasCommit k starter count held stack
GoesAgain k (taken.Aborted starter stands members) stack = HasEnd k starter

-- nothing of a transaction that ended, with these members, is in the content
pub record IsGone (k : Content) (txn : Txn) (members : Members) : Type 0 where
  pub ended : txn.members ≡ Some members
  pub slot : slot_at k.txns txn.starter.0 ≡ None
  pub marks : (n : ℕ) → is_of txn.starter.0 (slot_at k.marks n) ≡ false
  pub joined : (n : ℕ) → is_in members.joined (Proc n) ≡ true → slot_at k.marks n ≡ None
  pub owners : (o : Object) → is_in txn.objects o ≡ true → owner_of k.owners o ≡ None

-- what the transaction held was posted, with the outcomes that its outbox says
pub record WasPosted (k : Content) (txn : Txn) : Type 0 where
  pub signals : HaveSignals (map sending_of txn.outbox.sendings)
  pub posts :
      PostsAll (undone k.parts (post_changes txn.outbox.posts)) k.parts
      (unposted_all txn.outbox.sendings txn.outbox.posts k.txns) k.txns txn.outbox.sendings
      txn.outbox.posts

-- the transaction that the step ended, if any, is gone, and what it held was posted, if it was
-- committed
abbrev pub EndsWhole : Content → Inverse → Type 0
EndsWhole k (Outside log post) = Unit {0}
EndsWhole k (Inside step held) = Unit {0}
EndsWhole k (Begun starter) = Unit {0}
EndsWhole k (Committed boxed count held) =
    (members : Members) × IsGone k boxed.txn.value members × WasPosted k boxed.txn.value
EndsWhole k (Aborted boxed stood) = (members : Members) × IsGone k boxed.txn.value members

-- the inverse takes back the step from the one content to the other, which left nothing of what it
-- ended
abbrev pub TakesBack : Content → Content → Inverse → Type 0
TakesBack before after inverse =
    GoesWith after inverse × Undoes after inverse before × EndsWhole after inverse

-- the step that led to this content was taken back: on the content before, what makes it again
-- leads to this one, and the stack is then as it was; the inverse leads to the content before
pub record IsTakenBack (before : Content) (undone : Undone) (stack : List Change) (after : Content)
    (rest : List Change) : Type 0 where
  pub inverse : Inverse
  pub fits : GoesAgain before undone stack
  pub redoes : Redoes before undone stack after inverse
  pub below : below_top (moved_by undone) stack ≡ rest
  pub goes : GoesWith after inverse
  pub back : Undoes after inverse before
  pub whole : EndsWhole after inverse
