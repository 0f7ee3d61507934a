-- What an inverse takes back.
use Rattle.std.specs.Prelude.{◌≡◌, ℕ, ◌-◌, ◌≤◌, ◌&&◌, true, false, not, Bool, List, [], ◌∷◌, ◌++◌, length, map, take, drop, Option, Some, None, IfSome, option_map, if◌then◌else◌}
use Rattle.tx_base.specs.Slots.{slot_at, with_slot}
use Rattle.tx_base.specs.declared.marks.Mark.{Mark}
use Rattle.tx_base.specs.declared.names.Pid.{Pid}
use Rattle.tx_base.specs.declared.names.Sending.{Sending}
use Rattle.tx_change.specs.Exchange.{applied, undone, AreNamed}
use Rattle.tx_change.specs.declared.change.Change.{Change}
use Rattle.tx_kernel.specs.Posts.{listed_change}
use Rattle.tx_content.specs.Aborts.{forth_parts, forth_txn, standing_at}
use Rattle.tx_content.specs.declared.content.BoxedTxn.{BoxedTxn}
use Rattle.tx_content.specs.declared.content.Content.{Content}
use Rattle.tx_content.specs.declared.inverse.Inverse.{Inverse}
use Rattle.tx_content.specs.declared.inverse.Inverse.TheVariants.{Outside, Inside, Begun, Committed, Aborted}
use Rattle.tx_content.specs.declared.kept_posts.KeptPost.{KeptPost}
use Rattle.tx_content.specs.declared.marking.Marked.{Marked}
use Rattle.tx_content.specs.declared.member_step.MemberStep.{MemberStep}
use Rattle.tx_model.specs.State.{Object, Proc}
use Rattle.tx_proc.specs.declared.proc.Answer.{Answer as TheAnswer}
use Rattle.tx_reserve.specs.Objects.{is_in}
use Rattle.tx_reserve.specs.Reservations.{owner_of}
use Rattle.tx_signal.specs.Parts.{PendingView}
use Rattle.tx_txn.specs.KeptParts.{unposted}
use Rattle.tx_txn.specs.Marks.{mark_of}
use Rattle.tx_txn.specs.Outboxes.{Held, unmade}
use Rattle.tx_txn.specs.declared.kept.Unpost.{Unpost}
use Rattle.tx_txn.specs.declared.members.Members.{Members}
use Rattle.tx_txn.specs.declared.outbox.HeldPost.{HeldPost}
use Rattle.tx_txn.specs.declared.txn.Txn.{Txn}

-- the box with another transaction in it
abbrev pub with_txn : BoxedTxn → Txn → BoxedTxn
with_txn boxed txn = record boxed { txn = record boxed.txn { value = txn } }

-- the same transaction with this kept as pending at its starter
abbrev pub with_kept_pending : PendingView → BoxedTxn → BoxedTxn
with_kept_pending pending boxed =
    with_txn boxed
    (record boxed.txn.value { kept = record boxed.txn.value.kept { pending = pending } })

-- without the last post to what is kept
abbrev pub unposted_at : Unpost → BoxedTxn → BoxedTxn
unposted_at unpost boxed =
    with_kept_pending (unposted (Some unpost) boxed.txn.value.kept.pending) boxed

abbrev pub unposted_if : Option Unpost → BoxedTxn → BoxedTxn
unposted_if None boxed = boxed
unposted_if (Some unpost) boxed = unposted_at unpost boxed

abbrev pub unposted_in : Option KeptPost → List (Option BoxedTxn) → List (Option BoxedTxn)
unposted_in None txns = txns
unposted_in (Some post) txns =
    with_slot txns post.starter.0
    (option_map (unposted_at post.unpost) (slot_at txns post.starter.0))

-- what the posts exchanged in the parts, the first one first
abbrev pub post_changes : List HeldPost → List Change
post_changes [] = []
post_changes (post ∷ posts) = listed_change post.change ++ post_changes posts

-- what takes back a post to what is kept of its target
abbrev pub kept_post : Sending → Option Unpost → Option KeptPost
kept_post m None = None
kept_post m (Some unpost) = Some (record { starter = m.target; unpost = unpost })

-- the transactions without these posts, the last one taken out first
abbrev pub unposted_all : List Sending → List HeldPost → List (Option BoxedTxn)
    → List (Option BoxedTxn)
unposted_all [] posts txns = txns
unposted_all (m ∷ ms) [] txns = txns
unposted_all (m ∷ ms) (post ∷ posts) txns =
    unposted_in (kept_post m post.kept) (unposted_all ms posts txns)

-- the content as it was before a step outside transactions
abbrev pub before_outside : Content → List Change → Option KeptPost → Content
before_outside k log post = record k { parts = undone k.parts log; txns = unposted_in post k.txns }

-- the starter's number is in range
abbrev pub HasStarter : List (Option BoxedTxn) → Option KeptPost → Type 0
HasStarter txns None = Unit {0}
HasStarter txns (Some post) = (1 ≤ post.starter.0) × (post.starter.0 ≤ length txns)

-- the starters that were posted to are in range
abbrev pub HaveStarters : List (Option BoxedTxn) → List Sending → List HeldPost → Type 0
HaveStarters txns [] posts = Unit {0}
HaveStarters txns (m ∷ ms) [] = Unit {0}
HaveStarters txns (m ∷ ms) (post ∷ posts) =
    HasStarter txns (kept_post m post.kept) × HaveStarters txns ms posts

-- the marks with this one put back
abbrev pub remarked : Option Marked → List (Option Mark) → List (Option Mark)
remarked None marks = marks
remarked (Some marked) marks = with_slot marks marked.pid.0 marked.mark

abbrev pub HasMark : List (Option Mark) → Option Marked → Type 0
HasMark marks None = Unit {0}
HasMark marks (Some marked) = (1 ≤ marked.pid.0) × (marked.pid.0 ≤ length marks)

-- the last few of a log, and those before them
abbrev pub last_of : ℕ → List Change → List Change
last_of count log = drop (length log - count) log

abbrev pub first_of : ℕ → List Change → List Change
first_of count log = take (length log - count) log

-- what is held but for the last
abbrev pub less_last : Bool → Held → Held
less_last false held = held
less_last true held =
    record {
      sendings = take (length held.sendings - 1) held.sendings;
      posts = take (length held.posts - 1) held.posts;
    }

-- the transaction as it was before its last step
abbrev pub step_back : MemberStep → Bool → Txn → Txn
step_back step held txn =
    record txn {
      log = first_of step.count txn.log;
      outbox = less_last held txn.outbox;
      objects = step.objects;
    }

-- the content as it was before a step inside the transaction in the box
pub record UndoesInside (k : Content) (step : MemberStep) (held : Bool) (old : Content)
    (boxed : BoxedTxn) : Type 0 where
  pub there : slot_at k.txns step.starter.0 ≡ Some boxed
  pub parts : undone k.parts (last_of step.count boxed.txn.value.log) ≡ old.parts
  pub marks : remarked step.marked k.marks ≡ old.marks
  pub owners : (o : Object)
      → owner_of old.owners o
      ≡ (if is_in boxed.txn.value.objects o && not (is_in step.objects o)
      then None
      else owner_of k.owners o)
  pub sized : length old.owners ≡ 352
  pub txns :
      with_slot k.txns step.starter.0 (Some (with_txn boxed (step_back step held boxed.txn.value)))
      ≡ old.txns

-- the transaction in the slot has such a log
pub record HasLog (k : Content) (starter : Pid) (count : ℕ) (boxed : BoxedTxn) : Type 0 where
  pub there : slot_at k.txns starter.0 ≡ Some boxed
  pub named : AreNamed k.parts boxed.txn.value.log
  pub few : count ≤ length boxed.txn.value.log
  pub same : boxed.txn.value.starter ≡ starter

-- the content as it was before the first step of the transaction in the box
pub record UndoesBegun (k : Content) (starter : Pid) (old : Content) (boxed : BoxedTxn)
    : Type 0 where
  pub there : slot_at k.txns starter.0 ≡ Some boxed
  pub parts : undone k.parts boxed.txn.value.log ≡ old.parts
  pub marks : with_slot k.marks starter.0 None ≡ old.marks
  pub owners : (o : Object)
      → owner_of old.owners o
      ≡ (if is_in boxed.txn.value.objects o then None else owner_of k.owners o)
  pub sized : length old.owners ≡ 352
  pub txns : with_slot k.txns starter.0 None ≡ old.txns

-- the marks and the owners as they were before the transaction ended, which had these members
pub record Revives (k : Content) (txn : Txn) (members : Members) (old : Content) : Type 0 where
  pub ended : txn.members ≡ Some members
  pub marks : (n : ℕ)
      → slot_at old.marks n
      ≡ (if is_in members.joined (Proc n)
      then Some (mark_of txn.starter members n txn.defers)
      else slot_at k.marks n)
  pub width : length old.marks ≡ length k.marks
  pub owners : (o : Object)
      → owner_of old.owners o
      ≡ (if is_in txn.objects o then Some txn.starter.0 else owner_of k.owners o)
  pub sized : length old.owners ≡ 352

-- the content as it was before the abort of the transaction in the box
pub record UndoesAborted (k : Content) (boxed : BoxedTxn) (stood : TheAnswer) (old : Content)
    (members : Members) : Type 0 where
  pub revives : Revives k boxed.txn.value members old
  pub parts : applied (forth_parts k.parts boxed.txn.value stood) boxed.txn.value.log ≡ old.parts
  pub txns :
      with_slot k.txns boxed.txn.value.starter.0
      (Some (with_txn boxed
      (record (forth_txn k.parts boxed.txn.value stood) { members = None })))
      ≡ old.txns

-- these are held, and none is posted
abbrev pub none_made : List Sending → Held
none_made sendings = record { sendings = sendings; posts = map (λ m. unmade) sendings }

-- the transaction as it was before the step that committed it, nothing of which was posted
abbrev pub uncommitted : ℕ → Bool → Txn → Txn
uncommitted count held txn = record txn {
  log = first_of count txn.log;
  outbox = less_last held (none_made txn.outbox.sendings);
  members = None;
}

-- the content as it was before the transaction in the box was committed
pub record UndoesCommitted (k : Content) (boxed : BoxedTxn) (count : ℕ) (held : Bool)
    (old : Content) (members : Members) : Type 0 where
  pub revives : Revives k boxed.txn.value members old
  pub parts :
      undone (undone k.parts (post_changes boxed.txn.value.outbox.posts))
      (last_of count boxed.txn.value.log)
      ≡ old.parts
  pub txns :
      with_slot (unposted_all boxed.txn.value.outbox.sendings boxed.txn.value.outbox.posts k.txns)
      boxed.txn.value.starter.0 (Some (with_txn boxed (uncommitted count held boxed.txn.value)))
      ≡ old.txns

-- the numbers of a transaction that ended are in range
pub record HasNumbers (k : Content) (txn : Txn) : Type 0 where
  pub low : 1 ≤ txn.starter.0
  pub high : txn.starter.0 ≤ length k.parts.procs
  pub slots : length k.txns ≡ length k.parts.procs
  pub named : AreNamed k.parts txn.log
  pub joined :
      IfSome txn.members
      (λ members. (n : ℕ) → is_in members.joined (Proc n) ≡ true → n ≤ length k.marks)

-- what the posts of a commit exchanged has numbers in range
pub record HasPosts (k : Content) (count : ℕ) (txn : Txn) : Type 0 where
  pub numbers : HasNumbers k txn
  pub few : count ≤ length txn.log
  pub long : length txn.outbox.posts ≡ length txn.outbox.sendings
  pub changes : AreNamed k.parts (post_changes txn.outbox.posts)
  pub starters : HaveStarters k.txns txn.outbox.sendings txn.outbox.posts

-- an inverse of a step outside that has nothing yet
abbrev pub IsFresh : Inverse → Type 0
IsFresh (Outside log post) = log ≡ []
IsFresh inverse = ⊥

-- the inverse leads the content back to what it was before the step
abbrev pub Undoes : Content → Inverse → Content → Type 0
Undoes k (Outside log post) old = before_outside k log post ≡ old
Undoes k (Inside step held) old = (boxed : BoxedTxn) × UndoesInside k step held old boxed
Undoes k (Begun starter) old = (boxed : BoxedTxn) × UndoesBegun k starter old boxed
Undoes k (Committed boxed count held) old =
    (members : Members) × UndoesCommitted k boxed count held old members
Undoes k (Aborted boxed stood) old = (members : Members) × UndoesAborted k boxed stood old members

-- the numbers of the inverse are in range
abbrev pub GoesWith : Content → Inverse → Type 0
GoesWith k (Outside log post) = AreNamed k.parts log × HasStarter k.txns post
GoesWith k (Inside step held) =
    ((boxed : BoxedTxn) × HasLog k step.starter step.count boxed) × HasMark k.marks step.marked
GoesWith k (Begun starter) =
    ((boxed : BoxedTxn) × HasLog k starter 0 boxed) × (starter.0 ≤ length k.marks)
GoesWith k (Committed boxed count held) = HasPosts k count boxed.txn.value
GoesWith k (Aborted boxed stood) = HasNumbers k boxed.txn.value

-- the last few changes of a slot's transaction
abbrev pub last_in : ℕ → Option BoxedTxn → List Change
last_in count None = []
last_in count (Some boxed) = last_of count boxed.txn.value.log

abbrev pub log_in : Option BoxedTxn → List Change
log_in None = []
log_in (Some boxed) = boxed.txn.value.log

-- the changes that an inverse exchanges
abbrev pub changes_of : Content → Inverse → List Change
changes_of k (Outside log post) = log
changes_of k (Inside step held) = last_in step.count (slot_at k.txns step.starter.0)
changes_of k (Begun starter) = log_in (slot_at k.txns starter.0)
changes_of k (Committed boxed count held) =
    last_of count boxed.txn.value.log ++ post_changes boxed.txn.value.outbox.posts
changes_of k (Aborted boxed stood) = standing_at boxed.txn.value.starter stood ∷ boxed.txn.value.log
