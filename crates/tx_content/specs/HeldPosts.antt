-- The posts of a commit: of what the transaction held, to the parts, and to what is kept of the
-- starters of others.
use Rattle.std.specs.Prelude.{◌≡◌, ◌<◌, ℕ, ℤ, true, List, [], ◌∷◌, length, map, Option}
use Rattle.tx_base.specs.declared.names.Sending.{Sending}
use Rattle.tx_change.specs.Counts.{CountsAgree}
use Rattle.tx_change.specs.Exchange.{undone, AreNamed}
use Rattle.tx_change.specs.Laws.{HaveAllPlaces}
use Rattle.tx_change.specs.States.{state_of}
use Rattle.tx_change.specs.declared.parts.Parts.{Parts}
use Rattle.tx_kernel.specs.Plans.{sending_of, AreAmong}
use Rattle.tx_kernel.specs.Posts.{IsButPending}
use Rattle.tx_content.specs.Inverses.{post_changes, unposted_all, HaveStarters}
use Rattle.tx_content.specs.KeptPosts.{PostsKept}
use Rattle.tx_content.specs.declared.content.BoxedTxn.{BoxedTxn}
use Rattle.tx_model.specs.Words.{processes_of}
use Rattle.tx_model.specs.Membership.{says_ended}
use Rattle.tx_model.specs.Events.{Event, Do, Note, Commit, reply_of}
use Rattle.tx_model.specs.Posts.{post_answers, after_posts}
use Rattle.tx_model.specs.State.{Sending as TheSending, State}
use Rattle.tx_signal.specs.Parts.{answer_of}
use Rattle.tx_txn.specs.declared.outbox.HeldPost.{HeldPost}

-- the number of each signal is below 64
abbrev pub HaveSignals : List TheSending → Type 0
HaveSignals [] = Unit {0}
HaveSignals (m ∷ ms) = (m.signo < 64) × HaveSignals ms

-- the event ends the part of its process: it is a note, or its reply says that the process ended
abbrev pub IsEnd : Event → State → Type 0
IsEnd (Note p r) S = Unit {0}
IsEnd (Do step inside) S = says_ended (reply_of (Do step inside) S) ≡ true
IsEnd (Commit s ev) S = ⊥

-- the answers of the posts
abbrev pub answers_in : List HeldPost → List ℤ
answers_in posts = map (λ post. answer_of post.answer) posts

-- the sends were posted, one after another, and each post came to this
pub record PostsAll (before after : Parts) (old new : List (Option BoxedTxn))
    (sendings : List Sending) (made : List HeldPost) : Type 0 where
  pub long : length made ≡ length sendings
  pub state : (held : ℕ → List TheSending)
      → state_of held after ≡ after_posts (map sending_of sendings) (state_of held before)
  pub answered : (held : ℕ → List TheSending)
      → answers_in made ≡ post_answers (map sending_of sendings) (state_of held before)
  pub back : undone after (post_changes made) ≡ before
  pub named : AreNamed after (post_changes made)
  pub among : AreAmong (processes_of (map sending_of sendings)) (post_changes made)
  pub counts : CountsAgree before → CountsAgree after
  pub places : HaveAllPlaces before → HaveAllPlaces after
  pub kept : PostsKept old new (map sending_of sendings)
  pub unkept : unposted_all sendings made new ≡ old
  pub starters : HaveStarters new sendings made
  pub rest : IsButPending before after
