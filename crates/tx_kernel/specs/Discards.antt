-- The entries of a signal, taken out of a queue one after another.
use Rattle.std.specs.Prelude.{◌≡◌, ℕ, ◌≤◌, List, ◌++◌, length, drop}
use Rattle.tx_change.specs.declared.change.Change.{Change}
use Rattle.tx_kernel.specs.Own.{PlansPart}
use Rattle.tx_kernel.specs.declared.actor.Actor.{Actor}
use Rattle.tx_model.specs.Signals.{queued_others}
use Rattle.tx_model.specs.State.{Queued}

-- the queue of the process
abbrev pub queue_of : Actor → List Queued
queue_of actor = actor.proc.now.pending.queued

-- of the first entries, this many, those of the signal are out, and the others are in front: as
-- many as the place says
pub record TakenOut (actor : Actor) (before now : List Change) (signo count place : ℕ)
    : Type 0 where
  pub kept : List Queued
  pub as_many : place ≡ length kept
  pub few : place ≤ count
  pub plan :
      PlansPart actor before now (λ me. record me { queued = kept ++ drop count (queue_of actor) })
  pub left :
      kept ++ queued_others signo (drop count (queue_of actor))
      ≡ queued_others signo (queue_of actor)
