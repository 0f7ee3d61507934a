-- What is so of the parts where they are whole, slot by slot.
use Rattle.std.proofs.Common.{◌≡◌, ◌<◌, ◌≤◌, ◌^◌, ℕ, false, List, [], Option, Some, None, IsSome, get_or, ap, sym, subst, ◌∙◌}
use Rattle.tx_base.specs.Signals.{bits_of}
use Rattle.tx_change.specs.Exchange.{pipe_at}
use Rattle.tx_change.specs.States.{state_of}
use Rattle.tx_change.specs.declared.parts.Parts.{Parts}
use Rattle.tx_desc.specs.Descriptions.{described}
use Rattle.tx_desc.specs.declared.opened.Opened.{Opened}
use Rattle.tx_kernel.specs.Actors.{IsActor, IsWhole, me_of}
use Rattle.tx_kernel.specs.Laws.{BootedAreWhole}
use Rattle.tx_kernel.proofs.Orderly.{HasCalm, HasItsPipe, HasMasks, IsCalm, IsOrderly, formed_orderly}
use Rattle.tx_kernel.specs.declared.actor.Actor.{Actor}
use Rattle.tx_laws.specs.Laws.{BootedIsWellFormed}
use Rattle.tx_laws.specs.WellFormed.{IsWellFormed}
use Rattle.tx_model.specs.State.{Process, State, has_parent}
use Rattle.tx_proc.specs.Parts.{process_in}

pub orderly_parts : (parts : Parts) → IsWhole parts → IsOrderly (state_of (λ starter. []) parts)
orderly_parts parts whole = formed_orderly (state_of (λ starter. []) parts) whole.formed

-- the pipe of a description is there
abbrev pub HasPipe : List (Option (List ℕ)) → Option Opened → Type 0
HasPipe pipes None = Unit {0}
HasPipe pipes (Some opened) = IsSome (pipe_at pipes opened.desc.pipe.0)

pub whole_piped : (parts : Parts) → IsWhole parts → (d : ℕ) → HasPipe parts.pipes (get_or parts.descs d None)
whole_piped parts whole d = by (get_or parts.descs d None) ((orderly_parts parts whole).piped d)
  where
    by : (place : Option Opened) → HasItsPipe (state_of (λ starter. []) parts) (described place) → HasPipe parts.pipes place
    by None has = tt
    by (Some opened) has = has

-- no process is its own parent
pub not_own_parent : (actor : Actor) → IsActor actor → has_parent actor.pid.0 (Some (me_of actor)) ≡ false
not_own_parent actor is = subst (λ (q : Option Process). has_parent actor.pid.0 q ≡ false) (ap process_in is.there) ((orderly_parts actor.parts.now is.whole).parents actor.pid.0)

-- its mask holds signals of numbers 0 to 39
pub masked_few : (actor : Actor) → IsActor actor → bits_of actor.proc.now.mask < 2 ^ 40
masked_few actor is = (subst HasMasks (ap process_in is.there) ((orderly_parts actor.parts.now is.whole).masks actor.pid.0)).mask

-- nothing is pending at process 1
pub first_calm : (actor : Actor) → IsActor actor → actor.pid.0 ≡ 1 → IsCalm (me_of actor)
first_calm actor is one =
    subst HasCalm (ap (λ (n : ℕ). (state_of (λ starter. []) actor.parts.now).procs n) (sym one) ∙ ap process_in is.there) (orderly_parts actor.parts.now is.whole).first

-- a kernel that was booted
pub booted_whole : BootedIsWellFormed → BootedAreWhole
booted_whole formed width count parts some fits few same places counts = record {
  counts = counts;
  places = places;
  few = subst (λ (n : ℕ). n ≤ 256) (sym (ap (λ (S : State). S.width) same)) few;
  formed = subst IsWellFormed (sym same) (formed width count some fits);
}
