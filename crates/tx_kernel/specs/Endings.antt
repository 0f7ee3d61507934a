-- The changes that the end of a process makes of others.
use Rattle.std.specs.Prelude.{◌≡◌, ◌⊎◌, ℕ, Bool, List, [], ◌∷◌, Option, Some, None, is_none, if◌then◌else◌, slice_index_or}
use Rattle.std.specs.List.{list_any}
use Rattle.tx_base.specs.declared.names.PipeNo.{PipeNo}
use Rattle.tx_change.specs.States.{state_of}
use Rattle.tx_change.specs.declared.change.Change.{Change}
use Rattle.tx_change.specs.declared.change.Change.TheVariants.{Part, Pipe}
use Rattle.tx_change.specs.declared.parts.Parts.{Parts}
use Rattle.tx_change.specs.declared.pipes.PipePart.TheVariants.{Whole}
use Rattle.tx_desc.specs.Descriptions.{description_at}
use Rattle.tx_desc.specs.Plans.{put_descs}
use Rattle.tx_desc.specs.declared.opened.Opened.{Opened}
use Rattle.tx_desc.specs.declared.plans.NewDesc.{NewDesc}
use Rattle.tx_model.specs.Descriptors.{has_description}
use Rattle.tx_model.specs.State.{State, has_parent}
use Rattle.tx_proc.specs.declared.proc.Part.TheVariants.{Parent}

-- the state of the parts where nothing is held
abbrev pub plain : Parts → State
plain parts = state_of (λ starter. []) parts

-- that of the parts with planned descriptions in place
abbrev pub plain_with : List NewDesc → Parts → State
plain_with news parts = plain (record parts { descs = put_descs news parts.descs })

-- whether one of these descriptions must go
abbrev pub takes_out : List NewDesc → Bool
takes_out news = list_any (λ new. is_none new.opened) news

-- once these are in place, each description is as it was, except for the count of its names, or is
-- gone
pub record OnlyRemoves (news : List NewDesc) (descs : List (Option Opened)) : Type 0 where
  pub each : (d : ℕ)
      → (description_at (put_descs news descs) d ≡ description_at descs d)
      ⊎ (description_at (put_descs news descs) d ≡ None)

-- the changes that give the processes parent 1
abbrev pub orphan_changes : List ℕ → List Change
orphan_changes [] = []
orphan_changes (q ∷ qs) = Part (record { 0 = q }) (Parent (record { 0 = 1 })) ∷ orphan_changes qs

-- the process of the number, if it is a child of process p
abbrev pub child_at : ℕ → ℕ → State → List ℕ
child_at p q S = if has_parent p (S.procs q) then q ∷ [] else []

-- the pipe of a description
abbrev pub pipe_in : Option Opened → Option PipeNo
pipe_in None = None
pipe_in (Some opened) = Some opened.desc.pipe

-- the pipe of the description that a descriptor may name
abbrev pub pipe_through : List (Option Opened) → Option ℕ → Option PipeNo
pipe_through descs None = None
pipe_through descs (Some d) = pipe_in (slice_index_or descs d None)

-- the changes that take out those of the pipes that no description names
unfoldable pub gone_changes : List ℕ → State → List Change
gone_changes [] S = []
gone_changes (k ∷ ks) S =
    if has_description k S
    then gone_changes ks S
    else Pipe (record { 0 = k }) (Whole None) ∷ gone_changes ks S

-- the change that takes out the pipe, if there is one, that no description names
abbrev pub gone_at : Option PipeNo → State → List Change
gone_at None S = []
gone_at (Some pipe) S = if has_description pipe.0 S then [] else Pipe pipe (Whole None) ∷ []
