-- The plan of the end of a process.
use Rattle.std.proofs.Common.{◌≡◌, ◌≢◌, ◌+◌, ℕ, Bool, List, [], ◌∷◌, ◌++◌, length, Option, Some, if◌then◌else◌, refl, ap, sym, ◌∙◌}
use Rattle.std.proofs.lemmas.Bool.{ne_eqb}
use Rattle.tx_change.specs.Counts.{desc_changes}
use Rattle.tx_change.specs.Exchange.{applied, AreNamed}
use Rattle.tx_change.specs.States.{state_of, changed_by}
use Rattle.tx_change.specs.declared.change.Change.{Change}
use Rattle.tx_change.specs.declared.change.Change.TheVariants.{Slot}
use Rattle.tx_change.specs.declared.parts.Parts.{Parts}
use Rattle.tx_desc.specs.Descriptions.{HasDescs}
use Rattle.tx_desc.specs.Plans.{put_descs}
use Rattle.tx_desc.specs.declared.opened.Opened.{Opened}
use Rattle.tx_desc.specs.declared.plans.NewDesc.{NewDesc}
use Rattle.tx_kernel.proofs.Whole.{orderly_parts}
use Rattle.tx_kernel.proofs.Beside.{descs_state}
use Rattle.tx_kernel.proofs.EndStates.{written-append, unnamed_orphans, unnamed_state, children_apart, children_same, orphans_state, pipes_same, gone_state, told_same}
use Rattle.tx_kernel.specs.Actors.{me_of, inside_of, IsActor, caller_of}
use Rattle.tx_kernel.specs.Endings.{gone_changes, orphan_changes, plain, plain_with}
use Rattle.tx_kernel.specs.Laws.{PlanLaws}
use Rattle.tx_kernel.specs.Plans.{held_after}
use Rattle.tx_kernel.specs.declared.actor.Actor.{Actor}
use Rattle.tx_kernel.specs.declared.planned.Sends.{Sends}
use Rattle.tx_model.specs.Descriptors.{pipe_removals, open_in, pipes_of, description_removals}
use Rattle.tx_model.specs.Words.{before_sends}
use Rattle.tx_model.specs.Processes.{children_below, children_of, ended_process, ending, orphan_writes, parent_notice, with_parent, Notice, notice_held}
use Rattle.tx_model.specs.State.{Process, Sending, State, SetProc, Write, write_one, with_writes}
use Rattle.tx_model.specs.StateLaws.{put_there}
use Rattle.tx_proc.specs.Parts.{process_of}
use Rattle.tx_proc.specs.declared.proc.Proc.{Proc}

-- the numbers that the end changes

abbrev pub orphans_of : Actor → List ℕ
orphans_of actor = children_below actor.pid.0 (length actor.parts.now.procs + 1) (plain actor.parts.now)

abbrev pub pipes_left : Actor → List ℕ
pipes_left actor = pipes_of (open_in actor.proc.now.descriptors) (plain actor.parts.now)

-- the changes of others
abbrev pub others_changed : Actor → List NewDesc → List Change
others_changed actor descs = orphan_changes (orphans_of actor) ++ gone_changes (pipes_left actor) (plain_with descs actor.parts.now)

abbrev pub ended_plan : Actor → List NewDesc → Proc → List Change
ended_plan actor descs new = desc_changes descs ++ Slot actor.pid (Some new) ∷ others_changed actor descs

-- the state in which the process has ended, and nothing else has changed
abbrev pub ended_alone : Actor → ℕ → State → State
ended_alone actor status S = write_one (SetProc actor.pid.0 (Some (ended_process status (me_of actor)))) S

-- the state

changes_state : (laws : PlanLaws) (actor : Actor) (status : ℕ) (descs : List NewDesc) (new : Proc) (held : ℕ → List Sending) → process_of new ≡ ended_process status (me_of actor) →
    AreNamed actor.parts.now (desc_changes descs) → AreNamed actor.parts.now (ended_plan actor descs new) →
    state_of held (applied actor.parts.now (ended_plan actor descs new))
    ≡ changed_by (gone_changes (pipes_left actor) (plain_with descs actor.parts.now))
    (changed_by (orphan_changes (orphans_of actor)) (ended_alone actor status (state_of held (record actor.parts.now { descs = put_descs descs actor.parts.now.descs }))))
changes_state laws actor status descs new held copy first named =
    let parts : Parts = actor.parts.now in
    let others : List Change = others_changed actor descs in
    let after : Parts = record parts { descs = put_descs descs parts.descs } in
    laws.changes held parts (ended_plan actor descs new) named
    ∙ laws.changed (state_of held parts) (desc_changes descs) (Slot actor.pid (Some new) ∷ others)
    ∙ ap (changed_by (Slot actor.pid (Some new) ∷ others)) (descs_state laws held parts descs first)
    ∙ ap (λ (q : Process). changed_by others (write_one (SetProc actor.pid.0 (Some q)) (state_of held after))) copy
    ∙ laws.changed (ended_alone actor status (state_of held after)) (orphan_changes (orphans_of actor)) (gone_changes (pipes_left actor) (plain_with descs parts))

pub children_are : (actor : Actor) (held : ℕ → List Sending) → actor.pid.0 ≢ 1 → children_of actor.pid.0 (state_of held actor.parts.now) ≡ orphans_of actor
children_are actor held other =
    let p : ℕ = actor.pid.0 in
    let S : State = state_of held actor.parts.now in
    ap (λ (b : Bool). if b then [] else children_below p (S.width + 1) S) (ne_eqb p 1 other)
    ∙ children_same p (S.width + 1) S (plain actor.parts.now) (λ q. refl)

pub ending_state : (laws : PlanLaws) (actor : Actor) (status : ℕ) (descs : List NewDesc) (new : Proc) (sends : Sends) (held : ℕ → List Sending) →
    IsActor actor → actor.pid.0 ≢ 1 → process_of new ≡ ended_process status (me_of actor) → AreNamed actor.parts.now (desc_changes descs) → AreNamed actor.parts.now (ended_plan actor descs new) →
    HasDescs (with_writes (description_removals (open_in actor.proc.now.descriptors) (ended_alone actor status (state_of held actor.parts.now))) (ended_alone actor status (state_of held actor.parts.now)))
    (put_descs descs actor.parts.now.descs) →
    ((S : State) → with_writes (notice_held (parent_notice (inside_of actor.inside) (me_of actor).parent) (me_of actor).parent S) S ≡ record S { held = held_after (inside_of actor.inside) sends S.held }) →
    before_sends (ending status (caller_of actor (state_of held actor.parts.now))) (state_of held actor.parts.now)
    ≡ state_of (held_after (inside_of actor.inside) sends held) (applied actor.parts.now (ended_plan actor descs new))
unfolding with_writes
ending_state laws actor status descs new sends held is other copy first named has tells =
    let parts : Parts = actor.parts.now in
    let p : ℕ = actor.pid.0 in
    let me : Process = me_of actor in
    let D : List (Option Opened) = put_descs descs parts.descs in
    let ds : List ℕ = open_in me.descriptors in
    let S : State = state_of held parts in
    let S1 : State = ended_alone actor status S in
    let T : State = with_writes (description_removals ds S1) S1 in
    let X : State = ended_alone actor status (state_of held (record parts { descs = D })) in
    let qs : List ℕ = orphans_of actor in
    let ks : List ℕ = pipes_left actor in
    let R : State = plain_with descs parts in
    let U : List Write = description_removals ds S1 in
    let E : List Write = pipe_removals (pipes_of ds S1) T in
    let O : List Write = orphan_writes (children_of p S) S in
    let told : Notice = parent_notice (inside_of actor.inside) me.parent in
    let P : Parts = applied parts (ended_plan actor descs new) in
    let children : with_writes O X ≡ changed_by (orphan_changes qs) X
    = ap (λ (xs : List ℕ). with_writes (orphan_writes xs S) X) (children_are actor held other)
    ∙ sym (orphans_state p qs S X (children_apart p (length parts.procs + 1) (plain parts) ((orderly_parts parts is.whole).parents p)) (λ q apart. ap (with_parent 1) (put_there S.procs p (Some (ended_process status me)) q apart))) in
    let pipes : (Y : State) → with_writes E Y ≡ changed_by (gone_changes ks R) Y
    = λ Y. ap (λ (xs : List ℕ). with_writes (pipe_removals xs T) Y) (pipes_same ds S1 (plain parts) (λ d. refl))
    ∙ sym (gone_state ks R T Y (λ d. sym (has d))) in
    let after : with_writes E (with_writes O X) ≡ state_of held P
    = ap (with_writes E) children ∙ pipes (changed_by (orphan_changes qs) X) ∙ sym (changes_state laws actor status descs new held copy first named) in
    written-append ((SetProc p (Some (ended_process status me)) ∷ O) ++ (U ++ E)) (notice_held told me.parent S) S
    ∙ ap (with_writes (notice_held told me.parent S))
    (written-append (SetProc p (Some (ended_process status me)) ∷ O) (U ++ E) S
    ∙ written-append U E (with_writes O S1)
    ∙ ap (with_writes E) (unnamed_orphans ds S1 S S1 (children_of p S) ∙ ap (with_writes O) (unnamed_state ds S1 S1 D has))
    ∙ after)
    ∙ ap (λ (ws : List Write). with_writes ws (state_of held P)) (told_same told me.parent S (state_of held P) refl)
    ∙ tells (state_of held P)
