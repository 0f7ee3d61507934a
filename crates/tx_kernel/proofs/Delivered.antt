-- Deliveries: the signal leaves what is pending, and a caught one leaves a frame.
use Rattle.std.proofs.Common.{◌≡◌, ◌≢◌, ◌<◌, ◌≤◌, ℕ, Bool, true, false, not, ℤ, pos, nat_lt, ◌==◌, bit_or, Option, Some, None, List, [], ◌∷◌, ◌++◌, length, slice_index_or, if◌then◌else◌, inr, refl, ap, sym, subst, ◌∙◌}
use Rattle.std.proofs.lemmas.Bool.{le-ltb, ltb-true, ltb-false}
use Rattle.std.proofs.lemmas.List.{get_or_past}
use Rattle.std.proofs.lemmas.Nat.Bits.{bit_at-zero}
use Rattle.tx_base.specs.Signals.{bits_of}
use Rattle.tx_base.specs.declared.limits.TheConstants.{FRAMES, QUEUED}
use Rattle.tx_base.specs.declared.signals.Action.{Action}
use Rattle.tx_base.specs.declared.signals.Action.TheVariants.{Usual, Ignore, Catch}
use Rattle.tx_base.specs.declared.signals.SigSet.{SigSet}
use Rattle.tx_base.specs.declared.steps.Refusal.TheVariants.{Deferred, FramesFull, NotDeliverable}
use Rattle.tx_base.specs.declared.steps.Reply.TheVariants.{Done as TheDone}
use Rattle.tx_change.specs.States.{state_of}
use Rattle.tx_change.specs.declared.change.Change.{Change}
use Rattle.tx_change.specs.declared.change.Change.TheVariants.{Part as SetPart}
use Rattle.tx_kernel.proofs.Beside.{plans_same}
use Rattle.tx_kernel.proofs.OwnPlans.{own_plans}
use Rattle.tx_kernel.proofs.Owned.{own_reply}
use Rattle.tx_kernel.proofs.PartsOwned.{own_same, part_none, part_more, part_same, part_whole}
use Rattle.tx_kernel.proofs.Whole.{first_calm}
use Rattle.tx_kernel.specs.Actors.{effect_by, me_of, names_by, inside_of, IsActor}
use Rattle.tx_kernel.specs.Discards.{queue_of}
use Rattle.tx_kernel.specs.Laws.{PlanLaws}
use Rattle.tx_kernel.specs.Own.{PlansOwn, PlansPart}
use Rattle.tx_kernel.specs.Plans.{Plans, RefusedBy, quiet}
use Rattle.tx_kernel.specs.declared.actor.Actor.{Actor}
use Rattle.tx_kernel.specs.declared.planned.Outcome.{Outcome}
use Rattle.tx_kernel.specs.declared.planned.Outcome.TheVariants.{Done}
use Rattle.tx_kernel.specs.declared.planned.Planned.{Planned}
use Rattle.tx_model.specs.Deliveries.{action_at, at_catch_point, delivered_value, ends_by, first_value, is_blocked, is_deferred, is_killing, without_first, without_delivered, reaction, delivery, delivery_page}
use Rattle.tx_model.specs.Words.{is_fatal, is_full, is_ignored, own_effect}
use Rattle.tx_model.specs.Effects.{Effect, idle}
use Rattle.tx_model.specs.Forms.{Rule, refuses, stands}
use Rattle.tx_model.specs.Processes.{ending_objects}
use Rattle.tx_model.specs.SignalSets.{child_signo, is_in_set, is_realtime, with_one_more}
use Rattle.tx_model.specs.Signals.{Disposition, Ignored, Fatal, Caught, disposition, is_ignoring}
use Rattle.tx_model.specs.State.{Frame, Object, Process, Queued, State}
use Rattle.tx_proc.specs.Parts.{frames_swapped, queue_swapped, revised}
use Rattle.tx_proc.specs.declared.proc.Answer.{Answer}
use Rattle.tx_proc.specs.declared.proc.Part.TheVariants.{Answer as SetAnswer, Frame as SetFrame, Mask as SetMask, Queued as SetQueued}
use Rattle.tx_signal.specs.Entries.{entry_swapped}

-- the first entry of a realtime signal is taken out
pub entry_leaves : (actor : Actor) (before now : List Change) (signo place : ℕ) → is_realtime signo ≡ true → length (queue_of actor) ≤ QUEUED →
    entry_swapped place None (queue_of actor) ≡ without_first signo (queue_of actor) → now ≡ before ++ SetPart actor.pid (SetQueued place None) ∷ [] →
    PlansPart actor before now (without_delivered signo)
entry_leaves actor before now signo place realtime few first last =
    let me : Process = me_of actor in
    let short = le-ltb QUEUED (length (queue_of actor)) few in
    let out : queue_swapped place None (queue_of actor) ≡ without_first signo (queue_of actor) = rw short first in
    let same : record me { queued = queue_swapped place None me.queued } ≡ without_delivered signo me = rw realtime (ap (λ (q : List Queued). record me { queued = q }) out) in
    part_same actor before now (λ me. revised (SetQueued place None) me) (without_delivered signo) (part_more actor before before now (λ me. me) (SetQueued place None) (part_none actor before) tt tt last) same

-- where there is room, a frame is the newest
framed : (frames : List Frame) (frame : Frame) → not (nat_lt (length frames) FRAMES) ≡ false → frames_swapped (Some frame) frames ≡ frames ++ frame ∷ []
framed frames frame room = by (nat_lt (length frames) FRAMES) room
  where
    by : (b : Bool) → not b ≡ false → (if b then frames ++ frame ∷ [] else frames) ≡ frames ++ frame ∷ []
    by true e = refl
    by false e = cc

-- a signal that is caught
abbrev pub catching : ℕ → ℤ → ℕ → SigSet → Rule
catching signo value point mask c = stands (at_catch_point signo value point mask (without_delivered signo c.process)) (TheDone value)

-- the mask, the frame, and the catch point with the signal's value
pub caught_plans : (actor : Actor) (before gone masked saved now : List Change) (signo : ℕ) (value ret : ℤ) (point : ℕ) (mask blocked : SigSet) (frame : Option Frame) →
    ret ≡ value → is_full (me_of actor) ≡ false → PlansPart actor before gone (without_delivered signo) → masked ≡ gone ++ SetPart actor.pid (SetMask blocked) ∷ [] →
    saved ≡ masked ++ SetPart actor.pid (SetFrame frame) ∷ [] → now ≡ saved ++ SetPart actor.pid (SetAnswer (record { point = point; ret = ret })) ∷ [] →
    bits_of blocked ≡ with_one_more (bit_or (me_of actor).mask (bits_of mask)) signo →
    frame ≡ Some (record { registers = actor.proc.now.regs; mask = bits_of actor.proc.now.mask }) →
    PlansOwn actor before now (Done ret) (effect_by actor (catching signo value point mask))
caught_plans actor before gone masked saved now signo value ret point mask blocked frame same room taken first second last bits here =
    let me : Process = me_of actor in
    let kept : Frame = record { registers = me.registers; mask = me.mask } in
    let answer : Answer = record { point = point; ret = ret } in
    let one = part_more actor before gone masked (without_delivered signo) (SetMask blocked) taken tt tt first in
    let two = part_more actor before masked saved (λ me. revised (SetMask blocked) (without_delivered signo me)) (SetFrame frame) one tt tt second in
    let three = part_more actor before saved now (λ me. revised (SetFrame frame) (revised (SetMask blocked) (without_delivered signo me))) (SetAnswer answer) two tt tt last in
    let frames : frames_swapped frame me.frames ≡ me.frames ++ kept ∷ [] = ap (λ (x : Option Frame). frames_swapped x me.frames) here ∙ framed me.frames kept room in
    let after : ℤ → Process = λ r. record (without_delivered signo me) { registers = record { point = point; ret = r; slots = me.registers.slots }; mask = with_one_more (bit_or me.mask (bits_of mask)) signo; frames = me.frames ++ kept ∷ [] } in
    own_same actor before now (Done ret) (λ S. own_reply actor (Done ret) (after ret)) (effect_by actor (catching signo value point mask))
    (part_whole actor before now (Done ret) (λ me. after ret)
    (part_same actor before now _ (λ me. after ret) three
    (λ j. record (without_delivered signo me) { registers = record { point = point; ret = ret; slots = me.registers.slots }; mask = bits j; frames = frames j })) tt)
    (λ S. ap (λ (r : ℤ). own_effect actor.pid.0 (record { process = after r; reply = TheDone r })) same)

-- what the action comes to

pub ignored_is : (signo : ℕ) (action : Action) → is_ignored signo action ≡ true → disposition signo action ≡ Ignored
ignored_is signo Usual is = by (signo == child_signo) is
  where
    by : (b : Bool) → is_ignoring (if b then Ignored else Fatal) ≡ true → (if b then Ignored else Fatal) ≡ Ignored
    by true e = refl
    by false e = cc
ignored_is signo Ignore is = refl
ignored_is signo (Catch point mask) is = cc

pub fatal_is : (signo : ℕ) (action : Action) → is_ignored signo action ≡ false → ((point : ℕ) (mask : SigSet) → action ≡ Catch point mask → ⊥) → disposition signo action ≡ Fatal
fatal_is signo Usual is other = by (signo == child_signo) is
  where
    by : (b : Bool) → is_ignoring (if b then Ignored else Fatal) ≡ false → (if b then Ignored else Fatal) ≡ Fatal
    by true e = cc
    by false e = refl
fatal_is signo Ignore is other = cc
fatal_is signo (Catch point mask) is other = absurd (other point mask refl)

-- a signal that is caught has an action of its own: its number is below 40
pub caught_low : (actions : List Action) (signo point : ℕ) (mask : SigSet) → length actions ≡ 40 → slice_index_or actions signo Usual ≡ Catch point mask → signo < 40
caught_low actions signo point mask size is = by (nat_lt signo 40) refl
  where
    by : (b : Bool) → nat_lt signo 40 ≡ b → signo < 40
    by true low = ltb-true signo 40 low
    by false high =
        let past : slice_index_or actions signo Usual ≡ Usual = get_or_past actions signo Usual (subst (λ (n : ℕ). n ≤ signo) (sym size) (ltb-false signo 40 high)) in
        let same : Catch point mask ≡ Usual = sym is ∙ past in
        cc

-- the rule of a signal that may be delivered, and what it names
abbrev pub reacting : ℕ → ℤ → Disposition → Rule
reacting signo value what c = reaction signo value what (record c { process = without_delivered signo c.process })

abbrev pub acting : Actor → ℕ → ℤ → Disposition → State → Effect
acting actor signo value what = effect_by actor (reacting signo value what)

abbrev pub acting_objects : Actor → Disposition → State → List Object
acting_objects actor what = names_by actor (λ c. if is_killing what then ending_objects c else [])

pub acted : (actor : Actor) (before now : List Change) (planned : Planned) (signo : ℕ) (value : ℤ) (what is : Disposition) → is ≡ what →
    Plans actor before now planned (acting actor signo value what) (acting_objects actor what) → Plans actor before now planned (acting actor signo value is) (acting_objects actor is)
acted actor before now planned signo value what is same plans =
    plans_same actor before now planned (acting actor signo value what) (acting actor signo value is) (acting_objects actor what) (acting_objects actor is)
    (λ held counted. ap (λ (d : Disposition). acting actor signo value d (state_of held actor.parts.now)) (sym same))
    (λ held. ap (λ (d : Disposition). acting_objects actor d (state_of held actor.parts.now)) (sym same)) plans

-- four frames are in use
pub full_refuses : (actor : Actor) (signo : ℕ) (value : ℤ) (point : ℕ) (mask : SigSet) (is : Disposition) → is ≡ Caught point mask → is_full (me_of actor) ≡ true →
    RefusedBy actor FramesFull (acting actor signo value is)
full_refuses actor signo value point mask is same full =
    inr (λ held counted. ap (λ (d : Disposition). acting actor signo value d (state_of held actor.parts.now)) same
    ∙ ap (λ (b : Bool). effect_by actor (λ c. if b then refuses FramesFull else catching signo value point mask c) (state_of held actor.parts.now)) full)

-- there is room for a frame
pub caught_acted : (laws : PlanLaws) (actor : Actor) (before now : List Change) (outcome : Outcome) (signo : ℕ) (value : ℤ) (point : ℕ) (mask : SigSet) →
    length actor.parts.now.descs ≡ 64 → IsActor actor → is_full (me_of actor) ≡ false →
    PlansOwn actor before now outcome (effect_by actor (catching signo value point mask)) →
    Plans actor before now (quiet outcome) (acting actor signo value (Caught point mask)) (acting_objects actor (Caught point mask))
caught_acted laws actor before now outcome signo value point mask sized is room own =
    plans_same actor before now (quiet outcome) (effect_by actor (catching signo value point mask)) (acting actor signo value (Caught point mask)) (acting_objects actor (Caught point mask))
    (acting_objects actor (Caught point mask))
    (λ held counted. sym (ap (λ (b : Bool). effect_by actor (λ c. if b then refuses FramesFull else catching signo value point mask c) (state_of held actor.parts.now)) room)) (λ held. refl)
    (own_plans laws actor before now outcome (effect_by actor (catching signo value point mask)) (acting_objects actor (Caught point mask)) sized is own)

-- the delivery

-- a delivery that brings this value, or none
abbrev pub delivered : ℕ → Option ℤ → Rule
delivered signo brought c = elim brought [
  | None ↦ refuses NotDeliverable
  | Some value ↦ if is_deferred c.inside signo then refuses Deferred else reacting signo value (disposition signo (action_at signo c.process)) c
]

-- the signal may be delivered, and is not deferred
pub delivers_is : (actor : Actor) (signo : ℕ) (value passed : ℤ) → delivered_value signo (me_of actor) ≡ Some value → is_deferred (inside_of actor.inside) signo ≡ false → passed ≡ value →
    acting actor signo passed (disposition signo (action_at signo (me_of actor))) ≡ effect_by actor (delivery signo)
delivers_is actor signo value passed here now same =
    let rule : ℤ → Rule = λ v. reacting signo v (disposition signo (action_at signo (me_of actor))) in
    ap (λ (v : ℤ). effect_by actor (rule v)) same ∙ sym (ap (λ (b : Bool). effect_by actor (λ c. if b then refuses Deferred else rule value c)) now)
    ∙ sym (ap (λ (x : Option ℤ). effect_by actor (delivered signo x)) here)

pub names_is : (actor : Actor) (signo : ℕ) (value : ℤ) → delivered_value signo (me_of actor) ≡ Some value → is_deferred (inside_of actor.inside) signo ≡ false →
    acting_objects actor (disposition signo (action_at signo (me_of actor))) ≡ names_by actor (delivery_page signo).names
names_is actor signo value here now =
    let me : Process = me_of actor in
    let objects : Bool → State → List Object = λ ends. names_by actor (λ c. if ends then ending_objects c else []) in
    sym (ap (λ (b : Bool). objects (if b then false else is_fatal signo (action_at signo me))) now)
    ∙ sym (ap (λ (x : Option ℤ). objects (ends_by (inside_of actor.inside) signo me x)) here)

pub none_is : (actor : Actor) (signo : ℕ) (S : State) → None ≡ delivered_value signo (me_of actor) → effect_by actor (delivery signo) S ≡ idle NotDeliverable
none_is actor signo S none = ap (λ (x : Option ℤ). effect_by actor (delivered signo x) S) (sym none)

pub none_refuses : (actor : Actor) (signo : ℕ) → None ≡ delivered_value signo (me_of actor) → RefusedBy actor NotDeliverable (effect_by actor (delivery signo))
none_refuses actor signo none = inr (λ held counted. none_is actor signo (state_of held actor.parts.now) none)

pub deferred_is : (actor : Actor) (signo : ℕ) (value : ℤ) (S : State) → delivered_value signo (me_of actor) ≡ Some value → is_deferred (inside_of actor.inside) signo ≡ true →
    effect_by actor (delivery signo) S ≡ idle Deferred
deferred_is actor signo value S here late =
    ap (λ (x : Option ℤ). effect_by actor (delivered signo x) S) here
    ∙ ap (λ (b : Bool). effect_by actor (λ c. if b then refuses Deferred else reacting signo value (disposition signo (action_at signo c.process)) c) S) late

pub deferred_refuses : (actor : Actor) (signo : ℕ) (value : ℤ) → delivered_value signo (me_of actor) ≡ Some value → is_deferred (inside_of actor.inside) signo ≡ true →
    RefusedBy actor Deferred (effect_by actor (delivery signo))
deferred_refuses actor signo value here late = inr (λ held counted. deferred_is actor signo value (state_of held actor.parts.now) here late)

-- where nothing is pending, nothing is delivered

nothing_brings : (signo : ℕ) (b : Bool) → (if b then first_value signo [] else (if is_in_set 0 signo then Some (pos 0) else None)) ≡ None
unfolding first_value
nothing_brings signo true = refl
nothing_brings signo false = ap (λ (n : ℕ). if n == 1 then Some (pos 0) else None) (bit_at-zero signo)

either_way : (b : Bool) (value : Option ℤ) → (if b then value else value) ≡ value
either_way true value = refl
either_way false value = refl

nothing_delivered : (signo : ℕ) (me : Process) → me.pending ≡ 0 → me.queued ≡ [] → delivered_value signo me ≡ None
nothing_delivered signo me standard queue =
    ap (λ (value : Option ℤ). if is_blocked signo me then None else value)
    ((λ j. if is_realtime signo then first_value signo (queue j) else (if is_in_set (standard j) signo then Some (pos 0) else None)) ∙ nothing_brings signo (is_realtime signo))
    ∙ either_way (is_blocked signo me) None

pub not_first : (actor : Actor) (signo : ℕ) (value : ℤ) → IsActor actor → delivered_value signo (me_of actor) ≡ Some value → actor.pid.0 ≢ 1
not_first actor signo value is here one =
    let calm = first_calm actor is one in
    let none : None ≡ Some value = sym (nothing_delivered signo (me_of actor) calm.pending calm.queued) ∙ here in
    cc
