-- The slots that a caught signal saved, put in place one after another.
use Rattle.std.proofs.Common.{◌≡◌, ◌<◌, ◌≤◌, ℕ, suc, ◌+◌, ◌-◌, ℤ, pos, Option, Some, None, List, [], ◌∷◌, ◌++◌, length, drop, take, slice_index_or, slice_set, refl, ap, sym, ◌∙◌, subst, arith, append_assoc}
use Rattle.std.proofs.Math.Seq.{drop-cons, set-append_seam, take-suc, take-length}
use Rattle.std.proofs.Math.ListN.{drop_of_length-le}
use Rattle.std.proofs.lemmas.Bool.{le-ltb}
use Rattle.std.proofs.lemmas.List.{length-take-le, append-nil}
use Rattle.tx_base.specs.Signals.{bits_of}
use Rattle.tx_base.specs.declared.errors.Errno.TheVariants.{InvalidArgument}
use Rattle.tx_base.specs.declared.limits.TheConstants.{FRAMES}
use Rattle.tx_base.specs.declared.signals.SigSet.{SigSet}
use Rattle.tx_base.specs.declared.steps.Reply.TheVariants.{Done as TheDone}
use Rattle.tx_change.specs.Laws.{HasPlaces}
use Rattle.tx_change.specs.declared.change.Change.{Change}
use Rattle.tx_change.specs.declared.change.Change.TheVariants.{Part as SetPart}
use Rattle.tx_kernel.proofs.PartsOwned.{own_same, part_none, part_more, part_same, part_whole}
use Rattle.tx_kernel.proofs.Owned.{own_reply}
use Rattle.tx_kernel.specs.Actors.{effect_by, me_of, IsActor}
use Rattle.tx_kernel.specs.Own.{PlansOwn, PlansPart}
use Rattle.tx_kernel.specs.Returns.{SlotsPut, with_slots}
use Rattle.tx_kernel.specs.declared.actor.Actor.{Actor}
use Rattle.tx_kernel.specs.declared.planned.Outcome.TheVariants.{Done}
use Rattle.tx_model.specs.Book.{sigreturn}
use Rattle.tx_model.specs.Forms.{effect_of, fails, stands, ◌or◌}
use Rattle.tx_model.specs.Signals.{newest_frame, with_frame}
use Rattle.tx_model.specs.State.{Frame, Process}
use Rattle.tx_proc.specs.Parts.{frames_swapped, revised}
use Rattle.tx_proc.specs.declared.proc.Answer.{Answer}
use Rattle.tx_proc.specs.Laws.{IsSized}
use Rattle.tx_proc.specs.declared.proc.Part.TheVariants.{Register, Answer as SetAnswer, Mask as SetMask, Frame as SetFrame}

-- the actor has its places
pub sized_actor : (actor : Actor) → IsActor actor → IsSized actor.proc.now
sized_actor actor is = subst HasPlaces is.there (is.whole.places actor.pid.0)

-- the first n slots of one list and the rest of another, of which one more is of the first
next_seam : (slots old : List ℤ) (n : ℕ) (value : ℤ) → n < length slots → value ≡ slice_index_or slots n (pos 0) →
    take n slots ++ value ∷ drop (suc n) old ≡ take (n + 1) slots ++ drop (n + 1) old
next_seam slots old n value there is =
    let one : suc n ≡ n + 1 = omega arith in
    ap (λ (v : ℤ). take n slots ++ v ∷ drop (suc n) old) is
    ∙ sym (append_assoc (take n slots) (slice_index_or slots n (pos 0) ∷ []) (drop (suc n) old))
    ∙ ap (λ (front : List ℤ). front ++ drop (suc n) old) (sym (take-suc slots n (pos 0) there))
    ∙ ap (λ (k : ℕ). take k slots ++ drop k old) one

-- one slot more
put_next : (slots old : List ℤ) (n : ℕ) (value : ℤ) → n < length slots → n < length old → value ≡ slice_index_or slots n (pos 0) →
    slice_set (take n slots ++ drop n old) n value ≡ take (n + 1) slots ++ drop (n + 1) old
put_next slots old n value there room is =
    let long : length (take n slots) ≡ n = length-take-le n slots (omega (arith, there)) in
    ap (λ (rest : List ℤ). slice_set (take n slots ++ rest) n value) (drop-cons old n (pos 0) room)
    ∙ ap (λ (k : ℕ). slice_set (take n slots ++ slice_index_or old n (pos 0) ∷ drop (suc n) old) k value) (sym long)
    ∙ set-append_seam (take n slots) (slice_index_or old n (pos 0)) (drop (suc n) old) value
    ∙ next_seam slots old n value there is

pub slots_more : (actor : Actor) (before between now : List Change) (slots : List ℤ) (n : ℕ) (value : ℤ) → IsActor actor → SlotsPut actor before between slots n →
    length slots ≡ 8 → n < 8 → value ≡ slice_index_or slots n (pos 0) → now ≡ between ++ SetPart actor.pid (Register (record { number = n; value = value })) ∷ [] →
    SlotsPut actor before now slots (n + 1)
slots_more actor before between now slots n value is put long low same last =
    let old : List ℤ = actor.proc.now.regs.slots in
    let more = part_more actor before between now (λ me. with_slots (take n slots ++ drop n me.registers.slots) me) (Register (record { number = n; value = value })) put.plan low tt last in
    record {
      plan = record {
        plan = more.plan;
        added = more.added;
        own = more.own;
        nameless = more.nameless;
        process = more.process
            ∙ ap (λ (xs : List ℤ). with_slots xs (me_of actor)) (put_next slots old n value (subst (λ (k : ℕ). n < k) (sym long) low) (subst (λ (k : ℕ). n < k) (sym (sized_actor actor is).slots) low) same);
      };
    }

-- a slot that has its value already
pub slots_same : (actor : Actor) (before now : List Change) (slots : List ℤ) (n : ℕ) → IsActor actor → SlotsPut actor before now slots n → length slots ≡ 8 → n < 8 →
    slice_index_or actor.proc.now.regs.slots n (pos 0) ≡ slice_index_or slots n (pos 0) → SlotsPut actor before now slots (n + 1)
slots_same actor before now slots n is put long low same =
    let old : List ℤ = actor.proc.now.regs.slots in
    let there : n < length slots = subst (λ (k : ℕ). n < k) (sym long) low in
    let room : n < length old = subst (λ (k : ℕ). n < k) (sym (sized_actor actor is).slots) low in
    record {
      plan = record {
        plan = put.plan.plan;
        added = put.plan.added;
        own = put.plan.own;
        nameless = put.plan.nameless;
        process = put.plan.process
            ∙ ap (λ (xs : List ℤ). with_slots xs (me_of actor)) (ap (λ (rest : List ℤ). take n slots ++ rest) (drop-cons old n (pos 0) room) ∙ next_seam slots old n (slice_index_or old n (pos 0)) there same);
      };
    }

pub no_slots : (actor : Actor) (log : List Change) (slots : List ℤ) → SlotsPut actor log log slots 0
no_slots actor log slots = let none = part_none actor log in
    record { plan = record { plan = none.plan; added = none.added; own = none.own; nameless = none.nameless; process = none.process } }

-- all of them
pub slots_put : (actor : Actor) (before now : List Change) (slots : List ℤ) (n : ℕ) → IsActor actor → SlotsPut actor before now slots n → length slots ≡ 8 → n ≡ 8 →
    PlansPart actor before now (with_slots slots)
slots_put actor before now slots n is put long all =
    let old : List ℤ = actor.proc.now.regs.slots in
    let whole : take n slots ++ drop n old ≡ slots
    = (λ j. take (all j) slots ++ drop (all j) old) ∙ ap (λ (rest : List ℤ). take 8 slots ++ rest) (drop_of_length-le old (subst (λ (k : ℕ). k ≤ 8) (sym (sized_actor actor is).slots) (omega arith)))
    ∙ append-nil (take 8 slots) ∙ ap (λ (k : ℕ). take k slots) (sym long) ∙ take-length slots in
    record {
      plan = put.plan.plan;
      added = put.plan.added;
      own = put.plan.own;
      nameless = put.plan.nameless;
      process = put.plan.process ∙ ap (λ (xs : List ℤ). with_slots xs (me_of actor)) whole;
    }

whole_frames : (frames : List Frame) → length frames ≤ FRAMES → frames_swapped None frames ≡ take (length frames - 1) frames
whole_frames frames few = let whole = le-ltb FRAMES (length frames) few in rw whole refl

-- the registers and the mask that a frame saved, and the frame gone
pub returned : (actor : Actor) (before put masked taken now : List Change) (frame : Frame) (mask : SigSet) (none : Option Frame) (ret : ℤ) → ret ≡ frame.registers.ret →
    PlansPart actor before put (with_slots frame.registers.slots) → masked ≡ put ++ SetPart actor.pid (SetMask mask) ∷ [] → taken ≡ masked ++ SetPart actor.pid (SetFrame none) ∷ [] →
    now ≡ taken ++ SetPart actor.pid (SetAnswer (record { point = frame.registers.point; ret = ret })) ∷ [] → bits_of mask ≡ frame.mask →
    newest_frame actor.proc.now.frames ≡ Some frame → none ≡ None → length actor.proc.now.frames ≤ FRAMES →
    PlansOwn actor before now (Done ret) (effect_by actor sigreturn)
returned actor before put masked taken now frame mask none ret same slots first second last bits here out few =
    let me : Process = me_of actor in
    let slotted : Process → Process = with_slots frame.registers.slots in
    let answer : Answer = record { point = frame.registers.point; ret = ret } in
    let one = part_more actor before put masked slotted (SetMask mask) slots tt tt first in
    let two = part_more actor before masked taken (λ me. revised (SetMask mask) (slotted me)) (SetFrame none) one tt tt second in
    let three = part_more actor before taken now (λ me. revised (SetFrame none) (revised (SetMask mask) (slotted me))) (SetAnswer answer) two tt tt last in
    let rest : frames_swapped none me.frames ≡ take (length me.frames - 1) me.frames = ap (λ (x : Option Frame). frames_swapped x me.frames) out ∙ whole_frames me.frames few in
    own_same actor before now (Done ret) (λ S. own_reply actor (Done ret) (record (with_frame frame me) { registers = record frame.registers { ret = ret } })) (effect_by actor sigreturn)
    (part_whole actor before now (Done ret) (λ me. record (with_frame frame me) { registers = record frame.registers { ret = ret } })
    (part_same actor before now _ (λ me. record (with_frame frame me) { registers = record frame.registers { ret = ret } }) three
    (λ j. record me { registers = record { point = frame.registers.point; ret = ret; slots = frame.registers.slots }; mask = bits j; frames = rest j })) tt)
    (λ S. (λ j. effect_of actor.pid.0 me (stands (record (with_frame frame me) { registers = record frame.registers { ret = same j } }) (TheDone (same j))))
    ∙ sym (ap (λ (x : Option Frame). effect_of actor.pid.0 me ((x or fails InvalidArgument) (λ f. stands (with_frame f me) (TheDone f.registers.ret)))) here))
