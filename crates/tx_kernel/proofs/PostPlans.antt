-- Plans of posts.
use Rattle.std.proofs.Common.{◌≡◌, ℕ, zero, suc, Bool, true, false, nat_lt, List, [], ◌∷◌, ◌++◌, length, option_map, Option, Some, None, Result, Ok, Err, IfOk, IsSome, inl, inr, refl, ap, sym, subst, ◌∙◌, arith, append-nil}
use Rattle.std.proofs.lemmas.List.{get_or_past}
use Rattle.std.proofs.lemmas.Bool.{ltb-true, ltb-false}
use Rattle.tx_base.specs.Slots.{slot_at}
use Rattle.tx_base.specs.declared.errors.Errno.{Errno}
use Rattle.tx_base.specs.declared.names.Pid.{Pid}
use Rattle.tx_change.specs.Counts.{CountsAgree, IsNameless}
use Rattle.tx_change.specs.Laws.{HaveAllPlaces}
use Rattle.tx_change.specs.States.{state_of}
use Rattle.tx_change.specs.Exchange.{parts_after, change_after, sizes_of, AreNamed, AreWithin, IsPid, Sizes}
use Rattle.tx_change.specs.declared.change.Change.{Change}
use Rattle.tx_change.specs.declared.change.Change.TheVariants.{Part as SetPart}
use Rattle.tx_change.specs.declared.parts.Parts.{Parts}
use Rattle.tx_kernel.specs.Posts.{IsOfPending, IsSeen, PlansAt, PlansPost, posted, seen_as, without_part}
use Rattle.tx_kernel.specs.Laws.{PlanLaws}
use Rattle.tx_model.specs.Posts.{after_post, post_answer, target_after}
use Rattle.tx_model.specs.State.{Object, Proc as TheProc, Desc, Pipe as ThePipe, Held, Process, Sending, State, SetProc, write_one}
use Rattle.tx_model.specs.StateLaws.{EqualAt}
use Rattle.tx_model.specs.StateLaws.{put_cases, state_ext}
use Rattle.tx_proc.specs.Parts.{HasPlace, process_in, process_of}
use Rattle.tx_proc.specs.declared.proc.Part.{Part}
use Rattle.tx_proc.specs.declared.proc.Part.TheVariants.{Pending, Queued, Frame}
use Rattle.tx_proc.specs.declared.proc.Proc.{Proc}
use Rattle.tx_signal.specs.Parts.{answer_of}

abbrev IsNoProc : Option Proc → Type 0
IsNoProc None = Unit {0}
IsNoProc (Some proc) = ⊥

-- a number that has a process is one that there is
there_pid : (parts : Parts) (n : ℕ) (proc : Proc) → slot_at parts.procs n ≡ Some proc → IsPid (sizes_of parts) n
there_pid parts zero proc there = absurd (none_some there)
  where
    none_some : None ≡ Some proc → ⊥
    none_some e = subst (λ (slot : Option Proc). IsNoProc slot) e tt
there_pid parts (suc n) proc there = by (nat_lt n (length parts.procs)) refl
  where
    none_some : None ≡ Some proc → ⊥
    none_some e = subst (λ (slot : Option Proc). IsNoProc slot) e tt

    by : (b : Bool) → nat_lt n (length parts.procs) ≡ b → IsPid (sizes_of parts) (suc n)
    by true e = record { low = omega arith; high = omega (arith, ltb-true n (length parts.procs) e) }
    by false e = absurd (none_some (sym (get_or_past parts.procs n None (ltb-false n (length parts.procs) e)) ∙ there))

-- a part of what is pending has its place, and names nothing
part_of_pending : (pid : Pid) (part : Part) → IsOfPending (Some part) → HasPlace part × IsNameless (SetPart pid part)
part_of_pending pid (Pending set) is = (tt, tt)
part_of_pending pid (Queued place entry) is = (tt, tt)
part_of_pending pid (Frame x) is = absurd is
part_of_pending pid part is = absurd is

-- what a post to a process is to exchange, where that process is there
pub planned_at : (parts : Parts) (m : Sending) (proc : Proc) (result : Result (Option Part) Errno) → slot_at parts.procs m.target ≡ Some proc → IfOk result IsOfPending →
    answer_of (without_part result) ≡ post_answer m (Some (process_of proc)) → ((me : Process) → target_after m (Some (seen_as proc me)) ≡ Some (posted result (seen_as proc me))) →
    PlansAt parts m result
planned_at parts m proc result here pending right after = record {
  pending = pending;
  there = number result;
  answers = λ q seen. answered q (subst (λ (slot : Option Proc). IsSeen slot q) here seen);
  receives = λ q seen. taken q (subst (λ (slot : Option Proc). IsSeen slot q) here seen);
}
  where
    number : (r : Result (Option Part) Errno) → IfOk r (λ part. IsSome part → IsPid (sizes_of parts) m.target)
    number (Ok part) = λ some. there_pid parts m.target proc here
    number (Err errno) = tt

    answered : (q : Option Process) → IsSeen (Some proc) q → answer_of (without_part result) ≡ post_answer m q
    answered None seen = absurd seen
    answered (Some q) seen = right ∙ ap (λ (me : Process). post_answer m (Some me)) (sym seen)

    taken : (q : Option Process) → IsSeen (Some proc) q → option_map (posted result) q ≡ target_after m q
    taken None seen = absurd seen
    taken (Some q) seen = (λ j. Some (posted result (seen j))) ∙ sym (after q) ∙ ap (λ (me : Process). target_after m (Some me)) (sym seen)

-- a post that fails
pub failed_post : (parts : Parts) (log : List Change) (m : Sending) (errno : Errno) → PlansAt parts m (Err errno) → PlansPost parts log log m (Err errno)
failed_post parts log m errno at = record { plan = []; added = sym (append-nil log); own = tt; nameless = tt; named = tt; answers = at.answers; receives = at.receives }

-- a post that exchanges nothing
pub quiet_post : (parts : Parts) (log : List Change) (m : Sending) (part : Option Part) → part ≡ None → PlansAt parts m (Ok part) → PlansPost parts log log m (Ok tt)
quiet_post parts log m part none at =
    let now : PlansAt parts m (Ok None) = subst (λ (o : Option Part). PlansAt parts m (Ok o)) none at in
    record { plan = []; added = sym (append-nil log); own = tt; nameless = tt; named = tt; answers = now.answers; receives = now.receives }

-- a post that exchanges a part
pub part_post : (parts : Parts) (before now : List Change) (m : Sending) (pid : Pid) (found : Option Part) (part : Part) → pid.0 ≡ m.target → found ≡ Some part →
    PlansAt parts m (Ok found) → now ≡ before ++ SetPart pid part ∷ [] → PlansPost parts before now m (Ok tt)
part_post parts before now m pid found part target is at last =
    let known : PlansAt parts m (Ok (Some part)) = subst (λ (o : Option Part). PlansAt parts m (Ok o)) is at in
    let place = part_of_pending pid part known.pending in
    record {
      plan = SetPart pid part ∷ [];
      added = last;
      own = ((target, place.0), tt);
      nameless = (place.1, tt);
      named = ((subst (IsPid (sizes_of parts)) (sym target) (known.there refl), place.0), tt);
      answers = known.answers;
      receives = known.receives;
    }

-- a post sees the process that is there
pub seen_now : (slot : Option Proc) → IsSeen slot (process_in slot)
seen_now None = tt
seen_now (Some proc) = refl

-- what an exchange of that part leaves of the parts
pub part_posted : (laws : PlanLaws) (parts new : Parts) (m : Sending) (pid : Pid) (found : Option Part) (part : Part) → pid.0 ≡ m.target → found ≡ Some part →
    PlansAt parts m (Ok found) → new ≡ parts_after parts (SetPart pid part) →
    ((held : ℕ → List Sending) → state_of held new ≡ after_post m (state_of held parts)) × (CountsAgree parts → CountsAgree new) × (HaveAllPlaces parts → HaveAllPlaces new)
unfolding part_post
part_posted laws parts new m pid found part target is at made =
    let p : PlansPost parts [] (SetPart pid part ∷ []) m (Ok tt) = part_post parts [] (SetPart pid part ∷ []) m pid found part target is at refl in (
      (λ held.
          let S : State = state_of held parts in
          ap (state_of held) made ∙ laws.changes held parts p.plan p.named ∙ laws.process m.target p.plan S p.own
          ∙ ap (λ (x : Option Process). write_one (SetProc m.target x) S) (p.receives (S.procs m.target) (seen_now (slot_at parts.procs m.target)))),
      (λ counts. subst CountsAgree (sym made) (laws.nameless parts p.plan p.named p.nameless counts)),
      (λ places. subst HaveAllPlaces (sym made) (laws.places parts p.plan p.named (tt, tt) places)),
    )

-- and to exchange it again puts them back
pub part_back : (laws : PlanLaws) (parts new : Parts) (m : Sending) (pid : Pid) (found : Option Part) (part : Part) (change : Change) → pid.0 ≡ m.target → found ≡ Some part →
    PlansAt parts m (Ok found) → new ≡ parts_after parts (SetPart pid part) → change ≡ change_after parts (SetPart pid part) → parts_after new change ≡ parts
unfolding part_post
part_back laws parts new m pid found part change target is at made changed =
    let p : PlansPost parts [] (SetPart pid part ∷ []) m (Ok tt) = part_post parts [] (SetPart pid part ∷ []) m pid found part target is at refl in
    (λ j. parts_after (made j) (changed j)) ∙ laws.again parts (SetPart pid part) p.named.0

-- the numbers of what leads back are ones that there are
pub part_named : (laws : PlanLaws) (parts new : Parts) (m : Sending) (pid : Pid) (found : Option Part) (part : Part) (change : Change) → pid.0 ≡ m.target → found ≡ Some part →
    PlansAt parts m (Ok found) → new ≡ parts_after parts (SetPart pid part) → change ≡ change_after parts (SetPart pid part) → AreNamed new (change ∷ [])
unfolding part_post
part_named laws parts new m pid found part change target is at made changed =
    let p : PlansPost parts [] (SetPart pid part ∷ []) m (Ok tt) = part_post parts [] (SetPart pid part ∷ []) m pid found part target is at refl in
    let sizes : sizes_of new ≡ sizes_of parts = ap sizes_of made ∙ laws.sizes parts p.plan in
    subst (λ (now : Change). AreNamed new (now ∷ [])) (sym changed)
    (subst (λ (s : Sizes). AreWithin s (change_after parts (SetPart pid part) ∷ [])) (sym sizes) (laws.stays (sizes_of parts) parts p.plan p.named))

-- where nothing is exchanged the post leaves the state
posted_nothing : (held : ℕ → List Sending) (parts : Parts) (m : Sending) → target_after m ((state_of held parts).procs m.target) ≡ (state_of held parts).procs m.target →
    state_of held parts ≡ after_post m (state_of held parts)
posted_nothing held parts m same = write_same m.target (state_of held parts) ∙ ap (λ (x : Option Process). write_one (SetProc m.target x) (state_of held parts)) (sym same)
  where
    write_same : (n : ℕ) (S : State) → S ≡ write_one (SetProc n (S.procs n)) S
    write_same n S = state_ext S (write_one (SetProc n (S.procs n)) S) refl all
      where
        all : (o : Object) → EqualAt S (write_one (SetProc n (S.procs n)) S) o
        all (TheProc k) = elim (put_cases S.procs n (S.procs n) k) [ inl e ↦ ap S.procs e.0 ∙ sym e.1 | inr e ↦ sym e.1 ]
        all (Desc k) = refl
        all (ThePipe k) = refl
        all (Held k) = refl

pub failed_state : (held : ℕ → List Sending) (parts : Parts) (m : Sending) (errno : Errno) → PlansAt parts m (Err errno) → state_of held parts ≡ after_post m (state_of held parts)
failed_state held parts m errno at =
    posted_nothing held parts m (sym (at.receives ((state_of held parts).procs m.target) (seen_now (slot_at parts.procs m.target))) ∙ same ((state_of held parts).procs m.target))
  where
    same : (q : Option Process) → option_map (posted (Err errno)) q ≡ q
    same None = refl
    same (Some q) = refl
