-- Footprints name objects of numbers that there are.
use Rattle.std.proofs.Common.{◌≡◌, ℕ, ℤ, zero, suc, pos, negsuc, ◌+◌, ◌≤◌, Bool, true, false, not, ◌&&◌, ◌||◌, nat_lt, List, [], ◌∷◌, ◌++◌, length, if◌then◌else◌, ◌==◌, Option, Some, None, is_some, is_none, refl, ap, sym, ◌∙◌, inl, inr, get_or, eq-eqb, arith, ◌⊎◌}
use Rattle.tx_model.specs.ObjectFacts.{same_is}
use Rattle.tx_model.specs.SignalSets.{is_in_set, is_realtime}
use Rattle.std.specs.Prelude.{All}
use Rattle.std.proofs.lemmas.List.Elements.{All-head, All-tail}
use Rattle.std.proofs.lemmas.Bool.{cases_Bool, cases_eq, both_ways, eqb-false, lt-ltb, ltb-true, and_parts, not-false, or_parts}
use Rattle.tx_base.specs.declared.marks.Mark.{Mark}
use Rattle.tx_base.specs.declared.steps.Call.{Call}
use Rattle.tx_base.specs.declared.steps.Call.TheVariants as call
use Rattle.tx_base.specs.declared.steps.Step.TheVariants.{Call as Calls, Deliver, KernelAbort}
use Rattle.tx_laws.specs.WellFormed.{IsFirst, IsHeldSending, IsWellFormed}
use Rattle.tx_model.specs.Answer.{is_bad_choice, is_running}
use Rattle.tx_model.specs.Words.{chosen_in, pipe_list, numbered_objects}
use Rattle.tx_model.specs.Deliveries.{delivered_value, ends_by, first_value, is_blocked}
use Rattle.tx_model.specs.Descriptors.{desc_objects, desc_pipe_objects, descriptor, option_list, description_named, open_in, other_than, pipe_of, pipes_of}
use Rattle.tx_model.specs.Effects.{Inside}
use Rattle.tx_model.specs.Footprints.{call_row, call_row_at, commit_row_of, delivery_row, delivery_row_at, ending_row, footprint, is_for_later, send_row, target_row, told_for_later}
use Rattle.tx_model.specs.History.{is_other_starter, targets}
use Rattle.tx_model.specs.Membership.{Table, inside_by, others_open}
use Rattle.tx_model.specs.Processes.{children_below, children_of, pid_of, procs_of, child_notice}
use Rattle.tx_model.specs.Book.{sendable}
use Rattle.tx_model.specs.State.{Description, Object, is_number, Proc, Desc, Pipe, Held, Process, Queued, Sending, State, has_object, has_parent, is_between, names_at, same_object}
use Rattle.tx_reserve.specs.Laws.{FootprintIsWithin, WithinIsSmall, is_within}
use Rattle.tx_reserve.proofs.Members.{no_bit}
use Rattle.tx_reserve.proofs.Rows.{has-append, has_two}

record Within (width : ℕ) (xs : List Object) : Type 0 where
  pub each : (o : Object) → has_object o xs ≡ true → is_within width o ≡ true

none : (width : ℕ) → Within width []
unfolding has_object
none width = record { each = λ o there. absurd (both_ways false refl there) }

one : (width : ℕ) (x : Object) → is_within width x ≡ true → Within width (x ∷ [])
unfolding has_object
one width x inside = record {
  each = λ o there. elim (cases_Bool (same_object o x)) [
    | inl e ↦ ap (is_within width) (same_is o x e) ∙ inside
    | inr e ↦ absurd (both_ways false refl (rw e at there))
  ];
}

either : (width : ℕ) (xs ys zs : List Object) → ((o : Object) → has_object o zs ≡ (if has_object o xs then true else has_object o ys)) → Within width xs → Within width ys → Within width zs
either width xs ys zs split first second = record {
  each = λ o there. elim (cases_Bool (has_object o xs)) [
    | inl e ↦ first.each o e
    | inr e ↦ second.each o (rw e at (sym (split o) ∙ there))
  ];
}

both : {width : ℕ} (xs ys : List Object) → Within width xs → Within width ys → Within width (xs ++ ys)
both {width} xs ys first second = either width xs ys (xs ++ ys) (λ o. has-append o xs ys) first second

front : {width : ℕ} (xs ys : List Object) → Within width (xs ++ ys) → Within width xs
front {width} xs ys all = record { each = λ o there. all.each o (has-append o xs ys ∙ rw there refl) }

unless : {width : ℕ} (b : Bool) (xs : List Object) → (b ≡ false → Within width xs) → Within width (if b then [] else xs)
unless {width} true xs within = none width
unless {width} false xs within = within refl

record DescIn (S : State) (d : ℕ) : Type 0 where
  pub number : nat_lt d 64 ≡ true
  pub pipe : Within S.width (pipe_list (pipe_of (S.descs d) ++ []))

pipe_in : (S : State) (k : ℕ) → IsWellFormed S → is_some (S.pipes k) ≡ true → nat_lt k 32 ≡ true
pipe_in S k formed there = by (S.pipes k) refl there
  where
    by : (x : Option (List ℕ)) → S.pipes k ≡ x → is_some x ≡ true → nat_lt k 32 ≡ true
    by None e h = absurd (both_ways false refl h)
    by (Some bytes) e h = lt-ltb k 32 ((formed.pipes k bytes e).1)

desc_in : (S : State) (d : ℕ) → IsWellFormed S → is_some (S.descs d) ≡ true → DescIn S d
desc_in S d formed there = by (S.descs d) refl there
  where
    by : (x : Option Description) → S.descs d ≡ x → is_some x ≡ true → DescIn S d
    by None e h = absurd (both_ways false refl h)
    by (Some x) e h = record {
      number = lt-ltb d 64 ((formed.named d x e).1);
      pipe = rw e (one S.width (Pipe x.pipe) (pipe_in S x.pipe formed ((formed.named d x e).2)));
    }

desc_within : (S : State) (d : ℕ) → DescIn S d → Within S.width (desc_pipe_objects (d ∷ []) S)
unfolding pipes_of
desc_within S d good = both (Desc d ∷ []) (pipe_list (pipe_of (S.descs d) ++ [])) (one S.width (Desc d) good.number) good.pipe

open_within : (S : State) (ds : List (Option ℕ)) → ((f d : ℕ) → get_or ds f None ≡ Some d → DescIn S d) → Within S.width (desc_pipe_objects (open_in ds) S)
unfolding open_in pipes_of
open_within S [] each = none S.width
open_within S (None ∷ ds) each = open_within S ds (λ f d e. each (suc f) d e)
open_within S (Some d ∷ ds) each =
    either S.width (desc_pipe_objects (d ∷ []) S) (desc_pipe_objects (open_in ds) S) (desc_pipe_objects (d ∷ open_in ds) S) (λ o. has_two o (d ∷ []) (open_in ds) S)
    (desc_within S d (each 0 d refl)) (open_within S ds (λ f n e. each (suc f) n e))

-- the process runs, and what its descriptors name is there
record Names (S : State) (me : Process) : Type 0 where
  pub each : (f d : ℕ) → get_or me.descriptors f None ≡ Some d → DescIn S d

names_in : (S : State) (p : ℕ) (me : Process) → IsWellFormed S → S.procs p ≡ Some me → is_none me.status ≡ true → Names S me
names_in S p me formed there runs = record {
  each = λ f d e. desc_in S d formed (formed.names p f d (ap (names_at d f) there ∙ by f d me.status runs e));
}
  where
    by : (f d : ℕ) (status : Option ℕ) → is_none status ≡ true → get_or me.descriptors f None ≡ Some d → (if is_some status then false else is_number d (get_or me.descriptors f None)) ≡ true
    by f d None runs e = rw e (eq-eqb d d refl)
    by f d (Some status) runs e = absurd (both_ways false refl runs)

listed_within : (S : State) (n : Option ℕ) → ((d : ℕ) → n ≡ Some d → DescIn S d) → Within S.width (desc_pipe_objects (option_list n) S)
unfolding pipes_of
listed_within S None each = none S.width
listed_within S (Some d) each = desc_within S d (each d refl)

named_in : (S : State) (me : Process) → Names S me → (f : Option ℕ) (d : ℕ) → description_named me f ≡ Some d → DescIn S d
named_in S me names None d e = absurd (nothing d e)
  where
    nothing : (d : ℕ) → None ≡ Some d → ⊥
    nothing d e = cc
named_in S me names (Some f) d e = names.each f d e

fd_within : (S : State) (me : Process) → Names S me → (f : Option ℕ) → Within S.width (desc_pipe_objects (option_list (description_named me f)) S)
fd_within S me names f = listed_within S (description_named me f) (named_in S me names f)

fd_desc_within : (S : State) (me : Process) → Names S me → (f : Option ℕ) → Within S.width (desc_objects (option_list (description_named me f)))
fd_desc_within S me names f = front (desc_objects (option_list (description_named me f))) (pipe_list (pipes_of (option_list (description_named me f)) S)) (fd_within S me names f)

other_within : (S : State) (me : Process) → Names S me → (f g : Option ℕ) → Within S.width (desc_pipe_objects (other_than f g me) S)
unfolding pipes_of
other_within S me names None g = fd_within S me names g
other_within S me names (Some f) None = none S.width
other_within S me names (Some f) (Some g) = by (f == g)
  where
    by : (b : Bool) → Within S.width (desc_pipe_objects (if b then [] else option_list (description_named me (Some g))) S)
    by true = none S.width
    by false = fd_within S me names (Some g)

there_within : (S : State) (n : ℕ) (q : Process) → IsWellFormed S → S.procs n ≡ Some q → is_between S.width n ≡ true
there_within S n q formed e = (formed.placed n q e).number

running_within : (S : State) (n : ℕ) → IsWellFormed S → is_running (S.procs n) ≡ true → is_between S.width n ≡ true
running_within S n formed runs = by (S.procs n) refl runs
  where
    by : (x : Option Process) → S.procs n ≡ x → is_running x ≡ true → is_between S.width n ≡ true
    by None e h = absurd (both_ways false refl h)
    by (Some q) e h = there_within S n q formed e

child_within : (S : State) (p q : ℕ) → IsWellFormed S → has_parent p (S.procs q) ≡ true → is_between S.width q ≡ true
child_within S p q formed child = by (S.procs q) refl child
  where
    by : (x : Option Process) → S.procs q ≡ x → has_parent p x ≡ true → is_between S.width q ≡ true
    by None e h = absurd (both_ways false refl h)
    by (Some me) e h = there_within S q me formed e

children_within : (S : State) (p n : ℕ) → IsWellFormed S → Within S.width (procs_of (children_below p n S))
unfolding children_below
children_within S p zero formed = none S.width
children_within S p (suc q) formed = by (has_parent p (S.procs q)) refl (children_within S p q formed)
  where
    by : (b : Bool) → has_parent p (S.procs q) ≡ b → Within S.width (procs_of (children_below p q S)) → Within S.width (procs_of (if b then q ∷ children_below p q S else children_below p q S))
    by true e rest = both (Proc q ∷ []) (procs_of (children_below p q S)) (one S.width (Proc q) (child_within S p q formed e)) rest
    by false e rest = rest

numbered_within : (width : ℕ) (n : ℤ) (t : ℕ) → pid_of width n ≡ Some t → is_between width t ≡ true
numbered_within width (pos n) t e = by (is_between width n) refl e
  where
    by : (b : Bool) → is_between width n ≡ b → (if b then Some n else None) ≡ Some t → is_between width t ≡ true
    by true is e = let same : n ≡ t = cc in ap (is_between width) (sym same) ∙ is
    by false is e = cc
numbered_within width (negsuc n) t e = cc

waits_within : (width : ℕ) (n : Option ℕ) → ((t : ℕ) → n ≡ Some t → is_between width t ≡ true) → Within width (numbered_objects n)
waits_within width None each = none width
waits_within width (Some t) each = one width (Proc t) (each t refl)

target_within : (t : Table) (p n width : ℕ) → is_between width n ≡ true → Within width (target_row t p n)
target_within t p n width inside =
    unless (is_for_later (inside_by t (t.marks p)) n) _ (λ now. unless (is_other_starter t p n) (Proc n ∷ []) (λ other. one width (Proc n) inside))

send_within : (t : Table) (p width : ℕ) (n signo : Option ℕ) → ((k : ℕ) → n ≡ Some k → is_between width k ≡ true) → Within width (send_row t p n signo)
send_within t p width None signo each = none width
send_within t p width (Some n) None each = none width
send_within t p width (Some n) (Some signo) each = target_within t p n width (each n refl)

-- the sends go to process numbers that there are
abbrev TargetsWithin : ℕ → List Sending → Type 0
TargetsWithin width [] = Unit {0}
TargetsWithin width (m ∷ ms) = (is_between width m.target ≡ true) × TargetsWithin width ms

-- what transactions hold goes to such numbers
held_within : (width : ℕ) (ms : List Sending) → All (IsHeldSending width) ms → TargetsWithin width ms
held_within width [] held = tt
held_within width (m ∷ ms) held = ((All-head (IsHeldSending width) m ms held).target, held_within width ms (All-tail (IsHeldSending width) m ms held))

targets_within : (t : Table) (p width : ℕ) (ms : List Sending) → TargetsWithin width ms → Within width (targets t p ms)
unfolding targets
targets_within t p width [] inside = none width
targets_within t p width (m ∷ ms) inside = by (is_other_starter t p m.target) (targets_within t p width ms inside.1)
  where
    by : (b : Bool) → Within width (targets t p ms) → Within width (if b then targets t p ms else Proc m.target ∷ targets t p ms)
    by true rest = rest
    by false rest = both (Proc m.target ∷ []) (targets t p ms) (one width (Proc m.target) inside.0) rest

more_within : (width : ℕ) (ms more : List Sending) → TargetsWithin width ms → TargetsWithin width more → TargetsWithin width (ms ++ more)
more_within width [] more first second = second
more_within width (m ∷ ms) more first second = (first.0, more_within width ms more first.1 second)

commit_within : (t : Table) (p : ℕ) (mark : Option Mark) (more : List Sending) (S : State) → IsWellFormed S → TargetsWithin S.width more → Within S.width (commit_row_of t p mark more S)
commit_within t p None more S formed inside = none S.width
commit_within t p (Some m) more S formed inside =
    unless (others_open t m.starter.0 p t.width) (targets t p (S.held m.starter.0 ++ more))
    (λ last.
    targets_within t p S.width (S.held m.starter.0 ++ more)
    (more_within S.width (S.held m.starter.0) more (held_within S.width (S.held m.starter.0) (formed.held m.starter.0)) inside))

told_within : (t : Table) (p parent width : ℕ) → is_between width parent ≡ true → TargetsWithin width (told_for_later t p parent)
told_within t p parent width inside = by (parent == 1) (is_for_later (inside_by t (t.marks p)) parent)
  where
    by : (b c : Bool) → TargetsWithin width (if b then [] else (if c then child_notice parent ∷ [] else []))
    by true c = tt
    by false true = (inside, tt)
    by false false = tt

ending_within : (t : Table) (p : ℕ) (me : Process) (S : State) → IsWellFormed S → Names S me → is_between S.width me.parent ≡ true → Within S.width (ending_row t p me S)
ending_within t p me S formed names parent =
    both _ _ (both _ _ (both (desc_pipe_objects (open_in me.descriptors) S) (procs_of (children_of p S))
    (open_within S me.descriptors names.each) (all (p == 1)))
    (unless (me.parent == 1) (target_row t p me.parent) (λ other. target_within t p me.parent S.width parent)))
    (commit_within t p (t.marks p) (told_for_later t p me.parent) S formed (told_within t p me.parent S.width parent))
  where
    all : (b : Bool) → Within S.width (procs_of (if b then [] else children_below p (S.width + 1) S))
    all true = none S.width
    all false = children_within S p (S.width + 1) formed

-- the parent of a process that is not process 1 runs
parent_within : (S : State) (p : ℕ) (me : Process) → IsWellFormed S → S.procs p ≡ Some me → (p ≡ 1 → ⊥) → is_between S.width me.parent ≡ true
parent_within S p me formed there other = running_within S me.parent formed ((formed.placed p me there).parent other)

pipe_numbers : (q r w : ℕ) → (not (nat_lt q 32 && nat_lt r 64 && nat_lt w 64) || r == w) ≡ false → (nat_lt q 32 ≡ true) × (nat_lt r 64 ≡ true) × (nat_lt w 64 ≡ true)
pipe_numbers q r w good =
    let all = not-false (nat_lt q 32 && nat_lt r 64 && nat_lt w 64) ((or_parts (not (nat_lt q 32 && nat_lt r 64 && nat_lt w 64)) (r == w) good).0) in
    let split = and_parts (nat_lt q 32 && nat_lt r 64) (nat_lt w 64) all in
    let halves = and_parts (nat_lt q 32) (nat_lt r 64) split.0 in
    (halves.0, halves.1, split.1)

call_within : (t : Table) (p : ℕ) (c : Call) (me : Process) (S : State) → IsWellFormed S → S.procs p ≡ Some me → Names S me → is_bad_choice S.width (chosen_in c) ≡ false
    → Within S.width (call_row t p c me S)
call_within t p (call.Fork child) me S formed there names good =
    both (Proc child.0 ∷ []) (desc_objects (open_in me.descriptors)) (one S.width (Proc child.0) (not-false (is_between S.width child.0) good))
    (front (desc_objects (open_in me.descriptors)) (pipe_list (pipes_of (open_in me.descriptors) S)) (open_within S me.descriptors names.each))
call_within t p (call.Exit status) me S formed there names good =
    unless (p == 1) (ending_row t p me S) (λ e. ending_within t p me S formed names (parent_within S p me formed there (eqb-false p 1 e)))
call_within t p (call.Waitpid n nohang) me S formed there names good = waits_within S.width (pid_of S.width n) (numbered_within S.width n)
call_within t p (call.Pipe q r w) me S formed there names good =
    let numbers = pipe_numbers q.0 r.0 w.0 good in
    both (Pipe q.0 ∷ []) (Desc r.0 ∷ Desc w.0 ∷ []) (one S.width (Pipe q.0) numbers.0)
    (both (Desc r.0 ∷ []) (Desc w.0 ∷ []) (one S.width (Desc r.0) numbers.1) (one S.width (Desc w.0) numbers.2))
call_within t p (call.Dup f) me S formed there names good = fd_desc_within S me names (descriptor f)
call_within t p (call.Dup2 f g) me S formed there names good =
    both (desc_objects (option_list (description_named me (descriptor f)))) (desc_pipe_objects (other_than (descriptor f) (descriptor g) me) S) (fd_desc_within S me names (descriptor f))
    (other_within S me names (descriptor f) (descriptor g))
call_within t p (call.Close f) me S formed there names good = fd_within S me names (descriptor f)
call_within t p (call.SetNonblock f on) me S formed there names good = fd_desc_within S me names (descriptor f)
call_within t p (call.Read f address n) me S formed there names good = fd_within S me names (descriptor f)
call_within t p (call.Write f address n) me S formed there names good = fd_within S me names (descriptor f)
call_within t p (call.Kill n signo) me S formed there names good = send_within t p S.width (pid_of S.width n) (sendable signo) (numbered_within S.width n)
call_within t p (call.Sigqueue n signo value) me S formed there names good = send_within t p S.width (pid_of S.width n) (sendable signo) (numbered_within S.width n)
call_within t p call.SysXend me S formed there names good = commit_within t p (t.marks p) [] S formed tt
call_within t p c me S formed there names good = none S.width

-- no delivery is due in process 1
no_value : (signo : ℕ) (queued : List Queued) → length queued ≡ 0 → first_value signo queued ≡ None
unfolding first_value
no_value signo [] e = refl
no_value signo (entry ∷ entries) e = absurd (some_left (length entries) e)
  where
    some_left : (n : ℕ) → suc n ≡ 0 → ⊥
    some_left n e = omega arith

calm : (signo : ℕ) (q : Process) → IsFirst q → delivered_value signo q ≡ None
calm signo q first = by (is_blocked signo q) (is_realtime signo)
  where
    by : (b c : Bool) → (if b then None else (if c then first_value signo q.queued else (if is_in_set q.pending signo then Some (pos 0) else None))) ≡ None
    by true c = refl
    by false true = no_value signo q.queued first.queued
    by false false = ap (λ (set : ℕ). if is_in_set set signo then Some (pos 0) else None) first.pending ∙ ap (λ (b : Bool). if b then Some (pos 0) else None) (no_bit signo)

calm_ends : (inside : Option Inside) (signo : ℕ) (me q : Process) → me ≡ q → IsFirst q → ends_by inside signo me (delivered_value signo me) ≡ false
calm_ends inside signo me q same first =
    ap (λ (x : Process). ends_by inside signo x (delivered_value signo x)) same ∙ ap (ends_by inside signo q) (calm signo q first)

some_same : (x y : Process) → Some x ≡ Some y → x ≡ y
some_same x y e = cc

delivery_within : (t : Table) (p signo : ℕ) (me : Process) (S : State) → IsWellFormed S → S.procs p ≡ Some me → Names S me → Within S.width (delivery_row t p signo me S)
delivery_within t p signo me S formed there names = by (ends_by (inside_by t (t.marks p)) signo me (delivered_value signo me)) refl (cases_eq p 1)
  where
    by : (b : Bool) → ends_by (inside_by t (t.marks p)) signo me (delivered_value signo me) ≡ b → (p ≡ 1) ⊎ (p ≡ 1 → ⊥) → Within S.width (if b then ending_row t p me S else [])
    by false e other = none S.width
    by true e (inr other) = ending_within t p me S formed names (parent_within S p me formed there other)
    by true e (inl is) =
        let same = some_same me formed.first.0 (sym there ∙ ap S.procs is ∙ formed.first.1) in
        absurd (both_ways (ends_by (inside_by t (t.marks p)) signo me (delivered_value signo me)) (calm_ends (inside_by t (t.marks p)) signo me formed.first.0 same formed.first.2) e)

pub footprint_within : FootprintIsWithin
unfolding footprint
footprint_within t (Calls p c) S o formed runs good there = (by (S.procs p.0) refl runs).each o there
  where
    by : (x : Option Process) → S.procs p.0 ≡ x → is_running x ≡ true → Within S.width (Proc p.0 ∷ call_row_at t p.0 c x S)
    by None e h = absurd (both_ways false refl h)
    by (Some me) e h =
        both (Proc p.0 ∷ []) (call_row t p.0 c me S) (one S.width (Proc p.0) (there_within S p.0 me formed e)) (call_within t p.0 c me S formed e (names_in S p.0 me formed e h) good)
footprint_within t (Deliver p signo) S o formed runs good there = (by (S.procs p.0) refl runs).each o there
  where
    by : (x : Option Process) → S.procs p.0 ≡ x → is_running x ≡ true → Within S.width (Proc p.0 ∷ delivery_row_at t p.0 signo.0 x S)
    by None e h = absurd (both_ways false refl h)
    by (Some me) e h =
        both (Proc p.0 ∷ []) (delivery_row t p.0 signo.0 me S) (one S.width (Proc p.0) (there_within S p.0 me formed e)) (delivery_within t p.0 signo.0 me S formed e (names_in S p.0 me formed e h))
footprint_within t (KernelAbort s) S o formed runs good there = (none S.width).each o there

below_more_numbers : (width n : ℕ) → width ≤ 256 → nat_lt n width ≡ true → nat_lt n 256 ≡ true
below_more_numbers width n few there = let lt = ltb-true n width there in lt-ltb n 256 (omega arith)

pub within_small : WithinIsSmall
within_small width (Proc zero) few inside = inside
within_small width (Proc (suc n)) few inside = below_more_numbers width n few inside
within_small width (Desc n) few inside = inside
within_small width (Pipe n) few inside = inside
within_small width (Held s) few inside = inside
