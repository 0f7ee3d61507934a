-- What rows of a footprint put into a set.
use Rattle.std.proofs.Common.{◌≡◌, ℕ, suc, ◌+◌, ◌<◌, ◌≤◌, ℤ, pos, negsuc, nat_lt, Bool, true, false, List, [], ◌∷◌, ◌++◌, length, map, take, if◌then◌else◌, ◌==◌, Option, Some, None, refl, ap, ap₂, sym, ◌∙◌, inl, inr, subst, append_assoc, get_or, eq-eqb}
use Rattle.std.proofs.lemmas.Bool.{cases_Bool}
use Rattle.std.proofs.lemmas.Bool.{ne_eqb}
use Rattle.std.proofs.lemmas.List.{take_all, take_more, map-append}
use Rattle.tx_base.specs.declared.marks.Mark.{Mark}
use Rattle.tx_base.specs.declared.names.Sending.{Sending as TheSending}
use Rattle.tx_change.specs.States.{state_of}
use Rattle.tx_change.specs.declared.parts.Parts.{Parts}
use Rattle.tx_change.specs.ChildFacts.{no_children}
use Rattle.tx_kernel.specs.Plans.{sending_of}
use Rattle.tx_model.specs.Footprints.{commit_row_of, is_for_later, send_row, target_row, told_for_later}
use Rattle.tx_model.specs.Descriptors.{desc_objects, desc_pipe_objects, descriptor, option_list, description_named, open_in, other_than, pipe_of, pipes_of}
use Rattle.tx_model.specs.Words.{dup2_objects, pipe_list, numbered_objects}
use Rattle.tx_model.specs.History.{is_other_starter, targets}
use Rattle.tx_model.specs.Membership.{Table, inside_by}
use Rattle.tx_model.specs.Processes.{children_below, children_of, procs_of}
use Rattle.tx_model.specs.State.{Process, State, Sending, Object, Proc, Desc, Pipe, has_object, has_parent, same_object}
use Rattle.tx_proc.specs.Children.{child_count}
use Rattle.tx_reserve.specs.Footprints.{Adds, GoesBy, IsSetOf}
use Rattle.tx_reserve.specs.Objects.{is_in, is_small}
use Rattle.tx_reserve.specs.declared.objects.Objects.{Objects}
use Rattle.tx_reserve.proofs.Members.{in_small, own_test}

pub has-append : (o : Object) (xs ys : List Object) → has_object o (xs ++ ys) ≡ (if has_object o xs then true else has_object o ys)
unfolding has_object
has-append o [] ys = refl
has-append o (x ∷ xs) ys = by (has-append o xs ys) (same_object o x)
  where
    by : has_object o (xs ++ ys) ≡ (if has_object o xs then true else has_object o ys) → (b : Bool) → (if b then true else has_object o (xs ++ ys)) ≡ (if (if b then true else has_object o xs) then true else has_object o ys)
    by rest true = refl
    by rest false = rest

both_test : (a s x y : Bool) → (if (if a then true else (if s then x else false)) then true else (if s then y else false)) ≡ (if a then true else (if s then (if x then true else y) else false))
both_test true s x y = refl
both_test false true x y = refl
both_test false false x y = refl

none_test : (a s : Bool) → a ≡ (if a then true else (if s then false else false))
none_test true s = refl
none_test false true = refl
none_test false false = refl

one_test : (a s : Bool) → (a ≡ true → s ≡ true) → s ≡ (if a then true else (if s then true else false))
one_test true s small = small refl
one_test false true small = refl
one_test false false small = refl

pub adds_none : (set : Objects) → Adds set set []
unfolding has_object
adds_none set = record { each = λ o. none_test (is_in set o) (is_small o) }

pub adds_one : (before after : Objects) (x : Object) → ((o : Object) → is_in after o ≡ (if same_object o x then is_small o else is_in before o)) → Adds before after (x ∷ [])
unfolding has_object
adds_one before after x put = record {
  each = λ o. put o ∙ by o (same_object o x);
}
  where
    by : (o : Object) (b : Bool) → (if b then is_small o else is_in before o) ≡ (if is_in before o then true else (if is_small o then (if b then true else false) else false))
    by o true = one_test (is_in before o) (is_small o) (in_small before o)
    by o false = none_test (is_in before o) (is_small o)

pub adds_both : {before between after : Objects} (xs ys : List Object) → Adds before between xs → Adds between after ys → Adds before after (xs ++ ys)
adds_both {before} {between} {after} xs ys first second = record {
  each = λ o. second.each o ∙ ap (λ (t : Bool). if t then true else (if is_small o then has_object o ys else false)) (first.each o)
      ∙ both_test (is_in before o) (is_small o) (has_object o xs) (has_object o ys)
      ∙ ap (λ (t : Bool). if is_in before o then true else (if is_small o then t else false)) (sym (has-append o xs ys));
}

pub adds_same : {before after : Objects} (xs ys : List Object) → xs ≡ ys → Adds before after xs → Adds before after ys
adds_same {before} {after} xs ys same adds = let P : List Object → Type 0 = λ these. Adds before after these in subst P same adds

pub open_in-append : (xs ys : List (Option ℕ)) → open_in (xs ++ ys) ≡ open_in xs ++ open_in ys
unfolding open_in
open_in-append [] ys = refl
open_in-append (None ∷ xs) ys = open_in-append xs ys
open_in-append (Some d ∷ xs) ys = ap (λ (ds : List ℕ). d ∷ ds) (open_in-append xs ys)

pub descs-append : (xs ys : List ℕ) → desc_objects (xs ++ ys) ≡ desc_objects xs ++ desc_objects ys
descs-append [] ys = refl
descs-append (d ∷ xs) ys = ap (λ (os : List Object). Desc d ∷ os) (descs-append xs ys)

pub pipes-append : (xs ys : List ℕ) → pipe_list (xs ++ ys) ≡ pipe_list xs ++ pipe_list ys
pipes-append [] ys = refl
pipes-append (k ∷ xs) ys = ap (λ (os : List Object). Pipe k ∷ os) (pipes-append xs ys)

pub pipes_of-append : (xs ys : List ℕ) (S : State) → pipes_of (xs ++ ys) S ≡ pipes_of xs S ++ pipes_of ys S
unfolding pipes_of
pipes_of-append [] ys S = refl
pipes_of-append (d ∷ xs) ys S = ap (λ (ks : List ℕ). pipe_of (S.descs d) ++ ks) (pipes_of-append xs ys S) ∙ sym (append_assoc (pipe_of (S.descs d)) (pipes_of xs S) (pipes_of ys S))

swap_test : (a b c d : Bool) → (if (if a then true else b) then true else (if c then true else d)) ≡ (if (if a then true else c) then true else (if b then true else d))
swap_test true b c d = refl
swap_test false true true d = refl
swap_test false true false d = refl
swap_test false false c d = refl

-- the descriptions and pipes of two lists of descriptions are those of both
pub has_two : (o : Object) (xs ys : List ℕ) (S : State) → has_object o (desc_pipe_objects (xs ++ ys) S) ≡ (if has_object o (desc_pipe_objects xs S) then true else has_object o (desc_pipe_objects ys S))
has_two o xs ys S =
    has-append o (desc_objects (xs ++ ys)) (pipe_list (pipes_of (xs ++ ys) S))
    ∙ ap₂ (λ (s t : Bool). if s then true else t) (ap (has_object o) (descs-append xs ys) ∙ has-append o (desc_objects xs) (desc_objects ys))
    (ap (λ (ks : List ℕ). has_object o (pipe_list ks)) (pipes_of-append xs ys S) ∙ ap (has_object o) (pipes-append (pipes_of xs S) (pipes_of ys S)) ∙ has-append o (pipe_list (pipes_of xs S)) (pipe_list (pipes_of ys S)))
    ∙ swap_test (has_object o (desc_objects xs)) (has_object o (desc_objects ys)) (has_object o (pipe_list (pipes_of xs S))) (has_object o (pipe_list (pipes_of ys S)))
    ∙ ap₂ (λ (s t : Bool). if s then true else t) (sym (has-append o (desc_objects xs) (pipe_list (pipes_of xs S)))) (sym (has-append o (desc_objects ys) (pipe_list (pipes_of ys S))))

-- what has the same objects is added as well
pub adds_alike : {before after : Objects} (xs ys : List Object) → ((o : Object) → has_object o xs ≡ has_object o ys) → Adds before after xs → Adds before after ys
adds_alike {before} {after} xs ys alike adds = record {
  each = λ o. adds.each o ∙ ap (λ (t : Bool). if is_in before o then true else (if is_small o then t else false)) (alike o);
}

pub adds_two : {before between after : Objects} (xs ys : List ℕ) (S : State) → Adds before between (desc_pipe_objects xs S) → Adds between after (desc_pipe_objects ys S)
    → Adds before after (desc_pipe_objects (xs ++ ys) S)
adds_two {before} {between} {after} xs ys S first second =
    adds_alike (desc_pipe_objects xs S ++ desc_pipe_objects ys S) (desc_pipe_objects (xs ++ ys) S) (λ o. has-append o (desc_pipe_objects xs S) (desc_pipe_objects ys S) ∙ sym (has_two o xs ys S))
    (adds_both (desc_pipe_objects xs S) (desc_pipe_objects ys S) first second)

-- one more descriptor
pub adds_named : {before between after : Objects} (xs : List (Option ℕ)) (x : Option ℕ) → Adds before between (desc_objects (open_in xs)) → Adds between after (desc_objects (open_in (x ∷ [])))
    → Adds before after (desc_objects (open_in (xs ++ x ∷ [])))
adds_named {before} {between} {after} xs x first second =
    adds_same (desc_objects (open_in xs) ++ desc_objects (open_in (x ∷ []))) (desc_objects (open_in (xs ++ x ∷ [])))
    (sym (ap desc_objects (open_in-append xs (x ∷ [])) ∙ descs-append (open_in xs) (open_in (x ∷ []))))
    (adds_both (desc_objects (open_in xs)) (desc_objects (open_in (x ∷ []))) first second)

pub adds_open : {before between after : Objects} (xs : List (Option ℕ)) (x : Option ℕ) (S : State) → Adds before between (desc_pipe_objects (open_in xs) S)
    → Adds between after (desc_pipe_objects (open_in (x ∷ [])) S) → Adds before after (desc_pipe_objects (open_in (xs ++ x ∷ [])) S)
adds_open {before} {between} {after} xs x S first second =
    adds_same (desc_pipe_objects (open_in xs ++ open_in (x ∷ [])) S) (desc_pipe_objects (open_in (xs ++ x ∷ [])) S)
    (ap (λ (ds : List ℕ). desc_pipe_objects ds S) (sym (open_in-append xs (x ∷ []))))
    (adds_two (open_in xs) (open_in (x ∷ [])) S first second)

pub targets-append : (t : Table) (p : ℕ) (xs ys : List Sending) → targets t p (xs ++ ys) ≡ targets t p xs ++ targets t p ys
unfolding targets
targets-append t p [] ys = refl
targets-append t p (m ∷ xs) ys = by (targets-append t p xs ys) (is_other_starter t p m.target)
  where
    by : targets t p (xs ++ ys) ≡ targets t p xs ++ targets t p ys → (b : Bool) → (if b then targets t p (xs ++ ys) else Proc m.target ∷ targets t p (xs ++ ys)) ≡ (if b then targets t p xs else Proc m.target ∷ targets t p xs) ++ targets t p ys
    by rest true = rest
    by rest false = ap (λ (os : List Object). Proc m.target ∷ os) rest

pub targets_one : (t : Table) (p : ℕ) (m : Sending) → (if is_other_starter t p m.target then [] else Proc m.target ∷ []) ≡ targets t p (m ∷ [])
unfolding targets
targets_one t p m = refl

last_test : (a b : Bool) → (if a then true else (if b then true else false)) ≡ (if b then true else a)
last_test true true = refl
last_test true false = refl
last_test false true = refl
last_test false false = refl

-- one more process number, of a child or not
pub children_more : {before between after : Objects} (p q next : ℕ) (S : State) → next ≡ suc q → Adds before between (procs_of (children_below p q S))
    → Adds between after (if has_parent p (S.procs q) then Proc q ∷ [] else []) → Adds before after (procs_of (children_below p next S))
unfolding children_below has_object
children_more {before} {between} {after} p q next S is first second =
    let below = procs_of (children_below p q S) in
    adds_same (procs_of (children_below p (suc q) S)) (procs_of (children_below p next S)) (ap (λ (n : ℕ). procs_of (children_below p n S)) (sym is))
    (adds_alike (below ++ (if has_parent p (S.procs q) then Proc q ∷ [] else [])) (procs_of (children_below p (suc q) S))
    (λ o. has-append o below (if has_parent p (S.procs q) then Proc q ∷ [] else []) ∙ by o (has_parent p (S.procs q)))
    (adds_both below (if has_parent p (S.procs q) then Proc q ∷ [] else []) first second))
  where
    by : (o : Object) (b : Bool) → (if has_object o (procs_of (children_below p q S)) then true else has_object o (if b then Proc q ∷ [] else []))
        ≡ has_object o (procs_of (if b then q ∷ children_below p q S else children_below p q S))
    by o true = last_test (has_object o (procs_of (children_below p q S))) (same_object o (Proc q))
    by o false = own_test (has_object o (procs_of (children_below p q S)))

-- a choice of rows
pub adds_unless : {before after : Objects} (b : Bool) (xs : List Object) → b ≡ false → Adds before after xs → Adds before after (if b then [] else xs)
adds_unless {before} {after} b xs is adds = adds_same xs (if b then [] else xs) (rw is refl) adds

pub adds_nothing : (set : Objects) (b : Bool) (xs : List Object) → b ≡ true → Adds set set (if b then [] else xs)
adds_nothing set b xs is = adds_same [] (if b then [] else xs) (rw is refl) (adds_none set)

pub adds_if : {before after : Objects} (b : Bool) (xs : List Object) → b ≡ true → Adds before after xs → Adds before after (if b then xs else [])
adds_if {before} {after} b xs is adds = adds_same xs (if b then xs else []) (rw is refl) adds

pub adds_if_not : (set : Objects) (b : Bool) (xs : List Object) → b ≡ false → Adds set set (if b then xs else [])
adds_if_not set b xs is = adds_same [] (if b then xs else []) (rw is refl) (adds_none set)

-- the children up to the width are all of them; those of process 1 are none
pub children_all : {before after : Objects} (p n : ℕ) (S : State) → (p ≡ 1 → ⊥) → n ≡ S.width + 1 → Adds before after (procs_of (children_below p n S)) → Adds before after (procs_of (children_of p S))
children_all {before} {after} p n S other is adds =
    adds_same (procs_of (children_below p n S)) (procs_of (children_of p S)) (rw (ne_eqb p 1 other) (ap (λ (k : ℕ). procs_of (children_below p k S)) is)) adds

pub children_none : (set : Objects) (p : ℕ) (S : State) → p ≡ 1 → Adds set set (procs_of (children_of p S))
children_none set p S is = adds_same [] (procs_of (children_of p S)) (rw (eq-eqb p 1 is) refl) (adds_none set)

pub childless : (set : Objects) (p n : ℕ) (held : ℕ → List Sending) (parts : Parts) → child_count p parts.procs ≡ 0 → Adds set set (procs_of (children_below p n (state_of held parts)))
childless set p n held parts none =
    adds_same [] (procs_of (children_below p n (state_of held parts))) (ap procs_of (sym (no_children p n held parts none))) (adds_none set)

-- a description, with its pipe if it is there
pub desc_with_pipe : {before between after : Objects} (S : State) (d k : ℕ) → pipe_of (S.descs d) ≡ k ∷ [] → Adds before between (Desc d ∷ []) → Adds between after (Pipe k ∷ [])
    → Adds before after (desc_pipe_objects (d ∷ []) S)
unfolding pipes_of
desc_with_pipe {before} {between} {after} S d k is first second =
    adds_same (Desc d ∷ Pipe k ∷ []) (desc_pipe_objects (d ∷ []) S) (ap (λ (ks : List ℕ). Desc d ∷ pipe_list (ks ++ [])) (sym is)) (adds_both (Desc d ∷ []) (Pipe k ∷ []) first second)

pub desc_alone : {before after : Objects} (S : State) (d : ℕ) → pipe_of (S.descs d) ≡ [] → Adds before after (Desc d ∷ []) → Adds before after (desc_pipe_objects (d ∷ []) S)
unfolding pipes_of
desc_alone {before} {after} S d is adds = adds_same (Desc d ∷ []) (desc_pipe_objects (d ∷ []) S) (ap (λ (ks : List ℕ). Desc d ∷ pipe_list (ks ++ [])) (sym is)) adds

open_one : (x : Option ℕ) → option_list x ≡ open_in (x ∷ [])
unfolding open_in
open_one None = refl
open_one (Some d) = refl

-- one more descriptor of a process, and all of them
pub one_more : {before between after : Objects} (descriptors : List (Option ℕ)) (i : ℕ) (x : Option ℕ) → i < length descriptors → x ≡ get_or descriptors i None
    → Adds before between (desc_objects (open_in (take i descriptors))) → Adds between after (desc_objects (option_list x)) → Adds before after (desc_objects (open_in (take (i + 1) descriptors)))
one_more {before} {between} {after} descriptors i x within is first second =
    adds_same (desc_objects (open_in (take i descriptors ++ x ∷ []))) (desc_objects (open_in (take (i + 1) descriptors)))
    (ap (λ (y : Option ℕ). desc_objects (open_in (take i descriptors ++ y ∷ []))) is ∙ ap (λ (ds : List (Option ℕ)). desc_objects (open_in ds)) (sym (take_more descriptors i None within)))
    (adds_named (take i descriptors) x first (adds_same (desc_objects (option_list x)) (desc_objects (open_in (x ∷ []))) (ap desc_objects (open_one x)) second))

pub all_open : {before after : Objects} (descriptors : List (Option ℕ)) (i : ℕ) → length descriptors ≤ i → Adds before after (desc_objects (open_in (take i descriptors)))
    → Adds before after (desc_objects (open_in descriptors))
all_open {before} {after} descriptors i past adds =
    adds_same (desc_objects (open_in (take i descriptors))) (desc_objects (open_in descriptors)) (ap (λ (ds : List (Option ℕ)). desc_objects (open_in ds)) (take_all i descriptors past)) adds

pub one_more_pipe : {before between after : Objects} (descriptors : List (Option ℕ)) (i : ℕ) (x : Option ℕ) (S : State) → i < length descriptors → x ≡ get_or descriptors i None
    → Adds before between (desc_pipe_objects (open_in (take i descriptors)) S) → Adds between after (desc_pipe_objects (option_list x) S)
    → Adds before after (desc_pipe_objects (open_in (take (i + 1) descriptors)) S)
one_more_pipe {before} {between} {after} descriptors i x S within is first second =
    adds_same (desc_pipe_objects (open_in (take i descriptors ++ x ∷ [])) S) (desc_pipe_objects (open_in (take (i + 1) descriptors)) S)
    (ap (λ (y : Option ℕ). desc_pipe_objects (open_in (take i descriptors ++ y ∷ [])) S) is
    ∙ ap (λ (ds : List (Option ℕ)). desc_pipe_objects (open_in ds) S) (sym (take_more descriptors i None within)))
    (adds_open (take i descriptors) x S first (adds_same (desc_pipe_objects (option_list x) S) (desc_pipe_objects (open_in (x ∷ [])) S) (ap (λ (ds : List ℕ). desc_pipe_objects ds S) (open_one x)) second))

pub all_open_pipes : {before after : Objects} (descriptors : List (Option ℕ)) (i : ℕ) (S : State) → length descriptors ≤ i → Adds before after (desc_pipe_objects (open_in (take i descriptors)) S)
    → Adds before after (desc_pipe_objects (open_in descriptors) S)
all_open_pipes {before} {after} descriptors i S past adds =
    adds_same (desc_pipe_objects (open_in (take i descriptors)) S) (desc_pipe_objects (open_in descriptors) S)
    (ap (λ (ds : List (Option ℕ)). desc_pipe_objects (open_in ds) S) (take_all i descriptors past)) adds

-- one more send, and all of them
pub sends_more : {before between after : Objects} (t : Table) (p : ℕ) (sends : List TheSending) (i : ℕ) (x d : TheSending) → i < length sends → x ≡ get_or sends i d
    → Adds before between (targets t p (map sending_of (take i sends))) → Adds between after (if is_other_starter t p x.target.0 then [] else Proc x.target.0 ∷ [])
    → Adds before after (targets t p (map sending_of (take (i + 1) sends)))
sends_more {before} {between} {after} t p sends i x d within is first second =
    let front = map sending_of (take i sends) in
    adds_same (targets t p front ++ targets t p (sending_of x ∷ [])) (targets t p (map sending_of (take (i + 1) sends)))
    (sym (targets-append t p front (sending_of x ∷ [])) ∙ ap (targets t p) (sym (map-append sending_of (take i sends) (x ∷ [])))
    ∙ ap (λ (y : TheSending). targets t p (map sending_of (take i sends ++ y ∷ []))) is
    ∙ ap (λ (ms : List TheSending). targets t p (map sending_of ms)) (sym (take_more sends i d within)))
    (adds_both (targets t p front) (targets t p (sending_of x ∷ [])) first
    (adds_same (if is_other_starter t p x.target.0 then [] else Proc x.target.0 ∷ []) (targets t p (sending_of x ∷ [])) (targets_one t p (sending_of x)) second))

pub sends_all : {before after : Objects} (t : Table) (p : ℕ) (sends : List TheSending) (i : ℕ) → length sends ≤ i → Adds before after (targets t p (map sending_of (take i sends)))
    → Adds before after (targets t p (map sending_of sends))
sends_all {before} {after} t p sends i past adds =
    adds_same (targets t p (map sending_of (take i sends))) (targets t p (map sending_of sends)) (ap (λ (ms : List TheSending). targets t p (map sending_of ms)) (take_all i sends past)) adds

-- kill and sigqueue
pub send_none : (set : Objects) (t : Table) (p : ℕ) (target signo : Option ℕ) → None ≡ target → Adds set set (send_row t p target signo)
send_none set t p target signo is = adds_same [] (send_row t p target signo) (ap (λ (n : Option ℕ). send_row t p n signo) is) (adds_none set)

no_signal : (t : Table) (p : ℕ) (target : Option ℕ) → [] ≡ send_row t p target None
no_signal t p None = refl
no_signal t p (Some target) = refl

pub send_unsendable : (set : Objects) (t : Table) (p : ℕ) (target signo : Option ℕ) → None ≡ signo → Adds set set (send_row t p target signo)
send_unsendable set t p target signo is = adds_same [] (send_row t p target signo) (no_signal t p target ∙ ap (λ (n : Option ℕ). send_row t p target n) is) (adds_none set)

pub send_some : {before after : Objects} (t : Table) (p : ℕ) (target signo : Option ℕ) (n s : ℕ) → Some n ≡ target → Some s ≡ signo → Adds before after (target_row t p n)
    → Adds before after (send_row t p target signo)
send_some {before} {after} t p target signo n s is sent adds =
    adds_same (target_row t p n) (send_row t p target signo) (ap₂ (λ (x y : Option ℕ). send_row t p x y) is sent) adds

-- the parent that is told at the commit
pub told_none : (set : Objects) (t : Table) (p parent : ℕ) → parent ≡ 1 → Adds set set (targets t p (told_for_later t p parent))
unfolding targets
told_none set t p parent is = adds_same [] (targets t p (told_for_later t p parent)) (rw (eq-eqb parent 1 is) refl) (adds_none set)

pub told_now : (set : Objects) (t : Table) (p parent : ℕ) → is_for_later (inside_by t (t.marks p)) parent ≡ false → Adds set set (targets t p (told_for_later t p parent))
unfolding targets
told_now set t p parent now = adds_same [] (targets t p (told_for_later t p parent)) (rw now (by (parent == 1))) (adds_none set)
  where
    by : (b : Bool) → [] ≡ targets t p (if b then [] else [])
    by true = refl
    by false = refl

pub told_later : {before after : Objects} (t : Table) (p parent : ℕ) → (parent ≡ 1 → ⊥) → is_for_later (inside_by t (t.marks p)) parent ≡ true
    → Adds before after (if is_other_starter t p parent then [] else Proc parent ∷ []) → Adds before after (targets t p (told_for_later t p parent))
unfolding targets
told_later {before} {after} t p parent other later adds =
    adds_same (if is_other_starter t p parent then [] else Proc parent ∷ []) (targets t p (told_for_later t p parent)) (rw (ne_eqb parent 1 other, later) refl) adds

-- a step that commits, and one that does not
pub commit_none : (t : Table) (p : ℕ) (mark : Option Mark) (held : ℕ → List Sending) (parts : Parts) (more : List Sending) → GoesBy t p mark None held → commit_row_of t p mark more (state_of held parts) ≡ []
commit_none t p None held parts more goes = refl
commit_none t p (Some mark) held parts more goes = rw goes refl

pub commit_some : {before between after : Objects} (t : Table) (p : ℕ) (mark : Option Mark) (held : ℕ → List Sending) (parts : Parts) (more : List Sending) (sends : List TheSending)
    → GoesBy t p mark (Some sends) held → Adds before between (targets t p (map sending_of sends)) → Adds between after (targets t p more)
    → Adds before after (commit_row_of t p mark more (state_of held parts))
commit_some {before} {between} {after} t p None held parts more sends goes first second = absurd goes
commit_some {before} {between} {after} t p (Some mark) held parts more sends goes first second =
    adds_same (targets t p (map sending_of sends) ++ targets t p more) (commit_row_of t p (Some mark) more (state_of held parts))
    (sym (targets-append t p (map sending_of sends) more) ∙ rw goes.0 (ap (λ (ms : List Sending). targets t p (ms ++ more)) (sym goes.1)))
    (adds_both (targets t p (map sending_of sends)) (targets t p more) first second)

-- dup2
other_same : (f : Option ℕ) (me : Process) → [] ≡ other_than f f me
other_same None me = refl
other_same (Some f) me = rw (eq-eqb f f refl) refl

pub dup2_same : {before after : Objects} (f g : ℤ) (me : Process) (S : State) → f ≡ g → Adds before after (desc_objects (option_list (description_named me (descriptor f))))
    → Adds before after (dup2_objects (descriptor f) (descriptor g) me S)
unfolding pipes_of
dup2_same {before} {after} f g me S is adds =
    let front = desc_objects (option_list (description_named me (descriptor f))) in
    adds_same (front ++ []) (dup2_objects (descriptor f) (descriptor g) me S)
    (ap (λ (ds : List ℕ). front ++ desc_pipe_objects ds S) (other_same (descriptor f) me) ∙ ap (λ (x : ℤ). front ++ desc_pipe_objects (other_than (descriptor f) (descriptor x) me) S) is)
    (adds_both front [] adds (adds_none after))

other_by : (f g : Option ℕ) (me : Process) → ((n : ℕ) → f ≡ Some n → g ≡ Some n → ⊥) → option_list (description_named me g) ≡ other_than f g me
other_by None g me differ = refl
other_by (Some f) None me differ = refl
other_by (Some f) (Some g) me differ = rw (ne_eqb f g (λ e. differ f refl (ap Some (sym e)))) refl

named_by : (f : ℤ) (n : ℕ) → descriptor f ≡ Some n → f ≡ pos n
named_by (pos m) n e = elim (cases_Bool (nat_lt m 16)) [
  | inl lt ↦ let same : Some m ≡ Some n = rw lt at e in let one : m ≡ n = cc in ap pos one
  | inr ge ↦ let none : None ≡ Some n = rw ge at e in cc
]
named_by (negsuc m) n e = cc

pub dup2_other : {before between after : Objects} (f g : ℤ) (me : Process) (S : State) → (f ≡ g → ⊥) → Adds before between (desc_objects (option_list (description_named me (descriptor f))))
    → Adds between after (desc_pipe_objects (option_list (description_named me (descriptor g))) S) → Adds before after (dup2_objects (descriptor f) (descriptor g) me S)
dup2_other {before} {between} {after} f g me S differ first second =
    adds_both (desc_objects (option_list (description_named me (descriptor f)))) (desc_pipe_objects (other_than (descriptor f) (descriptor g) me) S) first
    (adds_same (desc_pipe_objects (option_list (description_named me (descriptor g))) S) (desc_pipe_objects (other_than (descriptor f) (descriptor g) me) S)
    (ap (λ (ds : List ℕ). desc_pipe_objects ds S) (other_by (descriptor f) (descriptor g) me (λ n x y. differ (named_by f n x ∙ sym (named_by g n y))))) second)

pub waits_one : {before after : Objects} (n : Option ℕ) (k : ℕ) → Some k ≡ n → Adds before after (Proc k ∷ []) → Adds before after (numbered_objects n)
waits_one {before} {after} n k is adds = adds_same (Proc k ∷ []) (numbered_objects n) (ap numbered_objects is) adds

pub waits_none : (set : Objects) (n : Option ℕ) → None ≡ n → Adds set set (numbered_objects n)
waits_none set n is = adds_same [] (numbered_objects n) (ap numbered_objects is) (adds_none set)

-- what was put into an empty set is what the set has
pub set_of : (empty : Objects) {set : Objects} (these : List Object) → ((o : Object) → is_in empty o ≡ false) → Adds empty set these → IsSetOf set these
set_of empty {set} these none adds = record { each = λ o. adds.each o ∙ rw (none o) refl }
