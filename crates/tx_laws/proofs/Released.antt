-- What goes with names of descriptions that were given up depends on those descriptions and their pipes alone.
use Rattle.std.proofs.Common.{◌≡◌, ℕ, zero, suc, ◌+◌, Bool, true, false, List, [], ◌∷◌, ◌++◌, Option, Some, None, if◌then◌else◌, ◌==◌, refl, sym, ap, ap₂, ◌∙◌, subst, eqb-true}
use Rattle.std.proofs.lemmas.Bool.{both_ways}
use Rattle.tx_model.specs.ObjectFacts.{has_head, has_tail, has_left, has_right}
use Rattle.tx_model.specs.State.{Process, Side, Description, State, Object, Desc, Pipe, Held, Write, SetProc, SetDesc, SetPipe, write_one, with_writes, names_at, side_in, same_object, has_object}
use Rattle.tx_model.specs.StateLaws.{AgreeAt, AgreeOn}
use Rattle.tx_model.specs.Descriptors.{is_named, is_side, has_description, pipe_of, pipes_of, description_removals, pipe_removals, removals, desc_objects, desc_pipe_objects, some_below}
use Rattle.tx_model.specs.Words.{names_below, is_named_below, has_side_below, pipe_list}
use Rattle.tx_laws.proofs.Agree.{written_keeps}
use Rattle.tx_laws.proofs.Objects.{WriteFits, WritesFit, Covers, writes_append}

or_same : (a b c d : Bool) → a ≡ b → c ≡ d → (if a then true else c) ≡ (if b then true else d)
or_same a b c d h k = ap₂ (λ (x y : Bool). if x then true else y) h k

or_false : (b x y : Bool) → (x ≡ false → y ≡ false) → (if b then true else x) ≡ false → (if b then true else y) ≡ false
or_false true x y f h = cc
or_false false x y f h = f h

-- an object of neither is none of the two together
pub lacks_both : (o : Object) (xs ys : List Object) → has_object o xs ≡ false → has_object o ys ≡ false → has_object o (xs ++ ys) ≡ false
unfolding has_object
lacks_both o [] ys h k = k
lacks_both o (x ∷ xs) ys h k = or_false (same_object o x) (has_object o xs) (has_object o (xs ++ ys)) (λ z. lacks_both o xs ys z k) h

pub agree_left : (xs ys : List Object) (S R : State) → AgreeOn (xs ++ ys) S R → AgreeOn xs S R
agree_left xs ys S R a = λ o h. a o (has_left o xs ys h)

pub agree_right : (xs ys : List Object) (S R : State) → AgreeOn (xs ++ ys) S R → AgreeOn ys S R
agree_right xs ys S R a = λ o h. a o (has_right o xs ys h)

pub agree_rest : (x : Object) (xs : List Object) (S R : State) → AgreeOn (x ∷ xs) S R → AgreeOn xs S R
agree_rest x xs S R a = λ o h. a o (has_tail o x xs h)

-- the same writes keep agreement
pub write_keeps : (w : Write) (S R : State) (o : Object) → AgreeAt S R o → AgreeAt (write_one w S) (write_one w R) o
unfolding with_writes
write_keeps w S R o h = written_keeps (w ∷ []) S R o h

pub agree_written : (w : Write) (os : List Object) (S R : State) → AgreeOn os S R → AgreeOn os (write_one w S) (write_one w R)
agree_written w os S R a = λ o h. write_keeps w S R o (a o h)

-- the names of a description
names_below_same : (d f : ℕ) (x y : Option Process) → ((i : ℕ) → names_at d i x ≡ names_at d i y) → names_below d f x ≡ names_below d f y
unfolding some_below
names_below_same d zero x y h = refl
names_below_same d (suc f) x y h = or_same (names_below d f x) (names_below d f y) (names_at d f x) (names_at d f y) (names_below_same d f x y h) (h f)

is_named_below_same : (d q : ℕ) (S R : State) → ((q i : ℕ) → names_at d i (S.procs q) ≡ names_at d i (R.procs q)) → is_named_below d q S ≡ is_named_below d q R
unfolding some_below
is_named_below_same d zero S R h = refl
is_named_below_same d (suc q) S R h =
    or_same (is_named_below d q S) (is_named_below d q R) (names_below d 16 (S.procs q)) (names_below d 16 (R.procs q))
    (is_named_below_same d q S R h) (names_below_same d 16 (S.procs q) (R.procs q) (h q))

pub is_named_same : (d : ℕ) (S R : State) → AgreeAt S R (Desc d) → is_named d S ≡ is_named d R
is_named_same d S R a = is_named_below_same d (S.width + 1) S R a.family ∙ ap (λ (w : ℕ). is_named_below d (w + 1) R) a.width

-- the ends of a pipe
pub has_end_below_same : (test : Side → Bool) (k d : ℕ) (S R : State) → ((d : ℕ) → side_in k (S.descs d) ≡ side_in k (R.descs d)) → has_side_below test k d S ≡ has_side_below test k d R
unfolding some_below
has_end_below_same test k zero S R h = refl
has_end_below_same test k (suc d) S R h =
    or_same (has_side_below test k d S) (has_side_below test k d R) (is_side test (side_in k (S.descs d))) (is_side test (side_in k (R.descs d)))
    (has_end_below_same test k d S R h) (ap (is_side test) (h d))

pub has_end_same : (k : ℕ) (S R : State) → AgreeAt S R (Pipe k) → has_description k S ≡ has_description k R
has_end_same k S R a = has_end_below_same (λ side. true) k 64 S R a.family

-- the pipes of the descriptions
pub pipes_same : (ds : List ℕ) (S R : State) → AgreeOn (desc_objects ds) S R → pipes_of ds S ≡ pipes_of ds R
unfolding pipes_of
pipes_same [] S R a = refl
pipes_same (d ∷ ds) S R a =
    ap₂ (λ (x : Option Description) (ks : List ℕ). pipe_of x ++ ks) (a (Desc d) (has_head (Desc d) (desc_objects ds))).equal
    (pipes_same ds S R (agree_rest (Desc d) (desc_objects ds) S R a))

-- the pipes of descriptions, where all descriptions are the same
pub pipes_of_descs : (ds : List ℕ) (S T : State) → T.descs ≡ S.descs → pipes_of ds T ≡ pipes_of ds S
unfolding pipes_of
pipes_of_descs [] S T e = refl
pipes_of_descs (d ∷ ds) S T e = ap₂ (λ (x : Option Description) (ks : List ℕ). pipe_of x ++ ks) (ap (λ (f : ℕ → Option Description). f d) e) (pipes_of_descs ds S T e)

pub ends_same : (ds : List ℕ) (S R : State) → AgreeOn (desc_pipe_objects ds S) S R → desc_pipe_objects ds S ≡ desc_pipe_objects ds R
ends_same ds S R a =
    ap (λ (ks : List ℕ). desc_objects ds ++ pipe_list ks) (pipes_same ds S R (agree_left (desc_objects ds) (pipe_list (pipes_of ds S)) S R a))

-- the same descriptions and pipes go
pub unnamed_same : (ds : List ℕ) (S R : State) → AgreeOn (desc_objects ds) S R → description_removals ds S ≡ description_removals ds R
unfolding description_removals
unnamed_same [] S R a = refl
unnamed_same (d ∷ ds) S R a =
    ap₂ (λ (b : Bool) (ws : List Write). if b then ws else SetDesc d None ∷ ws) (is_named_same d S R (a (Desc d) (has_head (Desc d) (desc_objects ds))))
    (unnamed_same ds S R (agree_rest (Desc d) (desc_objects ds) S R a))

pub endless_same : (ks : List ℕ) (S R : State) → AgreeOn (pipe_list ks) S R → pipe_removals ks S ≡ pipe_removals ks R
unfolding pipe_removals
endless_same [] S R a = refl
endless_same (k ∷ ks) S R a =
    ap₂ (λ (b : Bool) (ws : List Write). if b then ws else SetPipe k None ∷ ws) (has_end_same k S R (a (Pipe k) (has_head (Pipe k) (pipe_list ks))))
    (endless_same ks S R (agree_rest (Pipe k) (pipe_list ks) S R a))

pub released_same : (ds : List ℕ) (S R : State) → AgreeOn (desc_pipe_objects ds S) S R → removals ds S ≡ removals ds R
released_same ds S R a =
    let ks : List ℕ = pipes_of ds S in
    let ws : List Write = description_removals ds S in
    let b = agree_left (desc_objects ds) (pipe_list ks) S R a in
    let c = agree_right (desc_objects ds) (pipe_list ks) S R a in
    let go : ws ≡ description_removals ds R = unnamed_same ds S R b in
    let end : pipe_removals ks (with_writes ws S) ≡ pipe_removals ks (with_writes ws R) =
    endless_same ks (with_writes ws S) (with_writes ws R) (λ o h. written_keeps ws S R o (c o h)) in
    ap (λ (vs : List Write). ws ++ vs) end
    ∙ ap₂ (λ (vs : List Write) (ls : List ℕ). vs ++ pipe_removals ls (with_writes vs R)) go (pipes_same ds S R b)

-- the objects of descriptions hold nothing and are no process
pub descs_held : (u : ℕ) (ds : List ℕ) → has_object (Held u) (desc_objects ds) ≡ false
unfolding has_object
descs_held u [] = refl
descs_held u (d ∷ ds) = descs_held u ds

pub pipes_held : (u : ℕ) (ks : List ℕ) → has_object (Held u) (pipe_list ks) ≡ false
unfolding has_object
pipes_held u [] = refl
pipes_held u (k ∷ ks) = pipes_held u ks

pub ends_held : (u : ℕ) (ds : List ℕ) (S : State) → has_object (Held u) (desc_pipe_objects ds S) ≡ false
ends_held u ds S = lacks_both (Held u) (desc_objects ds) (pipe_list (pipes_of ds S)) (descs_held u ds) (pipes_held u (pipes_of ds S))

-- what covers lists covers their parts
pub covers_left : (all xs ys : List Object) → Covers all (xs ++ ys) → Covers all xs
covers_left all xs ys c = λ o h. c o (has_left o xs ys h)

pub covers_right : (all xs ys : List Object) → Covers all (xs ++ ys) → Covers all ys
covers_right all xs ys c = λ o h. c o (has_right o xs ys h)

pub covers_rest : (all : List Object) (x : Object) (xs : List Object) → Covers all (x ∷ xs) → Covers all xs
covers_rest all x xs c = λ o h. c o (has_tail o x xs h)

pub covers_head : (all : List Object) (x : Object) (xs : List Object) → Covers all (x ∷ xs) → has_object x all ≡ true
covers_head all x xs c = c x (has_head x xs)

pipes_append : (xs ys : List ℕ) → pipe_list (xs ++ ys) ≡ pipe_list xs ++ pipe_list ys
pipes_append [] ys = refl
pipes_append (x ∷ xs) ys = ap (λ (os : List Object). Pipe x ∷ os) (pipes_append xs ys)

-- a description that is taken away was an end of no pipe but its own
none_end : (all : List Object) (n : ℕ) (x : Option Description) → Covers all (pipe_list (pipe_of x)) → has_object (Pipe n) all ≡ false → side_in n None ≡ side_in n x
none_end all n None c h = refl
none_end all n (Some x) c h = by (x.pipe == n) (λ e. eqb-true x.pipe n e)
  where
    by : (b : Bool) → (b ≡ true → x.pipe ≡ n) → None ≡ (if b then Some x.side else None)
    by true e =
        let k : has_object (Pipe n) all ≡ true = subst (λ (m : ℕ). has_object (Pipe m) all ≡ true) (e refl) (covers_head all (Pipe x.pipe) [] c) in
        absurd (both_ways (has_object (Pipe n) all) h k)
    by false e = refl

desc_fits : (S : State) (all : List Object) (d : ℕ) → has_object (Desc d) all ≡ true → Covers all (pipe_list (pipe_of (S.descs d))) → WriteFits S all (SetDesc d None)
desc_fits S all d h c = (h, λ n k. none_end all n (S.descs d) c k)

choice_fits : (b : Bool) (S : State) (all : List Object) (w : Write) (ws : List Write) → WriteFits S all w → WritesFit S all ws → WritesFit S all (if b then ws else w ∷ ws)
choice_fits true S all w ws f g = g
choice_fits false S all w ws f g = (f, g)

pub unnamed_fits : (ds : List ℕ) (S T : State) (all : List Object) → Covers all (desc_objects ds) → Covers all (pipe_list (pipes_of ds S)) → WritesFit S all (description_removals ds T)
unfolding description_removals pipes_of
unnamed_fits [] S T all c k = tt
unnamed_fits (d ∷ ds) S T all c k =
    let xs : List Object = pipe_list (pipe_of (S.descs d)) in
    let ys : List Object = pipe_list (pipes_of ds S) in
    let split : Covers all (xs ++ ys) = subst (λ (os : List Object). Covers all os) (pipes_append (pipe_of (S.descs d)) (pipes_of ds S)) k in
    choice_fits (is_named d T) S all (SetDesc d None) (description_removals ds T)
    (desc_fits S all d (covers_head all (Desc d) (desc_objects ds) c) (covers_left all xs ys split))
    (unnamed_fits ds S T all (covers_rest all (Desc d) (desc_objects ds) c) (covers_right all xs ys split))

pub endless_fits : (ks : List ℕ) (S T : State) (all : List Object) → Covers all (pipe_list ks) → WritesFit S all (pipe_removals ks T)
unfolding pipe_removals
endless_fits [] S T all c = tt
endless_fits (k ∷ ks) S T all c =
    choice_fits (has_description k T) S all (SetPipe k None) (pipe_removals ks T) (covers_head all (Pipe k) (pipe_list ks) c)
    (endless_fits ks S T all (covers_rest all (Pipe k) (pipe_list ks) c))

-- it stays in the descriptions and their pipes
pub released_fits : (ds : List ℕ) (S T : State) (all : List Object) → T.descs ≡ S.descs → Covers all (desc_pipe_objects ds S) → WritesFit S all (removals ds T)
released_fits ds S T all e c =
    let ds_in : Covers all (desc_objects ds) = covers_left all (desc_objects ds) (pipe_list (pipes_of ds S)) c in
    let ks_in : Covers all (pipe_list (pipes_of ds S)) = covers_right all (desc_objects ds) (pipe_list (pipes_of ds S)) c in
    let ls_in : Covers all (pipe_list (pipes_of ds T)) = subst (λ (ks : List ℕ). Covers all (pipe_list ks)) (sym (pipes_of_descs ds S T e)) ks_in in
    writes_append S all (description_removals ds T) (pipe_removals (pipes_of ds T) (with_writes (description_removals ds T) T))
    (unnamed_fits ds S T all ds_in ks_in) (endless_fits (pipes_of ds T) S (with_writes (description_removals ds T) T) all ls_in)

-- the same where a process was written before
pub released_after : (ds : List ℕ) (p : ℕ) (x : Option Process) (S R : State) → AgreeOn (desc_pipe_objects ds S) S R
    → removals ds (write_one (SetProc p x) S) ≡ removals ds (write_one (SetProc p x) R)
released_after ds p x S R a =
    let T : State = write_one (SetProc p x) S in
    let same : desc_pipe_objects ds S ≡ desc_pipe_objects ds T = ap (λ (ks : List ℕ). desc_objects ds ++ pipe_list ks) (sym (pipes_of_descs ds S T refl)) in
    released_same ds T (write_one (SetProc p x) R)
    (subst (λ (os : List Object). AgreeOn os T (write_one (SetProc p x) R)) same (agree_written (SetProc p x) (desc_pipe_objects ds S) S R a))
