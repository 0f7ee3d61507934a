-- What goes with names that are given up: descriptions, and pipes.
use Rattle.std.proofs.Common.{◌≡◌, ℕ, zero, suc, ◌<◌, ◌==◌, Bool, true, false, List, [], ◌∷◌, ◌++◌, length, if◌then◌else◌, Option, Some, None, IsSome, refl, ap, ap₂, sym, subst, ◌∙◌, eq-eqb, eqb-true, arith, get_or, inl, inr}
use Rattle.std.proofs.lemmas.Bool.{cases_Bool, cases_lt, eqb-false}
use Rattle.std.proofs.lemmas.List.{get_or_past}
use Rattle.tx_change.specs.Exchange.{AreNamed}
use Rattle.tx_change.specs.States.{changed_by}
use Rattle.tx_change.specs.declared.change.Change.{Change}
use Rattle.tx_change.specs.declared.change.Change.TheVariants.{Pipe}
use Rattle.tx_change.specs.declared.parts.Parts.{Parts}
use Rattle.tx_change.specs.declared.pipes.PipePart.TheVariants.{Whole}
use Rattle.tx_desc.specs.Descriptions.{HasDescs, described, description_of, gone_between}
use Rattle.tx_desc.specs.declared.opened.Desc.{Desc}
use Rattle.tx_desc.specs.declared.opened.Opened.{Opened}
use Rattle.tx_kernel.proofs.Named.{ArePipes, AreOfFiles, pipes_alone}
use Rattle.tx_kernel.proofs.Whole.{HasPipe}
use Rattle.tx_kernel.specs.Named.{endless_changes}
use Rattle.tx_kernel.specs.Plans.{AreAmong}
use Rattle.tx_model.specs.Descriptors.{is_named, is_side, has_description, pipe_of, pipes_of, description_removals, pipe_removals, removals, some_below}
use Rattle.tx_model.specs.Words.{has_side_below, pipe_list}
use Rattle.tx_model.specs.State.{Description, Object, Side, State, Write, SetDesc, SetPipe, has_object, side_in, write_one, with_writes}
use Rattle.tx_model.specs.State as model
use Rattle.tx_model.specs.StateLaws.{put_here}

-- whether a side is there is said by the descriptions
side_same : (test : Side → Bool) (k n : ℕ) (S R : State) → ((d : ℕ) → S.descs d ≡ R.descs d) → has_side_below test k n S ≡ has_side_below test k n R
unfolding some_below
side_same test k zero S R same = refl
side_same test k (suc n) S R same =
    ap₂ (λ (b : Bool) (x : Option Description). if b then true else is_side test (side_in k x)) (side_same test k n S R same) (same n)

pub descs_same : (S R : State) (D : List (Option Opened)) → HasDescs S D → HasDescs R D → (d : ℕ) → S.descs d ≡ R.descs d
descs_same S R D one other d = one d ∙ sym (other d)

-- a description that is there names its pipe
side_here : (n d : ℕ) (S : State) (x : Description) → d < n → S.descs d ≡ Some x → has_side_below (λ side. true) x.pipe n S ≡ true
unfolding some_below
side_here zero d S x below here = absurd (omega (arith, below))
side_here (suc n) d S x below here = elim (cases_Bool (d == n)) [
  | inl e ↦
      let same : d ≡ n = eqb-true d n e in
      let there : S.descs n ≡ Some x = subst (λ (i : ℕ). S.descs i ≡ Some x) same here in
      rw there (rw (eq-eqb x.pipe x.pipe refl) (either (has_side_below (λ side. true) x.pipe n S)))
  | inr e ↦
      let apart = eqb-false d n e in
      rw (side_here n d S x (omega (arith, apart)) here) refl
]
  where
    either : (b : Bool) → (if b then true else true) ≡ true
    either true = refl
    either false = refl

append_written : (xs ys : List Write) (S : State) → with_writes (xs ++ ys) S ≡ with_writes ys (with_writes xs S)
unfolding with_writes
append_written [] ys S = refl
append_written (w ∷ xs) ys S = append_written xs ys (write_one w S)

files_append : (xs ys : List Write) → AreOfFiles xs → AreOfFiles ys → AreOfFiles (xs ++ ys)
files_append [] ys first last = last
files_append (w ∷ xs) ys first last = (first.0, files_append xs ys first.1 last)

unnamed_files : (ds : List ℕ) (S : State) → AreOfFiles (description_removals ds S)
unfolding description_removals
unnamed_files [] S = tt
unnamed_files (d ∷ ds) S = by (is_named d S) (unnamed_files ds S)
  where
    by : (b : Bool) → AreOfFiles (description_removals ds S) → AreOfFiles (if b then description_removals ds S else SetDesc d None ∷ description_removals ds S)
    by true rest = rest
    by false rest = (tt, rest)

endless_files : (ks : List ℕ) (S : State) → AreOfFiles (pipe_removals ks S)
unfolding pipe_removals
endless_files [] S = tt
endless_files (k ∷ ks) S = by (has_description k S) (endless_files ks S)
  where
    by : (b : Bool) → AreOfFiles (pipe_removals ks S) → AreOfFiles (if b then pipe_removals ks S else SetPipe k None ∷ pipe_removals ks S)
    by true rest = rest
    by false rest = (tt, rest)

pub released_files : (ds : List ℕ) (S : State) → AreOfFiles (removals ds S)
released_files ds S =
    files_append (description_removals ds S) (pipe_removals (pipes_of ds S) (with_writes (description_removals ds S) S)) (unnamed_files ds S)
    (endless_files (pipes_of ds S) (with_writes (description_removals ds S) S))

-- pipes that go take no description with them
endless_descs : (ks : List ℕ) (S R : State) (d : ℕ) → (with_writes (pipe_removals ks S) R).descs d ≡ R.descs d
unfolding with_writes pipe_removals
endless_descs [] S R d = refl
endless_descs (k ∷ ks) S R d = by (λ (Q : State). endless_descs ks S Q d) (has_description k S)
  where
    by : ((Q : State) → (with_writes (pipe_removals ks S) Q).descs d ≡ Q.descs d) → (b : Bool) → (with_writes (if b then pipe_removals ks S else SetPipe k None ∷ pipe_removals ks S) R).descs d ≡ R.descs d
    by again true = again R
    by again false = again (write_one (SetPipe k None) R)

-- one description that is not named goes, or stays as it was
unnamed_one : (d : ℕ) (S : State) (x : Description) → (with_writes (description_removals (d ∷ []) S) S).descs d ≡ Some x → S.descs d ≡ Some x
unfolding with_writes description_removals
unnamed_one d S x there = by (is_named d S) there
  where
    by : (b : Bool) → (with_writes (if b then [] else SetDesc d None ∷ []) S).descs d ≡ Some x → S.descs d ≡ Some x
    by true h = h
    by false h = let gone = put_here {A = Option Description} S.descs d None in let never : ⊥ = cc in absurd never

unnamed_pipes : (d : ℕ) (S : State) → (with_writes (description_removals (d ∷ []) S) S).pipes ≡ S.pipes
unfolding with_writes description_removals
unnamed_pipes d S = by (is_named d S)
  where
    by : (b : Bool) → (with_writes (if b then [] else SetDesc d None ∷ []) S).pipes ≡ S.pipes
    by true = refl
    by false = refl

pub endless_pipes : (gone : Option Desc) (R : State) → ArePipes (endless_changes gone R)
endless_pipes None R = tt
endless_pipes (Some desc) R = by (has_description desc.pipe.0 R)
  where
    by : (b : Bool) → ArePipes (if b then [] else Pipe desc.pipe (Whole None) ∷ [])
    by true = tt
    by false = tt

-- the pipe of one description goes where that is gone and no other names it
one_goes : (o n : Option Opened) (S R : State) → ((k : ℕ) → has_description k S ≡ has_description k R) →
    ((x y : Opened) → o ≡ Some x → n ≡ Some y → has_description x.desc.pipe.0 S ≡ true) →
    (with_writes (pipe_removals (pipe_of (described o) ++ []) S) S).pipes ≡ (changed_by (endless_changes (gone_between o n) R) S).pipes
unfolding with_writes pipe_removals
one_goes None n S R same stays = refl
one_goes (Some x) None S R same stays =
    by (has_description x.desc.pipe.0 S) (has_description x.desc.pipe.0 R) (same x.desc.pipe.0)
  where
    by : (b c : Bool) → b ≡ c → (with_writes (if b then [] else SetPipe x.desc.pipe.0 None ∷ []) S).pipes ≡ (changed_by (if c then [] else Pipe x.desc.pipe (Whole None) ∷ []) S).pipes
    by true true e = refl
    by true false e = let never : ⊥ = cc in absurd never
    by false true e = let never : ⊥ = cc in absurd never
    by false false e = refl
one_goes (Some x) (Some y) S R same stays = rw (stays x y refl refl) refl

-- the pipes that the rule leaves where names of one description were given up
pub one_released : (d : ℕ) (S R : State) (D after : List (Option Opened)) → length after ≡ 64 → HasDescs S D → HasDescs (with_writes (removals (d ∷ []) S) S) after → HasDescs R after →
    (with_writes (removals (d ∷ []) S) S).pipes ≡ (changed_by (endless_changes (gone_between (get_or D d None) (get_or after d None)) R) S).pipes
unfolding pipes_of
one_released d S R D after full before left other =
    let T : State = with_writes (description_removals (d ∷ []) S) S in
    let ks : List ℕ = pipes_of (d ∷ []) S in
    let o : Option Opened = get_or D d None in
    let n : Option Opened = get_or after d None in
    let whole : with_writes (removals (d ∷ []) S) S ≡ with_writes (pipe_removals ks T) T = append_written (description_removals (d ∷ []) S) (pipe_removals ks T) S in
    let has_object : HasDescs T after = λ e. sym (endless_descs ks T T e) ∙ ap (λ (Q : State). Q.descs e) (sym whole) ∙ left e in
    let listed : ks ≡ pipe_of (described o) ++ [] = ap (λ (x : Option Description). pipe_of x ++ []) (before d) in
    let changes : List Change = endless_changes (gone_between o n) R in
    ap (λ (Q : State). Q.pipes) whole
    ∙ ap (λ (ls : List ℕ). (with_writes (pipe_removals ls T) T).pipes) listed
    ∙ one_goes o n T R (λ k. side_same (λ side. true) k 64 T R (descs_same T R after has_object other)) (λ x y was now. stays T x y has_object was now)
    ∙ pipes_alone changes T S (endless_pipes (gone_between o n) R) (unnamed_pipes d S)
  where
    inside : (i : ℕ) (y : Opened) → get_or after i None ≡ Some y → i < 64
    inside i y there = elim (cases_lt i 64) [
      | inl below ↦ below
      | inr past ↦ let none = get_or_past after i None (omega (arith, past, full)) in let never : ⊥ = cc in absurd never
    ]

    stays : (T : State) (x y : Opened) → HasDescs (with_writes (description_removals (d ∷ []) S) S) after → get_or D d None ≡ Some x → get_or after d None ≡ Some y →
        has_description x.desc.pipe.0 (with_writes (description_removals (d ∷ []) S) S) ≡ true
    stays T x y has_object was now =
        let Q : State = with_writes (description_removals (d ∷ []) S) S in
        let there : Q.descs d ≡ Some (description_of y.desc) = has_object d ∙ ap described now in
        let still = unnamed_one d S (description_of y.desc) there in
        let same : Some (description_of y.desc) ≡ Some (description_of x.desc) = sym still ∙ before d ∙ ap described was in
        side_here 64 d Q (description_of x.desc) (inside d y now) (there ∙ same)

-- a pipe that goes is one that there is
pub endless_named : (parts : Parts) (o n : Option Opened) (R : State) → HasPipe parts.pipes o → AreNamed parts (endless_changes (gone_between o n) R)
endless_named parts None n R piped = tt
endless_named parts (Some x) (Some y) R piped = tt
endless_named parts (Some x) None R piped = by (has_description x.desc.pipe.0 R)
  where
    below : x.desc.pipe.0 < length parts.pipes
    below = elim (cases_lt x.desc.pipe.0 (length parts.pipes)) [
      | inl inside ↦ inside
      | inr past ↦ let none = subst (λ (p : Option (List ℕ)). IsSome p) (get_or_past parts.pipes x.desc.pipe.0 None past) piped in let never : ⊥ = cc in absurd never
    ]

    by : (b : Bool) → AreNamed parts (if b then [] else Pipe x.desc.pipe (Whole None) ∷ [])
    by true = tt
    by false = (below, tt)

pub pipe_there : (d : ℕ) (S : State) (k : ℕ) (x : Description) → S.descs d ≡ Some x → x.pipe ≡ k → has_object (model.Pipe k) (pipe_list (pipes_of (d ∷ []) S)) ≡ true
unfolding has_object pipes_of
pipe_there d S k x here same =
    ap (λ (y : Option Description). has_object (model.Pipe k) (pipe_list (pipe_of y ++ []))) here
    ∙ ap (λ (b : Bool). if b then true else false) (eq-eqb k x.pipe (sym same))

-- and one of the pipes of the description
pub endless_among : (d : ℕ) (S R : State) (o n : Option Opened) → S.descs d ≡ described o →
    AreAmong (pipe_list (pipes_of (d ∷ []) S)) (endless_changes (gone_between o n) R)
endless_among d S R None n here = tt
endless_among d S R (Some x) (Some y) here = tt
endless_among d S R (Some x) None here = by (has_description x.desc.pipe.0 R)
  where
    by : (b : Bool) → AreAmong (pipe_list (pipes_of (d ∷ []) S)) (if b then [] else Pipe x.desc.pipe (Whole None) ∷ [])
    by true = tt
    by false = (pipe_there d S x.desc.pipe.0 (description_of x.desc) here refl, tt)
