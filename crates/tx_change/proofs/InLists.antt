-- What lists of changes do.
use Rattle.std.proofs.Common.{◌≡◌, ◌≤◌, ℕ, ◌+◌, ◌-◌, Bool, true, false, List, [], ◌∷◌, ◌++◌, length, take, drop, option_map, Option, Some, None, ◌==◌, if◌then◌else◌, inl, inr, refl, ap, sym, ◌∙◌, arith}
use Rattle.std.proofs.lemmas.Bool.{le-ltb, lt-ltb}
use Rattle.std.proofs.Math.Seq.{take-length}
use Rattle.tx_base.specs.declared.limits.TheConstants.{PIPE_BYTES}
use Rattle.tx_change.specs.Exchange.{parts_after, change_after, applied, exchanged, Sizes, AreWithin, AreNamed}
use Rattle.tx_change.specs.Laws.{revised_once, revised_by, AreElsewhere}
use Rattle.tx_change.specs.Own.{IsOf, AreOf}
use Rattle.tx_change.specs.Pipes.{piped_in}
use Rattle.tx_change.specs.States.{changed, changed_by}
use Rattle.tx_change.specs.declared.change.Change.{Change}
use Rattle.tx_change.specs.declared.change.Change.TheVariants.{Slot, Part, Description, Pipe}
use Rattle.tx_change.specs.declared.parts.Parts.{Parts}
use Rattle.tx_change.specs.declared.pipes.PipePart.TheVariants.{Front, Back}
use Rattle.tx_change.proofs.Stated.{other_object}
use Rattle.tx_model.specs.State.{State, Process, Object, Proc, Desc, Pipe as ThePipe, Held, SetProc, write_one}
use Rattle.tx_model.specs.StateLaws.{put_cases, put_here, state_ext, EqualAt}

pub exchanged-append : (parts : Parts) (front behind : List Change) → exchanged parts (front ++ behind) ≡ exchanged parts front ++ exchanged (applied parts front) behind
exchanged-append parts [] behind = refl
exchanged-append parts (change ∷ front) behind = ap (λ (xs : List Change). change_after parts change ∷ xs) (exchanged-append (parts_after parts change) front behind)

pub changed-append : (S : State) (front behind : List Change) → changed_by (front ++ behind) S ≡ changed_by behind (changed_by front S)
changed-append S [] behind = refl
changed-append S (change ∷ front) behind = changed-append (changed change S) front behind

within-append : (sizes : Sizes) (front behind : List Change) → AreWithin sizes front → AreWithin sizes behind → AreWithin sizes (front ++ behind)
within-append sizes [] behind f b = b
within-append sizes (change ∷ front) behind f b = (f.0, within-append sizes front behind f.1 b)

pub named-append : (parts : Parts) (front behind : List Change) → AreNamed parts front → AreNamed parts behind → AreNamed parts (front ++ behind)
named-append parts front behind f b = within-append _ front behind f b

-- the same at an object, by way of another state
agree_by : (S R T : State) (o : Object) → EqualAt S R o → EqualAt R T o → EqualAt S T o
agree_by S R T (Proc n) e f = e ∙ f
agree_by S R T (Desc n) e f = e ∙ f
agree_by S R T (ThePipe n) e f = e ∙ f
agree_by S R T (Held n) e f = e ∙ f

agree_same : (S : State) (o : Object) → EqualAt S S o
agree_same S (Proc n) = refl
agree_same S (Desc n) = refl
agree_same S (ThePipe n) = refl
agree_same S (Held n) = refl

pub list_names_its_objects : (changes : List Change) (S : State) (o : Object) → AreElsewhere o changes → EqualAt (changed_by changes S) S o
list_names_its_objects [] S o apart = agree_same S o
list_names_its_objects (change ∷ changes) S o apart =
    agree_by (changed_by changes (changed change S)) (changed change S) S o
    (list_names_its_objects changes (changed change S) o apart.1) (other_object change S o apart.0)

-- what is put where something was put before, and what was there put again
write_again : (n : ℕ) (x y : Option Process) (S : State) → write_one (SetProc n y) (write_one (SetProc n x) S) ≡ write_one (SetProc n y) S
write_again n x y S = state_ext (write_one (SetProc n y) (write_one (SetProc n x) S)) (write_one (SetProc n y) S) refl same
  where
    at : (b : Bool) (m : ℕ) → (if b then y else (if b then x else S.procs m)) ≡ (if b then y else S.procs m)
    at true m = refl
    at false m = refl

    same : (o : Object) → EqualAt (write_one (SetProc n y) (write_one (SetProc n x) S)) (write_one (SetProc n y) S) o
    same (Proc m) = at (m == n) m
    same (Desc m) = refl
    same (ThePipe m) = refl
    same (Held m) = refl

write_same : (n : ℕ) (S : State) → S ≡ write_one (SetProc n (S.procs n)) S
write_same n S = state_ext S (write_one (SetProc n (S.procs n)) S) refl same
  where
    same : (o : Object) → EqualAt S (write_one (SetProc n (S.procs n)) S) o
    same (Proc m) = elim (put_cases S.procs n (S.procs n) m) [ inl e ↦ ap S.procs e.0 ∙ sym e.1 | inr e ↦ sym e.1 ]
    same (Desc m) = refl
    same (ThePipe m) = refl
    same (Held m) = refl

map_same : (slot : Option Process) → option_map (revised_by []) slot ≡ slot
map_same None = refl
map_same (Some me) = refl

map_more : (change : Change) (changes : List Change) (slot : Option Process) → option_map (revised_by changes) (option_map (revised_once change) slot) ≡ option_map (revised_by (change ∷ changes)) slot
map_more change changes None = refl
map_more change changes (Some me) = refl

changed_once : (n : ℕ) (change : Change) (S : State) → IsOf n change → changed change S ≡ write_one (SetProc n (option_map (revised_once change) (S.procs n))) S
changed_once n (Slot pid slot) S of = absurd of
changed_once n (Part pid part) S of = ap (λ (k : ℕ). write_one (SetProc k (option_map (revised_once (Part pid part)) (S.procs k))) S) of.0
changed_once n (Description number opened) S of = absurd of
changed_once n (Pipe number part) S of = absurd of

pub parts_replace_process : (n : ℕ) (changes : List Change) (S : State) → AreOf n changes →
    changed_by changes S ≡ write_one (SetProc n (option_map (revised_by changes) (S.procs n))) S
parts_replace_process n [] S of = write_same n S ∙ ap (λ (x : Option Process). write_one (SetProc n x) S) (sym (map_same (S.procs n)))
parts_replace_process n (change ∷ changes) S of =
    let once = option_map (revised_once change) (S.procs n) in
    let first : State = write_one (SetProc n once) S in
    ap (changed_by changes) (changed_once n change S of.0)
    ∙ parts_replace_process n changes first of.1
    ∙ ap (λ (x : Option Process). write_one (SetProc n (option_map (revised_by changes) x)) first) (put_here S.procs n once)
    ∙ write_again n once (option_map (revised_by changes) once) S
    ∙ ap (λ (x : Option Process). write_one (SetProc n x) S) (map_more change changes (S.procs n))

pub front_is_read : (held : List ℕ) (count : ℕ) → count ≤ length held → length held ≤ PIPE_BYTES → piped_in (Some held) (Front count []) ≡ Some (drop count held)
front_is_read held count there fits =
    let few = le-ltb (length held) count there in
    let whole = le-ltb PIPE_BYTES (length held) fits in
    let room = lt-ltb (0 + (length held - count)) (PIPE_BYTES + 1) (omega (arith, fits)) in
    rw few (rw whole (rw room refl))

pub back_is_write : (held bytes : List ℕ) → length held + length bytes ≤ PIPE_BYTES → piped_in (Some held) (Back 0 bytes) ≡ Some (held ++ bytes)
back_is_write held bytes fits =
    let whole = le-ltb PIPE_BYTES (length held) (omega (arith, fits)) in
    let room = lt-ltb (length bytes + (length held - 0)) (PIPE_BYTES + 1) (omega (arith, fits)) in
    let all : length held - 0 ≡ length held = omega arith in
    let few = le-ltb (length held) 0 (omega arith) in
    rw whole (rw room (rw few (ap (λ (xs : List ℕ). Some (xs ++ bytes)) (ap (λ (n : ℕ). take n held) all ∙ take-length held))))
