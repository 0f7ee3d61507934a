-- What changes in turn do to process numbers, to descriptions and to the counts of names.
use Rattle.std.proofs.Common.{◌≡◌, ◌≢◌, ℕ, ◌+◌, Bool, true, false, List, [], ◌∷◌, ◌++◌, Option, Some, None, is_some, option_map, if◌then◌else◌, ◌==◌, length, slice_set, arith, refl, sym, ap, ap₂, subst, ◌∙◌, eq-eqb, eqb-true}
use Rattle.std.proofs.lemmas.Bool.{ne_eqb}
use Rattle.tx_base.specs.Slots.{slot_at}
use Rattle.tx_base.specs.declared.names.Pid.{Pid}
use Rattle.tx_base.specs.SlotFacts.{slot_at-with_slot}
use Rattle.tx_change.proofs.Applied.{still_sized, length-applied, AreNamed-sized, AreWithin-append}
use Rattle.tx_change.proofs.Counted.{plain, table_in, names_same, same_table_in}
use Rattle.tx_change.proofs.Tables.{split, others_same}
use Rattle.tx_change.specs.Counts.{tables_of, CountsAgree, counted_in, slot_after, descs_after, IsNameless, AreNameless, IsNamesOf, AreNamesOf, name_changes, desc_changes, with_put}
use Rattle.tx_change.specs.Exchange.{parts_after, applied, sizes_of, Sizes, IsPid, IsNamed, AreWithin, AreNamed}
use Rattle.tx_change.specs.declared.change.Change.{Change}
use Rattle.tx_change.specs.declared.change.Change.TheVariants.{Slot, Part, Description, Pipe}
use Rattle.tx_change.specs.declared.parts.Parts.{Parts}
use Rattle.tx_desc.specs.CountFacts.{names-cons, keeps_over}
use Rattle.tx_desc.specs.Counts.{Agrees, count_in, names_in, KeepsCounts, others_below, others_of}
use Rattle.tx_desc.specs.Places.{Descriptors}
use Rattle.tx_desc.specs.Plans.{AreFds, AreNumbers, put_names, put_descs}
use Rattle.tx_desc.specs.declared.opened.Opened.{Opened}
use Rattle.tx_desc.specs.declared.plans.NewName.{NewName}
use Rattle.tx_desc.specs.declared.plans.NewDesc.{NewDesc}
use Rattle.tx_proc.specs.Parts.{edited_once}
use Rattle.tx_proc.specs.declared.proc.Part.{Part as ProcPart}
use Rattle.tx_proc.specs.declared.proc.Part.TheVariants.{Status, Descriptor}
use Rattle.tx_proc.specs.declared.proc.Proc.{Proc}

-- what a number has, and the descriptions

pub descs_in_turn : (parts : Parts) (changes : List Change) → (applied parts changes).descs ≡ descs_after changes parts.descs
descs_in_turn parts [] = refl
descs_in_turn parts (Slot pid slot ∷ changes) = descs_in_turn (parts_after parts (Slot pid slot)) changes
descs_in_turn parts (Part pid part ∷ changes) = descs_in_turn (parts_after parts (Part pid part)) changes
descs_in_turn parts (Description number opened ∷ changes) = descs_in_turn (parts_after parts (Description number opened)) changes
descs_in_turn parts (Pipe number part ∷ changes) = descs_in_turn (parts_after parts (Pipe number part)) changes

-- one change
unfoldable pub slot_once : ℕ → Change → Option Proc → Option Proc
slot_once n change slot = slot_after n (change ∷ []) slot

edited_same : (procs : List (Option Proc)) (p n : ℕ) (part : ProcPart) (b : Bool) → (n == p) ≡ b →
    (if b then option_map (λ proc. edited_once proc part) (slot_at procs p) else slot_at procs n) ≡ (if b then option_map (λ proc. edited_once proc part) (slot_at procs n) else slot_at procs n)
edited_same procs p n part true e = ap (λ (k : ℕ). option_map (λ proc. edited_once proc part) (slot_at procs k)) (sym (eqb-true n p e))
edited_same procs p n part false e = refl

pub slot_next : (parts : Parts) (change : Change) (n : ℕ) → IsNamed parts change → slot_at (parts_after parts change).procs n ≡ slot_once n change (slot_at parts.procs n)
unfolding slot_once
slot_next parts (Slot pid slot) n named = slot_at-with_slot parts.procs pid.0 slot n named.low named.high
slot_next parts (Part pid part) n named =
    slot_at-with_slot parts.procs pid.0 (option_map (λ proc. edited_once proc part) (slot_at parts.procs pid.0)) n named.0.low named.0.high
    ∙ edited_same parts.procs pid.0 n part (n == pid.0) refl
slot_next parts (Description number opened) n named = refl
slot_next parts (Pipe number part) n named = refl

slot_first : (n : ℕ) (change : Change) (changes : List Change) (slot : Option Proc) → slot_after n (change ∷ changes) slot ≡ slot_after n changes (slot_once n change slot)
unfolding slot_once
slot_first n (Slot pid new) changes slot = refl
slot_first n (Part pid part) changes slot = refl
slot_first n (Description number opened) changes slot = refl
slot_first n (Pipe number part) changes slot = refl

pub slot_in_turn : (parts : Parts) (changes : List Change) (n : ℕ) → AreNamed parts changes → slot_at (applied parts changes).procs n ≡ slot_after n changes (slot_at parts.procs n)
slot_in_turn parts [] n named = refl
slot_in_turn parts (change ∷ changes) n named =
    slot_in_turn (parts_after parts change) changes n (AreNamed-sized parts (parts_after parts change) changes (still_sized parts change) named.1)
    ∙ ap (slot_after n changes) (slot_next parts change n named.0) ∙ sym (slot_first n change changes (slot_at parts.procs n))

-- the counts

counted_names : (d : ℕ) (slot : Option Proc) → names_in d (table_in slot) ≡ count_in d (counted_in slot)
counted_names d None = refl
counted_names d (Some proc) = by (is_some proc.status)
  where
    by : (b : Bool) → names_in d (if b then [] else proc.descriptors ∷ []) ≡ count_in d (if b then [] else proc.descriptors)
    by true = refl
    by false =
        let one = names-cons d proc.descriptors [] in
        let none : names_in d [] ≡ 0 = refl in
        omega arith

-- the descriptors of other processes stay
nameless : (b : Bool) (pid : Pid) (part : ProcPart) (slot : Option Proc) → IsNameless (Part pid part) →
    table_in (if b then option_map (λ proc. edited_once proc part) slot else slot) ≡ table_in slot
nameless true pid part slot free = same_table_in slot pid part free
nameless false pid part slot free = refl

elsewhere : (n q : ℕ) (pid : Pid) (part : ProcPart) (slot : Option Proc) → q ≢ n → pid.0 ≡ n →
    table_in (if q == pid.0 then option_map (λ proc. edited_once proc part) slot else slot) ≡ table_in slot
elsewhere n q pid part slot apart of =
    ap (λ (b : Bool). table_in (if b then option_map (λ proc. edited_once proc part) slot else slot)) (ne_eqb q pid.0 (λ z. apart (z ∙ of)))

part_once : (n q : ℕ) (pid : Pid) (part : ProcPart) (slot : Option Proc) → q ≢ n → IsNamesOf n (Part pid part) →
    table_in (if q == pid.0 then option_map (λ proc. edited_once proc part) slot else slot) ≡ table_in slot
part_once n q pid (Status status) slot apart of = elsewhere n q pid (Status status) slot apart of
part_once n q pid (Descriptor number name) slot apart of = elsewhere n q pid (Descriptor number name) slot apart of
part_once n q pid part slot apart of = nameless (q == pid.0) pid part slot tt

other_once : (n q : ℕ) (change : Change) (slot : Option Proc) → q ≢ n → IsNamesOf n change → table_in (slot_once q change slot) ≡ table_in slot
unfolding slot_once
other_once n q (Slot pid new) slot apart of = ap (λ (b : Bool). table_in (if b then new else slot)) (ne_eqb q pid.0 (λ z. apart (z ∙ of)))
other_once n q (Part pid part) slot apart of = part_once n q pid part slot apart of
other_once n q (Description number opened) slot apart of = refl
other_once n q (Pipe number part) slot apart of = refl

other_after : (n q : ℕ) (changes : List Change) (slot : Option Proc) → q ≢ n → AreNamesOf n changes → table_in (slot_after q changes slot) ≡ table_in slot
other_after n q [] slot apart of = refl
other_after n q (change ∷ changes) slot apart of =
    ap table_in (slot_first q change changes slot) ∙ other_after n q changes (slot_once q change slot) apart of.1 ∙ other_once n q change slot apart of.0

pub counts_in_turn : (parts : Parts) (changes : List Change) (n : ℕ) → IsPid (sizes_of parts) n → AreNamed parts changes → AreNamesOf n changes → CountsAgree parts →
    KeepsCounts (counted_in (slot_at parts.procs n)) (counted_in (slot_after n changes (slot_at parts.procs n))) parts.descs (descs_after changes parts.descs) →
    CountsAgree (applied parts changes)
counts_in_turn parts changes n there named of agree keeps =
    let new : Parts = applied parts changes in
    let now = slot_in_turn parts changes n named in
    let sized = length-applied parts changes in
    let high = there.high in
    let same : others_below n (length new.procs + 1) (plain new) ≡ others_of n (plain parts)
    = others_same n (length new.procs + 1) (plain new) (plain parts)
    (λ q apart. ap table_in (slot_in_turn parts changes q named) ∙ other_after n q changes (slot_at parts.procs q) apart of)
    ∙ ap (λ (w : ℕ). others_below n (w + 1) (plain parts)) sized in
    let rest = λ (d : ℕ). names_in d (others_of n (plain parts)) in
    let before = λ (d : ℕ).
    split d n (length parts.procs + 1) (plain parts) (omega (arith, high))
    ∙ ap (λ (k : ℕ). k + rest d) (counted_names d (slot_at parts.procs n)) in
    let after = λ (d : ℕ).
    split d n (length new.procs + 1) (plain new) (omega (arith, high, sized))
    ∙ ap (λ (ts : List Descriptors). names_in d (table_in (slot_at new.procs n)) + names_in d ts) same
    ∙ ap (λ (k : ℕ). k + rest d) (counted_names d (slot_at new.procs n) ∙ ap (λ (slot : Option Proc). count_in d (counted_in slot)) now) in
    subst (λ (descs : List (Option Opened)). Agrees (tables_of new) descs) (sym (descs_in_turn parts changes))
    (keeps_over (counted_in (slot_at parts.procs n)) (counted_in (slot_after n changes (slot_at parts.procs n))) (tables_of parts) (tables_of new)
    parts.descs (descs_after changes parts.descs) rest before after keeps agree)

-- the changes of plans

names_within : (sizes : Sizes) (pid : Pid) (names : List NewName) → IsPid sizes pid.0 → AreFds names → AreWithin sizes (name_changes pid names)
names_within sizes pid [] there fds = tt
names_within sizes pid (new ∷ names) there fds = ((there, fds.0), names_within sizes pid names there fds.1)

descs_within : (sizes : Sizes) (descs : List NewDesc) → sizes.descs ≡ 64 → AreNumbers descs → AreWithin sizes (desc_changes descs)
descs_within sizes [] full numbers = tt
descs_within sizes (new ∷ descs) full numbers = (let below = numbers.0 in omega (arith, below, full), descs_within sizes descs full numbers.1)

of_append : (n : ℕ) (front behind : List Change) → AreNamesOf n front → AreNamesOf n behind → AreNamesOf n (front ++ behind)
of_append n [] behind first last = last
of_append n (change ∷ front) behind first last = (first.0, of_append n front behind first.1 last)

names_of : (pid : Pid) (names : List NewName) → AreNamesOf pid.0 (name_changes pid names)
names_of pid [] = tt
names_of pid (new ∷ names) = (refl, names_of pid names)

descs_of : (n : ℕ) (descs : List NewDesc) → AreNamesOf n (desc_changes descs)
descs_of n [] = tt
descs_of n (new ∷ descs) = (tt, descs_of n descs)

pub plans_are_named : (parts : Parts) (pid : Pid) (names : List NewName) (descs : List NewDesc) → IsPid (sizes_of parts) pid.0 → length parts.descs ≡ 64 →
    AreFds names → AreNumbers descs →
    AreNamed parts (name_changes pid names ++ desc_changes descs) × AreNamesOf pid.0 (name_changes pid names ++ desc_changes descs)
plans_are_named parts pid names descs there full fds numbers = (
  AreWithin-append (sizes_of parts) (name_changes pid names) (desc_changes descs)
      (names_within (sizes_of parts) pid names there fds) (descs_within (sizes_of parts) descs full numbers),
  of_append pid.0 (name_changes pid names) (desc_changes descs) (names_of pid names) (descs_of pid.0 descs),
)

slot_append : (n : ℕ) (front behind : List Change) (slot : Option Proc) → slot_after n (front ++ behind) slot ≡ slot_after n behind (slot_after n front slot)
slot_append n [] behind slot = refl
slot_append n (Slot pid new ∷ front) behind slot = slot_append n front behind _
slot_append n (Part pid part ∷ front) behind slot = slot_append n front behind _
slot_append n (Description number opened ∷ front) behind slot = slot_append n front behind slot
slot_append n (Pipe number part ∷ front) behind slot = slot_append n front behind slot

descs_append : (front behind : List Change) (descs : List (Option Opened)) → descs_after (front ++ behind) descs ≡ descs_after behind (descs_after front descs)
descs_append [] behind descs = refl
descs_append (Slot pid new ∷ front) behind descs = descs_append front behind descs
descs_append (Part pid part ∷ front) behind descs = descs_append front behind descs
descs_append (Description number opened ∷ front) behind descs = descs_append front behind (slice_set descs number.0 opened)
descs_append (Pipe number part ∷ front) behind descs = descs_append front behind descs

slot_names : (pid : Pid) (names : List NewName) (slot : Option Proc) → slot_after pid.0 (name_changes pid names) slot ≡ option_map (with_put names) slot
slot_names pid [] None = refl
slot_names pid [] (Some proc) = refl
slot_names pid (new ∷ names) slot =
    ap (λ (b : Bool). slot_after pid.0 (name_changes pid names) (if b then option_map (λ proc. edited_once proc (Descriptor new.fd new.name)) slot else slot)) (eq-eqb pid.0 pid.0 refl)
    ∙ slot_names pid names (option_map (λ proc. edited_once proc (Descriptor new.fd new.name)) slot) ∙ both slot
  where
    both : (x : Option Proc) → option_map (with_put names) (option_map (λ proc. edited_once proc (Descriptor new.fd new.name)) x) ≡ option_map (with_put (new ∷ names)) x
    both None = refl
    both (Some proc) = refl

slot_descs : (n : ℕ) (descs : List NewDesc) (slot : Option Proc) → slot_after n (desc_changes descs) slot ≡ slot
slot_descs n [] slot = refl
slot_descs n (new ∷ descs) slot = slot_descs n descs slot

descs_names : (pid : Pid) (names : List NewName) (before : List (Option Opened)) → descs_after (name_changes pid names) before ≡ before
descs_names pid [] before = refl
descs_names pid (new ∷ names) before = descs_names pid names before

descs_descs : (descs : List NewDesc) (before : List (Option Opened)) → descs_after (desc_changes descs) before ≡ put_descs descs before
descs_descs [] before = refl
descs_descs (new ∷ descs) before = descs_descs descs (slice_set before new.number.0 new.opened)

pub plans_in_turn : (pid : Pid) (names : List NewName) (descs : List NewDesc) (changes : List Change) (slot : Option Proc) (before : List (Option Opened)) →
    (slot_after pid.0 (name_changes pid names ++ desc_changes descs ++ changes) slot ≡ slot_after pid.0 changes (option_map (with_put names) slot))
    × (descs_after (name_changes pid names ++ desc_changes descs ++ changes) before ≡ descs_after changes (put_descs descs before))
plans_in_turn pid names descs changes slot before = (
  slot_append pid.0 (name_changes pid names ++ desc_changes descs) changes slot
      ∙ ap (slot_after pid.0 changes) (slot_append pid.0 (name_changes pid names) (desc_changes descs) slot
      ∙ slot_descs pid.0 descs (slot_after pid.0 (name_changes pid names) slot) ∙ slot_names pid names slot),
  descs_append (name_changes pid names ++ desc_changes descs) changes before
      ∙ ap (descs_after changes) (descs_append (name_changes pid names) (desc_changes descs) before
      ∙ descs_descs descs (descs_after (name_changes pid names) before) ∙ ap (put_descs descs) (descs_names pid names before)),
)

-- changes that name nothing

nameless_of : (n : ℕ) (change : Change) → IsNameless change → IsNamesOf n change
nameless_of n (Slot pid slot) free = absurd free
nameless_of n (Description number opened) free = absurd free
nameless_of n (Pipe number part) free = tt
nameless_of n (Part pid (Status status)) free = absurd free
nameless_of n (Part pid (Descriptor number name)) free = absurd free
nameless_of n (Part pid part) free = tt

others_of_none : (n : ℕ) (changes : List Change) → AreNameless changes → AreNamesOf n changes
others_of_none n [] free = tt
others_of_none n (change ∷ changes) free = (nameless_of n change free.0, others_of_none n changes free.1)

counted_part : (b : Bool) (pid : Pid) (part : ProcPart) (slot : Option Proc) → IsNameless (Part pid part) →
    counted_in (if b then option_map (λ proc. edited_once proc part) slot else slot) ≡ counted_in slot
counted_part false pid part slot free = refl
counted_part true pid part None free = refl
counted_part true pid part (Some proc) free =
    let same = names_same proc pid part free in
    ap₂ (λ (status : Option ℕ) (table : Descriptors). if is_some status then [] else table) same.0 same.1

counted_once : (n : ℕ) (change : Change) (slot : Option Proc) → IsNameless change → counted_in (slot_once n change slot) ≡ counted_in slot
unfolding slot_once
counted_once n (Slot pid new) slot free = absurd free
counted_once n (Description number opened) slot free = absurd free
counted_once n (Pipe number part) slot free = refl
counted_once n (Part pid part) slot free = counted_part (n == pid.0) pid part slot free

counted_after : (n : ℕ) (changes : List Change) (slot : Option Proc) → AreNameless changes → counted_in (slot_after n changes slot) ≡ counted_in slot
counted_after n [] slot free = refl
counted_after n (change ∷ changes) slot free =
    ap counted_in (slot_first n change changes slot) ∙ counted_after n changes (slot_once n change slot) free.1 ∙ counted_once n change slot free.0

descs_stay : (changes : List Change) (descs : List (Option Opened)) → AreNameless changes → descs_after changes descs ≡ descs
descs_stay [] descs free = refl
descs_stay (Slot pid new ∷ changes) descs free = absurd free.0
descs_stay (Part pid part ∷ changes) descs free = descs_stay changes descs free.1
descs_stay (Description number opened ∷ changes) descs free = absurd free.0
descs_stay (Pipe number part ∷ changes) descs free = descs_stay changes descs free.1

-- changes that leave these descriptors and descriptions
counts_left : (parts : Parts) (changes : List Change) (n : ℕ) (table new : Descriptors) (after : List (Option Opened)) → IsPid (sizes_of parts) n → AreNamed parts changes →
    AreNamesOf n changes → CountsAgree parts → counted_in (slot_at parts.procs n) ≡ table → counted_in (slot_after n changes (slot_at parts.procs n)) ≡ new →
    descs_after changes parts.descs ≡ after → KeepsCounts table new parts.descs after → CountsAgree (applied parts changes)
counts_left parts changes n table new after there named of agree first last left keeps =
    counts_in_turn parts changes n there named of agree
    (subst (λ (t : Descriptors). KeepsCounts t (counted_in (slot_after n changes (slot_at parts.procs n))) parts.descs (descs_after changes parts.descs)) (sym first)
    (subst (λ (t : Descriptors). KeepsCounts table t parts.descs (descs_after changes parts.descs)) (sym last)
    (subst (λ (descs : List (Option Opened)). KeepsCounts table new parts.descs descs) (sym left) keeps)))

runs_counted : (proc : Proc) → proc.status ≡ None → counted_in (Some proc) ≡ proc.descriptors
runs_counted proc runs = ap (λ (status : Option ℕ). if is_some status then [] else proc.descriptors) runs

pub counts_planned : (parts : Parts) (pid : Pid) (proc : Proc) (names : List NewName) (descs : List NewDesc) (others : List Change) → IsPid (sizes_of parts) pid.0 →
    length parts.descs ≡ 64 → AreFds names → AreNumbers descs → AreNamed parts others → AreNameless others → CountsAgree parts →
    slot_at parts.procs pid.0 ≡ Some proc → proc.status ≡ None →
    KeepsCounts proc.descriptors (put_names names proc.descriptors) parts.descs (put_descs descs parts.descs) →
    CountsAgree (applied parts (name_changes pid names ++ desc_changes descs ++ others))
counts_planned parts pid proc names descs others there full fds numbers named free agree here runs keeps =
    let planned = name_changes pid names ++ desc_changes descs in
    let good = plans_are_named parts pid names descs there full fds numbers in
    let leaves = plans_in_turn pid names descs others (slot_at parts.procs pid.0) parts.descs in
    counts_left parts (planned ++ others) pid.0 proc.descriptors (put_names names proc.descriptors) (put_descs descs parts.descs) there
    (AreWithin-append (sizes_of parts) planned others good.0 named) (of_append pid.0 planned others good.1 (others_of_none pid.0 others free)) agree
    (ap counted_in here ∙ runs_counted proc runs)
    (ap counted_in leaves.0 ∙ counted_after pid.0 others (option_map (with_put names) (slot_at parts.procs pid.0)) free
    ∙ ap (λ (slot : Option Proc). counted_in (option_map (with_put names) slot)) here ∙ runs_counted (with_put names proc) runs)
    (leaves.1 ∙ descs_stay others (put_descs descs parts.descs) free) keeps

pub counts_replaced : (parts : Parts) (pid : Pid) (slot : Option Proc) (descs : List NewDesc) (others : List Change) → IsPid (sizes_of parts) pid.0 →
    length parts.descs ≡ 64 → AreNumbers descs → AreNamed parts others → AreNameless others → CountsAgree parts →
    KeepsCounts (counted_in (slot_at parts.procs pid.0)) (counted_in slot) parts.descs (put_descs descs parts.descs) →
    CountsAgree (applied parts (desc_changes descs ++ Slot pid slot ∷ others))
counts_replaced parts pid slot descs others there full numbers named free agree keeps =
    let last = Slot pid slot ∷ others in
    let good = plans_are_named parts pid [] descs there full tt numbers in
    let old = slot_at parts.procs pid.0 in
    let leaves = plans_in_turn pid [] descs last old parts.descs in
    counts_left parts (desc_changes descs ++ last) pid.0 (counted_in old) (counted_in slot) (put_descs descs parts.descs) there
    (AreWithin-append (sizes_of parts) (desc_changes descs) last good.0 (there, named)) (of_append pid.0 (desc_changes descs) last good.1 (refl, others_of_none pid.0 others free)) agree
    refl
    (ap counted_in leaves.0
    ∙ ap (λ (b : Bool). counted_in (slot_after pid.0 others (if b then slot else option_map (with_put []) old))) (eq-eqb pid.0 pid.0 refl)
    ∙ counted_after pid.0 others slot free)
    (leaves.1 ∙ descs_stay others (put_descs descs parts.descs) free) keeps
