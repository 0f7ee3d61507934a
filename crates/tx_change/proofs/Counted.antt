-- What changes of processes and of descriptions do to the counts of names.
use Rattle.std.proofs.Common.{◌≡◌, ℕ, zero, suc, ◌+◌, ◌≤◌, Bool, true, false, List, [], ◌∷◌, ◌++◌, Option, Some, None, IsSome, is_some, option_map, if◌then◌else◌, length, replicate, arith, refl, sym, ap, ap₂, subst, ◌∙◌}
use Rattle.std.proofs.lemmas.List.Sums.{sum_by-append}
use Rattle.std.specs.List.{All, Contains}
use Rattle.tx_base.specs.Slots.{slot_at, with_slot}
use Rattle.tx_base.specs.declared.names.Pid.{Pid}
use Rattle.tx_base.specs.SlotFacts.{slot_now, slot_other, length-with_slot}
use Rattle.tx_change.proofs.Tables.{split, others_same, tables_same, tables_few, tables_all, tables_contain}
use Rattle.tx_change.specs.Counts.{tables_below, tables_of, CountsAgree, with_names, RunsAt, IsNameless, AreNameless}
use Rattle.tx_change.proofs.Applied.{still_sized}
use Rattle.tx_change.specs.Exchange.{parts_after, applied, sizes_of, Sizes, AreWithin, IsPid, IsNamed, AreNamed}
use Rattle.tx_change.specs.Laws.{HaveAllPlaces, HasPlaces}
use Rattle.tx_change.specs.PartLaws.{PartLaws}
use Rattle.tx_change.specs.States.{state_of}
use Rattle.tx_change.specs.declared.change.Change.{Change}
use Rattle.tx_change.specs.declared.change.Change.TheVariants.{Slot, Part, Description, Pipe}
use Rattle.tx_change.specs.declared.parts.Parts.{Parts}
use Rattle.tx_desc.specs.CountFacts.{agrees_same}
use Rattle.tx_desc.specs.Counts.{Agrees, HasRoom, IsBacked, count_in, names_in, table_of, others_below, others_of}
use Rattle.tx_desc.specs.Places.{Descriptors, named_in}
use Rattle.tx_desc.specs.declared.opened.Opened.{Opened}
use Rattle.tx_model.specs.State.{Sending, State, boot_state, booted_process, is_between}
use Rattle.tx_proc.specs.Parts.{edited_once, process_in}
use Rattle.tx_proc.specs.declared.proc.Part.{Part as ProcPart}
use Rattle.tx_proc.specs.declared.proc.Part.TheVariants.{Status, Descriptor}
use Rattle.tx_proc.specs.declared.proc.Proc.{Proc}

-- the parts as a state, of which nothing is held
abbrev pub plain : Parts → State
plain parts = state_of (λ starter. []) parts

abbrev pub table_in : Option Proc → List Descriptors
table_in slot = table_of (process_in slot)

-- the names that all have are those of one process and of the others
names_split : (parts : Parts) (n d : ℕ) → IsPid (sizes_of parts) n → names_in d (table_in (slot_at parts.procs n) ++ others_of n (plain parts)) ≡ names_in d (tables_of parts)
names_split parts n d there =
    sum_by-append (count_in d) (table_in (slot_at parts.procs n)) (others_of n (plain parts))
    ∙ sym (split d n (length parts.procs + 1) (plain parts) (let high = there.high in omega (arith, high)))

others_stay : (parts : Parts) (n : ℕ) (slot : Option Proc) (descs : List (Option Opened)) → IsPid (sizes_of parts) n →
    others_of n (plain (with_names n slot descs parts)) ≡ others_of n (plain parts)
others_stay parts n slot descs there =
    let sized : length (with_slot parts.procs n slot) ≡ length parts.procs = length-with_slot parts.procs n slot in
    let new : State = plain (with_names n slot descs parts) in
    others_same n (length (with_slot parts.procs n slot) + 1) new (plain parts) (λ q apart. ap table_in (slot_other parts.procs n q slot there.low apart))
    ∙ ap (λ (w : ℕ). others_below n (w + 1) (plain parts)) sized

-- a process and the descriptions are replaced, in a way that keeps the counts whatever the others name
pub counts_replaced : (parts : Parts) (n : ℕ) (slot : Option Proc) (descs : List (Option Opened)) → IsPid (sizes_of parts) n → CountsAgree parts →
    ((others : List Descriptors) → Agrees (table_in (slot_at parts.procs n) ++ others) parts.descs → Agrees (table_in slot ++ others) descs) →
    CountsAgree (with_names n slot descs parts)
counts_replaced parts n slot descs there agree keeps =
    let new : Parts = with_names n slot descs parts in
    let sized : length new.procs ≡ length parts.procs = length-with_slot parts.procs n slot in
    let here : IsPid (sizes_of new) n = record { low = there.low; high = rw sized there.high } in
    let before = agrees_same (tables_of parts) (table_in (slot_at parts.procs n) ++ others_of n (plain parts)) parts.descs (λ d. names_split parts n d there) agree in
    let after = keeps (others_of n (plain parts)) before in
    agrees_same (table_in slot ++ others_of n (plain parts)) (tables_of new) descs
    (λ d. sym (names_split new n d here)
    ∙ ap₂ (λ (x : Option Proc) (ts : List Descriptors). names_in d (table_in x ++ ts)) (slot_now parts.procs n slot there.low there.high) (others_stay parts n slot descs there))
    after

-- the descriptors of a process that runs, and of one that has ended
running : (proc : Proc) → proc.status ≡ None → table_in (Some proc) ≡ proc.descriptors ∷ []
running proc runs = rw runs refl

ended_none : (status : Option ℕ) (table : Descriptors) → IsSome status → (if is_some status then [] else table ∷ []) ≡ []
ended_none None table there = cc
ended_none (Some n) table there = refl

running_at : (parts : Parts) (n : ℕ) (table : Descriptors) → RunsAt parts n table → table_in (slot_at parts.procs n) ≡ table ∷ []
running_at parts n table (proc, here, runs, has) = ap table_in here ∙ running proc runs ∙ ap (λ (t : Descriptors). t ∷ []) has

pub counts_kept : (parts : Parts) (n : ℕ) (table : Descriptors) (new : Proc) (descs : List (Option Opened)) → IsPid (sizes_of parts) n → CountsAgree parts →
    RunsAt parts n table → new.status ≡ None → ((others : List Descriptors) → Agrees (table ∷ others) parts.descs → Agrees (new.descriptors ∷ others) descs) →
    CountsAgree (with_names n (Some new) descs parts)
counts_kept parts n table new descs there agree here runs keeps =
    counts_replaced parts n (Some new) descs there agree
    (λ others a. subst (λ (ts : List Descriptors). Agrees (ts ++ others) descs) (sym (running new runs))
    (keeps others (subst (λ (ts : List Descriptors). Agrees (ts ++ others) parts.descs) (running_at parts n table here) a)))

pub counts_with_others : (held : ℕ → List Sending) (parts : Parts) (n : ℕ) (table : Descriptors) → IsPid (sizes_of parts) n → CountsAgree parts → RunsAt parts n table →
    Agrees (table ∷ others_of n (state_of held parts)) parts.descs
counts_with_others held parts n table there agree here =
    let both = agrees_same (tables_of parts) (table_in (slot_at parts.procs n) ++ others_of n (plain parts)) parts.descs (λ d. names_split parts n d there) agree in
    let same = others_same n (length parts.procs + 1) (plain parts) (state_of held parts) (λ q apart. refl) in
    subst (λ (others : List Descriptors). Agrees (table ∷ others) parts.descs) same
    (subst (λ (ts : List Descriptors). Agrees (ts ++ others_of n (plain parts)) parts.descs) (running_at parts n table here) both)

pub counts_forked : (parts : Parts) (n : ℕ) (child : Proc) (descs : List (Option Opened)) → IsPid (sizes_of parts) n → CountsAgree parts →
    slot_at parts.procs n ≡ None → child.status ≡ None → ((others : List Descriptors) → Agrees others parts.descs → Agrees (child.descriptors ∷ others) descs) →
    CountsAgree (with_names n (Some child) descs parts)
counts_forked parts n child descs there agree free runs keeps =
    counts_replaced parts n (Some child) descs there agree
    (λ others a. subst (λ (ts : List Descriptors). Agrees (ts ++ others) descs) (sym (running child runs))
    (keeps others (subst (λ (x : Option Proc). Agrees (table_in x ++ others) parts.descs) free a)))

pub counts_ended : (parts : Parts) (n : ℕ) (table : Descriptors) (ended : Proc) (descs : List (Option Opened)) → IsPid (sizes_of parts) n → CountsAgree parts →
    RunsAt parts n table → IsSome ended.status → ((others : List Descriptors) → Agrees (table ∷ others) parts.descs → Agrees others descs) →
    CountsAgree (with_names n (Some ended) descs parts)
counts_ended parts n table ended descs there agree here over keeps =
    counts_replaced parts n (Some ended) descs there agree
    (λ others a. subst (λ (ts : List Descriptors). Agrees (ts ++ others) descs) (sym (ended_none ended.status ended.descriptors over))
    (keeps others (subst (λ (ts : List Descriptors). Agrees (ts ++ others) parts.descs) (running_at parts n table here) a)))

pub counts_removed : (parts : Parts) (n : ℕ) (ended : Proc) → IsPid (sizes_of parts) n → CountsAgree parts →
    slot_at parts.procs n ≡ Some ended → IsSome ended.status → CountsAgree (with_names n None parts.descs parts)
counts_removed parts n ended there agree here over =
    counts_replaced parts n None parts.descs there agree
    (λ others a. subst (λ (ts : List Descriptors). Agrees (ts ++ others) parts.descs) (ap table_in here ∙ ended_none ended.status ended.descriptors over) a)

-- a part that is no status and no descriptor
pub names_same : (proc : Proc) (pid : Pid) (part : ProcPart) → IsNameless (Part pid part) →
    ((edited_once proc part).status ≡ proc.status) × ((edited_once proc part).descriptors ≡ proc.descriptors)
names_same proc pid (Status status) free = absurd free
names_same proc pid (Descriptor number name) free = absurd free
names_same proc pid part free = (refl, refl)

same_table : (proc : Proc) (pid : Pid) (part : ProcPart) → IsNameless (Part pid part) → table_in (Some (edited_once proc part)) ≡ table_in (Some proc)
same_table proc pid part free =
    let same = names_same proc pid part free in
    ap₂ (λ (status : Option ℕ) (table : Descriptors). if is_some status then [] else table ∷ []) same.0 same.1

pub same_table_in : (slot : Option Proc) (pid : Pid) (part : ProcPart) → IsNameless (Part pid part) → table_in (option_map (λ proc. edited_once proc part) slot) ≡ table_in slot
same_table_in None pid part free = refl
same_table_in (Some proc) pid part free = same_table proc pid part free

pub counts_elsewhere : (parts : Parts) (change : Change) → IsNamed parts change → IsNameless change → CountsAgree parts → CountsAgree (parts_after parts change)
counts_elsewhere parts (Part pid part) named free agree =
    counts_replaced parts pid.0 (option_map (λ proc. edited_once proc part) (slot_at parts.procs pid.0)) parts.descs named.0 agree
    (λ others a. subst (λ (ts : List Descriptors). Agrees (ts ++ others) parts.descs) (sym (same_table_in (slot_at parts.procs pid.0) pid part free)) a)
counts_elsewhere parts (Pipe number part) named free agree =
    let new : Parts = parts_after parts (Pipe number part) in
    subst (λ (ts : List Descriptors). Agrees ts parts.descs) (tables_same (length parts.procs + 1) (plain parts) (plain new) (λ q. refl)) agree
counts_elsewhere parts (Slot pid slot) named free agree = absurd free
counts_elsewhere parts (Description number opened) named free agree = absurd free

pub counts_nameless : (parts : Parts) (changes : List Change) → AreNamed parts changes → AreNameless changes → CountsAgree parts → CountsAgree (applied parts changes)
counts_nameless parts [] named free agree = agree
counts_nameless parts (change ∷ changes) named free agree =
    counts_nameless (parts_after parts change) changes (subst (λ (sizes : Sizes). AreWithin sizes changes) (sym (still_sized parts change)) named.1) free.1
    (counts_elsewhere parts change named.0 free.0 agree)

-- there is room for the names that calls add
sized_in : (slot : Option Proc) → HasPlaces slot → All (λ (each : Descriptors). length each ≡ 16) (table_in slot)
sized_in None places = λ k d below. absurd (omega (arith, below))
sized_in (Some proc) places = by (is_some proc.status)
  where
    one : All (λ (each : Descriptors). length each ≡ 16) (proc.descriptors ∷ [])
    one zero d below = places.descriptors
    one (suc k) d below = absurd (omega (arith, below))

    by : (b : Bool) → All (λ (each : Descriptors). length each ≡ 16) (if b then [] else proc.descriptors ∷ [])
    by true = λ k d below. absurd (omega (arith, below))
    by false = one

pub room_for_names : (laws : PartLaws) (parts : Parts) (n : ℕ) (table : Descriptors) → IsPid (sizes_of parts) n → CountsAgree parts → HaveAllPlaces parts → length parts.procs ≤ 256 →
    RunsAt parts n table → IsBacked 16 table parts.descs
room_for_names laws parts n table there agree places few here =
    let most : length (tables_below (suc (length parts.procs)) (plain parts)) ≤ length parts.procs = tables_few (length parts.procs) (plain parts) refl in
    let next : length parts.procs + 1 ≡ suc (length parts.procs) = omega arith in
    let fits : length (tables_of parts) ≤ 256 = rw next (omega (arith, most, few)) in
    laws.rooms (tables_of parts) parts.descs table agree fits
    (tables_all (λ (each : Descriptors). length each ≡ 16) (length parts.procs + 1) (plain parts) (λ q. sized_in (slot_at parts.procs q) (places q)))
    (tables_contain n (length parts.procs + 1) (plain parts) table (let high = there.high in omega (arith, high))
    (subst (λ (ts : List Descriptors). Contains ts table) (sym (running_at parts n table here)) (0, omega arith, refl)))

pub room_for_name : (laws : PartLaws) (parts : Parts) (n : ℕ) (table : Descriptors) (fd : Option ℕ) (room : ℕ) → room ≤ 16 → IsPid (sizes_of parts) n → CountsAgree parts →
    HaveAllPlaces parts → length parts.procs ≤ 256 → RunsAt parts n table → HasRoom room (named_in table fd) parts.descs
room_for_name laws parts n table fd room less there agree places few here =
    laws.room table parts.descs fd room less (room_for_names laws parts n table there agree places few here)

-- the booted parts
pub counts_booted : (parts : Parts) (width count : ℕ) → Agrees [] (replicate 64 None) → plain parts ≡ boot_state width count → parts.descs ≡ replicate 64 None → CountsAgree parts
unfolding tables_below
counts_booted parts width count nobody is none =
    subst (λ (descs : List (Option Opened)). Agrees (tables_of parts) descs) (sym none)
    (agrees_same [] (tables_of parts) (replicate 64 None) (λ d. nothing d (length parts.procs + 1)) nobody)
  where
    at : (d n : ℕ) → names_in d (table_of ((plain parts).procs n)) ≡ 0
    at d n = ap (λ (S : State). names_in d (table_of (S.procs n))) is ∙ by (is_between count n)
      where
        by : (b : Bool) → names_in d (table_of (if b then Some (booted_process n) else None)) ≡ 0
        by true = refl
        by false = refl

    nothing : (d n : ℕ) → names_in d (tables_below n (plain parts)) ≡ 0
    nothing d zero = refl
    nothing d (suc n) =
        sum_by-append (count_in d) (table_of ((plain parts).procs n)) (tables_below n (plain parts))
        ∙ ap₂ (λ (x y : ℕ). x + y) (at d n) (nothing d n)
