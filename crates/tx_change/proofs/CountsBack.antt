-- The counts of names after changes are taken back.
use Rattle.std.proofs.Common.{◌≡◌, ◌⊎◌, ℕ, zero, suc, ◌+◌, Bool, true, false, List, [], ◌∷◌, Option, Some, None, is_some, option_map, if◌then◌else◌, ◌==◌, length, slice_set, arith, refl, sym, ap, subst, ◌∙◌, inl, inr}
use Rattle.std.proofs.lemmas.List.Sums.{sum_by-append}
use Rattle.tx_base.specs.Slots.{slot_at}
use Rattle.tx_change.proofs.Applied.{AreNamed-sized, length-undone}
use Rattle.tx_change.proofs.Counted.{plain, table_in}
use Rattle.tx_change.proofs.InTurn.{slot_once, slot_next}
use Rattle.tx_change.proofs.Placed.{named_undone}
use Rattle.tx_change.proofs.Stated.{number_with}
use Rattle.tx_change.proofs.Tables.{tables_same}
use Rattle.tx_change.specs.Counts.{tables_below, CountsAgree}
use Rattle.tx_change.specs.CountsBack.{counting, opened_at}
use Rattle.tx_change.specs.Exchange.{object_of, parts_after, sizes_of, IsNamed, Sizes, AreNamed, undone}
use Rattle.tx_change.specs.Laws.{AreElsewhere}
use Rattle.tx_change.specs.declared.change.Change.{Change}
use Rattle.tx_change.specs.declared.change.Change.TheVariants.{Slot, Part, Description, Pipe}
use Rattle.tx_change.specs.declared.parts.Parts.{Parts}
use Rattle.tx_desc.specs.Counts.{count_in, names_in, table_of, HasNames}
use Rattle.tx_desc.specs.Places.{Descriptors, number_in}
use Rattle.tx_desc.specs.declared.opened.Opened.{Opened}
use Rattle.tx_model.specs.State.{State, Proc as TheProc, Desc as TheDesc, same_object}
use Rattle.tx_proc.specs.Parts.{edited_once}
use Rattle.tx_proc.specs.declared.proc.Part.{Part as ProcPart}
use Rattle.tx_proc.specs.declared.proc.Part.TheVariants.{Status, Descriptor}
use Rattle.tx_proc.specs.declared.proc.Proc.{Proc}

-- what counts of a process number decides the descriptors that count

counted_by : Option (Option ℕ × Descriptors) → List Descriptors
counted_by None = []
counted_by (Some (status, table)) = if is_some status then [] else table ∷ []

table_counting : (slot : Option Proc) → table_in slot ≡ counted_by (counting slot)
unfolding counted_by
table_counting None = refl
table_counting (Some proc) = refl

table_same : (one other : Option Proc) → counting one ≡ counting other → table_in one ≡ table_in other
table_same one other same = table_counting one ∙ ap counted_by same ∙ sym (table_counting other)

pub counts_of_names : (one other : Parts) → length one.procs ≡ length other.procs → ((n : ℕ) → counting (slot_at one.procs n) ≡ counting (slot_at other.procs n)) →
    ((d : ℕ) → opened_at one.descs d ≡ opened_at other.descs d) → CountsAgree one → CountsAgree other
counts_of_names one other sized same descs agree = record {
  counted = λ d. subst (HasNames (names_in d (tables_below (length other.procs + 1) (plain other)))) (descs d)
      (subst (λ (ts : List Descriptors). HasNames (names_in d ts) (opened_at one.descs d))
      (ap (λ (w : ℕ). tables_below (w + 1) (plain one)) sized
      ∙ tables_same (length other.procs + 1) (plain one) (plain other) (λ n. table_same (slot_at one.procs n) (slot_at other.procs n) (same n)))
      (agree.counted d));
}

-- a change makes of what counts the same where it was the same

edited_counting : ProcPart → Option (Option ℕ × Descriptors) → Option (Option ℕ × Descriptors)
edited_counting (Status status) = option_map (λ (c : Option ℕ × Descriptors). (status, c.1))
edited_counting (Descriptor number name) = option_map (λ (c : Option ℕ × Descriptors). (c.0, slice_set c.1 number (number_in name)))
edited_counting part = λ c. c

edited_counts : (part : ProcPart) (slot : Option Proc) → counting (option_map (λ proc. edited_once proc part) slot) ≡ edited_counting part (counting slot)
unfolding edited_counting
edited_counts (Status status) None = refl
edited_counts (Status status) (Some proc) = refl
edited_counts (Descriptor number name) None = refl
edited_counts (Descriptor number name) (Some proc) = refl
edited_counts part None = refl
edited_counts part (Some proc) = refl

edited_counts_same : (part : ProcPart) (one other : Option Proc) → counting one ≡ counting other →
    counting (option_map (λ proc. edited_once proc part) one) ≡ counting (option_map (λ proc. edited_once proc part) other)
edited_counts_same part one other same = edited_counts part one ∙ ap (edited_counting part) same ∙ sym (edited_counts part other)

either_same : (b : Bool) (a x c y : Option Proc) → counting a ≡ counting c → counting x ≡ counting y →
    counting (if b then a else x) ≡ counting (if b then c else y)
either_same true a x c y first last = first
either_same false a x c y first last = last

slot_once_same : (n : ℕ) (change : Change) (one other : Option Proc) → counting one ≡ counting other → counting (slot_once n change one) ≡ counting (slot_once n change other)
unfolding slot_once
slot_once_same n (Slot pid new) one other same = either_same (n == pid.0) new one new other refl same
slot_once_same n (Part pid part) one other same = either_same (n == pid.0) _ one _ other (edited_counts_same part one other same) same
slot_once_same n (Description number opened) one other same = same
slot_once_same n (Pipe number part) one other same = same

slot_once_elsewhere : (n : ℕ) (change : Change) (slot : Option Proc) → same_object (TheProc n) (object_of change) ≡ false → slot_once n change slot ≡ slot
unfolding slot_once
slot_once_elsewhere n (Slot pid new) slot apart = rw apart refl
slot_once_elsewhere n (Part pid part) slot apart = rw apart refl
slot_once_elsewhere n (Description number opened) slot apart = refl
slot_once_elsewhere n (Pipe number part) slot apart = refl

-- what a description number has after one change
opened_once : ℕ → Change → Option Opened → Option Opened
opened_once d (Description number new) opened = if d == number.0 then new else opened
opened_once d change opened = opened

opened_next : (parts : Parts) (change : Change) (d : ℕ) → IsNamed parts change → opened_at (parts_after parts change).descs d ≡ opened_once d change (opened_at parts.descs d)
unfolding opened_once
opened_next parts (Slot pid slot) d named = refl
opened_next parts (Part pid part) d named = refl
opened_next parts (Description number new) d named = number_with parts.descs number.0 new d named
opened_next parts (Pipe number part) d named = refl

opened_once_elsewhere : (d : ℕ) (change : Change) (opened : Option Opened) → same_object (TheDesc d) (object_of change) ≡ false → opened_once d change opened ≡ opened
unfolding opened_once
opened_once_elsewhere d (Slot pid slot) opened apart = refl
opened_once_elsewhere d (Part pid part) opened apart = refl
opened_once_elsewhere d (Description number new) opened apart = rw apart refl
opened_once_elsewhere d (Pipe number part) opened apart = refl

-- changes that are taken back

slot_back : (parts : Parts) (change : Change) (changes : List Change) (n : ℕ) → IsNamed parts change →
    slot_at (undone parts (change ∷ changes)).procs n ≡ slot_once n change (slot_at (undone parts changes).procs n)
slot_back parts change changes n named = slot_next (undone parts changes) change n (named_undone parts change changes named)

opened_back : (parts : Parts) (change : Change) (changes : List Change) (d : ℕ) → IsNamed parts change →
    opened_at (undone parts (change ∷ changes)).descs d ≡ opened_once d change (opened_at (undone parts changes).descs d)
opened_back parts change changes d named = opened_next (undone parts changes) change d (named_undone parts change changes named)

slot_elsewhere : (parts : Parts) (changes : List Change) (n : ℕ) → AreNamed parts changes → AreElsewhere (TheProc n) changes →
    slot_at (undone parts changes).procs n ≡ slot_at parts.procs n
slot_elsewhere parts [] n named apart = refl
slot_elsewhere parts (change ∷ changes) n named apart =
    slot_back parts change changes n named.0
    ∙ slot_once_elsewhere n change (slot_at (undone parts changes).procs n) apart.0
    ∙ slot_elsewhere parts changes n named.1 apart.1

opened_elsewhere : (parts : Parts) (changes : List Change) (d : ℕ) → AreNamed parts changes → AreElsewhere (TheDesc d) changes →
    opened_at (undone parts changes).descs d ≡ opened_at parts.descs d
opened_elsewhere parts [] d named apart = refl
opened_elsewhere parts (change ∷ changes) d named apart =
    opened_back parts change changes d named.0
    ∙ opened_once_elsewhere d change (opened_at (undone parts changes).descs d) apart.0
    ∙ opened_elsewhere parts changes d named.1 apart.1

pub back_elsewhere : (parts : Parts) (changes : List Change) → AreNamed parts changes →
    ((n : ℕ) → AreElsewhere (TheProc n) changes → slot_at (undone parts changes).procs n ≡ slot_at parts.procs n)
    × ((d : ℕ) → AreElsewhere (TheDesc d) changes → opened_at (undone parts changes).descs d ≡ opened_at parts.descs d)
back_elsewhere parts changes named = (λ n apart. slot_elsewhere parts changes n named apart, λ d apart. opened_elsewhere parts changes d named apart)

-- they leave the same at a number where it was the same
slot_back_same : (one other : Parts) (changes : List Change) (n : ℕ) → AreNamed one changes → AreNamed other changes →
    counting (slot_at one.procs n) ≡ counting (slot_at other.procs n) →
    counting (slot_at (undone one changes).procs n) ≡ counting (slot_at (undone other changes).procs n)
slot_back_same one other [] n named again same = same
slot_back_same one other (change ∷ changes) n named again same =
    ap counting (slot_back one change changes n named.0)
    ∙ slot_once_same n change (slot_at (undone one changes).procs n) (slot_at (undone other changes).procs n) (slot_back_same one other changes n named.1 again.1 same)
    ∙ sym (ap counting (slot_back other change changes n again.0))

opened_back_same : (one other : Parts) (changes : List Change) (d : ℕ) → AreNamed one changes → AreNamed other changes →
    opened_at one.descs d ≡ opened_at other.descs d →
    opened_at (undone one changes).descs d ≡ opened_at (undone other changes).descs d
opened_back_same one other [] d named again same = same
opened_back_same one other (change ∷ changes) d named again same =
    opened_back one change changes d named.0
    ∙ ap (opened_once d change) (opened_back_same one other changes d named.1 again.1 same)
    ∙ sym (opened_back other change changes d again.0)

-- two and two counts of names that have the same sum at each number have it in all
totals : (d w : ℕ) (after back before both : State) →
    ((n : ℕ) → names_in d (table_of (after.procs n)) + names_in d (table_of (back.procs n)) ≡ names_in d (table_of (before.procs n)) + names_in d (table_of (both.procs n))) →
    names_in d (tables_below w after) + names_in d (tables_below w back) ≡ names_in d (tables_below w before) + names_in d (tables_below w both)
unfolding tables_below
totals d zero after back before both each = refl
totals d (suc n) after back before both each =
    let rest = totals d n after back before both each in
    let here = each n in
    let a = sum_by-append (count_in d) (table_of (after.procs n)) (tables_below n after) in
    let b = sum_by-append (count_in d) (table_of (back.procs n)) (tables_below n back) in
    let c = sum_by-append (count_in d) (table_of (before.procs n)) (tables_below n before) in
    let e = sum_by-append (count_in d) (table_of (both.procs n)) (tables_below n both) in
    omega (arith, rest, here, a, b, c, e)

-- what a description has says how many names it has
names_one : (m n : ℕ) (opened : Option Opened) → HasNames m opened → HasNames n opened → m ≡ n
names_one m n None first last = first ∙ sym last
names_one m n (Some o) first last = sym first.1 ∙ last.1

-- of four counts of names, two and two of the same sum, and four descriptions, two and two the same, three that agree make the last one agree
names_led : (a b c e : ℕ) (before after back both : Option Opened) → b + c ≡ a + e → ((before ≡ back) × (after ≡ both)) ⊎ ((before ≡ after) × (back ≡ both)) →
    HasNames a before → HasNames b after → HasNames c back → HasNames e both
names_led a b c e before after back both total (inl same) first next led =
    let one : a ≡ c = names_one a c back (subst (HasNames a) same.0 first) led in
    let wanted : b ≡ e = omega (arith, one, total) in
    subst (λ (k : ℕ). HasNames k both) wanted (subst (HasNames b) same.1 next)
names_led a b c e before after back both total (inr same) first next led =
    let one : a ≡ b = names_one a b after (subst (HasNames a) same.0 first) next in
    let wanted : c ≡ e = omega (arith, one, total) in
    subst (λ (k : ℕ). HasNames k both) wanted (subst (HasNames c) same.1 led)

pub counts_led_back : (before after : Parts) (log : List Change) → sizes_of after ≡ sizes_of before → AreNamed before log →
    ((n : ℕ) → AreElsewhere (TheProc n) log ⊎ (counting (slot_at before.procs n) ≡ counting (slot_at after.procs n))) →
    ((d : ℕ) → AreElsewhere (TheDesc d) log ⊎ (opened_at before.descs d ≡ opened_at after.descs d)) →
    CountsAgree before → CountsAgree after → CountsAgree (undone before log) → CountsAgree (undone after log)
counts_led_back before after log sized named procs descs first next led = record {
  counted = λ d.
      names_led (sum d before) (sum d after) (sum d (undone before log)) (sum d (undone after log))
      (opened_at before.descs d) (opened_at after.descs d) (opened_at (undone before log).descs d) (opened_at (undone after log).descs d)
      (total d) (pair d (descs d)) (first.counted d) (next.counted d) (led.counted d);
}
  where
    again : AreNamed after log
    again = AreNamed-sized before after log sized named

    sum : ℕ → Parts → ℕ
    sum d parts = names_in d (tables_below (length parts.procs + 1) (plain parts))

    names_at : ℕ → Parts → ℕ → ℕ
    names_at d parts n = names_in d (table_in (slot_at parts.procs n))

    wide : (parts : Parts) → length parts.procs ≡ length before.procs → (d : ℕ) → sum d parts ≡ names_in d (tables_below (length before.procs + 1) (plain parts))
    wide parts same d = ap (λ (w : ℕ). names_in d (tables_below (w + 1) (plain parts))) same

    long : length after.procs ≡ length before.procs
    long = ap (λ (sizes : Sizes). sizes.procs) sized

    same_at : (d : ℕ) (one other : Parts) (n : ℕ) → counting (slot_at one.procs n) ≡ counting (slot_at other.procs n) → names_at d one n ≡ names_at d other n
    same_at d one other n same = ap (names_in d) (table_same (slot_at one.procs n) (slot_at other.procs n) same)

    each : (d n : ℕ) → AreElsewhere (TheProc n) log ⊎ (counting (slot_at before.procs n) ≡ counting (slot_at after.procs n)) →
        names_at d after n + names_at d (undone before log) n ≡ names_at d before n + names_at d (undone after log) n
    each d n (inl apart) =
        let left = same_at d (undone before log) before n (ap counting (slot_elsewhere before log n named apart)) in
        let right = same_at d (undone after log) after n (ap counting (slot_elsewhere after log n again apart)) in
        omega (arith, left, right)
    each d n (inr same) =
        let left = same_at d before after n same in
        let right = same_at d (undone before log) (undone after log) n (slot_back_same before after log n named again same) in
        omega (arith, left, right)

    total : (d : ℕ) → sum d after + sum d (undone before log) ≡ sum d before + sum d (undone after log)
    total d =
        let all = totals d (length before.procs + 1) (plain after) (plain (undone before log)) (plain before) (plain (undone after log)) (λ n. each d n (procs n)) in
        let x = wide after long d in
        let y = wide (undone before log) (length-undone before log) d in
        let z = wide (undone after log) (length-undone after log ∙ long) d in
        omega (arith, all, x, y, z)

    pair : (d : ℕ) → AreElsewhere (TheDesc d) log ⊎ (opened_at before.descs d ≡ opened_at after.descs d) →
        ((opened_at before.descs d ≡ opened_at (undone before log).descs d) × (opened_at after.descs d ≡ opened_at (undone after log).descs d))
        ⊎ ((opened_at before.descs d ≡ opened_at after.descs d) × (opened_at (undone before log).descs d ≡ opened_at (undone after log).descs d))
    pair d (inl apart) = inl (sym (opened_elsewhere before log d named apart), sym (opened_elsewhere after log d again apart))
    pair d (inr same) = inr (same, opened_back_same before after log d named again same)
