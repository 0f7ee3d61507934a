-- Processes in a text.
use Rattle.std.proofs.Common.{◌≡◌, ℕ, ◌+◌, ◌-◌, ◌<◌, ◌≤◌, ◌^◌, Bool, true, false, ◌&&◌, ◌==◌, if◌then◌else◌, List, [], ◌∷◌, ◌++◌, codes, Option, Some, None, drop, refl, sym, ap, ◌∙◌, arith, append_assoc, eqb-true}
use Rattle.std.specs.Prelude.{nat_lt, pos, FitsSigned}
use Rattle.std.specs.Int.{w64}
use Rattle.std.specs.Fmt.{decimal, signed_decimal}
use Rattle.std.proofs.lemmas.Bool.{ltb-false, and_parts}
use Rattle.tx_base.specs.declared.limits.TheConstants.{LAST_ID, LAST_POINT}
use Rattle.tx_base.specs.declared.names.Regs.{Regs}
use Rattle.tx_model.specs.State.{Ids, Process}
use Rattle.tx_laws.specs.WellFormed.{HasIdLimits, HasLimits, HasSizes}
use Rattle.tx_state_text.specs.Descriptors.{fds_text}
use Rattle.tx_state_text.specs.Processes.{are_root, end_text, ids_line, own_text, pages_text, process_lines, procs_text, status_text, three_ids}
use Rattle.tx_state_text.specs.Registers.{run_text, slots_line}
use Rattle.tx_state_text.specs.Signals.{signals_text}
use Rattle.tx_reads_back.specs.StateTexts.{HasTypes, IsStatus, shown, shown_registers}
use Rattle.tx_reads_back.proofs.Descriptors.{fds_rank, fds_unique}
use Rattle.tx_reads_back.proofs.Fronts.{in_number, number_unique, other_byte, regroup, signed_unique, Stops}
use Rattle.tx_reads_back.proofs.Items.{optional_unique, rank_front}
use Rattle.tx_reads_back.proofs.Lines.{AreLines, lines_unique}
use Rattle.tx_reads_back.proofs.Numbered.{numbered, Determines}
use Rattle.tx_reads_back.proofs.Pages.{pages_rank, pages_unique}
use Rattle.tx_reads_back.proofs.Ranks.{rank}
use Rattle.tx_reads_back.proofs.Registers.{slots_rank, slots_unique}
use Rattle.tx_reads_back.proofs.Signals.{signals_rank, signals_unique}

three_unique : (a b c x y z : ℕ) (R S : List ℕ) → a ≤ LAST_ID → b ≤ LAST_ID → c ≤ LAST_ID → x ≤ LAST_ID → y ≤ LAST_ID → z ≤ LAST_ID → Stops in_number R → Stops in_number S →
    three_ids a b c ++ R ≡ three_ids x y z ++ S → (a ≡ x) × (b ≡ y) × (c ≡ z) × (R ≡ S)
three_unique a b c x y z R S a_in b_in c_in x_in y_in z_in r s e =
    let first = number_unique a x (32 ∷ ((decimal b ++ 32 ∷ decimal c) ++ R)) (32 ∷ ((decimal y ++ 32 ∷ decimal z) ++ S)) (omega arith) (omega arith) refl refl
    (regroup (decimal a) (32 ∷ (decimal b ++ 32 ∷ decimal c)) R (decimal x) (32 ∷ (decimal y ++ 32 ∷ decimal z)) S (ap (drop 1) e)) in
    let second = number_unique b y (32 ∷ (decimal c ++ R)) (32 ∷ (decimal z ++ S)) (omega arith) (omega arith) refl refl
    (regroup (decimal b) (32 ∷ decimal c) R (decimal y) (32 ∷ decimal z) S (ap (drop 1) first.1)) in
    let third = number_unique c z R S (omega arith) (omega arith) r s (ap (drop 1) second.1) in
    (first.0, second.0, third.0, third.1)

all_root : (a b c d e f : ℕ) → (a == 0 && b == 0 && c == 0 && d == 0 && e == 0 && f == 0) ≡ true → (a ≡ 0) × (b ≡ 0) × (c ≡ 0) × (d ≡ 0) × (e ≡ 0) × (f ≡ 0)
all_root a b c d e f h = grind (arith, and_parts, eqb-true)

abbrev user : Ids → List ℕ
user ids = three_ids ids.real_user ids.effective_user ids.saved_user

abbrev group : Ids → List ℕ
group ids = three_ids ids.real_group ids.effective_group ids.saved_group

abbrev line : Ids → List ℕ
line ids = user ids ++ (group ids ++ 10 ∷ [])

ids_unique : (a b : Ids) (R S : List ℕ) → HasIdLimits a → HasIdLimits b → 1 < rank R → 1 < rank S → ids_line a ++ R ≡ ids_line b ++ S → (a ≡ b) × (R ≡ S)
ids_unique a b R S a_in b_in r s e =
    optional_unique 1 (a ≡ b) (are_root a) (are_root b) (codes "ids" ++ line a) (codes "ids" ++ line b) R S (λ t. refl) (λ t. refl) r s
    (λ none none'.
    let x = all_root a.real_user a.effective_user a.saved_user a.real_group a.effective_group a.saved_group none in
    let y = all_root b.real_user b.effective_user b.saved_user b.real_group b.effective_group b.saved_group none' in
    λ j. record {
      real_user = (x.0 ∙ sym y.0) j;
      effective_user = (x.1 ∙ sym y.1) j;
      saved_user = (x.2 ∙ sym y.2) j;
      real_group = (x.3 ∙ sym y.3) j;
      effective_group = (x.4 ∙ sym y.4) j;
      saved_group = (x.5 ∙ sym y.5) j;
    })
    (λ some some' same.
    let first = three_unique a.real_user a.effective_user a.saved_user b.real_user b.effective_user b.saved_user ((group a ++ 10 ∷ []) ++ R) ((group b ++ 10 ∷ []) ++ S)
    a_in.real_user a_in.effective_user a_in.saved_user b_in.real_user b_in.effective_user b_in.saved_user refl refl
    (regroup (user a) (group a ++ 10 ∷ []) R (user b) (group b ++ 10 ∷ []) S (ap (drop 3) same)) in
    let second = three_unique a.real_group a.effective_group a.saved_group b.real_group b.effective_group b.saved_group (10 ∷ R) (10 ∷ S)
    a_in.real_group a_in.effective_group a_in.saved_group b_in.real_group b_in.effective_group b_in.saved_group refl refl
    (regroup (group a) (10 ∷ []) R (group b) (10 ∷ []) S first.3) in (
      (λ j. record {
        real_user = first.0 j;
        effective_user = first.1 j;
        saved_user = first.2 j;
        real_group = second.0 j;
        effective_group = second.1 j;
        saved_group = second.2 j;
      }),
      ap (drop 1) second.3,
    )) e

-- the status of an ended process
status_unique : (m n : ℕ) (R S : List ℕ) → m < 2 ^ 16 → n < 2 ^ 16 → status_text m ++ R ≡ status_text n ++ S → (m ≡ n) × (R ≡ S)
status_unique m n R S m_in n_in e = by (nat_lt m 256) (nat_lt n 256) refl refl e
  where
    text : Bool → ℕ → List ℕ
    text b status = if b then codes " exit " ++ (decimal status ++ 10 ∷ []) else codes " killed " ++ (decimal (status - 256) ++ 10 ∷ [])

    by : (b c : Bool) → nat_lt m 256 ≡ b → nat_lt n 256 ≡ c → text b m ++ R ≡ text c n ++ S → (m ≡ n) × (R ≡ S)
    by true true is is' same =
        let unique = number_unique m n (10 ∷ R) (10 ∷ S) (omega arith) (omega arith) refl refl (regroup (decimal m) (10 ∷ []) R (decimal n) (10 ∷ []) S (ap (drop 6) same)) in
        (unique.0, ap (drop 1) unique.1)
    by true false is is' same = absurd (other_byte 1 same refl)
    by false true is is' same = absurd (other_byte 1 same refl)
    by false false is is' same =
        let unique = number_unique (m - 256) (n - 256) (10 ∷ R) (10 ∷ S) (omega arith) (omega arith) refl refl (regroup (decimal (m - 256)) (10 ∷ []) R (decimal (n - 256)) (10 ∷ []) S (ap (drop 8) same)) in
        let m_above : 256 ≤ m = ltb-false m 256 is in
        let n_above : 256 ≤ n = ltb-false n 256 is' in
        let same_rest : m - 256 ≡ n - 256 = unique.0 in
        (omega arith, ap (drop 1) unique.1)

end_stops : (status : Option ℕ) (regs : Regs) (R : List ℕ) → Stops in_number (end_text status regs ++ R)
end_stops status regs R = grind (arith, in_number)

runs_not : (regs : Regs) (status : ℕ) (R S : List ℕ) → run_text regs ++ R ≡ status_text status ++ S → ⊥
runs_not regs status R S e = grind (arith, other_byte)

-- the end of a process's first line determines its status, and with the slots its registers as they are shown
end_unique : (x y : Option ℕ) (a b : Regs) (R S : List ℕ) → IsStatus x → IsStatus y → a.point ≤ LAST_POINT → b.point ≤ LAST_POINT → FitsSigned w64 a.ret → FitsSigned w64 b.ret →
    end_text x a ++ R ≡ end_text y b ++ S → (x ≡ y) × (a.slots ≡ b.slots → shown_registers x a ≡ shown_registers y b) × (R ≡ S)
end_unique None None a b R S x_in y_in a_in b_in a_fits b_fits e =
    let a_end : List ℕ = codes " ret " ++ (signed_decimal a.ret ++ 10 ∷ []) in
    let b_end : List ℕ = codes " ret " ++ (signed_decimal b.ret ++ 10 ∷ []) in
    let point = number_unique a.point b.point (a_end ++ R) (b_end ++ S) (omega arith) (omega arith) refl refl (regroup (decimal a.point) a_end R (decimal b.point) b_end S (ap (drop 11) e)) in
    let ret = signed_unique a.ret b.ret (10 ∷ R) (10 ∷ S) a_fits b_fits refl refl (regroup (signed_decimal a.ret) (10 ∷ []) R (signed_decimal b.ret) (10 ∷ []) S (ap (drop 5) point.1)) in
    (refl, (λ slots j. record { point = point.0 j; ret = ret.0 j; slots = slots j }), ap (drop 1) ret.1)
end_unique None (Some n) a b R S x_in y_in a_in b_in a_fits b_fits e = absurd (runs_not a n R S e)
end_unique (Some m) None a b R S x_in y_in a_in b_in a_fits b_fits e = absurd (runs_not b m S R (sym e))
end_unique (Some m) (Some n) a b R S x_in y_in a_in b_in a_fits b_fits e =
    let unique = status_unique m n R S x_in y_in e in
    (ap Some unique.0, (λ slots j. record { point = 0; ret = pos 0; slots = slots j }), unique.1)

-- what is so of a process whose lines determine it
pub record IsPrintable (q : Process) : Type 0 where
  pub parent : q.parent < 2 ^ 64
  pub sizes : HasSizes q
  pub limits : HasLimits q
  pub types : HasTypes q

abbrev pub IsPrintableAt : Option Process → Type 0
IsPrintableAt None = Unit {0}
IsPrintableAt (Some q) = IsPrintable q

abbrev head_end : Process → List ℕ
head_end q = decimal q.parent ++ end_text q.status q.registers

process_rest : Option Process → Option (List ℕ)
process_rest None = None
process_rest (Some q) = Some (codes "parent " ++ (head_end q ++ own_text q))

process_numbered : (number : ℕ) (x : Option Process) → process_lines number x ≡ numbered (codes "proc ") 32 number (process_rest x)
unfolding process_rest
process_numbered number x = grind (arith, append_assoc)

module _ (q : Process) (R : List ℕ) (r : 9 < rank R) where
  after_pages : 3 < rank ((fds_text q.descriptors ++ signals_text q) ++ R)
  after_pages = rank_front 4 (fds_text q.descriptors) (signals_text q) R (fds_rank q.descriptors (signals_text q ++ R) (omega (arith, signals_rank q R r)))

  after_slots : 2 < rank ((pages_text q.memory ++ (fds_text q.descriptors ++ signals_text q)) ++ R)
  after_slots = rank_front 3 (pages_text q.memory) (fds_text q.descriptors ++ signals_text q) R (pages_rank q.memory ((fds_text q.descriptors ++ signals_text q) ++ R) (omega (arith, after_pages)))

  after_ids : 1 < rank ((slots_line q.registers.slots ++ (pages_text q.memory ++ (fds_text q.descriptors ++ signals_text q))) ++ R)
  after_ids = grind (arith, after_slots, rank_front, slots_rank)

process_unique : (x y : Option Process) (R S : List ℕ) → IsPrintableAt x → IsPrintableAt y → 9 < rank R → 9 < rank S → Determines (process_rest x) (process_rest y) R S (shown x ≡ shown y)
unfolding process_rest
process_unique None None R S x_good y_good r s = refl
process_unique None (Some q) R S x_good y_good r s = tt
process_unique (Some p) None R S x_good y_good r s = tt
process_unique (Some p) (Some q) R S x_good y_good r s = λ e.
    (let fds : (z : Process) → List ℕ = λ z. fds_text z.descriptors ++ signals_text z in
    let pages : (z : Process) → List ℕ = λ z. pages_text z.memory ++ fds z in
    let slots : (z : Process) → List ℕ = λ z. slots_line z.registers.slots ++ pages z in
    let ended : (z : Process) → List ℕ = λ z. end_text z.status z.registers in
    let head = regroup (head_end p) (own_text p) R (head_end q) (own_text q) S (ap (drop 7) e) in
    let parent = number_unique p.parent q.parent (ended p ++ (own_text p ++ R)) (ended q ++ (own_text q ++ S)) x_good.parent y_good.parent
    (end_stops p.status p.registers (own_text p ++ R)) (end_stops q.status q.registers (own_text q ++ S))
    (regroup (decimal p.parent) (ended p) (own_text p ++ R) (decimal q.parent) (ended q) (own_text q ++ S) head) in
    let end = end_unique p.status q.status p.registers q.registers (own_text p ++ R) (own_text q ++ S) x_good.types.status y_good.types.status x_good.limits.point y_good.limits.point
    x_good.types.registers.ret y_good.types.registers.ret parent.1 in
    let ids = ids_unique p.ids q.ids (slots p ++ R) (slots q ++ S) x_good.limits.ids y_good.limits.ids (after_ids p R r) (after_ids q S s) (regroup (ids_line p.ids) (slots p) R (ids_line q.ids) (slots q) S end.2) in
    let kept = slots_unique p.registers.slots q.registers.slots (pages p ++ R) (pages q ++ S) (x_good.sizes.slots ∙ sym y_good.sizes.slots) x_good.types.registers.slots y_good.types.registers.slots
    (after_slots p R r) (after_slots q S s) (regroup (slots_line p.registers.slots) (pages p) R (slots_line q.registers.slots) (pages q) S ids.1) in
    let memory = pages_unique p.memory q.memory (fds p ++ R) (fds q ++ S) x_good.sizes.pages y_good.sizes.pages (λ i d below. (x_good.limits.pages i d below, x_good.types.pages i d below)) (λ i d below. (y_good.limits.pages i d below, y_good.types.pages i d below))
    (after_pages p R r) (after_pages q S s) (regroup (pages_text p.memory) (fds p) R (pages_text q.memory) (fds q) S kept.1) in
    let names = fds_unique p.descriptors q.descriptors (signals_text p ++ R) (signals_text q ++ S) x_good.sizes.descriptors y_good.sizes.descriptors x_good.types.descriptors y_good.types.descriptors
    (signals_rank p R r) (signals_rank q S s) (regroup (fds_text p.descriptors) (signals_text p) R (fds_text q.descriptors) (signals_text q) S memory.1) in
    let signals = signals_unique p q R S x_good.sizes y_good.sizes x_good.limits y_good.limits x_good.types y_good.types r s names.1 in (
      (λ j. Some (record {
        registers = end.1 kept.0 j;
        parent = parent.0 j;
        status = end.0 j;
        ids = ids.0 j;
        memory = memory.0 j;
        descriptors = names.0 j;
        mask = signals.0.mask j;
        actions = signals.0.actions j;
        pending = signals.0.pending j;
        queued = signals.0.queued j;
        frames = signals.0.frames j;
      })),
      signals.1,
    ))

process_lines_determine : AreLines 10 (codes "proc ") process_lines process_rest shown IsPrintableAt
process_lines_determine = record { ranked = λ t. refl; spelled = process_numbered; unique = λ x y R S x_good y_good r s. process_unique x y R S x_good y_good (omega arith) (omega arith) }

pub procs_unique : (width : ℕ) (xs ys : ℕ → Option Process) (R S : List ℕ) → width < 2 ^ 16 → ((n : ℕ) → IsPrintableAt (xs n)) → ((n : ℕ) → IsPrintableAt (ys n)) → 10 < rank R → 10 < rank S →
    procs_text width xs ++ R ≡ procs_text width ys ++ S → ((i : ℕ) → i < width → shown (xs (i + 1)) ≡ shown (ys (i + 1))) × (R ≡ S)
procs_unique width xs ys R S small x_good y_good =
    lines_unique process_lines_determine (λ i. i + 1) (λ i j same. omega arith) width (λ i inside. omega arith) (λ i. xs (i + 1)) (λ i. ys (i + 1)) R S
    (λ i inside. x_good (i + 1)) (λ i inside. y_good (i + 1))
