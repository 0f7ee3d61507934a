-- How many transactions are live after a step.
use Rattle.std.proofs.Common.{◌≡◌, ℕ, ◌+◌, ◌≤◌, Bool, true, false, Option, Some, is_some, IsOk, Result, is_err, arith, refl, sym, ap, subst, ◌∙◌}
use Rattle.tx_base.specs.declared.marks.Mark.{Mark}
use Rattle.tx_base.specs.declared.names.Pid.{Pid}
use Rattle.tx_base.specs.declared.steps.Call.TheVariants.{SysXabort}
use Rattle.tx_base.specs.declared.steps.Step.{Step}
use Rattle.tx_base.specs.declared.steps.Step.TheVariants.{Call as Calls, KernelAbort}
use Rattle.tx_base.specs.declared.steps.Reply.{Reply}
use Rattle.tx_core.specs.Lives.{lives, one_if}
use Rattle.tx_journal.proofs.Lives.{LessBut, among, no_more}
use Rattle.tx_journal.specs.Lives.{has_place, starter_by, starter_of}
use Rattle.tx_laws.specs.Fits.{Fits}
use Rattle.tx_laws.specs.Sound.{IsSound}
use Rattle.tx_laws.specs.TwoStates.{states_view}
use Rattle.tx_content.specs.Content.{view_of}
use Rattle.tx_content.specs.declared.content.Content.{Content}
use Rattle.tx_model.specs.Events.{process_of}
use Rattle.tx_model.specs.Membership.{Aborting, Progress, Forks, Begins, Role, Within, Table, is_live, is_of, marks_after, role, table_after, mark_unless_of}
use Rattle.tx_model.specs.Words.{kind_role}
use Rattle.tx_model.specs.State.{is_between}
use Rattle.tx_step.specs.Steps.{IsXabort}
use Rattle.tx_model.specs.View.{View, event_on, first_reply, next, role_on}

-- in each role but that of an end, no more are live then but the starter that begins
role_less : (r : Role) (p : ℕ) (t : Table) (s : ℕ) → ((u : ℕ) (defers : Bool) → r ≡ Within u (Begins defers) → u ≡ s) → ((u c : ℕ) → r ≡ Within u (Forks c) → u ≡ s) → LessBut s (table_after r p t) t
role_less r p t s begins forks = grind arith

-- a step inside of a transaction, or that begins it, is of the starter by whose number its mark goes
role_within : (t : Table) (step : Step) (r : Reply) (u : ℕ) (part : Progress) → role t step r ≡ Within u part → u ≡ starter_of t step
role_within t step r u part is = grind arith

-- after a step no other starter is live that was not
step_less : (V : View) (step : Step) → LessBut (starter_of V.table step) (next V step).table V.table
unfolding next
step_less V step = search (arith, role_less, role_within)

same_width : (V : View) (step : Step) → (next V step).table.width ≡ V.table.width
unfolding next
same_width V step = refl

between_bounds : (width n : ℕ) → is_between width n ≡ true → (1 ≤ n) × (n ≤ width)
between_bounds width n is = grind arith

starts_within : (V : View) → IsSound V → (s : ℕ) → is_live V.table s ≡ true → (1 ≤ s) × (s ≤ V.table.width)
starts_within V sound s live = between_bounds V.table.width s (sound.bounded s s live)

-- how many are live after a step
pub lives_after : (V : View) (step : Step) → IsSound V → IsSound (next V step) →
    lives (next V step).table + one_if (is_live V.table (starter_of V.table step)) ≤ lives V.table + one_if (is_live (next V step).table (starter_of V.table step))
lives_after V step sound after = grind (arith, among, no_more, same_width, starts_within, step_less)

-- an abort leaves its own not live
gone : (s : ℕ) (mark : Option Mark) → is_of s (mark_unless_of s mark) ≡ false
gone s mark = grind arith

pub kernel_ends : (V : View) (s : Pid) → is_live (next V (KernelAbort s)).table s.0 ≡ false
unfolding next
kernel_ends V s = gone s.0 (V.table.marks s.0)

pub member_ends : (V : View) (p : Pid) (m : Mark) → V.table.marks p.0 ≡ Some m → is_live (next V (Calls p SysXabort)).table m.starter.0 ≡ false
unfolding next
member_ends V p m at = ap (λ (mark : Option Mark). is_of m.starter.0 (marks_after (kind_role V.table p.0 Aborting (first_reply V (Calls p SysXabort)) mark) p.0 V.table.marks m.starter.0)) at ∙ gone m.starter.0 (V.table.marks m.starter.0)

-- a step that aborts a live transaction, if it fits, is of a starter that is live before it and not after
pub aborts_was : (V : View) (step : Step) → has_place V.table step ≡ true → Fits (role_on V step) (event_on V step) (process_of step) V → is_live V.table (starter_of V.table step) ≡ true
aborts_was V step is fits = grind arith

left_by : (V : View) (p : Pid) (mark : Option Mark) → V.table.marks p.0 ≡ mark → is_some mark ≡ true → is_live (next V (Calls p SysXabort)).table (starter_by p.0 mark) ≡ false
left_by V p mark at is = grind (arith, member_ends)

pub aborts_is : (V : View) (step : Step) → has_place V.table step ≡ true → is_live (next V step).table (starter_of V.table step) ≡ false
aborts_is V step is = grind (arith, kernel_ends, left_by)

-- a member's sys_xabort has its place
pub xabort_place : (k : Content) (step : Step) → IsXabort k step → has_place (view_of k).table step ≡ true
unfolding view_of states_view
xabort_place k step (pid, same, some) = subst (λ (x : Step). has_place (view_of k).table x ≡ true) (sym same) some

-- and so it is not refused
pub not_refused : {T E : Type 0} (r : Result T E) → IsOk r → is_err r ≡ true → ⊥
not_refused r ok is = grind arith
