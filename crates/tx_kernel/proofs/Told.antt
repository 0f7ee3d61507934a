-- How the parent of a process that ends is told.
use Rattle.std.proofs.Common.{◌≡◌, ℕ, Bool, true, false, Option, Some, None, if◌then◌else◌, ◌==◌, pos, ap, sym, ◌∙◌}
use Rattle.tx_kernel.specs.Actors.{inside_of, transaction_of}
use Rattle.tx_kernel.specs.Plans.{held_after}
use Rattle.tx_kernel.specs.declared.inside.Inside.{Inside}
use Rattle.tx_kernel.specs.declared.planned.Sends.TheVariants as sends
use Rattle.tx_base.specs.declared.names.Sending.{Sending}
use Rattle.tx_model.specs.Processes.{parent_notice, NotTold, AtOnce, notice_held}
use Rattle.tx_model.specs.Words.{notice_by, parent_notice_by}
use Rattle.tx_model.specs.State.{State, with_writes}

-- process 1 is not told
pub tells_nobody : (inside : Option Inside) (parent : ℕ) (S : State) → (parent == 1) ≡ true →
    with_writes (notice_held (parent_notice (inside_of inside) parent) parent S) S ≡ record S { held = held_after (inside_of inside) sends.Nothing S.held }
unfolding with_writes
tells_nobody None parent S first = ap (λ (b : Bool). with_writes (notice_held (if b then NotTold else AtOnce) parent S) S) first
tells_nobody (Some inside) parent S first =
    ap (λ (b : Bool). with_writes (notice_held (if b then NotTold else parent_notice_by (Some (transaction_of inside)) parent) parent S) S) first

-- outside of transactions the parent is told at once
pub tells_outside : (m : Sending) (parent : ℕ) (S : State) → (parent == 1) ≡ false →
    with_writes (notice_held (parent_notice (inside_of None) parent) parent S) S ≡ record S { held = held_after (inside_of None) (sends.AtOnce m) S.held }
unfolding with_writes
tells_outside m parent S other = ap (λ (b : Bool). with_writes (notice_held (if b then NotTold else AtOnce) parent S) S) other

-- so is a member
pub tells_member : (inside : Inside) (m : Sending) (parent : ℕ) (S : State) → (parent == 1) ≡ false → (transaction_of inside).members parent ≡ true →
    with_writes (notice_held (parent_notice (inside_of (Some inside)) parent) parent S) S ≡ record S { held = held_after (inside_of (Some inside)) (sends.AtOnce m) S.held }
unfolding with_writes
tells_member inside m parent S other member =
    ap (λ (b : Bool). with_writes (notice_held (if b then NotTold else parent_notice_by (Some (transaction_of inside)) parent) parent S) S) other
    ∙ ap (λ (b : Bool). with_writes (notice_held (notice_by (if b then None else Some (transaction_of inside))) parent S) S) member

-- another parent is told at the commit
pub tells_later : (inside : Inside) (m : Sending) (parent : ℕ) (S : State) → (parent == 1) ≡ false → (transaction_of inside).members parent ≡ false →
    m ≡ record { target = record { 0 = parent }; signo = record { 0 = 17 }; value = pos 0; from = None } →
    with_writes (notice_held (parent_notice (inside_of (Some inside)) parent) parent S) S ≡ record S { held = held_after (inside_of (Some inside)) (sends.AtCommit m) S.held }
unfolding with_writes
tells_later inside m parent S other outside is =
    ap (λ (b : Bool). with_writes (notice_held (if b then NotTold else parent_notice_by (Some (transaction_of inside)) parent) parent S) S) other
    ∙ ap (λ (b : Bool). with_writes (notice_held (notice_by (if b then None else Some (transaction_of inside))) parent S) S) outside
    ∙ ap (λ (n : Sending). record S { held = held_after (inside_of (Some inside)) (sends.AtCommit n) S.held }) (sym is)
