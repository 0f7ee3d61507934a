-- Posts and steps leave whole parts so.
use Rattle.std.proofs.Common.{◌≡◌, ◌≤◌, ℕ, zero, suc, All, List, [], length, pos, Option, Some, None, refl, arith, ap, sym, subst, ◌∙◌}
use Rattle.std.proofs.lemmas.List.Elements.{All-nil, All-replicate}
use Rattle.std.specs.Prelude.{true, replicate}
use Rattle.tx_base.specs.declared.names.Pid.{Pid}
use Rattle.tx_change.specs.Counts.{CountsAgree}
use Rattle.tx_change.specs.Exchange.{Sizes}
use Rattle.tx_change.specs.Laws.{HaveAllPlaces, SizesStayBack}
use Rattle.tx_change.specs.States.{state_of}
use Rattle.tx_change.specs.declared.change.Change.{Change}
use Rattle.tx_change.specs.declared.parts.Parts.{Parts}
use Rattle.tx_kernel.specs.Actors.{CountsHeld, IsWhole, inside_of}
use Rattle.tx_kernel.specs.Acts.{Makes}
use Rattle.tx_kernel.specs.Plans.{held_after}
use Rattle.tx_kernel.specs.declared.inside.Inside.{Inside}
use Rattle.tx_kernel.specs.declared.planned.Planned.{Planned}
use Rattle.tx_laws.specs.Laws.{EventKeepsForm, HeldKeepsForm, PostKeepsForm}
use Rattle.tx_laws.specs.WellFormed.{HasGoodNumbers, IsHeldSending, IsSendable, IsWellFormed}
use Rattle.tx_model.specs.Events.{Event, after}
use Rattle.tx_model.specs.Posts.{kill_signo, after_post}
use Rattle.tx_model.specs.Book.{member_sends}
use Rattle.tx_model.specs.State.{Sending, State, is_between}

pub posted_whole : PostKeepsForm → (parts new : Parts) (m : Sending) → ((held : ℕ → List Sending) → state_of held new ≡ after_post m (state_of held parts)) → (CountsAgree parts → CountsAgree new) →
    (HaveAllPlaces parts → HaveAllPlaces new) → IsSendable m → IsWhole parts → IsWhole new
posted_whole posted parts new m state counts places may whole =
    let nothing : ℕ → List Sending = λ starter. [] in
    record {
      counts = counts whole.counts;
      places = places whole.places;
      few = subst (λ (n : ℕ). n ≤ 256) (sym (ap (λ (S : State). S.width) (state nothing))) whole.few;
      formed = subst IsWellFormed (sym (state nothing)) (posted m (state_of nothing parts) may whole.formed);
    }

-- a signal that a member may have handed out
abbrev handed_out : Sending
handed_out = record { target = 1; signo = kill_signo; value = pos 0; from = Some (record { real = 0; effective = 0 }) }

-- so many signals are handed out, whatever the transaction
abbrev some_held : Option Inside → ℕ → List Sending
some_held None starter = []
some_held (Some inside) starter = replicate inside.held handed_out

some_sent : (count : ℕ) → member_sends (replicate count handed_out) ≡ count
unfolding member_sends
some_sent zero = refl
some_sent (suc count) = let rest = some_sent count in omega (arith, rest)

some_counted : (inside : Option Inside) → CountsHeld inside (some_held inside)
some_counted None = tt
some_counted (Some inside) = some_sent inside.held

some_known : (width : ℕ) (inside : Option Inside) → is_between width 1 ≡ true → (starter : ℕ) → All (IsHeldSending width) (some_held inside starter)
some_known width None first starter = All-nil (IsHeldSending width)
some_known width (Some inside) first starter = All-replicate (IsHeldSending width) inside.held handed_out (record { known = refl; target = first })

-- process 1 has a number that there is
one_between : (S : State) → IsWellFormed S → is_between S.width 1 ≡ true
one_between S formed = (formed.placed 1 formed.first.0 formed.first.1).number

-- a step of an event that chooses numbers in range, made, leaves whole parts so
pub made_whole : SizesStayBack → EventKeepsForm → HeldKeepsForm → (before : Parts) (pid : Pid) (inside : Option Inside) (event : Event) (log now : List Change) (new : Parts) (planned : Planned) →
    IsWhole before → HasGoodNumbers (length before.procs) event → Makes before pid inside event log now new planned → IsWhole new
unfolding after
made_whole sizes kept holding before pid inside event log now new planned whole good makes =
    let nothing : ℕ → List Sending = λ starter. [] in
    let held : ℕ → List Sending = some_held inside in
    let width : length before.procs ≡ length new.procs = ap (λ (p : Parts). length p.procs) (sym makes.back) ∙ ap (λ (s : Sizes). s.procs) (sizes new makes.kept) in
    let start : IsWellFormed (state_of held before) = holding held (state_of nothing before) (some_known (length before.procs) inside (one_between (state_of nothing before) whole.formed)) whole.formed in
    let then : IsWellFormed (state_of (held_after (inside_of inside) planned.sends held) new)
    = subst IsWellFormed (makes.gives held (some_counted inside)).state (kept event (state_of held before) start good) in
    record {
      counts = makes.counts;
      places = makes.places;
      few = subst (λ (n : ℕ). n ≤ 256) width whole.few;
      formed = holding nothing (state_of (held_after (inside_of inside) planned.sends held) new) (λ starter. All-nil (IsHeldSending (length new.procs))) then;
    }
