-- The entries of a signal, taken out of the queue one after another.
use Rattle.std.proofs.Common.{◌≡◌, ◌<◌, ◌≤◌, ℕ, suc, ◌+◌, ◌-◌, Bool, true, false, List, [], ◌∷◌, ◌++◌, length, drop, slice_index_or, ◌==◌, if◌then◌else◌, None, refl, ap, sym, ◌∙◌, subst, arith, append_assoc, length-append, length-drop}
use Rattle.std.proofs.Math.Seq.{drop-cons}
use Rattle.std.proofs.lemmas.Bool.{lt-ltb, le-ltb}
use Rattle.std.proofs.lemmas.List.Edits.{remove-append_right}
use Rattle.std.specs.List.{remove}
use Rattle.tx_base.specs.declared.limits.TheConstants.{QUEUED}
use Rattle.tx_change.specs.declared.change.Change.{Change}
use Rattle.tx_change.specs.declared.change.Change.TheVariants.{Part as SetPart}
use Rattle.tx_kernel.proofs.PartsOwned.{part_none, part_more}
use Rattle.tx_kernel.specs.Actors.{me_of}
use Rattle.tx_kernel.specs.Discards.{TakenOut, queue_of}
use Rattle.tx_kernel.specs.Own.{PlansPart}
use Rattle.tx_kernel.specs.declared.actor.Actor.{Actor}
use Rattle.tx_model.specs.Signals.{without_signal, queued_others}
use Rattle.tx_model.specs.State.{Process, Queued}
use Rattle.tx_proc.specs.Parts.{queue_swapped}
use Rattle.tx_proc.specs.declared.proc.Part.TheVariants.{Queued as SetQueued}

-- an entry between others, taken out
out_between : (kept : List Queued) (entry : Queued) (rest : List Queued) → length (kept ++ entry ∷ rest) ≤ QUEUED →
    queue_swapped (length kept) None (kept ++ entry ∷ rest) ≡ kept ++ rest
out_between kept entry rest few =
    let whole = le-ltb QUEUED (length (kept ++ entry ∷ rest)) few in
    let there = lt-ltb (length kept) (length (kept ++ entry ∷ rest)) (omega (arith, length-append {A = Queued})) in
    let none : length kept - length kept ≡ 0 = omega arith in
    rw whole (rw there (remove-append_right kept (entry ∷ rest) (length kept) (length kept) refl (omega arith)
    ∙ ap (λ (n : ℕ). kept ++ remove (entry ∷ rest) n) none))

kept_long : (kept : List Queued) (entry : Queued) (rest : List Queued) (count long : ℕ) → length kept ≤ count → long ≤ QUEUED → {d : ℕ} →
    length (entry ∷ rest) ≡ d → d ≡ long - count → length (kept ++ entry ∷ rest) ≤ QUEUED
kept_long kept entry rest count long few fits here dropped = omega (arith, few, fits, here, dropped, length-append {A = Queued})

nothing : (actor : Actor) (log : List Change) → PlansPart actor log log (λ me. record me { queued = drop 0 (queue_of actor) })
nothing actor log = let none = part_none actor log in record { plan = none.plan; added = none.added; own = none.own; nameless = none.nameless; process = none.process }

pub none_out : (actor : Actor) (log : List Change) (signo : ℕ) → TakenOut actor log log signo 0 0
none_out actor log signo = record { kept = []; as_many = refl; few = omega arith; plan = nothing actor log; left = refl }

-- the queue from an entry on
others_from : (signo : ℕ) (entry : Queued) (rest : List Queued) (b : Bool) → (entry.signo == signo) ≡ b →
    queued_others signo (entry ∷ rest) ≡ (if b then queued_others signo rest else entry ∷ queued_others signo rest)
others_from signo entry rest b same = ap (λ (x : Bool). if x then queued_others signo rest else entry ∷ queued_others signo rest) same

-- an entry of the signal goes
pub one_out : (actor : Actor) (before between now : List Change) (signo count place : ℕ) (entry : Queued) → TakenOut actor before between signo count place →
    length (queue_of actor) ≤ QUEUED → drop count (queue_of actor) ≡ entry ∷ drop (count + 1) (queue_of actor) → (entry.signo == signo) ≡ true →
    now ≡ between ++ SetPart actor.pid (SetQueued place None) ∷ [] → TakenOut actor before now signo (count + 1) place
one_out actor before between now signo count place entry out fits here same last =
    let queue : List Queued = queue_of actor in
    let rest : List Queued = drop (count + 1) queue in
    let more = part_more actor before between now (λ me. record me { queued = out.kept ++ drop count queue }) (SetQueued place None) out.plan tt tt last in
    let long : length (out.kept ++ entry ∷ rest) ≤ QUEUED = kept_long out.kept entry rest count (length queue) (omega (arith, out.few, sym out.as_many)) fits (ap (λ (q : List Queued). length q) (sym here)) (length-drop count queue) in
    let gone : queue_swapped place None (out.kept ++ drop count queue) ≡ out.kept ++ rest
    = (λ j. queue_swapped (out.as_many j) None (out.kept ++ here j)) ∙ out_between out.kept entry rest long in
    record {
      kept = out.kept;
      as_many = out.as_many;
      few = omega (arith, out.few);
      plan = record {
        plan = more.plan;
        added = more.added;
        own = more.own;
        nameless = more.nameless;
        process = more.process ∙ ap (λ (q : List Queued). record (me_of actor) { queued = q }) gone;
      };
      left = ap (λ (q : List Queued). out.kept ++ q) (sym (ap (queued_others signo) here ∙ others_from signo entry rest true same)) ∙ out.left;
    }

-- another one stays
pub one_kept : (actor : Actor) (before now : List Change) (signo count place : ℕ) (entry : Queued) → TakenOut actor before now signo count place →
    drop count (queue_of actor) ≡ entry ∷ drop (count + 1) (queue_of actor) → (entry.signo == signo) ≡ false → TakenOut actor before now signo (count + 1) (place + 1)
one_kept actor before now signo count place entry out here other =
    let queue : List Queued = queue_of actor in
    let rest : List Queued = drop (count + 1) queue in
    let split : out.kept ++ drop count queue ≡ (out.kept ++ entry ∷ []) ++ rest = ap (λ (q : List Queued). out.kept ++ q) here ∙ sym (append_assoc out.kept (entry ∷ []) rest) in
    record {
      kept = out.kept ++ entry ∷ [];
      as_many = omega (arith, out.as_many, length-append {A = Queued});
      few = omega (arith, out.few);
      plan = record {
        plan = out.plan.plan;
        added = out.plan.added;
        own = out.plan.own;
        nameless = out.plan.nameless;
        process = out.plan.process ∙ ap (λ (q : List Queued). record (me_of actor) { queued = q }) split;
      };
      left = append_assoc out.kept (entry ∷ []) (queued_others signo rest)
          ∙ ap (λ (q : List Queued). out.kept ++ q) (sym (ap (queued_others signo) here ∙ others_from signo entry rest false other)) ∙ out.left;
    }

-- the entry at an index is the first from there on
pub here_at : (queue items : List Queued) (at : ℕ) (entry : Queued) → items ≡ queue → at < length items → entry ≡ slice_index_or items at entry →
    drop at queue ≡ entry ∷ drop (at + 1) queue
here_at queue items at entry whole there is =
    subst (λ (q : List Queued). drop at q ≡ entry ∷ drop (at + 1) q) whole
    (drop-cons items at entry there ∙ (λ j. sym is j ∷ drop (one j) items))
  where
    one : suc at ≡ at + 1
    one = omega arith

-- what is discarded leaves the registers
pub stays_there : (b : Bool) (signo : ℕ) (me : Process) → (if b then without_signal signo me else me).registers.point ≡ me.registers.point
stays_there true signo me = refl
stays_there false signo me = refl
