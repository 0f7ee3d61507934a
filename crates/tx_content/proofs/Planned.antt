-- Who makes a step, and what is planned for it.
use Rattle.std.proofs.Common.{◌≡◌, ℕ, ◌++◌, List, [], length, take, Option, Some, option_map, inl, inr, refl, ap, sym, subst, ◌∙◌}
use Rattle.std.proofs.lemmas.List.{take_at}
use Rattle.tx_base.specs.Slots.{slot_at}
use Rattle.tx_base.specs.declared.names.Pid.{Pid}
use Rattle.tx_change.specs.Exchange.{applied, exchanged}
use Rattle.tx_change.specs.declared.change.Change.{Change}
use Rattle.tx_change.specs.declared.parts.Parts.{Parts}
use Rattle.tx_kernel.specs.Actors.{CountsHeld}
use Rattle.tx_kernel.specs.Acts.{Makes, RefusesEvent, event_of}
use Rattle.tx_base.specs.declared.steps.Refusal.{Refusal}
use Rattle.tx_kernel.specs.declared.events.Act.{Act}
use Rattle.tx_kernel.specs.declared.inside.Inside.{Inside}
use Rattle.tx_kernel.specs.declared.planned.Planned.{Planned}
use Rattle.tx_content.specs.Content.{held_in, held_of, IsShaped}
use Rattle.tx_content.specs.Insides.{RefusesIn, inside_in}
use Rattle.tx_content.specs.declared.content.BoxedTxn.{BoxedTxn}
use Rattle.tx_content.specs.declared.content.Content.{Content}
use Rattle.tx_content.specs.Made.{IsPlanned, RefusesStep}
use Rattle.tx_model.specs.Book.{member_sends}
use Rattle.tx_model.specs.Effects.{Inside as TheInside}
use Rattle.tx_model.specs.Events.{Event}
use Rattle.tx_txn.specs.Txns.{inside_at}

-- a plan at the end of an empty log is all of it
pub makes_all : (parts : Parts) (pid : Pid) (inside : Option Inside) (event : Event) (before between : List Change) (planned : Planned) → before ≡ [] →
    IsPlanned parts pid inside event before between planned → Makes parts pid inside event [] (exchanged parts between) (applied parts between) planned
makes_all parts pid inside event before between planned empty plans =
    subst (λ (log : List Change). IsPlanned parts pid inside event log between planned) empty plans (applied parts between) (exchanged parts between) refl refl

pub kept_front : (before now plan : List Change) → now ≡ before ++ plan → take (length before) now ≡ before
kept_front before now plan added = ap (take (length before)) added ∙ take_at before plan (length before) refl

-- what a plan refuses, for the content that it was made of
pub refuses_step : (k : Content) (inside : Option Inside) (event : Event) (why : Refusal) → CountsHeld inside (held_of k) → RefusesEvent k.parts inside event why → RefusesStep k event why
refuses_step k inside event why counts (inl (inl memory)) = inl memory
refuses_step k inside event why counts (inl (inr refused)) = inr (inl (refused (held_of k) counts))
refuses_step k inside event why counts (inr bad) = inr (inr bad)

-- the same of a member of the starter's transaction
pub refuses_inside : (k : Content) (pid starter : Pid) (act : Act) (boxed : BoxedTxn) (why : Refusal) → IsShaped k → slot_at k.txns starter.0 ≡ Some boxed →
    RefusesIn k.parts k.marks pid act boxed.txn.value why → RefusesStep k (event_of (inside_in k starter) pid act) why
refuses_inside k pid starter act boxed why shaped there refused =
    let inside_is : inside_in k starter ≡ Some (inside_at boxed.txn.value k.marks) = ap (option_map (λ (b : BoxedTxn). inside_at b.txn.value k.marks)) there in
    let starter_is : refused.inside.starter.0 ≡ starter.0 = ap (λ (i : TheInside). i.starter) refused.is ∙ (shaped.each starter.0 boxed there).starter in
    let counts : CountsHeld (Some refused.inside) (held_of k)
    = ap (λ (n : ℕ). member_sends (held_of k n)) starter_is ∙ ap member_sends (ap held_in there) ∙ sym refused.held in
    subst (λ (inside : Option TheInside). RefusesStep k (event_of inside pid act) why) (sym inside_is) (refuses_step k (Some refused.inside) (event_of (Some (inside_at boxed.txn.value k.marks)) pid act) why counts refused.refuses)
