use Rattle.std.proofs.Common.{ℕ, [], ◌∷◌, eq-eqb, refl, subst, sym}
use Rattle.tx_change.specs.declared.change.Change.{Change}
use Rattle.tx_kernel.proofs.PostPlans.{part_posted, part_back, part_named, failed_state}
use Rattle.tx_kernel.proofs.PostedWhole.{posted_whole}
use Rattle.tx_kernel.proofs.PendingAlone.{but_pending}
use Rattle.tx_kernel.specs.PostFacts.{but_none}
use Rattle.tx_kernel.specs.Plans.{sending_of, AreAmong}
use Rattle.tx_model.specs.State.{Proc, has_object}
use Rattle.tx_kernel.proofs.posts.post.Goals as goal

pub returns-in-Ok-Some-clause-state : goal.returns-in-Ok-Some-clause-state
returns-in-Ok-Some-clause-state c =
    (part_posted c.laws.ensures c.args.parts.now c.swap.new.parts (sending_of c.args.sending.now) c.args.sending.now.target c.in-Ok-Some.field-0 c.in-Ok-Some.part refl c.in-Ok-Some.field-0-is
    c.in-Ok-Some.ensures c.swap.ensures.parts).0

pub returns-in-Ok-Some-clause-back : goal.returns-in-Ok-Some-clause-back
returns-in-Ok-Some-clause-back c =
    part_back c.laws.ensures c.args.parts.now c.swap.new.parts (sending_of c.args.sending.now) c.args.sending.now.target c.in-Ok-Some.field-0 c.in-Ok-Some.part c.swap.new.self refl c.in-Ok-Some.field-0-is
    c.in-Ok-Some.ensures c.swap.ensures.parts c.swap.ensures.change

pub returns-in-Ok-Some-clause-counts : goal.returns-in-Ok-Some-clause-counts
returns-in-Ok-Some-clause-counts c =
    (part_posted c.laws.ensures c.args.parts.now c.swap.new.parts (sending_of c.args.sending.now) c.args.sending.now.target c.in-Ok-Some.field-0 c.in-Ok-Some.part refl c.in-Ok-Some.field-0-is
    c.in-Ok-Some.ensures c.swap.ensures.parts).1

pub returns-in-Ok-Some-clause-places : goal.returns-in-Ok-Some-clause-places
returns-in-Ok-Some-clause-places c =
    (part_posted c.laws.ensures c.args.parts.now c.swap.new.parts (sending_of c.args.sending.now) c.args.sending.now.target c.in-Ok-Some.field-0 c.in-Ok-Some.part refl c.in-Ok-Some.field-0-is
    c.in-Ok-Some.ensures c.swap.ensures.parts).2

pub returns-in-Err-clause-state : goal.returns-in-Err-clause-state
returns-in-Err-clause-state c = λ held. failed_state held c.args.parts.now (sending_of c.args.sending.now) c.in-Err.errno c.in-Err.ensures

pub returns-in-Ok-Some-clause-named : goal.returns-in-Ok-Some-clause-named
returns-in-Ok-Some-clause-named c =
    part_named c.laws.ensures c.args.parts.now c.swap.new.parts (sending_of c.args.sending.now) c.args.sending.now.target c.in-Ok-Some.field-0 c.in-Ok-Some.part c.swap.new.self refl c.in-Ok-Some.field-0-is
    c.in-Ok-Some.ensures c.swap.ensures.parts c.swap.ensures.change

pub returns-in-Ok-Some-clause-whole : goal.returns-in-Ok-Some-clause-whole
returns-in-Ok-Some-clause-whole c =
    let made = part_posted c.laws.ensures c.args.parts.now c.swap.new.parts (sending_of c.args.sending.now) c.args.sending.now.target c.in-Ok-Some.field-0 c.in-Ok-Some.part refl c.in-Ok-Some.field-0-is
    c.in-Ok-Some.ensures c.swap.ensures.parts in
    posted_whole c.well_formed-2.ensures.posted c.args.parts.now c.swap.new.parts (sending_of c.args.sending.now) made.0 made.1 made.2

pub returns-in-Ok-Some-clause-among : goal.returns-in-Ok-Some-clause-among
unfolding has_object
returns-in-Ok-Some-clause-among c =
    let n : ℕ = c.args.sending.now.target.0 in
    subst (λ (change : Change). AreAmong (Proc n ∷ []) (change ∷ [])) (sym c.swap.ensures.change) (rw (eq-eqb n n refl) refl, tt)

pub returns-in-Ok-Some-clause-rest : goal.returns-in-Ok-Some-clause-rest
returns-in-Ok-Some-clause-rest c =
    but_pending c.args.parts.now c.swap.new.parts (sending_of c.args.sending.now) c.args.sending.now.target c.in-Ok-Some.field-0 c.in-Ok-Some.part refl c.in-Ok-Some.field-0-is c.in-Ok-Some.ensures
    c.swap.ensures.parts

pub returns-in-Ok-None-clause-rest : goal.returns-in-Ok-None-clause-rest
returns-in-Ok-None-clause-rest c = but_none c.args.parts.now

pub returns-in-Err-clause-rest : goal.returns-in-Err-clause-rest
returns-in-Err-clause-rest c = but_none c.args.parts.now
