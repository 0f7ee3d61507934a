use Rattle.std.proofs.Common.{Option, ap, sym, ◌∙◌}
use Rattle.tx_change.specs.States.{state_of}
use Rattle.tx_desc.specs.Descriptions.{described}
use Rattle.tx_desc.specs.declared.opened.Opened.{Opened}
use Rattle.tx_model.specs.Descriptors.{pipe_of, pipes_of}
use Rattle.tx_model.specs.State.{Desc, Pipe}
use Rattle.tx_reserve.proofs.Rows.{adds_none, adds_one, desc_with_pipe, desc_alone}
use Rattle.tx_reserve.proofs.footprints.add_desc_and_pipe.Goals as goal

pub returns-in_default : goal.returns-in_default
unfolding pipes_of
returns-in_default c = λ held. rw c.in_default.is (adds_none c.args.set.now)

pub returns-in-Some-get : goal.returns-in-Some-get
returns-in-Some-get c = λ held.
    let found = ap (λ (x : Option Opened). pipe_of (described x)) (sym c.get.ensures ∙ c.in-Some-get.is) in
    rw c.in-Some.is (desc_with_pipe (state_of held c.args.actor.now.parts.now) c.in-Some.number.0 c.in-Some-get.opened.desc.pipe.0 found
    (adds_one c.args.set.now c.insert.new.self (Desc c.in-Some.number.0) c.insert.ensures)
    (adds_one c.insert.new.self c.insert-in-Some-get.new.self (Pipe c.in-Some-get.opened.desc.pipe.0) c.insert-in-Some-get.ensures))

pub returns-in_default-get : goal.returns-in_default-get
returns-in_default-get c = λ held.
    let found = ap (λ (x : Option Opened). pipe_of (described x)) (sym c.get.ensures ∙ c.in_default-get.is) in
    rw c.in-Some.is (desc_alone (state_of held c.args.actor.now.parts.now) c.in-Some.number.0 found
    (adds_one c.args.set.now c.insert.new.self (Desc c.in-Some.number.0) c.insert.ensures))
