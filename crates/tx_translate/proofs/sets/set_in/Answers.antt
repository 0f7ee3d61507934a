use Rattle.std.proofs.Common.{◌≡◌, ◌∙◌, Option, Some, None, sym, ap, rules, ℕ}
use Rattle.tx_base.specs.Signals.{bits_of}
use Rattle.tx_translate.specs.Sets.{comma_parts, set_in, set_with, set_with_all}
use Rattle.tx_translate.specs.SignalNames.{signal_of}
use Rattle.tx_translate.proofs.SetParts.{comma_split, none_stays, part_last, part_more}
use Rattle.tx_translate.proofs.sets.set_in.Goals as goal

pub returns-in_err-set : goal.returns-in_err-set
returns-in_err-set c =
    let more = part_more (Some (bits_of c.loop-part.set)) c.loop-part.left.now c.in-Some.part.now c.in-Some.rest.now (sym c.in-Some.ensures) in
    let gone : None ≡ set_with (Some (bits_of c.loop-part.set)) (signal_of c.in-Some.part.now) = rw c.in_err-set.was at c.set_with.ensures in
    let none : set_in c.args.word.now ≡ None =
    c.loop-part.invariant ∙ more ∙ ap (λ (set : Option ℕ). set_with_all set (comma_parts c.in-Some.rest.now)) (sym gone) ∙ none_stays (comma_parts c.in-Some.rest.now) in
    rw none (search rules)

pub loop-part-smaller : goal.loop-part-smaller
loop-part-smaller c = (comma_split c.loop-part.left.now c.in-Some.part.now c.in-Some.rest.now (sym c.in-Some.ensures)).shorter

pub loop-part-preserved : goal.loop-part-preserved
loop-part-preserved c =
    let more = part_more (Some (bits_of c.loop-part.set)) c.loop-part.left.now c.in-Some.part.now c.in-Some.rest.now (sym c.in-Some.ensures) in
    let with : Some (bits_of c.in_ok-set.set) ≡ set_with (Some (bits_of c.loop-part.set)) (signal_of c.in-Some.part.now) = rw c.in_ok-set.was at c.set_with.ensures in
    c.loop-part.invariant ∙ more ∙ ap (λ (set : Option ℕ). set_with_all set (comma_parts c.in-Some.rest.now)) (sym with)

pub returns : goal.returns
returns c =
    let last = part_last (Some (bits_of c.loop-part.set)) c.loop-part.left.now (sym c.in_default.ensures) in
    c.set_with-2.ensures ∙ sym (c.loop-part.invariant ∙ last)
