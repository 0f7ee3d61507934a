use Rattle.std.proofs.Common.{◌≡◌, true, ◌∙◌, Some, ap, codes, sym}
use Rattle.std.proofs.lemmas.Option.{IfSome_then}
use Rattle.tx_base.specs.Signals.{bits_of}
use Rattle.tx_base.specs.declared.signals.SigSet.{SigSet}
use Rattle.tx_lines.proofs.SignalLists.{empty_of, empty_text, listed_of, listed_text, same_set}
use Rattle.tx_lines.proofs.read.sets.read_set.Goals as goal

pub returns-then-is_dash-clause-found : goal.returns-then-is_dash-clause-found
returns-then-is_dash-clause-found c = c.is_dash.ensures.0 c.if-is_dash.true ∙ (empty_text c.from_bits_retain.result (c.from_bits_retain.ensures tt)).0

pub returns-then-is_dash-clause-fits : goal.returns-then-is_dash-clause-fits
returns-then-is_dash-clause-fits c = (empty_text c.from_bits_retain.result (c.from_bits_retain.ensures tt)).1

pub returns-then-is_dash-clause-only : goal.returns-then-is_dash-clause-only
returns-then-is_dash-clause-only c set fits e =
    let dash = c.is_dash.ensures.0 c.if-is_dash.true in
    same_set c.from_bits_retain.result (bits_of set) (c.from_bits_retain.ensures tt ∙ sym (empty_of set fits (sym dash ∙ e)))

pub returns-clause-found : goal.returns-clause-found
returns-clause-found c =
    IfSome_then c.read_members.result c.read_members.ensures.found (λ set listed. (listed_text set c.args.word.now listed.0 listed.1 listed.2 listed.3).0)

pub returns-clause-fits : goal.returns-clause-fits
returns-clause-fits c =
    IfSome_then c.read_members.result c.read_members.ensures.found (λ set listed. (listed_text set c.args.word.now listed.0 listed.1 listed.2 listed.3).1)

pub returns-clause-only : goal.returns-clause-only
returns-clause-only c set fits e =
    let some : c.args.word.now ≡ codes "-" → ⊥ = λ dash. let is : c.is_dash.result ≡ true = c.is_dash.ensures.1 dash in cc (is, c.if-is_dash.false) in
    let listed = listed_of set c.args.word.now fits e some in
    c.read_members.ensures.only listed.0 listed.1 listed.2 ∙ ap (λ (s : SigSet). Some s) listed.3
