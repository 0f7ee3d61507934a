use Rattle.std.proofs.Common.{◌≡◌, ◌∙◌, ap, sym, Some, ℕ}
use Rattle.std.specs.Prelude.{Option}
use Rattle.tx_lines.specs.declared.read.header.Header.{Header}
use Rattle.tx_lines.specs.declared.read.header.Version.{Version}
use Rattle.tx_lines.proofs.Heading.{counted, few}
use Rattle.tx_lines.proofs.read.heads.read_of.Goals as goal

pub returns-clause-only : goal.returns-clause-only
returns-clause-only c h same fits e =
    let word = counted c.args.kind h c.args.version c.front.result.now c.args.line.now c.in_ok-word.word.now c.front.ensures same c.in_ok-word.ensures e in
    let read : Some c.in_ok-count.count ≡ Some h.count = c.in_ok-count.ensures.only (record { 0 = h.count }) fits.0 (few h c.args.version c.most.result same c.most.ensures fits.1) word in
    let count : c.in_ok-count.count ≡ h.count = cc in
    let made : Version → ℕ → Option Header = λ version n. Some (record { version = version; count = n }) in
    ap (made c.args.version) count ∙ ap (λ v. made v h.count) (sym same)

pub returns-in_err-count-clause-only : goal.returns-in_err-count-clause-only
returns-in_err-count-clause-only c h same fits e =
    let word = counted c.args.kind h c.args.version c.front.result.now c.args.line.now c.in_ok-word.word.now c.front.ensures same c.in_ok-word.ensures e in
    let none = c.in_err-count.ensures.only (record { 0 = h.count }) fits.0 (few h c.args.version c.most.result same c.most.ensures fits.1) word in
    cc none
