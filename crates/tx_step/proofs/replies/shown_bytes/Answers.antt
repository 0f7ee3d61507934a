use Rattle.std.proofs.Common.{◌≡◌, ℕ, ◌+◌, ◌-◌, ◌++◌, List, arith, ap, sym, ◌∙◌}
use Rattle.std.proofs.lemmas.List.{append-nil}
use Rattle.std.specs.Option.{option_copied}
use Rattle.tx_kernel.specs.Plans.{memory_in}
use Rattle.tx_model.specs.Memory.{Memory, bytes_from}
use Rattle.tx_proc.specs.Parts.{process_in}
use Rattle.tx_step.proofs.ShownBytes.{memory_long, nearest_same}
use Rattle.tx_step.proofs.replies.shown_bytes.Goals as goal

pub returns : goal.returns
returns c =
    let memory : Memory = memory_in (process_in (option_copied c.args.proc)) in
    let bytes : List ℕ = c.loop-done.bytes.items in
    let none : c.args.shown.count - c.loop-done.done ≡ 0 = omega (arith, c.loop-done-test.false) in
    let items : bytes ≡ bytes_from memory c.args.shown.address c.args.shown.count
    = sym (append-nil bytes)
    ∙ ap (λ (n : ℕ). bytes ++ bytes_from memory (c.min-start.result + c.loop-done.done) n) (sym none)
    ∙ c.loop-done.invariant.bytes
    ∙ ap (λ (a : ℕ). bytes_from memory a c.args.shown.count) c.min-start.ensures
    ∙ nearest_same memory c.args.shown.address c.args.shown.count (memory_long (option_copied c.args.proc) c.requires.places) in
    λ i. record { items = items i }
