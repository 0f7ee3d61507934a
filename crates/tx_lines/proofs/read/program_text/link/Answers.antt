use Rattle.std.proofs.Common.{◌≡◌, ◌∙◌, ◌+◌, ◌++◌, [], ◌∷◌, ◌⊎◌, ℕ, suc, List, map, take, drop, ap, sym, inl, inr, arith, add-one, drop-cons, length-take-le, take-append-drop}
use Rattle.std.proofs.lemmas.List.{take_more}
use Rattle.std.specs.Prelude.{Option}
use Rattle.tx_lines.specs.Programs.{instructions_of, linked, linked_line, IsFirstUser}
use Rattle.tx_lines.specs.declared.faults.Fault.{Fault}
use Rattle.tx_lines.specs.declared.faults.Fault.TheVariants.{NoLabel, NoMemory}
use Rattle.tx_lines.specs.declared.instructions.Instruction.{Instruction}
use Rattle.tx_lines.specs.declared.instructions.Line.{Line}
use Rattle.tx_lines.proofs.ProgramParts.{handed_err, linked_more}
use Rattle.tx_lines.proofs.read.program_text.link.Goals as goal

pub returns-in_err-push_linked-clause-fault : goal.returns-in_err-push_linked-clause-fault
returns-in_err-push_linked-clause-fault c =
    let lines = c.args.lines.now in
    let at = c.loop-at.at in
    let user = c.index-lines-at.result in
    let labels = c.args.labels.now.entries in
    let Faults : Fault → Type 0 = λ fault. (fault ≡ NoMemory) ⊎ ((number : ℕ) × (fault ≡ NoLabel number) × IsFirstUser labels lines number) in
    let cut : drop at lines ≡ user ∷ drop (at + 1) lines =
    drop-cons lines at user c.loop-at-test.true
    ∙ ap (λ (x : Line). x ∷ drop (suc at) lines) (sym c.index-lines-at.is)
    ∙ ap (λ (n : ℕ). user ∷ drop n lines) (sym (add-one at)) in
    let parts : lines ≡ take at lines ++ user ∷ drop (at + 1) lines = sym (take-append-drop at lines) ∙ ap (λ (t : List Line). take at lines ++ t) cut in
    handed_err Faults c.from_residual.result c.in_err-push_linked.field-0.0 c.from_residual.ensures.1
    (elim c.in_err-push_linked.ensures.fault [
      | inl none ↦ inl none
      | inr named ↦ inr (
        at + 2,
        named.0,
        record {
          before = take at lines;
          user = user;
          after = drop (at + 1) lines;
          parts = parts;
          linked_before = (c.loop-at.instructions.items, c.loop-at.invariant);
          nowhere = named.1;
          same = omega (arith, length-take-le at lines (omega (arith, c.loop-at-test.true)));
        },
      )
    ])

pub loop-at-preserved : goal.loop-at-preserved
loop-at-preserved c =
    let lines = c.args.lines.now in
    let at = c.loop-at.at in
    let labels = c.args.labels.now.entries in
    let user = c.index-lines-at.result in
    let more : take (at + 1) lines ≡ take at lines ++ user ∷ [] = take_more lines at user c.loop-at-test.true ∙ ap (λ (x : Line). take at lines ++ x ∷ []) (sym c.index-lines-at.is) in
    ap (λ (ls : List Line). map (linked labels) (instructions_of ls)) more
    ∙ linked_more labels (take at lines) user
    ∙ ap (λ (made : List (Option Instruction)). made ++ linked_line labels user) c.loop-at.invariant
    ∙ sym c.in_ok-push_linked.ensures.more
