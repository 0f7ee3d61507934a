use Rattle.std.proofs.Common.{◌≡◌, ◌∙◌, ◌-◌, ◌++◌, [], ◌∷◌, ℕ, List, None, inr, refl, ap}
use Rattle.std.specs.Map.{lookup}
use Rattle.indexmap.proofs.CallerLemmas.{insert_entry-new}
use Rattle.tx_lines.specs.Programs.{same_name}
use Rattle.tx_lines.specs.declared.instructions.Name.{Name}
use Rattle.tx_lines.proofs.ProgramParts.{none_there, ok_holds, some_there}
use Rattle.tx_lines.proofs.read.program_lines.push_label.Goals as goal

pub returns-then-contains_key-clause-fault : goal.returns-then-contains_key-clause-fault
returns-then-contains_key-clause-fault c = inr (refl, some_there (lookup (same_name c.args.name.now) c.args.labels.now.entries) c.if-contains_key.ensures)

pub returns-clause-labels : goal.returns-clause-labels
returns-clause-labels c =
    let none = none_there (lookup (same_name c.args.name.now) c.args.labels.now.entries) c.if-contains_key.ensures in
    let inserted = ok_holds c.insert.result c.if-is_err.ensures.value c.insert.ensures.entries in
    let entries : List (Name × ℕ) = c.args.labels.now.entries in
    let absent : lookup (same_name c.copy.result) entries ≡ None = ap (λ (name : Name). lookup (same_name name) entries) c.copy.ensures ∙ none in
    inserted
    ∙ insert_entry-new same_name c.args.labels.now c.copy.result (c.args.count - c.len.result) absent
    ∙ ap (λ (name : Name). entries ++ (name, c.args.count - c.len.result) ∷ []) c.copy.ensures
    ∙ ap (λ (n : ℕ). entries ++ (c.args.name.now, c.args.count - n) ∷ []) c.len.ensures.len
