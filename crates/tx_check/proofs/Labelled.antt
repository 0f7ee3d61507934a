-- The labels and the instructions of the lines of a program: their text says how many there are, and which.
use Rattle.std.proofs.Common.{◌≡◌, ◌∙◌, ℕ, suc, ◌+◌, Bool, true, false, cond, List, [], ◌∷◌, ◌++◌, Option, Some, None, length, map, refl, ap, sym, subst, arith}
use Rattle.std.proofs.lemmas.Bool.{both_ways}
use Rattle.std.proofs.lemmas.List.{length-map}
use Rattle.std.proofs.lemmas.Map.Keys.{IsDistinct-head, IsDistinct-tail}
use Rattle.std.proofs.lemmas.Slice.Eq.{bytes_eq-Decides}
use Rattle.std.specs.List.{AllByRecursion, IsDistinct}
use Rattle.std.specs.Map.{keys_of, lookup}
use Rattle.tx_check.proofs.EndedLines.{heads_same}
use Rattle.tx_check.proofs.NamedLabels.{no_label, same_instruction, same_label}
use Rattle.tx_lines.specs.Programs.{instructions_of, labels_from, labels_of, line_text, linked, same_name, IsUser}
use Rattle.tx_lines.specs.declared.instructions.Instruction.{Instruction}
use Rattle.tx_lines.specs.declared.instructions.Line.{Line}
use Rattle.tx_lines.specs.declared.instructions.Line.TheVariants as line
use Rattle.tx_lines.specs.declared.instructions.Name.{Name}

-- each line is one or the other
pub counts : (number : ℕ) (ones : List Line) → length (labels_from number ones) + length (instructions_of ones) ≡ length ones
counts number [] = refl
counts number (line.Label name ∷ ones) = omega (arith, counts number ones)
counts number (line.Instruction instruction ∷ ones) = omega (arith, counts (number + 1) ones)

pub labels_both : (number : ℕ) (ones others : List Line) → length (labels_from number (ones ++ others)) ≡ length (labels_from number ones) + length (labels_from (number + length (instructions_of ones)) others)
labels_both number [] others = let zero : number ≡ number + 0 = omega arith in ap (λ (n : ℕ). length (labels_from n others)) zero ∙ omega arith
labels_both number (line.Label name ∷ ones) others = omega (arith, labels_both number ones others)
labels_both number (line.Instruction instruction ∷ ones) others =
    let one : number + 1 + length (instructions_of ones) ≡ number + suc (length (instructions_of ones)) = omega arith in
    labels_both (number + 1) ones others ∙ ap (λ (n : ℕ). length (labels_from (number + 1) ones) + length (labels_from n others)) one

pub instructions_both : (ones others : List Line) → length (instructions_of (ones ++ others)) ≡ length (instructions_of ones) + length (instructions_of others)
instructions_both [] others = omega arith
instructions_both (line.Label name ∷ ones) others = instructions_both ones others
instructions_both (line.Instruction instruction ∷ ones) others = omega (arith, instructions_both ones others)

-- the text says the labels
pub same_labels : (number : ℕ) (ones others : List Line) → map line_text ones ≡ map line_text others → labels_from number ones ≡ labels_from number others
same_labels number [] [] e = refl
same_labels number [] (other ∷ others) e = absurd (cc)
same_labels number (one ∷ ones) [] e = absurd (cc)
same_labels number (line.Label name ∷ ones) (line.Label twin ∷ others) e =
    let same = heads_same (line_text (line.Label name)) (line_text (line.Label twin)) (map line_text ones) (map line_text others) e in
    ap (λ (n : Name). (n, number) ∷ labels_from number ones) (same_label name twin same.0)
    ∙ ap (λ (ls : List (Name × ℕ)). (twin, number) ∷ ls) (same_labels number ones others same.1)
same_labels number (line.Label name ∷ ones) (line.Instruction twin ∷ others) e =
    absurd (no_label twin name.bytes.items (sym (heads_same (line_text (line.Label name)) (line_text (line.Instruction twin)) (map line_text ones) (map line_text others) e).0))
same_labels number (line.Instruction instruction ∷ ones) (line.Label twin ∷ others) e =
    absurd (no_label instruction twin.bytes.items (heads_same (line_text (line.Instruction instruction)) (line_text (line.Label twin)) (map line_text ones) (map line_text others) e).0)
same_labels number (line.Instruction instruction ∷ ones) (line.Instruction twin ∷ others) e =
    same_labels (number + 1) ones others (heads_same (line_text (line.Instruction instruction)) (line_text (line.Instruction twin)) (map line_text ones) (map line_text others) e).1

pub same_counts : (ones others : List Line) → map line_text ones ≡ map line_text others →
    (length (labels_of ones) ≡ length (labels_of others)) × (length (instructions_of ones) ≡ length (instructions_of others))
same_counts ones others e =
    let labels = ap length (same_labels 0 ones others e) in
    let size : length ones ≡ length others = omega (arith, ap length e, length-map ones line_text, length-map others line_text) in
    (labels, omega (arith, labels, size, counts 0 ones, counts 0 others))

-- of distinct labels none is there twice
in_front : (labels : List (Name × ℕ)) (name twin : Name) (number : ℕ) (more : List (Name × ℕ)) → AllByRecursion (λ other. same_name name other ≡ false) (keys_of (labels ++ (twin, number) ∷ more)) → same_name name twin ≡ false
in_front [] name twin number more all = all.0
in_front (label ∷ labels) name twin number more all = in_front labels name twin number more all.1

same_turned : (name twin : Name) → same_name name twin ≡ true → same_name twin name ≡ true
same_turned name twin same = (bytes_eq-Decides twin.bytes.items name.bytes.items).1 (sym ((bytes_eq-Decides name.bytes.items twin.bytes.items).0 same))

not_here : (label : Name × ℕ) (labels : List (Name × ℕ)) (name : Name) (number : ℕ) (more : List (Name × ℕ)) (found : ℕ) (test : Bool) → same_name name label.0 ≡ test → IsDistinct same_name (keys_of (label ∷ labels ++ (name, number) ∷ more))
    → (lookup (same_name name) labels ≡ Some found → ⊥) → cond test (Some label.1) (lookup (same_name name) labels) ≡ Some found → ⊥
not_here label labels name number more found true is distinct later at =
    both_ways (same_name label.0 name) (in_front labels label.0 name number more (IsDistinct-head same_name label.0 (keys_of (labels ++ (name, number) ∷ more)) distinct))
    (same_turned name label.0 is)
not_here label labels name number more found false is distinct later at = later at

pub not_twice : (labels : List (Name × ℕ)) (name : Name) (number : ℕ) (more : List (Name × ℕ)) (found : ℕ) → IsDistinct same_name (keys_of (labels ++ (name, number) ∷ more)) → lookup (same_name name) labels ≡ Some found → ⊥
not_twice [] name number more found distinct e = absurd (cc)
not_twice (label ∷ labels) name number more found distinct e =
    not_here label labels name number more found (same_name name label.0) refl distinct
    (not_twice labels name number more found (IsDistinct-tail same_name label.0 (keys_of (labels ++ (name, number) ∷ more)) distinct)) e

-- the labels of some lines, a label, and others
pub labels_split : (number : ℕ) (ones : List Line) (name : Name) (others : List Line) →
    (more : List (Name × ℕ)) × (at : ℕ) × (labels_from number (ones ++ line.Label name ∷ others) ≡ labels_from number ones ++ (name, at) ∷ more)
labels_split number [] name others = (labels_from number others, number, refl)
labels_split number (line.Label twin ∷ ones) name others =
    let later = labels_split number ones name others in (later.0, later.1, ap (λ (ls : List (Name × ℕ)). (twin, number) ∷ ls) later.2)
labels_split number (line.Instruction instruction ∷ ones) name others = labels_split (number + 1) ones name others

-- where all instructions find their labels, none is without
tails_same : (x y : Option Instruction) (xs ys : List (Option Instruction)) → x ∷ xs ≡ y ∷ ys → (x ≡ y) × (xs ≡ ys)
tails_same x y xs ys e = (cc, cc)

pub linked_later : (labels : List (Name × ℕ)) (one : Line) (ones : List Line) (made : List Instruction) → map (linked labels) (instructions_of (one ∷ ones)) ≡ map Some made
    → (others : List Instruction) × (map (linked labels) (instructions_of ones) ≡ map Some others)
linked_later labels (line.Label name) ones made e = (made, e)
linked_later labels (line.Instruction instruction) ones [] e = absurd (cc)
linked_later labels (line.Instruction instruction) ones (first ∷ made) e =
    (made, (tails_same (linked labels instruction) (Some first) (map (linked labels) (instructions_of ones)) (map Some made) e).1)

pub linked_first : (labels : List (Name × ℕ)) (one : Line) (ones : List Line) (made : List Instruction) → map (linked labels) (instructions_of (one ∷ ones)) ≡ map Some made → IsUser labels one → ⊥
linked_first labels (line.Label name) ones made e user = let bad = user.same in absurd (cc)
linked_first labels (line.Instruction instruction) ones [] e user = absurd (cc)
linked_first labels (line.Instruction instruction) ones (first ∷ made) e user =
    let here = (tails_same (linked labels instruction) (Some first) (map (linked labels) (instructions_of ones)) (map Some made) e).0 in
    let none : linked labels instruction ≡ None = subst (λ (i : Instruction). linked labels i ≡ None) (sym (same_instruction instruction user.instruction user.same)) user.nowhere in
    absurd (cc)

pub linked_none : (labels : List (Name × ℕ)) (before : List Line) (user : Line) (after : List Line) (made : List Instruction) → map (linked labels) (instructions_of (before ++ user ∷ after)) ≡ map Some made → IsUser labels user → ⊥
linked_none labels [] user after made e is = linked_first labels user after made e is
linked_none labels (one ∷ before) user after made e is = let later = linked_later labels one (before ++ user ∷ after) made e in linked_none labels before user after later.0 later.1 is
