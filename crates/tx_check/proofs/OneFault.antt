-- A text of lines has at most one fault, and none where it is whole, if a line that is right in its place is not at fault there.
use Rattle.std.proofs.Common.{◌≡◌, ◌∙◌, ℕ, List, [], ◌∷◌, ◌++◌, Some, length, ap, sym, subst, inl, inr, arith, append_assoc, append-nil, length-append}
use Rattle.tx_check.proofs.EndedLines.{after_ended, compare, first_ended, with_ends, AreFronts, AreLinesEach}
use Rattle.tx_check.specs.Diagnostics.{IsInLine}
use Rattle.tx_lines.specs.Schedule.{after_line, first_line}
use Rattle.tx_lines.specs.declared.faults.Fault.{Fault}

-- what begins a text, what is a whole one, and the faults of what follows some lines
pub record IsGrammar (IsBegun IsWhole : List (List ℕ) → Type 0) (FaultsNext : List (List ℕ) → List ℕ → Fault → Type 0) : Type 0 where
  pub whole_begun : (lines : List (List ℕ)) → IsWhole lines → IsBegun lines
  pub fault_begun : (lines : List (List ℕ)) (rest : List ℕ) (fault : Fault) → FaultsNext lines rest fault → IsBegun lines
  pub each : (lines : List (List ℕ)) → IsBegun lines → AreLinesEach lines
  pub right : (before : List (List ℕ)) (line : List ℕ) (more : List (List ℕ)) (rest behind : List ℕ) (fault : Fault) → IsBegun (before ++ line ∷ more)
      → first_line rest ≡ line → after_line rest ≡ Some behind → FaultsNext before rest fault → ⊥
  pub ends : (lines : List (List ℕ)) (fault : Fault) → IsWhole lines → FaultsNext lines [] fault → ⊥
  pub one : (lines : List (List ℕ)) (rest : List ℕ) (a b : Fault) → FaultsNext lines rest a → FaultsNext lines rest b → a ≡ b

-- a text is some lines, and then at fault
pub record IsFaulty (FaultsNext : List (List ℕ) → List ℕ → Fault → Type 0) (text : List ℕ) (fault : Fault) : Type 0 where
  pub lines : List (List ℕ)
  pub rest : List ℕ
  pub parts : text ≡ with_ends lines ++ rest
  pub next : FaultsNext lines rest fault

each_at : (before : List (List ℕ)) (line : List ℕ) (more : List (List ℕ)) → AreLinesEach (before ++ line ∷ more) → IsInLine line
each_at [] line more each = each.0
each_at (first ∷ before) line more each = each_at before line more each.1

-- a line that goes on is not at fault
goes_on : {IsBegun IsWhole : List (List ℕ) → Type 0} {FaultsNext : List (List ℕ) → List ℕ → Fault → Type 0} → IsGrammar IsBegun IsWhole FaultsNext
    → (before : List (List ℕ)) (line : List ℕ) (more : List (List ℕ)) (rest end : List ℕ) (fault : Fault) → IsBegun (before ++ line ∷ more) → rest ≡ with_ends (line ∷ more) ++ end → FaultsNext before rest fault → ⊥
goes_on grammar before line more rest end fault begun behind next =
    let in_line = each_at before line more (grammar.each (before ++ line ∷ more) begun) in
    let moved : rest ≡ line ++ 10 ∷ (with_ends more ++ end) = behind ∙ append_assoc line (10 ∷ with_ends more) end in
    grammar.right before line more rest (with_ends more ++ end) fault begun (ap first_line moved ∙ first_ended line (with_ends more ++ end) in_line)
    (ap after_line moved ∙ after_ended line (with_ends more ++ end) in_line) next

none_ahead : (line : List ℕ) (more : List (List ℕ)) (rest : List ℕ) → [] ≡ with_ends (line ∷ more) ++ rest → ⊥
none_ahead line more rest e =
    omega (arith, ap length e, length-append (with_ends (line ∷ more)) rest, length-append line (10 ∷ with_ends more))

-- no text is both whole and at fault
never_on : {IsBegun IsWhole : List (List ℕ) → Type 0} {FaultsNext : List (List ℕ) → List ℕ → Fault → Type 0} → IsGrammar IsBegun IsWhole FaultsNext
    → (lines before : List (List ℕ)) (rest : List ℕ) (fault : Fault) (more : List (List ℕ)) → IsWhole lines → FaultsNext before rest fault → lines ≡ before ++ more → rest ≡ with_ends more ++ [] → ⊥
never_on {IsBegun} {IsWhole} {FaultsNext} grammar lines before rest fault [] whole next parts behind =
    let same : lines ≡ before = parts ∙ append-nil before in
    grammar.ends before fault (subst IsWhole same whole) (subst (λ (r : List ℕ). FaultsNext before r fault) behind next)
never_on {IsBegun} grammar lines before rest fault (line ∷ more) whole next parts behind =
    goes_on grammar before line more rest [] fault (subst IsBegun parts (grammar.whole_begun lines whole)) behind next

pub never_both : {IsBegun IsWhole : List (List ℕ) → Type 0} {FaultsNext : List (List ℕ) → List ℕ → Fault → Type 0} → IsGrammar IsBegun IsWhole FaultsNext
    → (text : List ℕ) (lines : List (List ℕ)) (fault : Fault) → IsWhole lines → text ≡ with_ends lines → IsFaulty FaultsNext text fault → ⊥
never_both {IsBegun} {IsWhole} {FaultsNext} grammar text lines fault whole spelled faulty =
    let each = grammar.each faulty.lines (grammar.fault_begun faulty.lines faulty.rest fault faulty.next) in
    let same = sym faulty.parts ∙ spelled ∙ sym (append-nil (with_ends lines)) in
    by (compare faulty.lines lines faulty.rest [] each (grammar.each lines (grammar.whole_begun lines whole)) same)
  where
    by : AreFronts faulty.lines faulty.rest lines [] → ⊥
    by (inl on) = never_on grammar lines faulty.lines faulty.rest fault on.more whole faulty.next on.whole on.behind
    by (inr found) = none_ahead found.0 found.1 faulty.rest found.3

-- no text has two faults
one_on : {IsBegun IsWhole : List (List ℕ) → Type 0} {FaultsNext : List (List ℕ) → List ℕ → Fault → Type 0} → IsGrammar IsBegun IsWhole FaultsNext
    → (before after : List (List ℕ)) (rest end : List ℕ) (a b : Fault) (more : List (List ℕ)) → FaultsNext before rest a → FaultsNext after end b → after ≡ before ++ more → rest ≡ with_ends more ++ end → a ≡ b
one_on {IsBegun} {IsWhole} {FaultsNext} grammar before after rest end a b [] first second parts behind =
    let same : after ≡ before = parts ∙ append-nil before in
    grammar.one before rest a b first
    (subst (λ (ls : List (List ℕ)). FaultsNext ls rest b) same (subst (λ (r : List ℕ). FaultsNext after r b) (sym behind) second))
one_on {IsBegun} grammar before after rest end a b (line ∷ more) first second parts behind =
    absurd (goes_on grammar before line more rest end a (subst IsBegun parts (grammar.fault_begun after end b second)) behind first)

pub one_fault : {IsBegun IsWhole : List (List ℕ) → Type 0} {FaultsNext : List (List ℕ) → List ℕ → Fault → Type 0} → IsGrammar IsBegun IsWhole FaultsNext
    → (text : List ℕ) (a b : Fault) → IsFaulty FaultsNext text a → IsFaulty FaultsNext text b → a ≡ b
one_fault {IsBegun} {IsWhole} {FaultsNext} grammar text a b first second =
    let each = grammar.each first.lines (grammar.fault_begun first.lines first.rest a first.next) in
    let others = grammar.each second.lines (grammar.fault_begun second.lines second.rest b second.next) in
    by (compare first.lines second.lines first.rest second.rest each others (sym first.parts ∙ second.parts))
  where
    by : AreFronts first.lines first.rest second.lines second.rest → a ≡ b
    by (inl on) = one_on grammar first.lines second.lines first.rest second.rest a b on.more first.next second.next on.whole on.behind
    by (inr found) = absurd (goes_on grammar second.lines found.0 found.1 second.rest first.rest b (subst IsBegun found.2 (grammar.fault_begun first.lines first.rest a first.next)) found.3 second.next)
