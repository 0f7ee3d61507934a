-- A line that is none of its place's, or one too many there, is at fault in its context.
use Rattle.std.proofs.Common.{◌≡◌, ◌∙◌, ℕ, ◌≤◌, ◌⊎◌, Bool, List, Option, Some, None, IfSome, inl, inr, subst, sym, arith}
use Rattle.tx_check.specs.Right.{IsNoneThere, IsTooMany}
use Rattle.tx_check.specs.Contexts.{counted, AmongCommands, AmongLines, AmongSteps, AtHeader, Context, IsPlaceOf}
use Rattle.tx_check.specs.Wrong.{IsNoneIn, IsOneTooMany, IsSecondIn, IsTwice, IsWrong, NamesNowhere, Second}
use Rattle.tx_check.specs.declared.places.Part.{Part}
use Rattle.tx_check.specs.declared.places.Part.TheVariants as parts
use Rattle.tx_check.specs.declared.places.Place.{Place}
use Rattle.tx_lines.specs.declared.read.header.Version.{Version}

pub none_there : (version : Version) (context : Context) (place : Place) (line : List ℕ) → IsPlaceOf context place → IsNoneThere place.part version line → IsNoneIn version context line
none_there version (AtHeader kind) place line is none = tt
none_there version (AmongSteps steps) place line is none = subst (λ (part : Part). IsNoneThere part version line) is.0 none
none_there version (AmongCommands commands) place line is none = subst (λ (part : Part). IsNoneThere part version line) is.0 none
none_there version (AmongLines instructions labels) place line (inl is) none = subst (λ (part : Part). IsNoneThere part version line) is.0 none
none_there version (AmongLines instructions labels) place line (inr is) none = subst (λ (part : Part). IsNoneThere part version line) is none

least : (most count number : ℕ) → most ≤ 4096 → count ≡ counted number → most ≤ count → most ≤ number
least most count number few is enough = omega (arith, few, is, enough)

pub too_many : (context : Context) (place : Place) (line : List ℕ) → IsPlaceOf context place → IsTooMany place.part place.count place.labels line → IsOneTooMany context line
too_many (AtHeader kind) place line is many = subst (λ (part : Part). IsTooMany part place.count place.labels line) is.0 many
too_many (AmongSteps steps) place line is many =
    let full = subst (λ (part : Part). IsTooMany part place.count place.labels line) is.0 many in
    (least 4096 place.count steps (omega arith) is.1 full.0, full.1)
too_many (AmongCommands commands) place line is many =
    least 4096 place.count commands (omega arith) is.1 (subst (λ (part : Part). IsTooMany part place.count place.labels line) is.0 many)
too_many (AmongLines instructions labels) place line (inl is) many =
    let full = subst (λ (part : Part). IsTooMany part place.count place.labels line) is.0 many in
    elim full [
      | inl label ↦ inl (least 256 place.labels labels (omega arith) is.2 label.0, label.1)
      | inr other ↦ inr (least 1024 place.count instructions (omega arith) is.1 other.0, other.1)
    ]
too_many (AmongLines instructions labels) place line (inr is) many =
    let full = subst (λ (part : Part). IsTooMany part place.count place.labels line) is many in absurd full

-- the place is one among the lines of a program
abbrev pub IsOfProgram : Part → Type 0
IsOfProgram part = (part ≡ parts.ProgramLine) ⊎ (part ≡ parts.Link)

apart : (part other : Part) → part ≡ other → (other ≡ parts.ProgramLine → ⊥) → (other ≡ parts.Link → ⊥) → IsOfProgram part → ⊥
apart part other same line link (inl is) = line (sym same ∙ is)
apart part other same line link (inr is) = link (sym same ∙ is)

pub second : (text : List ℕ) (number : ℕ) (context : Context) (place : Place) (line : List ℕ) → IsPlaceOf context place → IsOfProgram place.part → IsTwice text number line
    → IsSecondIn context text number line
second text number (AtHeader kind) place line is of twice = absurd (apart place.part (parts.Header kind) is.0 (λ e. absurd (cc)) (λ e. absurd (cc)) of)
second text number (AmongSteps steps) place line is of twice = absurd (apart place.part parts.Step is.0 (λ e. absurd (cc)) (λ e. absurd (cc)) of)
second text number (AmongCommands commands) place line is of twice = absurd (apart place.part parts.Command is.0 (λ e. absurd (cc)) (λ e. absurd (cc)) of)
second text number (AmongLines instructions labels) place line is of twice = twice

pub between : (version : Version) (text : List ℕ) (number : ℕ) (context : Context) (place : Place) (line : List ℕ) (is_ended : Bool) → IsPlaceOf context place → IsOfProgram place.part
    → IsTwice text number line ⊎ NamesNowhere text line
    → IsWrong version text number context line is_ended
between version text number context place line is_ended is of (inl twice) = inl (Second (second text number context place line is of twice))
between version text number context place line is_ended is of (inr nowhere) = inr nowhere

pub on_some : {A : Type 0} {P Q : Type 0} (found : Option A) → (P → Q) → IfSome found (λ it. P) → IfSome found (λ it. Q)
on_some None so holds = tt
on_some (Some it) so holds = so holds
