-- The lines of a text by their numbers, and the number of a line at fault.
use Rattle.std.proofs.Common.{◌≡◌, ℕ, ◌+◌, ◌-◌, ◌≤◌, List, length, inl, inr, ap, arith, add-one, refl}
use Rattle.tx_check.specs.Numbered.{after_lines, behind, line_at}
use Rattle.tx_check.specs.Reads.{line_of, IsAtFault}
use Rattle.tx_check.specs.declared.kinds.Kind.{Kind}
use Rattle.tx_check.specs.declared.kinds.Kind.TheVariants as kinds
use Rattle.tx_lines.specs.Programs.{FaultsAmongLines}
use Rattle.tx_lines.specs.Schedule.{first_line, FaultsAtHeader, FaultsAtNext, IsNoStep}
use Rattle.tx_lines.specs.Walks.{FaultsAfterHeader, FaultsBeforeCommands, IsNoCommand}
use Rattle.tx_lines.specs.declared.faults.Fault.{Fault}
use Rattle.tx_lines.specs.declared.faults.Fault.TheVariants.{NotALine, NoLabel, TooLong}
use Rattle.tx_lines.specs.declared.read.header.TextKind.{TextKind}
use Rattle.tx_lines.specs.declared.read.header.TextKind.TheVariants as texts
use Rattle.tx_lines.specs.declared.read.header.Version.{Version}

-- what follows one line more
pub lines_more : (count : ℕ) (text : List ℕ) → behind (after_lines count text) ≡ after_lines (count + 1) text
lines_more count text = rw add-one refl

-- the line after so many
pub line_after : (count number : ℕ) (text : List ℕ) → number ≡ count + 1 → first_line (after_lines count text) ≡ line_at number text
line_after count number text at =
    let before : count ≡ number - 1 = omega (arith, at) in
    ap (λ (n : ℕ). first_line (after_lines n text)) before

header_line : (kind : TextKind) (text : List ℕ) (fault : Fault) → FaultsAtHeader kind text fault → 1 ≤ line_of fault
header_line kind text (NotALine line) is = omega (arith, is.0)
header_line kind text (NoLabel line) is = absurd is
header_line kind text (TooLong line) is = omega (arith, is.0)
header_line kind text _ is = absurd is

next_line : (number : ℕ) (IsNone : List ℕ → Type 0) (count : ℕ) (rest : List ℕ) (fault : Fault) → 1 ≤ number → FaultsAtNext number IsNone count rest fault → 1 ≤ line_of fault
next_line number IsNone count rest (NotALine line) some is = omega (arith, some, is.0)
next_line number IsNone count rest (NoLabel line) some is = absurd is
next_line number IsNone count rest (TooLong line) some is = omega (arith, some, is.0)
next_line number IsNone count rest _ some is = absurd is

line_before : (version : Version) (count : ℕ) (rest : List ℕ) (fault : Fault) → FaultsBeforeCommands version count rest fault → 1 ≤ line_of fault
line_before version count rest (NotALine line) is = omega (arith, is.0)
line_before version count rest (NoLabel line) is = absurd is
line_before version count rest (TooLong line) is = omega (arith, is.0)
line_before version count rest _ is = absurd is

line_of_walk : (version : Version) (text : List ℕ) (fault : Fault) → FaultsAfterHeader version text fault → 1 ≤ line_of fault
line_of_walk version text fault (inl among) = line_before version (length among.before) among.rest fault among.fault_after
line_of_walk version text fault (inr found) =
    let among = found.4 in next_line (length found.0 + 3) (IsNoCommand version) (length among.before) among.rest fault (omega arith) among.fault_after.1

line_of_program : (version : Version) (text : List ℕ) (fault : Fault) → FaultsAmongLines version text fault → 1 ≤ line_of fault
line_of_program version text (NotALine line) is = omega (arith, is.fault_after.1)
line_of_program version text (NoLabel line) is = omega (arith, is.first.same)
line_of_program version text (TooLong line) is = omega (arith, is.fault_after.1)
line_of_program version text _ is = absurd is.fault_after

-- lines count from 1
pub some_line : (kind : Kind) (text : List ℕ) (fault : Fault) → IsAtFault kind text fault → 1 ≤ line_of fault
some_line kinds.Schedule text fault (inl header) = header_line texts.Schedule text fault header
some_line kinds.Schedule text fault (inr found) =
    let among = found.3 in next_line 2 (IsNoStep found.0.version) (length among.before) among.rest fault (omega arith) among.fault_after.1
some_line kinds.Walk text fault (inl header) = header_line texts.Schedule text fault header
some_line kinds.Walk text fault (inr found) = line_of_walk found.0.version found.1 fault found.3
some_line kinds.Program text fault (inl header) = header_line texts.Program text fault header
some_line kinds.Program text fault (inr found) = line_of_program found.0.version found.1 fault found.3
