-- The parts of a header's line.
use Rattle.std.proofs.Common.{◌≡◌, ◌≤◌, ◌++◌, ◌∙◌, List, ℕ, sym}
use Rattle.std.proofs.lemmas.List.{append_cancel_left}
use Rattle.std.specs.Fmt.{decimal}
use Rattle.tx_lines.specs.declared.read.header.Header.{Header}
use Rattle.tx_lines.specs.declared.read.header.TextKind.{TextKind}
use Rattle.tx_lines.specs.declared.read.header.Version.{Version}
use Rattle.tx_lines.specs.Lines.{header_front, header_text, most_of}

-- what follows the front is the number
pub counted : (kind : TextKind) (h : Header) (version : Version) (front line word : List ℕ) → front ≡ header_front kind version → h.version ≡ version → line ≡ front ++ word → line ≡ header_text kind h → word ≡ decimal h.count
counted kind h version front line word f same parts e =
    let whole : header_front kind version ++ word ≡ line = rw (← f) (sym parts) in
    let spelled : line ≡ header_front kind version ++ decimal h.count = rw (← same) e in
    append_cancel_left (header_front kind version) word (decimal h.count) (whole ∙ spelled)

pub few : (h : Header) (version : Version) (most : ℕ) → h.version ≡ version → most ≡ most_of version → h.count ≤ most_of h.version → h.count ≤ most
few h version most same m below = rw (m, sym same) below
