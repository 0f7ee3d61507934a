-- The spelling of each header, step, command and line of a program is in one line, and has at most 512 bytes.
use Rattle.std.proofs.Common.{◌≡◌, ℕ, ◌+◌, ◌<◌, ◌≤◌, ◌^◌, Bool, true, false, not, ◌&&◌, nat_eq, nat_le, List, [], ◌∷◌, ◌++◌, codes, length, map, refl, ◌∙◌, arith, length-append, leb-true}
use Rattle.std.proofs.lemmas.List.Folds.{list_all-append}
use Rattle.std.specs.Fmt.{decimal}
use Rattle.std.specs.List.{filter, list_all}
use Rattle.tx_base.specs.declared.signals.Action.TheVariants.{Usual, Ignore, Catch}
use Rattle.tx_base.specs.declared.signals.How.TheVariants as how
use Rattle.tx_base.specs.declared.steps.Call.{Call}
use Rattle.tx_base.specs.declared.steps.Call.TheVariants as call
use Rattle.tx_base.specs.declared.steps.Step.{Step}
use Rattle.tx_base.specs.declared.steps.Step.TheVariants as steps
use Rattle.tx_base.specs.declared.steps.When.TheVariants.{Always, IfRet}
use Rattle.tx_check.proofs.InLine.{both_true}
use Rattle.tx_check.proofs.ShortWords.{has_plain, is_plain, plain_argument, plain_slot, room, short_decimal, short_name}
use Rattle.tx_check.specs.Diagnostics.{is_no_end, IsInLine}
use Rattle.tx_lines.specs.Arguments.{is_spelled, word_of, AllFit, Argument, FitsArgument}
use Rattle.tx_lines.specs.Calls.{arguments_of, call_text, name_of, program_arguments, FitsCall}
use Rattle.tx_lines.specs.Instructions.{instruction_text, spelled_word, spelled_words, AreSpelled, IsInstruction, IsSpelled}
use Rattle.tx_lines.specs.Lines.{header_front, header_text, most_of, step_text, FitsHeader, FitsStep}
use Rattle.tx_lines.specs.Programs.{label_front, line_text, IsLineOf}
use Rattle.tx_lines.specs.Walks.{command_text, FitsCommand}
use Rattle.tx_lines.specs.Words.{joined}
use Rattle.tx_lines.specs.declared.instructions.Instruction.{Instruction}
use Rattle.tx_lines.specs.declared.instructions.Line.{Line}
use Rattle.tx_lines.specs.declared.instructions.Line.TheVariants as line
use Rattle.tx_lines.specs.declared.instructions.Spelling.{Spelling}
use Rattle.tx_lines.specs.declared.instructions.Spelling.TheVariants.{Plain, Slot, Label}
use Rattle.tx_lines.specs.declared.read.command.Command.{Command}
use Rattle.tx_lines.specs.declared.read.command.Command.TheVariants.{Goto, Moved}
use Rattle.tx_lines.specs.declared.read.header.Header.{Header}
use Rattle.tx_lines.specs.declared.read.header.TextKind.{TextKind}
use Rattle.tx_lines.specs.declared.read.header.TextKind.TheVariants as kinds
use Rattle.tx_lines.specs.declared.read.header.Version.{Version}
use Rattle.tx_lines.specs.declared.read.header.Version.TheVariants.{One, Two}

-- a spelling is in one line, which is not too long
pub record IsShort (text : List ℕ) : Type 0 where
  pub in_line : IsInLine text
  pub few : length text ≤ 512

both_in_line : (xs ys : List ℕ) → IsInLine xs → IsInLine ys → IsInLine (xs ++ ys)
both_in_line xs ys first second = list_all-append is_no_end xs ys ∙ rw (first, second) refl

plain_in_line : (word : List ℕ) → list_all is_plain word ≡ true → IsInLine word
plain_in_line [] plain = refl
plain_in_line (byte ∷ bytes) plain =
    let parts = both_true (is_plain byte) (list_all is_plain bytes) plain in
    let here = both_true (not (nat_eq byte 10)) (not (nat_eq byte 32) && not (nat_eq byte 64)) parts.0 in
    rw (here.0, plain_in_line bytes parts.1) refl

-- words of one line, with the bytes of each and of a space before it
abbrev AllInLine : List (List ℕ) → Type 0
AllInLine [] = Unit {0}
AllInLine (word ∷ words) = IsInLine word × AllInLine words

abbrev bytes_in : List (List ℕ) → ℕ
bytes_in [] = 0
bytes_in (word ∷ words) = length word + 1 + bytes_in words

joined_in_line : (word : List ℕ) (words : List (List ℕ)) → IsInLine word → AllInLine words → IsInLine (joined word words)
joined_in_line word [] first others = first
joined_in_line word (next ∷ words) first others = both_in_line word (32 ∷ joined next words) first (joined_in_line next words others.0 others.1)

joined_length : (word : List ℕ) (words : List (List ℕ)) → length (joined word words) ≡ length word + bytes_in words
joined_length word [] = omega arith
joined_length word (next ∷ words) = omega (arith, length-append word (32 ∷ joined next words), joined_length next words)

-- the most bytes of some arguments
abbrev rooms : List Argument → ℕ
rooms [] = 0
rooms (argument ∷ arguments) = room argument + 1 + rooms arguments

-- as the table of calls says, row by row: names and words are plain, and no call is long
abbrev is_tabled : Call → Bool
is_tabled c = list_all is_plain (name_of c) && (list_all has_plain (arguments_of c) && nat_le (length (name_of c) + rooms (arguments_of c)) 500)

tabled : (c : Call) → is_tabled c ≡ true
tabled (call.Protect page false) = refl
tabled (call.Protect page true) = refl
tabled (call.Waitpid target false) = refl
tabled (call.Waitpid target true) = refl
tabled (call.SetNonblock fd false) = refl
tabled (call.SetNonblock fd true) = refl
tabled (call.Sigaction signo Usual) = refl
tabled (call.Sigaction signo Ignore) = refl
tabled (call.Sigaction signo (Catch point mask)) = refl
tabled (call.Sigprocmask how.Block set) = refl
tabled (call.Sigprocmask how.Unblock set) = refl
tabled (call.Sigprocmask how.Set set) = refl
tabled (call.Jump point Always) = refl
tabled (call.Jump point (IfRet ret)) = refl
tabled _ = refl

pub plain_named : (c : Call) → list_all is_plain (name_of c) ≡ true
plain_named c = (both_true (list_all is_plain (name_of c)) _ (tabled c)).0

arguments_tabled : (c : Call) → (list_all has_plain (arguments_of c) && nat_le (length (name_of c) + rooms (arguments_of c)) 500) ≡ true
arguments_tabled c = (both_true (list_all is_plain (name_of c)) _ (tabled c)).1

pub plain_words : (c : Call) → list_all has_plain (arguments_of c) ≡ true
plain_words c = (both_true (list_all has_plain (arguments_of c)) _ (arguments_tabled c)).0

has_room : (c : Call) → nat_le (length (name_of c) + rooms (arguments_of c)) 500 ≡ true
has_room c = (both_true (list_all has_plain (arguments_of c)) _ (arguments_tabled c)).1

-- the words of a call that fits
record AreShort (words : List (List ℕ)) (most : ℕ) : Type 0 where
  in_line : AllInLine words
  few : bytes_in words ≤ most

one_more : (word : List ℕ) (words : List (List ℕ)) (most others : ℕ) → IsInLine word → length word ≤ most → AreShort words others → AreShort (word ∷ words) (most + 1 + others)
one_more word words most others in_line few later = record { in_line = (in_line, later.in_line); few = omega (arith, few, later.few) }

short_words : (arguments : List Argument) → AllFit arguments → list_all has_plain arguments ≡ true → AreShort (map word_of arguments) (rooms arguments)
short_words [] fit holds = record { in_line = tt; few = omega arith }
short_words (argument ∷ arguments) fit holds =
    let parts = both_true (has_plain argument) (list_all has_plain arguments) holds in
    let word = plain_argument argument fit.0 parts.0 in
    one_more (word_of argument) (map word_of arguments) (room argument) (rooms arguments) (plain_in_line (word_of argument) word.plain) word.few (short_words arguments fit.1 parts.1)

-- a spelled word of an instruction
short_spelled : (spelling : Spelling) (argument : Argument) → IsSpelled spelling argument → FitsArgument argument → has_plain argument ≡ true →
    IsInLine (spelled_word spelling argument) × (length (spelled_word spelling argument) ≤ room argument)
short_spelled Plain argument is fits holds = let word = plain_argument argument fits holds in (plain_in_line (word_of argument) word.plain, word.few)
short_spelled (Slot slot) argument is fits holds =
    let word = plain_slot slot is.0 in
    let size : room argument ≡ 20 = rw is.1 refl in
    (plain_in_line (36 ∷ decimal slot) word.plain, omega (arith, word.few, size))
short_spelled (Label name) argument is fits holds =
    let word = short_name name.bytes.items is.0 in
    let size : room argument ≡ 17 = rw is.1 refl in
    (plain_in_line name.bytes.items word.plain, omega (arith, word.few, size))

short_all : (spellings : List Spelling) (arguments : List Argument) → AreSpelled spellings arguments → AllFit arguments → list_all has_plain arguments ≡ true →
    AreShort (spelled_words spellings arguments) (rooms arguments)
short_all [] [] are fit holds = record { in_line = tt; few = omega arith }
short_all [] (argument ∷ arguments) are fit holds = absurd are
short_all (spelling ∷ spellings) [] are fit holds = absurd are
short_all (spelling ∷ spellings) (argument ∷ arguments) are fit holds =
    let parts = both_true (has_plain argument) (list_all has_plain arguments) holds in
    let word = short_spelled spelling argument are.0 fit.0 parts.0 in
    one_more (spelled_word spelling argument) (spelled_words spellings arguments) (room argument) (rooms arguments) word.0 word.1 (short_all spellings arguments are.1 fit.1 parts.1)

-- the arguments that a program spells
pub record AreKept (arguments : List Argument) : Type 0 where
  pub fit : AllFit (filter is_spelled arguments)
  pub plain : list_all has_plain (filter is_spelled arguments) ≡ true
  pub few : rooms (filter is_spelled arguments) ≤ rooms arguments

pub kept : (arguments : List Argument) → AllFit arguments → list_all has_plain arguments ≡ true → AreKept arguments
kept [] fit holds = record { fit = tt; plain = refl; few = omega arith }
kept (Argument.Chosen limit number ∷ arguments) fit holds =
    let later = kept arguments fit.1 (both_true (nat_le limit (2 ^ 16)) (list_all has_plain arguments) holds).1 in
    record { fit = later.fit; plain = later.plain; few = omega (arith, later.few) }
kept (argument ∷ arguments) fit holds =
    let parts = both_true (has_plain argument) (list_all has_plain arguments) holds in
    let later = kept arguments fit.1 parts.1 in
    record { fit = (fit.0, later.fit); plain = rw (parts.0, later.plain) refl; few = omega (arith, later.few) }

-- the spelling of a name and its arguments
record IsCallShort (text : List ℕ) : Type 0 where
  in_line : IsInLine text
  few : length text ≤ 500

short_joined : (c : Call) (words : List (List ℕ)) (most : ℕ) → AreShort words most → most ≤ rooms (arguments_of c) → IsCallShort (joined (name_of c) words)
short_joined c words most are less = record {
  in_line = joined_in_line (name_of c) words (plain_in_line (name_of c) (plain_named c)) are.in_line;
  few = omega (arith, are.few, less, joined_length (name_of c) words, leb-true (length (name_of c) + rooms (arguments_of c)) 500 (has_room c));
}

short_call : (c : Call) → FitsCall c → IsCallShort (call_text c)
short_call c fits = short_joined c (map word_of (arguments_of c)) (rooms (arguments_of c)) (short_words (arguments_of c) fits (plain_words c)) (omega arith)

short_instruction : (version : Version) (instruction : Instruction) → IsInstruction version instruction → IsCallShort (instruction_text instruction)
short_instruction version instruction is =
    let c = instruction.call in
    let spelled = kept (arguments_of c) is.fits (plain_words c) in
    short_joined c (spelled_words instruction.spellings.items (program_arguments c)) (rooms (program_arguments c))
    (short_all instruction.spellings.items (program_arguments c) is.spelled spelled.fit spelled.plain) spelled.few

-- a spelling after a front in its line
short_after : (front text : List ℕ) (most : ℕ) → IsInLine front → IsInLine text → length text ≤ most → length front + most ≤ 512 → IsShort (front ++ text)
short_after front text most first second few less = record { in_line = both_in_line front text first second; few = omega (arith, few, less, length-append front text) }

number_after : (front : List ℕ) (most n : ℕ) → IsInLine front → length front + most ≤ 512 → 0 < most → n < 10 ^ most → n < 2 ^ 64 → IsShort (front ++ decimal n)
number_after front most n first less some small fits =
    let digits = short_decimal most n some small fits in
    short_after front (decimal n) most first (plain_in_line (decimal n) digits.plain) digits.few less

after_number : (n : ℕ) (text : List ℕ) → n < 2 ^ 16 → IsInLine text → length text ≤ 500 → IsShort (decimal n ++ 32 ∷ text)
after_number n text small in_line few =
    let digits = short_decimal 5 n (omega arith) (omega arith) (omega arith) in
    short_after (decimal n) (32 ∷ text) 501 (plain_in_line (decimal n) digits.plain) in_line (omega (arith, few)) (omega (arith, digits.few))

pub short_step : (s : Step) → FitsStep s → IsShort (step_text s)
short_step (steps.Call pid c) fits = let text = short_call c fits.1 in after_number pid.0 (call_text c) fits.0 text.in_line text.few
short_step (steps.Deliver pid signo) fits =
    let small : signo.0 < 2 ^ 8 = fits.1 in
    let text = number_after (codes "deliver ") 3 signo.0 refl (omega arith) (omega arith) (omega arith) (omega arith) in
    after_number pid.0 (codes "deliver " ++ decimal signo.0) fits.0 text.in_line
    (omega (arith, length-append (codes "deliver ") (decimal signo.0), (short_decimal 3 signo.0 (omega arith) (omega arith) (omega arith)).few))
short_step (steps.KernelAbort starter) fits =
    let small : starter.0 < 2 ^ 16 = fits in
    number_after (codes "kernel ") 5 starter.0 refl (omega arith) (omega arith) (omega arith) (omega arith)

pub short_command : (version : Version) (command : Command) → FitsCommand version command → IsShort (command_text command)
short_command version (Goto position) fits =
    let small : position < 2 ^ 63 = fits in
    number_after (codes "goto ") 19 position refl (omega arith) (omega arith) (omega arith) (omega arith)
short_command version (Moved number) fits =
    let small : number < 2 ^ 63 = fits.1 in
    number_after (codes "moved ") 19 number refl (omega arith) (omega arith) (omega arith) (omega arith)
short_command version _ fits = record { in_line = refl; few = omega arith }

pub short_line : (version : Version) (one : Line) → IsLineOf version one → IsShort (line_text one)
short_line version (line.Label name) is =
    let word = short_name name.bytes.items is in
    short_after label_front name.bytes.items 16 refl (plain_in_line name.bytes.items word.plain) word.few (omega arith)
short_line version (line.Instruction instruction) is =
    let text = short_instruction version instruction is in
    record { in_line = text.in_line; few = omega (arith, text.few) }

short_header_by : (kind : TextKind) (version : Version) (count : ℕ) → count < 2 ^ 16 → IsShort (header_front kind version ++ decimal count)
short_header_by kinds.Schedule One count small = number_after (codes "txos 1 schedule ") 5 count refl (omega arith) (omega arith) (omega arith) (omega arith)
short_header_by kinds.Schedule Two count small = number_after (codes "txos 2 schedule ") 5 count refl (omega arith) (omega arith) (omega arith) (omega arith)
short_header_by kinds.Program One count small = number_after (codes "txos 1 program ") 5 count refl (omega arith) (omega arith) (omega arith) (omega arith)
short_header_by kinds.Program Two count small = number_after (codes "txos 2 program ") 5 count refl (omega arith) (omega arith) (omega arith) (omega arith)

pub short_header : (kind : TextKind) (header : Header) → FitsHeader header → IsShort (header_text kind header)
short_header kind header fits = short_header_by kind header.version header.count (small header.version fits.1)
  where
    small : (version : Version) → header.count ≤ most_of version → header.count < 2 ^ 16
    small One few = omega (arith, few)
    small Two few = omega (arith, few)
