-- Descriptors, descriptions and pipes in a text.
use Rattle.std.proofs.Common.{◌≡◌, ℕ, ◌<◌, ◌≤◌, ◌^◌, Bool, true, false, List, [], ◌∷◌, ◌++◌, codes, Option, Some, None, drop, length, refl, sym, ap, arith, append_assoc, subst}
use Rattle.std.specs.Prelude.{All}
use Rattle.std.specs.Fmt.{decimal}
use Rattle.hex.specs.Hex.{IsBytes}
use Rattle.tx_base.specs.declared.limits.TheConstants.{DESCRIPTIONS, DESCRIPTORS, PIPES}
use Rattle.tx_model.specs.State.{Description, Side, ReadSide, WriteSide}
use Rattle.tx_lines.specs.Bytes.{bytes_text}
use Rattle.tx_state_text.specs.Descriptors.{desc_line, descs_text, fd_line, fds_text, pipe_line, pipes_text, side_text, wait_text}
use Rattle.tx_reads_back.specs.StateTexts.{IsDescNumber}
use Rattle.tx_reads_back.proofs.Bytes.{bytes_unique}
use Rattle.tx_reads_back.proofs.Fronts.{in_number, number_unique, other_byte, regroup, Stops}
use Rattle.tx_reads_back.proofs.Lines.{AreLines, lines_rank, lines_unique, list_rank, list_unique}
use Rattle.tx_reads_back.proofs.Numbered.{numbered, Determines}
use Rattle.tx_reads_back.proofs.Ranks.{rank}

fd_rest : Option ℕ → Option (List ℕ)
fd_rest None = None
fd_rest (Some number) = Some (decimal number ++ 10 ∷ [])

fd_numbered : (fd : ℕ) (x : Option ℕ) → fd_line fd x ≡ numbered (codes "fd ") 32 fd (fd_rest x)
unfolding fd_rest
fd_numbered fd x = grind arith

fd_unique : (x y : Option ℕ) (R S : List ℕ) → IsDescNumber x → IsDescNumber y → Determines (fd_rest x) (fd_rest y) R S (x ≡ y)
unfolding fd_rest
fd_unique None None R S in_x in_y = refl
fd_unique None (Some n) R S in_x in_y = tt
fd_unique (Some m) None R S in_x in_y = tt
fd_unique (Some m) (Some n) R S in_x in_y = λ e.
    (let unique = number_unique m n (10 ∷ R) (10 ∷ S) (omega arith) (omega arith) refl refl (regroup (decimal m) (10 ∷ []) R (decimal n) (10 ∷ []) S e) in
    (ap Some unique.0, ap (drop 1) unique.1))

fd_lines : AreLines 4 (codes "fd ") fd_line fd_rest (λ x. x) IsDescNumber
fd_lines = record { ranked = λ t. refl; spelled = fd_numbered; unique = λ x y R S in_x in_y r s. fd_unique x y R S in_x in_y }

pub fds_unique : (xs ys : List (Option ℕ)) (R S : List ℕ) → length xs ≡ DESCRIPTORS → length ys ≡ DESCRIPTORS → All IsDescNumber xs → All IsDescNumber ys → 4 < rank R → 4 < rank S →
    fds_text xs ++ R ≡ fds_text ys ++ S → (xs ≡ ys) × (R ≡ S)
fds_unique = list_unique fd_lines DESCRIPTORS (omega arith) None

pub fds_rank : (xs : List (Option ℕ)) (R : List ℕ) → 4 ≤ rank R → 4 ≤ rank (fds_text xs ++ R)
fds_rank = list_rank fd_lines DESCRIPTORS (omega arith) None

-- the pipe of a description has a number
abbrev pub IsOfPipe : Option Description → Type 0
IsOfPipe None = Unit {0}
IsOfPipe (Some description) = description.pipe < 2 ^ 64

desc_rest : Option Description → Option (List ℕ)
desc_rest None = None
desc_rest (Some x) = Some (decimal x.pipe ++ (side_text x.side ++ wait_text x.nonblock))

desc_numbered : (number : ℕ) (x : Option Description) → desc_line number x ≡ numbered (codes "desc ") 32 number (desc_rest x)
unfolding desc_rest
desc_numbered number x = grind arith

side_stops : (side : Side) (r : List ℕ) → Stops in_number (side_text side ++ r)
side_stops side r = grind arith

side_unique : (a b : Side) (r s : List ℕ) → side_text a ++ r ≡ side_text b ++ s → (a ≡ b) × (r ≡ s)
side_unique ReadSide ReadSide r s e = (refl, ap (drop 2) e)
side_unique ReadSide WriteSide r s e = absurd (other_byte 1 e refl)
side_unique WriteSide ReadSide r s e = absurd (other_byte 1 e refl)
side_unique WriteSide WriteSide r s e = (refl, ap (drop 2) e)

wait_unique : (a b : Bool) (r s : List ℕ) → wait_text a ++ r ≡ wait_text b ++ s → (a ≡ b) × (r ≡ s)
wait_unique true true r s e = (refl, ap (drop 10) e)
wait_unique true false r s e = absurd (other_byte 1 e refl)
wait_unique false true r s e = absurd (other_byte 1 e refl)
wait_unique false false r s e = (refl, ap (drop 7) e)

desc_unique : (x y : Option Description) (R S : List ℕ) → IsOfPipe x → IsOfPipe y → Determines (desc_rest x) (desc_rest y) R S (x ≡ y)
unfolding desc_rest
desc_unique None None R S in_x in_y = refl
desc_unique None (Some b) R S in_x in_y = tt
desc_unique (Some a) None R S in_x in_y = tt
desc_unique (Some a) (Some b) R S in_x in_y = λ e.
    (let a_end : List ℕ = side_text a.side ++ wait_text a.nonblock in
    let b_end : List ℕ = side_text b.side ++ wait_text b.nonblock in
    let cut = regroup (decimal a.pipe) a_end R (decimal b.pipe) b_end S e in
    let pipe = number_unique a.pipe b.pipe (a_end ++ R) (b_end ++ S) in_x in_y
    (subst (Stops in_number) (sym (append_assoc (side_text a.side) (wait_text a.nonblock) R)) (side_stops a.side (wait_text a.nonblock ++ R)))
    (subst (Stops in_number) (sym (append_assoc (side_text b.side) (wait_text b.nonblock) S)) (side_stops b.side (wait_text b.nonblock ++ S))) cut in
    let side = side_unique a.side b.side (wait_text a.nonblock ++ R) (wait_text b.nonblock ++ S)
    (regroup (side_text a.side) (wait_text a.nonblock) R (side_text b.side) (wait_text b.nonblock) S pipe.1) in
    let wait = wait_unique a.nonblock b.nonblock R S side.1 in
    ((λ j. Some (record { pipe = pipe.0 j; side = side.0 j; nonblock = wait.0 j })), wait.1))

desc_lines : AreLines 11 (codes "desc ") desc_line desc_rest (λ x. x) IsOfPipe
desc_lines = record { ranked = λ t. refl; spelled = desc_numbered; unique = λ x y R S in_x in_y r s. desc_unique x y R S in_x in_y }

pub descs_unique : (xs ys : ℕ → Option Description) (R S : List ℕ) → ((d : ℕ) → IsOfPipe (xs d)) → ((d : ℕ) → IsOfPipe (ys d)) → 11 < rank R → 11 < rank S →
    descs_text xs ++ R ≡ descs_text ys ++ S → ((d : ℕ) → d < DESCRIPTIONS → xs d ≡ ys d) × (R ≡ S)
descs_unique xs ys R S in_x in_y = lines_unique desc_lines (λ i. i) (λ i j same. same) DESCRIPTIONS (λ i inside. omega arith) xs ys R S (λ i inside. in_x i) (λ i inside. in_y i)

pub descs_rank : (xs : ℕ → Option Description) (R : List ℕ) → 11 ≤ rank R → 11 ≤ rank (descs_text xs ++ R)
descs_rank = lines_rank desc_lines (λ i. i) (λ i j same. same) DESCRIPTIONS (λ i inside. omega arith)

-- what a pipe holds is bytes
abbrev pub HoldsBytes : Option (List ℕ) → Type 0
HoldsBytes None = Unit {0}
HoldsBytes (Some bytes) = IsBytes bytes

pipe_rest : Option (List ℕ) → Option (List ℕ)
pipe_rest None = None
pipe_rest (Some bytes) = Some (bytes_text bytes ++ 10 ∷ [])

pipe_numbered : (number : ℕ) (x : Option (List ℕ)) → pipe_line number x ≡ numbered (codes "pipe ") 32 number (pipe_rest x)
unfolding pipe_rest
pipe_numbered number x = grind arith

pipe_unique : (x y : Option (List ℕ)) (R S : List ℕ) → HoldsBytes x → HoldsBytes y → Determines (pipe_rest x) (pipe_rest y) R S (x ≡ y)
unfolding pipe_rest
pipe_unique None None R S in_x in_y = refl
pipe_unique None (Some b) R S in_x in_y = tt
pipe_unique (Some a) None R S in_x in_y = tt
pipe_unique (Some a) (Some b) R S in_x in_y = λ e.
    (let unique = bytes_unique a b R S in_x in_y (regroup (bytes_text a) (10 ∷ []) R (bytes_text b) (10 ∷ []) S e) in
    (ap Some unique.0, unique.1))

pipe_lines : AreLines 12 (codes "pipe ") pipe_line pipe_rest (λ x. x) HoldsBytes
pipe_lines = record { ranked = λ t. refl; spelled = pipe_numbered; unique = λ x y R S in_x in_y r s. pipe_unique x y R S in_x in_y }

pub pipes_unique : (xs ys : ℕ → Option (List ℕ)) (R S : List ℕ) → ((k : ℕ) → HoldsBytes (xs k)) → ((k : ℕ) → HoldsBytes (ys k)) → 12 < rank R → 12 < rank S →
    pipes_text xs ++ R ≡ pipes_text ys ++ S → ((k : ℕ) → k < PIPES → xs k ≡ ys k) × (R ≡ S)
pipes_unique xs ys R S in_x in_y = lines_unique pipe_lines (λ i. i) (λ i j same. same) PIPES (λ i inside. omega arith) xs ys R S (λ i inside. in_x i) (λ i inside. in_y i)

pub pipes_rank : (xs : ℕ → Option (List ℕ)) (R : List ℕ) → 12 ≤ rank R → 12 ≤ rank (pipes_text xs ++ R)
pipes_rank = lines_rank pipe_lines (λ i. i) (λ i j same. same) PIPES (λ i inside. omega arith)
