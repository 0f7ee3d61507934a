-- The laws of two exchanges of bytes.
use Rattle.std.specs.Prelude.{◌≡◌, ℕ, List}
use Rattle.tx_pipe.specs.Exchanges.{front_exchanged, back_exchanged, front_given, back_given, count_given}

-- the second exchange at the front gives the pipe, the bytes and the number before the first one
abbrev pub FrontComesBack : ℕ → List ℕ → List ℕ → Type 0
FrontComesBack count bytes held =
    let now = front_exchanged count bytes held in
    let given = front_given count bytes held in let next = count_given count bytes held in
    (front_exchanged next given now ≡ held)
    × (front_given next given now ≡ bytes)
    × (count_given next given now ≡ count)

abbrev pub FrontTwice : Type 0
FrontTwice = (count : ℕ) (bytes held : List ℕ) → FrontComesBack count bytes held

-- and so does the second one at the back
abbrev pub BackComesBack : ℕ → List ℕ → List ℕ → Type 0
BackComesBack count bytes held =
    let now = back_exchanged count bytes held in
    let given = back_given count bytes held in let next = count_given count bytes held in
    (back_exchanged next given now ≡ held)
    × (back_given next given now ≡ bytes)
    × (count_given next given now ≡ count)

abbrev pub BackTwice : Type 0
BackTwice = (count : ℕ) (bytes held : List ℕ) → BackComesBack count bytes held
