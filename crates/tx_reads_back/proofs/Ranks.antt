-- The place of a line among those of a process and of a transaction, by its first bytes.
use Rattle.std.proofs.Common.{ℕ, List, [], ◌∷◌, if◌then◌else◌, ◌==◌}

-- p: page, pending, proc, pipe
abbrev pub rank_of_p : List ℕ → ℕ
rank_of_p [] = 15
rank_of_p (byte ∷ rest) = if byte == 97 then 3 else if byte == 101 then 7 else if byte == 114 then 10 else if byte == 105 then 12 else 15

-- f: fd, frame
abbrev pub rank_of_f : List ℕ → ℕ
rank_of_f [] = 15
rank_of_f (byte ∷ rest) = if byte == 100 then 4 else if byte == 114 then 9 else 15

-- of a process ids 1, slots 2, page 3, fd 4, mask 5, action 6, pending 7, queued 8 and frame 9; proc 10, desc 11 and pipe 12;
-- and of a transaction held 13; txn 14
abbrev pub rank : List ℕ → ℕ
rank [] = 15
rank (byte ∷ rest) =
    if byte == 105 then 1 else if byte == 115 then 2 else if byte == 112 then rank_of_p rest else if byte == 102 then rank_of_f rest else if byte == 109 then 5
    else if byte == 97 then 6 else if byte == 113 then 8 else if byte == 100 then 11 else if byte == 104 then 13 else if byte == 116 then 14 else 15
