use Rattle.std.proofs.Common.{ℕ, ◌-◌, ap, length, min, rules, ◌∙◌}
use Rattle.tx_shell.proofs.CutLines.{front_kept}
use Rattle.tx_shell.proofs.sessions.taking.append_front.Goals as goal

pub returns-clause-front : goal.returns-clause-front
returns-clause-front c =
    c.in_ok-extend_from_slice.ensures.items
    ∙ front_kept c.args.line.now.items c.args.part.now c.min.result c.requires (c.min.ensures ∙ ap (λ (n : ℕ). min (length c.args.part.now) (514 - n)) (c.len-room.ensures ∙ search rules))
