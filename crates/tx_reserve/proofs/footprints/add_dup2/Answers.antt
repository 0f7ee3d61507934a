use Rattle.std.proofs.Common.{w64, rules, of_z, to_z, ℤ, ◌≡◌, ℕ, Option, ap, sym, ◌∙◌}
use Rattle.std.proofs.lemmas.Int.{to_z-of_z}
use Rattle.std.specs.Prelude.{FitsSigned}
use Rattle.tx_change.specs.States.{state_of}
use Rattle.tx_kernel.specs.Actors.{me_of}
use Rattle.tx_model.specs.Descriptors.{desc_objects, desc_pipe_objects, option_list}
use Rattle.tx_reserve.proofs.Rows.{adds_same, dup2_same, dup2_other}
use Rattle.tx_reserve.proofs.footprints.add_dup2.Goals as goal

same_numbers : (a b : ℤ) → FitsSigned w64 a → FitsSigned w64 b → of_z w64 a ≡ of_z w64 b → a ≡ b
same_numbers a b fits others e = sym (to_z-of_z w64 a fits) ∙ ap (to_z w64) e ∙ to_z-of_z w64 b others

pub returns-then-fd-other : goal.returns-then-fd-other
returns-then-fd-other c =
    let fits_fd : FitsSigned w64 c.args.fd = search rules in
    let fits_other : FitsSigned w64 c.args.other = search rules in
    λ held. dup2_same c.args.fd c.args.other (me_of c.args.actor.now) (state_of held c.args.actor.now.parts.now) (same_numbers c.args.fd c.args.other fits_fd fits_other c.if-fd-other.true)
    (adds_same _ _ (ap (λ (d : Option ℕ). desc_objects (option_list d)) (simp (to_z-of_z w64 c.args.fd fits_fd) at c.description.ensures)) c.add_desc.ensures)

pub returns : goal.returns
returns c =
    let fits_fd : FitsSigned w64 c.args.fd = search rules in
    let fits_other : FitsSigned w64 c.args.other = search rules in
    λ held. dup2_other c.args.fd c.args.other (me_of c.args.actor.now) (state_of held c.args.actor.now.parts.now) (λ e. c.if-fd-other.false (ap (of_z w64) e))
    (adds_same _ _ (ap (λ (d : Option ℕ). desc_objects (option_list d)) (simp (to_z-of_z w64 c.args.fd fits_fd) at c.description.ensures)) c.add_desc.ensures)
    (adds_same _ _ (ap (λ (d : Option ℕ). desc_pipe_objects (option_list d) (state_of held c.args.actor.now.parts.now)) (simp (to_z-of_z w64 c.args.other fits_other) at c.description-2.ensures)) (c.add_desc_and_pipe.ensures held))
