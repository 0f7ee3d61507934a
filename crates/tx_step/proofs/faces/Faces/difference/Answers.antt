use Rattle.std.proofs.Common.{◌≡◌, ℕ, Option, Some, None, [], ◌∷◌, ◌++◌, map, refl, sym, ap, ◌∙◌}
use Rattle.std.specs.Option.{option_or}
use Rattle.tx_step.proofs.TwoFaces.{none_otherwise}
use Rattle.tx_step.specs.Faces.{difference, sent}
use Rattle.tx_step.specs.declared.differing.TwoAnswers.{TwoAnswers}
use Rattle.tx_step.specs.declared.faces.Faces.{Faces}
use Rattle.tx_kernel.specs.Plans.{sending_of}
use Rattle.tx_kernel.specs.declared.planned.Sends.{Sends}
use Rattle.tx_step.proofs.faces.Faces.difference.Goals as goal

-- where no more is sent, that is all
last_is : (p : ℕ) (faces : Faces) (x : Option TwoAnswers) → x ≡ option_or x (difference p [] faces)
last_is p faces None = sym (none_otherwise p faces)
last_is p faces (Some answers) = refl

pub returns-in-Nothing : goal.returns-in-Nothing
returns-in-Nothing c = last_is c.args.pid.0 c.post_all.new.self c.post_all.result ∙ sym (c.post_all.ensures [])
    ∙ ap (λ (first : Sends). difference c.args.pid.0 (sent first c.args.held.now) c.args.self) (sym c.in-Nothing.is)

pub returns-in-None : goal.returns-in-None
returns-in-None c =
    last_is c.args.pid.0 c.post_all-in-None.new.self c.post_all-in-None.result ∙ sym (c.post_all-in-None.ensures [])
    ∙ ap (λ (x : Option TwoAnswers). option_or x (difference c.args.pid.0 (map sending_of c.args.held.now ++ []) c.post.new.self)) (sym c.in-None.is)
    ∙ sym (c.post.ensures (map sending_of c.args.held.now ++ []))
    ∙ ap (λ (first : Sends). difference c.args.pid.0 (sent first c.args.held.now) c.args.self) (sym c.in-AtOnce.is)

pub returns-in-None-post_all : goal.returns-in-None-post_all
returns-in-None-post_all c =
    last_is c.args.pid.0 c.post-in-None-post_all.new.self c.post-in-None-post_all.result ∙ sym (c.post-in-None-post_all.ensures [])
    ∙ ap (λ (x : Option TwoAnswers). option_or x (difference c.args.pid.0 (sending_of c.in-AtCommit.sending ∷ []) c.post_all-in-AtCommit.new.self)) (sym c.in-None-post_all.is)
    ∙ sym (c.post_all-in-AtCommit.ensures (sending_of c.in-AtCommit.sending ∷ []))
    ∙ ap (λ (first : Sends). difference c.args.pid.0 (sent first c.args.held.now) c.args.self) (sym c.in-AtCommit.is)
