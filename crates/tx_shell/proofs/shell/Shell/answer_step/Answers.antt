use Rattle.std.proofs.Common.{false, inl, refl}
use Rattle.tx_shell.proofs.OwnSteps.{no_quit}
use Rattle.tx_shell.specs.Places.{place_of}
use Rattle.tx_shell.specs.Standings.{kept_of}
use Rattle.tx_shell.proofs.shell.Shell.answer_step.Goals as goal

pub returns-clause-answer : goal.returns-clause-answer
returns-clause-answer c = λ line.
    let step = c.args.self.now.step in
    let new = c.answer_step_line.new.self in
    let made = c.in_ok-answer_step_line.ensures in (
      no_quit step c.requires.fits,
      (
        place_of new.session,
        (
          kept_of new,
          inl (step, record { fits = c.requires.fits; of = c.requires.of; spelled = refl }, made.answer, made.kept),
          λ i. record {
            form = made.form i;
            origin = record { version = made.version i; width = made.boot.width i; count = made.boot.count i };
            is_fresh = false;
            place = place_of new.session;
            kept = kept_of new;
          },
        ),
      ),
    )
