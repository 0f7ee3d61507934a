use Rattle.std.proofs.Common.{◌≡◌, ◌<◌, ◌≤◌, ◌++◌, List, Option, None, length, get_or, ap, sym, ◌∙◌, append-nil, arith}
use Rattle.tx_base.specs.declared.names.PipeNo.{PipeNo}
use Rattle.tx_change.specs.declared.change.Change.{Change}
use Rattle.tx_desc.specs.declared.opened.Opened.{Opened}
use Rattle.tx_kernel.proofs.Ends.{extends_by, gone_step, gone_end}
use Rattle.tx_kernel.proofs.KeptPipes.{none_gone}
use Rattle.tx_kernel.specs.Endings.{gone_at, pipe_through, plain_with}
use Rattle.tx_kernel.specs.Named.{described_by}
use Rattle.tx_model.specs.Descriptors.{open_in}
use Rattle.tx_kernel.proofs.actor.Actor.push_gone.Goals as goal

pub loop-fd-preserved : goal.loop-fd-preserved
loop-fd-preserved c =
    let actor = c.args.self.now in
    let so_far = c.loop-fd.invariant in
    let more = c.loop-fd-test.true in
    let full = c.sized.ensures in
    let inside : c.loop-fd.fd < length actor.proc.now.descriptors = omega arith in
    let after = plain_with c.args.news.now actor.parts.now in
    let pipe : Option PipeNo = pipe_through actor.parts.now.descs (get_or actor.proc.now.descriptors c.loop-fd.fd None) in
    let one : c.push_gone_at.new.log ≡ c.loop-fd.log ++ gone_at pipe after
    = c.in_ok-push_gone_at.ensures.ok ∙ ap (λ (descs : List (Option Opened)). c.loop-fd.log ++ gone_at pipe (described_by actor.parts.now descs)) c.with-after.ensures in
    record {
      added = gone_step actor.parts.now after c.loop-fd.fd actor.proc.now.descriptors c.loop-fd.log c.push_gone_at.new.log _ inside one so_far.added;
      extends = extends_by c.args.log.now c.loop-fd.log c.push_gone_at.new.log (gone_at pipe after) so_far.extends one;
    }

pub returns-then-not-takes_out-clause-ok : goal.returns-then-not-takes_out-clause-ok
returns-then-not-takes_out-clause-ok c =
    let actor = c.args.self.now in
    let none = none_gone actor.parts.now c.args.news.now c.requires.whole c.requires.removes (sym c.takes_out.ensures ∙ c.if-not-takes_out.true) (open_in actor.proc.now.descriptors) in
    sym (append-nil c.args.log.now) ∙ ap (λ (changes : List Change). c.args.log.now ++ changes) (sym none)

pub returns-clause-ok : goal.returns-clause-ok
returns-clause-ok c =
    let actor = c.args.self.now in
    let over = c.loop-fd-test.false in
    let full = c.sized.ensures in
    let outside : length actor.proc.now.descriptors ≤ c.loop-fd.fd = omega arith in
    gone_end actor.parts.now (plain_with c.args.news.now actor.parts.now) c.loop-fd.fd actor.proc.now.descriptors c.loop-fd.log _ outside c.loop-fd.invariant.added
