use Rattle.std.proofs.Common.{refl, sym, ap, ◌∙◌}
use Rattle.std.specs.Option.{option_copied}
use Rattle.tx_content.specs.ContentFacts.{is_actor}
use Rattle.tx_step.proofs.ways.actor_of.Goals as goal

pub returns : goal.returns
returns c = record {
  parts = refl;
  pid_is = refl;
  is = is_actor _ (c.contents_are_whole.ensures c.args.content.now c.requires.content) (sym c.proc.ensures ∙ ap option_copied c.unwrap-proc.ensures) c.requires.running;
  inside = c.inside_of-inside.ensures.inside;
  counts = c.inside_of-inside.ensures.held;
}
