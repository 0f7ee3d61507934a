use Rattle.std.proofs.Common.{◌≡◌, ◌-◌, ◌∙◌, ap, arith, drop, map}
use Rattle.tx_picture.proofs.Named.{life_more, no_life}
use Rattle.tx_picture.specs.Names.{lives_from, with_life}
use Rattle.tx_translate.specs.Written.{name_at}
use Rattle.tx_picture.proofs.lives.lives_of.Goals as goal

pub loop-left-init : goal.loop-left-init
loop-left-init c = record { inside = omega arith; lives = c.new-lives.ensures.items ∙ no_life c.args.start c.args.births.now c.args.names.now }

pub loop-left-preserved : goal.loop-left-preserved
loop-left-preserved c = record {
  inside = omega arith;
  lives = life_more c.args.start c.args.births.now c.args.names.now (c.loop-left.left - 1) c.loop-left.left _ c.loop-left.lives.items c.note_life.new.lives.items (omega arith) (omega arith)
      c.loop-left.invariant.lives (c.in_ok-note_life.ensures ∙ ap (with_life c.loop-left.lives.items) c.life_of.ensures);
}

pub returns : goal.returns
returns c =
    let none : c.loop-left.left ≡ 0 = omega arith in
    c.loop-left.invariant.lives ∙ ap (λ left. lives_from c.args.start c.args.births.now left (drop left (map name_at c.args.names.now))) none
