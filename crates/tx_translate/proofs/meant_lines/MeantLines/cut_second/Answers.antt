use Rattle.std.proofs.Common.{◌≡◌, ap, arith, length, rules}
use Rattle.tx_translate.specs.MeantLines.{behind}
use Rattle.tx_translate.proofs.LineParts.{rest_shorter}
use Rattle.tx_translate.proofs.meant_lines.MeantLines.cut_second.Goals as goal

pub returns-clause-shorter : goal.returns-clause-shorter
returns-clause-shorter c = λ some.
    let same : c.unwrap_or.result.now ≡ behind c.args.self.left.now = search rules in
    omega (arith, ap length same, rest_shorter c.args.self.left.now some)
