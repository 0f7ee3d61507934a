use Rattle.std.proofs.Common.{rules, ◌≡◌, ◌++◌, ◌∷◌, [], string_bytes}
use Rattle.json.specs.Print.{print}
use Rattle.tx_json.specs.Line.{IsLineOf}
use Rattle.tx_json.proofs.OneLine.{line_of}
use Rattle.tx_json.proofs.line.LineWriter.into_text.Goals as goal

pub returns : goal.returns
returns c =
    let whole : string_bytes c.in-Ok.text ≡ c.self.inside.writer.before ++ print c.self.inside.writer.tokens = search rules in
    let ended : string_bytes c.push.new.self ≡ string_bytes c.in-Ok.text ++ 10 ∷ [] = search rules in
    let line : IsLineOf c.self.inside.writer.tokens (string_bytes c.push.new.self) = line_of c.self.inside.writer (string_bytes c.in-Ok.text) (string_bytes c.push.new.self) c.self.invariant whole ended in
    rw (← c.self.view_is) line
