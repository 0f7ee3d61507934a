-- One line of heads more, and one head.
use Rattle.std.proofs.Common.{◌≡◌, ◌∙◌, ℕ, ◌+◌, ◌*◌, List, ◌++◌, codes, ap, refl, sym, add-one, append_assoc}
use Rattle.std.specs.Fmt.{decimal}
use Rattle.tx_base.specs.declared.names.Pid.{Pid}
use Rattle.tx_picture.specs.Heads.{head_text, heads_text, heads_upto, name_text}
use Rattle.tx_picture.specs.Layout.{heads_y, x_of}
use Rattle.tx_picture.specs.Sheets.{Page}
use Rattle.tx_picture.specs.Svg.{words_text}

pub heads_more : (page : Page) (count : ℕ) (before now after : List ℕ) → now ≡ before ++ heads_upto page count → after ≡ now ++ heads_text page count
    → after ≡ before ++ heads_upto page (count + 1)
heads_more page count before now after so_far more =
    let line : List ℕ = heads_text page count in
    let one : heads_upto page (count + 1) ≡ heads_upto page count ++ line = rw add-one refl in
    more ∙ ap (λ (t : List ℕ). t ++ line) so_far ∙ append_assoc before (heads_upto page count) line ∙ ap (λ (t : List ℕ). before ++ t) (sym one)

-- a number, and the name below it
pub head_named : (page : Page) (line : ℕ) (process : Pid) (old mid new : List ℕ) (x y k n : ℕ) → x ≡ x_of page.columns process.0 → y ≡ heads_y line → k ≡ page.before + 40 * line → n ≡ process.0
    → mid ≡ old ++ words_text (codes "head") x y (decimal n) → new ≡ mid ++ name_text page k (y + 10) process → new ≡ old ++ head_text page line process
head_named page line process old mid new x y k n at_x at_y at_k of first second =
    let head : ℕ → ℕ → ℕ → List ℕ = λ a b m. words_text (codes "head") a b (decimal m) in
    let name : ℕ → ℕ → List ℕ = λ j b. name_text page j (b + 10) process in
    second ∙ ap (λ (t : List ℕ). t ++ name k y) first ∙ append_assoc old (head x y n) (name k y)
    ∙ ap (λ (a : ℕ). old ++ (head a y n ++ name k y)) at_x ∙ ap (λ (m : ℕ). old ++ (head (x_of page.columns process.0) y m ++ name k y)) of
    ∙ ap (λ (j : ℕ). old ++ (head (x_of page.columns process.0) y process.0 ++ name j y)) at_k
    ∙ ap (λ (b : ℕ). old ++ (head (x_of page.columns process.0) b process.0 ++ name (page.before + 40 * line) b)) at_y
