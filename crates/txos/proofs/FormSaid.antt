-- What a flag says of the form of answers, and which options the words give.
use Rattle.std.proofs.Common.{◌≡◌, ◌∙◌, ℕ, Bool, true, false, Bor, List, Option, Some, None, ap, codes, is_some, option_and_then, option_map, refl, sym}
use Rattle.std.specs.Prelude.{slice_get}
use Rattle.clap.proofs.WalkLemmas.{one_text-rows}
use Rattle.clap.specs.Matches.{first_value, matched_of, one_text}
use Rattle.clap.specs.Values.{read_as}
use Rattle.clap.specs.Walk.{one_of, rows_of, Row, Text}
use Rattle.clap.specs.declared.parser.matches.Found.{Found}
use Rattle.clap.specs.declared.parser.matches.MatchedArg.{MatchedArg}
use Rattle.txos.specs.CommandLine.{text_in, IsFormOf}
use Rattle.tx_script.specs.declared.forms.Form.TheVariants.{Json, Text as AsText}

-- the rows that were entered have what is read of the flag
flag_read : (name : Text) (entered : Option (Text × List Row)) (f : Found) → option_map (λ (p : Text × List Row). p.1) entered ≡ Some (rows_of f) → text_in name entered ≡ one_text f name
flag_read name None f is = absurd (cc)
flag_read name (Some p) f is = let rows : p.1 ≡ rows_of f = cc in ap (one_of name) rows ∙ sym (one_text-rows f name)

-- reading a text makes none of it
read_is_there : (a : MatchedArg) (v : Option (Bor (List ℕ))) → is_some (option_map (λ (s : Bor (List ℕ)). s.now) v) ≡ is_some (option_map (λ (s : Bor (List ℕ)). read_as a.reading s.now) v)
read_is_there a None = refl
read_is_there a (Some v) = refl

-- an option that is given has a first value
value_is_there : (f : Found) (name : Text) → is_some (first_value f name) ≡ is_some (one_text f name)
value_is_there f name = go (matched_of f name)
  where
    go : (matched : Option MatchedArg)
        → is_some (option_and_then (λ (a : MatchedArg). option_map (λ (s : Bor (List ℕ)). s.now) (slice_get a.vals.items 0)) matched)
        ≡ is_some (option_and_then (λ (a : MatchedArg). option_map (λ (s : Bor (List ℕ)). read_as a.reading s.now) (slice_get a.vals.items 0)) matched)
    go None = refl
    go (Some a) = read_is_there a (slice_get a.vals.items 0)

same_value : (found : Option (Bor (List ℕ))) → is_some found ≡ is_some (option_map (λ (s : Bor (List ℕ)). s.now) found)
same_value None = refl
same_value (Some text) = refl

-- whether the matches have a text of a name is whether the rows that were entered do
pub given_in : (name : Text) (entered : Option (Text × List Row)) (f : Found) (found : Option (Bor (List ℕ))) → option_map (λ (p : Text × List Row). p.1) entered ≡ Some (rows_of f)
    → option_map (λ (s : Bor (List ℕ)). s.now) found ≡ first_value f name → is_some found ≡ is_some (text_in name entered)
given_in name entered f found rows is =
    same_value found ∙ ap (λ (t : Option Text). is_some t) is ∙ value_is_there f name ∙ ap (λ (t : Option Text). is_some t) (sym (flag_read name entered f rows))

module _ (entered : Option (Text × List Row)) (f : Found) (flag : Bool) (is : option_map (λ (p : Text × List Row). p.1) entered ≡ Some (rows_of f)) where
  same : text_in (codes "json") entered ≡ one_text f (codes "json")
  same = flag_read (codes "json") entered f is

  pub asks_json : (one_text f (codes "json") ≡ None → flag ≡ false) → (one_text f (codes "json") ≡ Some (codes "false") → flag ≡ false) → flag ≡ true → IsFormOf (text_in (codes "json") entered) Json
  asks_json none other there = (
    λ said. let bad : false ≡ true = sym (none (sym same ∙ said)) ∙ there in absurd (cc),
    λ said. let bad : false ≡ true = sym (other (sym same ∙ said)) ∙ there in absurd (cc),
  )

  pub asks_text : (one_text f (codes "json") ≡ Some (codes "true") → flag ≡ true) → flag ≡ false → IsFormOf (text_in (codes "json") entered) AsText
  asks_text value there = λ said. let bad : true ≡ false = sym (value (sym same ∙ said)) ∙ there in absurd (cc)
