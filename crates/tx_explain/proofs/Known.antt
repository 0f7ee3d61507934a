-- The words of calls, of refusals and of errors are among those that are explained.
use Rattle.std.proofs.Common.{◌≡◌, ◌∙◌, ◌∷◌, true, Option, Some, None, is_some, ap, subst, rules, refl, IsTrue, Bor}
use Rattle.std.specs.Prelude.{IfSome}
use Rattle.std.specs.Fmt.{decimal, digits}
use Rattle.tx_base.specs.Errors.{error_number}
use Rattle.tx_base.specs.declared.errors.Errno.{Errno}
use Rattle.tx_base.specs.declared.errors.Errno.TheVariants.{NotPermitted, NoSuchProcess, BadDescriptor, NoChild, TryAgain, BadAddress, InvalidArgument, TooManyDescriptors, BrokenPipe}
use Rattle.tx_base.specs.declared.steps.Call.{Call}
use Rattle.tx_base.specs.declared.steps.Call.TheVariants as call
use Rattle.tx_base.specs.declared.steps.Refusal.{Refusal}
use Rattle.tx_base.specs.declared.steps.Refusal.TheVariants.{NoProcess, NotRunning, BadNumber, NumberTaken, Doomed, Parked, KillPending, Busy, Wait, NotDeliverable, FramesFull, NoTransaction, NoMemory, Deferred}
use Rattle.tx_explain.specs.Table.{Text, all_rows}
use Rattle.tx_explain.specs.Calls.{call_word, error_name, refusal_word}
use Rattle.tx_explain.specs.Topics.{asked, is_page_of, opens}

pub every_refusal : (why : Refusal) → asked (refusal_word why) ≡ Some (refusal_word why)
unfolding digits all_rows
every_refusal NoProcess = refl
every_refusal _ = refl

pub every_call : (call : Call) → asked (call_word call) ≡ Some (call_word call)
unfolding digits all_rows
every_call (call.Map page) = refl
every_call _ = refl

pub every_error : (error : Errno) → asked (45 ∷ decimal (error_number error)) ≡ Some (error_name error)
unfolding digits all_rows
every_error NotPermitted = refl
every_error _ = refl

pub every_number : (error : Errno) → is_some (asked (decimal (error_number error))) ≡ true
unfolding digits all_rows
every_number NotPermitted = refl
every_number _ = refl

-- what answers exactly where something is asked for answers to a word that is known
pub answers : {A : Type 0} (word known : Text) (page : Option A) → is_some page ≡ is_some (asked word) → word ≡ known → is_some (asked known) ≡ true → is_some page ≡ true
answers word known page same is asks = same ∙ ap (λ w. is_some (asked w)) is ∙ asks

some_same : (one other : Text) → Some one ≡ Some other → one ≡ other
some_same one other is = cc

page_of : (named : Option Text) (name : Text) (page : Option (Bor Text)) → is_some page ≡ is_some named → IfSome page (λ text. IfSome named (λ it. IsTrue (opens it text.now)))
    → named ≡ Some name → is_page_of name page ≡ true
page_of (Some it) name None same begins is = cc
page_of (Some it) name (Some text) same begins is = subst (λ n. opens n text.now ≡ true) (some_same it name is) (search (rules, begins))
page_of None name page same begins is = cc

-- what begins with the word that is asked for is a page about a word that is known
pub answers_page : (word known name : Text) (page : Option (Bor Text)) → is_some page ≡ is_some (asked word)
    → IfSome page (λ text. IfSome (asked word) (λ it. IsTrue (opens it text.now))) → word ≡ known → asked known ≡ Some name → is_page_of name page ≡ true
answers_page word known name page same begins is named = page_of (asked word) name page same begins (ap asked is ∙ named)
