-- Plans of parts of one process.
use Rattle.std.proofs.Common.{◌≡◌, ℕ, pos, List, [], ◌∷◌, ◌++◌, map, slice_set, refl, ap, sym, ◌∙◌, append_assoc}
use Rattle.tx_base.specs.declared.names.Pid.{Pid}
use Rattle.tx_change.specs.Counts.{AreNameless}
use Rattle.tx_change.specs.Laws.{revised_once, revised_by}
use Rattle.tx_change.specs.Own.{AreOf}
use Rattle.tx_change.specs.declared.change.Change.{Change}
use Rattle.tx_change.specs.declared.change.Change.TheVariants.{Part as SetPart}
use Rattle.tx_kernel.specs.Actors.{effect_by, me_of}
use Rattle.tx_kernel.specs.Own.{PlansOwn, answer_after, page_change}
use Rattle.tx_kernel.specs.declared.actor.Actor.{Actor}
use Rattle.tx_kernel.specs.Plans.{reply_of}
use Rattle.tx_kernel.specs.declared.planned.Outcome.{Outcome}
use Rattle.tx_kernel.specs.declared.planned.Outcome.TheVariants.{Done}
use Rattle.tx_model.specs.Book.{with_memory}
use Rattle.tx_model.specs.Effects.{Effect}
use Rattle.tx_model.specs.Words.{own_effect}
use Rattle.tx_model.specs.State.{Process}
use Rattle.tx_pages.specs.Outcomes.{with_pages, AreNumbered}
use Rattle.tx_pages.specs.declared.plans.NewPage.{NewPage}
use Rattle.tx_proc.specs.declared.proc.Part.TheVariants.{Answer as SetAnswer}

pub AreOf-append : (n : ℕ) (front behind : List Change) → AreOf n front → AreOf n behind → AreOf n (front ++ behind)
AreOf-append n [] behind f b = b
AreOf-append n (change ∷ front) behind f b = (f.0, AreOf-append n front behind f.1 b)

pub nameless-append : (front behind : List Change) → AreNameless front → AreNameless behind → AreNameless (front ++ behind)
nameless-append [] behind f b = b
nameless-append (change ∷ front) behind f b = (f.0, nameless-append front behind f.1 b)

pub revised-append : (front behind : List Change) (me : Process) → revised_by (front ++ behind) me ≡ revised_by behind (revised_by front me)
revised-append [] behind me = refl
revised-append (change ∷ front) behind me = revised-append front behind (revised_once change me)

-- the exchanges of new pages put them in place
pub pages_revised : (pid : Pid) (pages : List NewPage) (me : Process) → revised_by (map (page_change pid) pages) me ≡ record me { memory = with_pages me.memory pages }
pages_revised pid [] me = refl
pages_revised pid (new ∷ pages) me = pages_revised pid pages (record me { memory = slice_set me.memory new.number new.page })

pub pages_own : (pid : Pid) (pages : List NewPage) → AreNumbered pages → AreOf pid.0 (map (page_change pid) pages)
pages_own pid [] numbered = tt
pages_own pid (new ∷ pages) numbered = ((refl, numbered.0), pages_own pid pages numbered.1)

pub pages_nameless : (pid : Pid) (pages : List NewPage) → AreNameless (map (page_change pid) pages)
pages_nameless pid [] = tt
pages_nameless pid (new ∷ pages) = (tt, pages_nameless pid pages)

-- the process becomes so, and the reply is that of the outcome
abbrev pub own_reply : Actor → Outcome → Process → Effect
own_reply actor outcome q = own_effect actor.pid.0 (record { process = q; reply = reply_of (me_of actor).memory outcome })

-- new pages, and then an answer
pub pages_plan : (actor : Actor) (pages : List NewPage) (before between now : List Change) → AreNumbered pages → between ≡ before ++ map (page_change actor.pid) pages →
    now ≡ between ++ SetPart actor.pid (SetAnswer (answer_after (pos 0) actor)) ∷ [] →
    PlansOwn actor before now (Done (pos 0)) (effect_by actor (λ c. with_memory (with_pages c.process.memory pages) c))
pages_plan actor pages before between now numbered first last =
    let put : List Change = map (page_change actor.pid) pages in
    let answer : List Change = SetPart actor.pid (SetAnswer (answer_after (pos 0) actor)) ∷ [] in
    record {
      plan = put ++ answer;
      added = last ∙ ap (λ (xs : List Change). xs ++ answer) first ∙ append_assoc before put answer;
      own = AreOf-append actor.pid.0 put answer (pages_own actor.pid pages numbered) ((refl, tt), tt);
      nameless = nameless-append put answer (pages_nameless actor.pid pages) (tt, tt);
      effect = λ S. ap (own_reply actor (Done (pos 0))) (sym (revised-append put answer (me_of actor) ∙ ap (revised_by answer) (pages_revised actor.pid pages (me_of actor))));
      shown = tt;
    }
