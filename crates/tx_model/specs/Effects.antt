-- What an event does: its writes, then its posts in order, and how it concludes. Own rules.
use Rattle.std.specs.Prelude.{ℕ, ◌+◌, Bool, List, [], ◌∷◌, ◌++◌, ℤ, pos, negsuc, Option, option_map, if◌then◌else◌, nat_lt, ◌==◌, Some}
use Rattle.tx_base.specs.declared.limits.TheConstants.{LAST_POINT}
use Rattle.tx_base.specs.declared.names.Missed.{Missed}
use Rattle.tx_base.specs.declared.errors.Errno.{Errno}
use Rattle.tx_base.specs.declared.errors.Errno.TheVariants.{NotPermitted, NoSuchProcess, TryAgain}
use Rattle.tx_base.specs.declared.steps.Refusal.{Refusal}
use Rattle.tx_base.specs.declared.steps.Reply.{Reply}
use Rattle.tx_base.specs.declared.steps.Reply.TheVariants.{Done, Committed, No}
use Rattle.tx_model.specs.State.{Process, Sending, State, Write, SetProc, SetHeld, write_one, with_writes}
use Rattle.tx_model.specs.Posts.{after_posts, post_answers}

pub data Conclusion : Type 0 where
  -- known before the posts
  Replies : Reply → Conclusion
  -- the answer of the one post is that of the process
  AnswersPost : ℕ → Conclusion
  -- with the posts that failed
  ListsFailed : Conclusion

pub record Effect : Type 0 where
  pub writes : List Write
  pub sends : List Sending
  pub conclusion : Conclusion

-- the last point, 65,535, has no next
abbrev pub next_point : ℕ → ℕ
next_point point = if nat_lt point LAST_POINT then point + 1 else point

abbrev pub with_answer : ℤ → Process → Process
with_answer r q =
    record q { registers = record q.registers { point = next_point q.registers.point; ret = r } }

abbrev pub with_answer_if : ℤ → Option Process → Option Process
with_answer_if r = option_map (with_answer r)

-- the transaction that a step is made inside of
pub record Inside : Type 0 where
  pub starter : ℕ
  pub members : ℕ → Bool
  -- whether it defers deliveries
  pub defers : Bool

abbrev pub idle : Refusal → Effect
idle why = record { writes = []; sends = []; conclusion = Replies (No why) }

abbrev pub process_effect : ℕ → Process → List Write → Reply → Effect
process_effect p q writes reply =
    record { writes = SetProc p (Some q) ∷ writes; sends = []; conclusion = Replies reply }

-- by its number less one
abbrev pub failed_errno : ℕ → Errno
failed_errno n = if n == 0 then NotPermitted else (if n == 2 then NoSuchProcess else TryAgain)

abbrev pub failed_sends : List Sending → List ℤ → List Missed
failed_sends [] rs = []
failed_sends (m ∷ ms) [] = []
failed_sends (m ∷ ms) (pos n ∷ rs) = failed_sends ms rs
failed_sends (m ∷ ms) (negsuc n ∷ rs) =
    record {
      target = record { 0 = m.target };
      signo = record { 0 = m.signo };
      errno = failed_errno n;
    }
    ∷ failed_sends ms rs

abbrev pub first_answer : List ℤ → ℤ
first_answer [] = pos 0
first_answer (r ∷ rs) = r

abbrev pub after_conclusion : Conclusion → List ℤ → State → State
after_conclusion (AnswersPost p) rs S =
    write_one (SetProc p (with_answer_if (first_answer rs) (S.procs p))) S
after_conclusion conclusion rs S = S

abbrev pub concluding_reply : Conclusion → List Sending → List ℤ → Reply
concluding_reply (Replies r) ms rs = r
concluding_reply (AnswersPost p) ms rs = Done (first_answer rs)
concluding_reply ListsFailed ms rs = Committed (record { items = failed_sends ms rs })

abbrev pub send_answers : Effect → State → List ℤ
send_answers f S = post_answers f.sends (with_writes f.writes S)

-- the state after it, where its posts answer so
abbrev pub after_effect : Effect → List ℤ → State → State
after_effect f rs S =
    after_conclusion f.conclusion rs (after_posts f.sends (with_writes f.writes S))

-- the step that commits the transaction of s: what was held is posted
abbrev pub commit_effect : ℕ → Effect → State → Effect
commit_effect s f S =
    record {
      writes = f.writes ++ SetHeld s [] ∷ [];
      sends = f.sends ++ (with_writes f.writes S).held s;
      conclusion = ListsFailed;
    }
