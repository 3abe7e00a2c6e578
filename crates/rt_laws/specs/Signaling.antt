-- A root that signals to itself, and its journal.
use Rattle.std.specs.Prelude.{ℕ, pos, List, [], ◌∷◌, ◌++◌, Some}
use Rattle.rt_audit.specs.declared.call.Call.TheVariants.{Signaler, CloneSignal, Signal, SignalPoll, SignalClose, CompletionPoll, CompletionClose}
use Rattle.rt_audit.specs.declared.reply.CallReply.TheVariants.{Done, SignalAt, Value as Shows, Pending as StillPending}
use Rattle.rt_audit.specs.declared.answer.AnswerKind.TheVariants.{Pending as AnswersPending, Ready as AnswersReady}
use Rattle.rt_audit.specs.declared.finish.FinishCause.TheVariants.{Completed}
use Rattle.rt_audit.specs.declared.entry.Entry.{Entry}
use Rattle.rt_audit.specs.declared.entry.Entry.TheVariants.{Call, Wake, Round, Answer as Answered, Advance}
use Rattle.rt_model.specs.declared.answer.Answer.{Answer}
use Rattle.rt_model.specs.declared.answer.Answer.TheVariants.{Pending, Ready}
use Rattle.rt_model.specs.Turns.{Plainly, Heard, Plain}
use Rattle.rt_model.specs.Walk.{Step, Does, Spends, Gives}
use Rattle.rt_model.specs.Tied.{Steps, with_first}
use Rattle.rt_laws.specs.Examples.{opening, visiting_root, root_ends, finishing}
use Rattle.rt_laws.specs.Supervised.{closes}

pub data Caller : Type 0 where
  -- before its first poll, and at its end
  Idle : Caller
  -- it waits for the value of this group by this signal
  Waiting : (group signal : ℕ) → Caller

abbrev pub Calling : Type 0
Calling = Step Caller Caller ℕ (Answer ℕ)

abbrev pub number_of : Heard ℕ → ℕ
number_of (Plain (Shows (pos n))) = n
number_of heard = 0

-- the value is shown. Its signals are given up, and then its completion is met
abbrev pub ends_group : ℕ → ℕ → ℕ → Calling
ends_group group signal value =
    Does (Plainly (CompletionPoll group))
    (λ waits. Spends (Plainly (SignalClose group))
    (Spends (Plainly (SignalClose signal))
    (Does (Plainly (CompletionPoll group)) (λ met. Spends (Plainly (CompletionClose group)) (Gives (Ready value) Idle)))))

-- it makes a second signal, waits by it, and signals
abbrev pub cloned : ℕ → Heard ℕ → Calling
cloned group (Plain (SignalAt signal)) = Does (Plainly (SignalPoll signal)) (λ waits. Spends (Plainly (Signal group (pos 5))) (Gives Pending (Waiting group signal)))
cloned group _ = Gives Pending Idle

abbrev pub grouped : Heard ℕ → Calling
grouped (Plain (SignalAt group)) = Does (Plainly (CloneSignal group)) (cloned group)
grouped _ = Gives Pending Idle

abbrev pub calls_group : Caller → Calling
calls_group Idle = Does (Plainly Signaler) grouped
calls_group (Waiting group signal) = Does (Plainly (SignalPoll signal)) (λ shown. ends_group group signal (number_of shown))

abbrev pub signaling_root : Steps Caller ℕ
signaling_root = with_first (record { next = λ caller now task. calls_group caller; last = λ caller now task. closes 0 }) (λ now. Gives tt Idle)

-- its group has the number 1, since that of the shutdown has 0. The next poll shows what it signaled
abbrev pub signaling_journal : List Entry
signaling_journal =
    opening
    ++ visiting_root
    ++ (Call (Some 0) Signaler (SignalAt 1) ∷ Call (Some 0) (CloneSignal 1) (SignalAt 2) ∷ Call (Some 0) (SignalPoll 2) StillPending ∷ [])
    ++ (Call (Some 0) (Signal 1 (pos 5)) Done ∷ Wake 0 ∷ Answered 0 AnswersPending ∷ Advance 1000000 ∷ Round (0 ∷ []) ∷ [])
    ++ visiting_root
    ++ (Call (Some 0) (SignalPoll 2) (Shows (pos 5)) ∷ Call (Some 0) (CompletionPoll 1) StillPending ∷ Call (Some 0) (SignalClose 1) Done ∷ [])
    ++ (Call (Some 0) (SignalClose 2) Done ∷ Wake 0 ∷ Call (Some 0) (CompletionPoll 1) Done ∷ Call (Some 0) (CompletionClose 1) Done ∷ Answered 0 AnswersReady ∷ [])
    ++ root_ends
    ++ finishing Completed
