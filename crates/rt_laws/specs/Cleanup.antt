-- What a cleanup is made of.
use Rattle.std.specs.Prelude.{List}
use Rattle.rt_audit.specs.declared.answer.AnswerKind.TheVariants.{Ended}
use Rattle.rt_audit.specs.declared.entry.Entry.{Entry}
use Rattle.rt_audit.specs.declared.entry.Entry.TheVariants.{Call, Event, Answer, NodeEnd, Crash, Finish}
use Rattle.rt_model.specs.State.{Announced, Stood}
use Rattle.rt_model.specs.Events.{IsOfCall}

-- an entry that ends something, or a call of a task that is ended, or an event of a call
abbrev pub IsOfCleanup : Entry → Type 0
IsOfCleanup (Call by call reply) = Unit {0}
IsOfCleanup (Event label fields) = (stood : Stood) × (events : List Announced) × IsOfCall stood events label fields
IsOfCleanup (Answer task Ended) = Unit {0}
IsOfCleanup (NodeEnd node) = Unit {0}
IsOfCleanup (Crash choices) = Unit {0}
IsOfCleanup (Finish cause) = Unit {0}
IsOfCleanup _ = ⊥
