-- Two small runs, one after the other.
use Rattle.std.specs.Prelude.{ℕ, List, [], ◌∷◌, ◌++◌, None}
use Rattle.rt_audit.specs.declared.answer.AnswerKind.TheVariants.{Ready as AnswersReady}
use Rattle.rt_audit.specs.declared.finish.FinishCause.TheVariants.{Completed}
use Rattle.rt_audit.specs.declared.entry.Entry.{Entry}
use Rattle.rt_audit.specs.declared.entry.Entry.TheVariants.{Start, Root, Round, Answer as Answered}
use Rattle.rt_laws.specs.Examples.{visiting_root, root_ends, finishing, skipped_journal}

-- a run that begins at this moment and is ready at once
abbrev pub ready_from : ℕ → List Entry
ready_from start =
    (Start 0 start None 1000000 ∷ Root 0 ∷ Round (0 ∷ []) ∷ []) ++ visiting_root ++ (Answered 0 AnswersReady ∷ []) ++ root_ends ++ finishing Completed

-- behind one that sleeps up to the moment 2000000
abbrev pub chain_journal : ℕ → List Entry
chain_journal start = skipped_journal 2000000 ++ ready_from start
