-- Results of tasks: open from the spawn on, until they are given up.
use Rattle.std.specs.Prelude.{ℕ, List, Option, None, Bool, true, false, not}
use Rattle.std.specs.Option.{option_map_or}
use Rattle.rt_model.specs.declared.result.Outcome.{Outcome}
use Rattle.rt_model.specs.declared.result.Outcome.TheVariants.{Open}
use Rattle.rt_model.specs.declared.result.TaskResult.{TaskResult}
use Rattle.rt_model.specs.Lists.{those, replaced}

abbrev pub new_result : TaskResult
new_result = record { outcome = Open None; aborted = false }

-- it was not used to abort its task
abbrev pub may_abort : Option TaskResult → Bool
may_abort r = option_map_or (λ r. not r.aborted) r false

-- who waits for it while it is open
abbrev pub waits_for : Outcome → Option ℕ
waits_for (Open waits) = waits
waits_for _ = None

abbrev pub waiting : Option TaskResult → List ℕ
waiting r = those (option_map_or (λ r. waits_for r.outcome) r None)

abbrev pub with_outcome : Outcome → ℕ → List (ℕ × TaskResult) → List (ℕ × TaskResult)
with_outcome o k rs = replaced (λ r. record r { outcome = o }) k rs

abbrev pub with_abort : ℕ → List (ℕ × TaskResult) → List (ℕ × TaskResult)
with_abort k rs = replaced (λ r. record r { aborted = true }) k rs
