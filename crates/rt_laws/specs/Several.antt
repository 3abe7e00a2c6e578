-- A journal of several runs, apart.
use Rattle.std.specs.Prelude.{◌≡◌, List, ◌++◌}
use Rattle.rt_audit.specs.declared.finish.FinishCause.TheVariants.{Completed}
use Rattle.rt_audit.specs.declared.entry.Entry.{Entry}
use Rattle.rt_model.specs.State.{State, Finished, begun}
use Rattle.rt_model.specs.Effects.{after_all}
use Rattle.rt_model.specs.Rules.{IsLawful}
use Rattle.rt_model.specs.Runs.{next_begin, AreLawful}

-- from this state the run under way has a front of the entries and completes there, and the rest are runs that go on behind it
pub record GoesOn (s : State) (entries : List Entry) : Type 0 where
  pub own : List Entry
  pub rest : List Entry
  pub are : entries ≡ own ++ rest
  pub lawful : IsLawful s own
  pub ends : (after_all s own).phase ≡ Finished Completed
  pub goes_on : AreLawful (begun (next_begin (after_all s own))) rest
