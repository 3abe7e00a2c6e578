use Rattle.std.proofs.Common.{◌≡◌, ◌⊎◌, Some}
use Rattle.rt_audit.specs.declared.finish.FinishCause.TheVariants.{NoMemory}
use Rattle.rt_model.specs.State.{Closing}
use Rattle.rt_model.specs.Effects.{cause_of}
use Rattle.rt_runs_tests.proofs.replay.Replay.clean.Given as goal

abbrev pub invariant-loop : goal.invariant-loop
invariant-loop l = record {
  phase : l.self.told.state.phase ≡ Closing (cause_of l.self.told.state.phase);
  caused : (l.cause ≡ NoMemory) ⊎ (cause_of l.self.told.state.phase ≡ Some l.cause);
}
