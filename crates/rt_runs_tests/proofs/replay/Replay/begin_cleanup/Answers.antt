use Rattle.std.proofs.Common.{◌≡◌, ◌⊎◌, ap, Some}
use Rattle.rt_audit.specs.declared.finish.FinishCause.TheVariants.{NoMemory}
use Rattle.rt_model.specs.Causes.{reached}
use Rattle.rt_machine.specs.Places.{Seen}
use Rattle.rt_machine.proofs.Replays.{caused}
use Rattle.rt_runs_tests.proofs.replay.Replay.begin_cleanup.Goals as goal

pub returns-clause-caused : goal.returns-clause-caused
returns-clause-caused c =
    let was : (c.args.cause ≡ NoMemory) ⊎ (reached c.self.inside.machine.told.state ≡ Some c.args.cause) = rw (← c.self.view_is) at c.requires.reached in
    caused c.self.inside.machine.told c.cleanup.new.self.told c.args.cause (ap (λ (s : Seen). s.told) c.cleanup.ensures) was
