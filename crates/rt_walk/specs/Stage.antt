-- Where a walker is, as the phase that this means.
use Rattle.rt_model.specs.State.{Phase, Blank, Making, Between, Visiting, Entered, Polling, Halted, Ending, Leaving, Turning, Over, Cleaning, Closing, Crashed, Finished}
use Rattle.rt_walk.specs.declared.stage.Stage.{Stage}
use Rattle.rt_walk.specs.declared.stage.Stage.TheVariants.{Blank as IsBlank, Making as IsMaking, Between as IsBetween, Visiting as IsVisiting, Entered as IsEntered, Polling as IsPolling, Halted as IsHalted, Ending as IsEnding, Leaving as IsLeaving, Turning as IsTurning, Over as IsOver, Cleaning as IsCleaning, Closing as IsClosing, Crashed as IsCrashed, Finished as IsFinished}

abbrev pub phase_of : Stage → Phase
phase_of IsBlank = Blank
phase_of IsMaking = Making
phase_of IsBetween = Between
phase_of (IsVisiting left) = Visiting left
phase_of (IsEntered task left) = Entered task left
phase_of (IsPolling task left) = Polling task left
phase_of (IsHalted task) = Halted task
phase_of (IsEnding task result left) = Ending task result left
phase_of (IsLeaving task result left) = Leaving task result left
phase_of IsTurning = Turning
phase_of (IsOver cause) = Over cause
phase_of (IsCleaning cause) = Cleaning cause
phase_of (IsClosing cause) = Closing cause
phase_of (IsCrashed cause) = Crashed cause
phase_of (IsFinished cause) = Finished cause
