-- Why a call is refused.
use Rattle.rt_base.specs.declared.error.Error.{Error}
use Rattle.rt_base.specs.declared.error.Error.TheVariants.{UnknownToken, TooManyTasks, Exited, Closed, Aborted, Metric}
use Rattle.rt_base.specs.declared.metric_error.MetricError.TheVariants.{BadLabel, Reserved}
use Rattle.rt_machine.specs.declared.cause.Cause.{Cause}
use Rattle.rt_machine.specs.declared.cause.Cause.TheVariants.{UnknownToken as IsUnknown, TooManyTasks as AreTooMany, Exited as HasExited, Closed as IsClosed, Aborted as IsAborted, BadLabel as IsBadLabel, Reserved as IsReserved}

abbrev pub error_of : Cause → Error
error_of IsUnknown = UnknownToken
error_of AreTooMany = TooManyTasks
error_of HasExited = Exited
error_of IsClosed = Closed
error_of IsAborted = Aborted
error_of IsBadLabel = Metric BadLabel
error_of IsReserved = Metric Reserved
