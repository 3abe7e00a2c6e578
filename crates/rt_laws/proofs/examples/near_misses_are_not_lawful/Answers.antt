use Rattle.rt_laws.proofs.Misses.{no_other_order, no_other_cause, no_missing_wake, no_early_fire, no_early_sleep, no_late_due}
use Rattle.rt_laws.proofs.examples.near_misses_are_not_lawful.Goals as goal

pub returns-clause-other_order : goal.returns-clause-other_order
returns-clause-other_order c = no_other_order

pub returns-clause-other_cause : goal.returns-clause-other_cause
returns-clause-other_cause c = no_other_cause

pub returns-clause-missing_wake : goal.returns-clause-missing_wake
returns-clause-missing_wake c = no_missing_wake

pub returns-clause-early_fire : goal.returns-clause-early_fire
returns-clause-early_fire c = no_early_fire

pub returns-clause-early_sleep : goal.returns-clause-early_sleep
returns-clause-early_sleep c = no_early_sleep

pub returns-clause-late_due : goal.returns-clause-late_due
returns-clause-late_due c = no_late_due
