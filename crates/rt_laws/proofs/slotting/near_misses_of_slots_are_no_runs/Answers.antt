use Rattle.rt_laws.proofs.Mailing.{no_error_for_a_number, no_number_for_an_error, no_other_error}
use Rattle.rt_laws.proofs.slotting.near_misses_of_slots_are_no_runs.Goals as goal

pub returns-clause-number : goal.returns-clause-number
returns-clause-number c = no_error_for_a_number

pub returns-clause-error : goal.returns-clause-error
returns-clause-error c = no_number_for_an_error

pub returns-clause-other_error : goal.returns-clause-other_error
returns-clause-other_error c = no_other_error
